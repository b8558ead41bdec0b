-- How stale refs are reported: as names, or as JSON objects. This project's own rule. Refs that are kept are among the
-- results in JSON alone.
use Rattle.std.specs.Prelude.{◌≡◌, ℕ, List, [], ◌∷◌, ◌++◌, Option, None, Some, map, option_map, unwrap_or, codes}
use Rattle.std.specs.List.{filter_map, flat_map, slice_get}
use Rattle.gix_refspec.specs.Matching.Match.{Ref}
use Rattle.gix_refspec_plan.specs.Matching.Stale.{Found}
use Rattle.refspec_json.specs.Objects.{kept_object, line_of, stale_object}
use Rattle.refspec_io.specs.declared.call.Form.{Form}
use Rattle.refspec_io.specs.declared.call.Form.TheVariants as form
use Rattle.refspec_io.specs.Json.{AddsObjects, json_text}
use Rattle.refspec_io.specs.Malformed.{IsMalformed}
use Rattle.refspec_io.specs.Shown.{AddsNames, AreLines}
use Rattle.refspec_fetch.specs.declared.origins.SpecTexts.{SpecTexts}
use Rattle.refspec_fetch.specs.declared.question.Subject.{Subject}
use Rattle.refspec_fetch.specs.declared.question.Subject.TheVariants as subject
use Rattle.refspec_fetch.specs.declared.stale.Found.{Found as DeclaredFound}
use Rattle.refspec_fetch.specs.declared.stale.Kept.{Kept as DeclaredKept}
use Rattle.refspec_fetch.specs.Answer.{Answer}
use Rattle.refspec_fetch.specs.Origins.{pruning_texts}

-- the name of the local ref at an index
abbrev pub name_at : List Ref → ℕ → List ℕ
name_at locals k = unwrap_or (option_map (λ r. r.name) (slice_get locals k)) []

-- the name of a ref that is deleted
abbrev pub deleted_by : List Ref → ℕ → Option ℕ → Option (List ℕ)
deleted_by locals k None = Some (name_at locals k)
deleted_by locals k (Some spec) = None

-- a ref that is kept, and the text of the spec that keeps it
pub record Kept : Type 0 where
  pub name : List ℕ
  pub spec : List ℕ

abbrev pub kept_of : DeclaredKept → Kept
kept_of k = record { name = k.name.now; spec = k.spec.now }

abbrev pub kept_by : List (List ℕ) → List Ref → ℕ → Option ℕ → Option Kept
kept_by texts locals k None = None
kept_by texts locals k (Some spec) =
    Some (record { name = name_at locals k; spec = unwrap_or (slice_get texts spec) [] })

-- the names of the refs that are deleted, and the refs that are kept, in order
abbrev pub deleted_names : List Ref → List Found → List (List ℕ)
deleted_names locals found = filter_map (λ f. deleted_by locals f.item f.kept_by) found

abbrev pub kept_refs : List (List ℕ) → List Ref → List Found → List Kept
kept_refs texts locals found = filter_map (λ f. kept_by texts locals f.item f.kept_by) found

-- the refs of a report, parted
pub record AreParted (texts : List (List ℕ)) (locals : List Ref) (found : List Found) (parted : DeclaredFound) :
    Type 0 where
  pub deleted : map (λ n. n.now) parted.deleted.items ≡ deleted_names locals found
  pub kept : map kept_of parted.kept.items ≡ kept_refs texts locals found

-- the parts grew by a ref
pub record AddsOne (texts : List (List ℕ)) (locals : List Ref) (f : Found) (old new : DeclaredFound) : Type 0 where
  pub deleted : map (λ n. n.now) new.deleted.items ≡ map (λ n. n.now) old.deleted.items ++ deleted_names locals (f ∷ [])
  pub kept : map kept_of new.kept.items ≡ map kept_of old.kept.items ++ kept_refs texts locals (f ∷ [])

-- the object of a ref that is deleted, as a line
abbrev pub stale_line : List ℕ → List ℕ
stale_line name = line_of (stale_object (json_text name))

-- the object of a ref that is kept, as a line, with a sentence on it
abbrev pub IsKeptLine : Kept → List ℕ → Type 0
IsKeptLine kept line = (message : List ℕ)
    × (line ≡ line_of (kept_object (json_text kept.name) (json_text kept.spec) message))

-- bytes grew by that line
abbrev pub WritesKept : Kept → List ℕ → List ℕ → Type 0
WritesKept kept old new = (line : List ℕ) × IsKeptLine kept line × (new ≡ old ++ line)

-- the lines of names behind the updates of a plan: below a heading, if there are any
abbrev pub AreHeaded : List (List ℕ) → List ℕ → Type 0
AreHeaded [] lines = lines ≡ []
AreHeaded (name ∷ names) lines = (rest : List ℕ) × AreLines (codes "  ") (name ∷ names) rest
    × (lines ≡ codes "(stale)\n" ++ rest)

-- the four fields of a name behind the updates of a plan, each ended by a zero byte
abbrev pub name_fields : List ℕ → List ℕ
name_fields name = 0 ∷ (name ++ (0 ∷ 0 ∷ codes "stale" ++ (0 ∷ [])))

-- the results grew by the names of refs that are deleted: alone, or behind the updates of a plan
abbrev pub AddsDeleted : Subject → Form → List (List ℕ) → List ℕ → List ℕ → Type 0
AddsDeleted subject.Stale form.Json names old new = new ≡ old ++ flat_map stale_line names
AddsDeleted subject.Stale form.Lines names old new = AddsNames form.Lines [] names old new
AddsDeleted subject.Stale form.Zeros names old new = AddsNames form.Zeros [] names old new
AddsDeleted _ form.Json names old new = new ≡ old ++ flat_map stale_line names
AddsDeleted _ form.Lines names old new = (lines : List ℕ) × AreHeaded names lines × (new ≡ old ++ lines)
AddsDeleted _ form.Zeros names old new = new ≡ old ++ flat_map name_fields names

-- the results grew by the records among the refs here that are none, and by the refs here that are deleted or kept
pub record AddsStale (form : Form) (texts : SpecTexts) (a : Answer) (old new : List ℕ) : Type 0 where
  pub first : List ℕ
  pub second : List ℕ
  pub malformed : AddsObjects form IsMalformed a.question.unread old first
  pub deleted : AddsDeleted a.question.subject form (deleted_names a.question.local a.stale) first second
  pub kept : AddsObjects form IsKeptLine (kept_refs (pruning_texts texts) a.question.local a.stale) second new
