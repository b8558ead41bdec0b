-- The names of stale refs, one by one.
use Rattle.std.proofs.Common.{◌≡◌, ℕ, ◌+◌, ◌<◌, Bor, List, [], ◌∷◌, ◌++◌, ap, codes, flat_map, get_or, length, map}
use Rattle.std.proofs.Common.{refl, subst, sym, take, ◌∙◌}
use Rattle.std.proofs.lemmas.Grind.{flat_map-append}
use Rattle.std.proofs.lemmas.List.Elements.{filter_map-append}
use Rattle.std.proofs.lemmas.List.{append-nil, map_more}
use Rattle.gix_refspec_plan.specs.declared.stale.Stale.{Stale}
use Rattle.gix_refspec.specs.Matching.Match.{Ref}
use Rattle.gix_refspec_plan.specs.Matching.Stale.{Found}
use Rattle.gix_refspec_plan.specs.Views.Stale.{found_of}
use Rattle.refspec_json.specs.Objects.{kept_object, line_of}
use Rattle.refspec_io.specs.declared.call.Form.{Form}
use Rattle.refspec_io.specs.Json.{AddsObjects, json_text}
use Rattle.refspec_io.specs.Malformed.{IsMalformed}
use Rattle.refspec_io.specs.Shown.{AddsNames}
use Rattle.refspec_io.proofs.ShownLemmas.{AddsNames-append, behind}
use Rattle.refspec_fetch.specs.declared.stale.Found.{Found as DeclaredFound}
use Rattle.refspec_fetch.specs.declared.origins.SpecTexts.{SpecTexts}
use Rattle.refspec_fetch.specs.Answer.{Answer}
use Rattle.refspec_fetch.specs.Origins.{pruning_texts}
use Rattle.refspec_fetch.specs.Stale.{AddsDeleted, AddsOne, AddsStale, AreParted, IsKeptLine, Kept, WritesKept}
use Rattle.refspec_fetch.specs.Stale.{deleted_by, deleted_names, kept_by, kept_refs, name_fields}

abbrev pub text_at : Bor (List ℕ) → List ℕ
text_at n = n.now

-- one more name
pub AddsNames-next : (f g : Form) (before : List ℕ) (xs : List (Bor (List ℕ))) (i : ℕ) (d : Bor (List ℕ))
    (old mid new : List ℕ) → i < length xs → g ≡ f → AddsNames f before (map text_at (take i xs)) old mid
    → AddsNames g before (text_at (get_or xs i d) ∷ []) mid new → AddsNames f before (map text_at (take (i + 1) xs)) old
    new
AddsNames-next f g before xs i d old mid new below same a b =
    subst (λ (l : List (List ℕ)). AddsNames f before l old new) (sym (map_more text_at xs i d below))
    (AddsNames-append f before (map text_at (take i xs)) (text_at (get_or xs i d) ∷ []) old mid new a
    (subst (λ (x : Form). AddsNames x before (text_at (get_or xs i d) ∷ []) mid new) same b))

-- the piece of one more name
pub names-next : (f : List ℕ → List ℕ) (xs : List (Bor (List ℕ))) (i : ℕ) (d : Bor (List ℕ))
    (piece old mid new : List ℕ) → i < length xs → piece ≡ f (text_at (get_or xs i d))
    → mid ≡ old ++ flat_map f (map text_at (take i xs)) → new ≡ mid ++ piece
    → new ≡ old ++ flat_map f (map text_at (take (i + 1) xs))
names-next f xs i d piece old mid new below is so_far write =
    let front = map text_at (take i xs) in
    let name = text_at (get_or xs i d) in
    let step : flat_map f (map text_at (take (i + 1) xs)) ≡ flat_map f front ++ piece =
    ap (flat_map f) (map_more text_at xs i d below)
    ∙ (flat_map-append f front (name ∷ []) ∙ ap (λ l. flat_map f front ++ l) (append-nil (f name) ∙ sym is)) in
    behind old (flat_map f front) mid piece new so_far write ∙ ap (λ l. old ++ l) (sym step)

-- the four fields of a name
pub name_fields-of : (name old a b new : List ℕ) → a ≡ old ++ 0 ∷ [] → b ≡ a ++ name
    → new ≡ b ++ (0 ∷ 0 ∷ codes "stale" ++ (0 ∷ [])) → new ≡ old ++ name_fields name
name_fields-of name old a b new is_a is_b is_new =
    let tail = 0 ∷ 0 ∷ codes "stale" ++ (0 ∷ []) in
    behind old ((0 ∷ []) ++ name) b tail new (behind old (0 ∷ []) a name b is_a is_b) is_new

-- the object of a ref that is kept, member by member
pub WritesKept-of : (kept : Kept) (name spec message old new : List ℕ) → name ≡ json_text kept.name
    → spec ≡ json_text kept.spec → new ≡ old ++ line_of (kept_object name spec message) → WritesKept kept old new
WritesKept-of kept name spec message old new is_name is_spec write = (
  line_of (kept_object (json_text kept.name) (json_text kept.spec) message),
  (message, refl),
  write ∙ (ap (λ x. old ++ line_of (kept_object x spec message)) is_name
      ∙ ap (λ x. old ++ line_of (kept_object (json_text kept.name) x message)) is_spec),
)

-- one more ref
pub AreParted-next : (texts : List (List ℕ)) (locals : List Ref) (xs : List Stale) (i : ℕ) (d : Stale)
    (old new : DeclaredFound) → i < length xs → AreParted texts locals (map found_of (take i xs)) old
    → AddsOne texts locals (found_of (get_or xs i d)) old new → AreParted texts locals (map found_of (take (i + 1) xs))
    new
AreParted-next texts locals xs i d old new below so_far adds =
    let front = map found_of (take i xs) in
    let one = found_of (get_or xs i d) ∷ [] in
    let step = map_more found_of xs i d below in
    record {
      deleted = adds.deleted
          ∙ (ap (λ l. l ++ deleted_names locals one) so_far.deleted
          ∙ (sym (filter_map-append (λ (f : Found). deleted_by locals f.item f.kept_by) front one)
          ∙ ap (deleted_names locals) (sym step)));
      kept = adds.kept
          ∙ (ap (λ l. l ++ kept_refs texts locals one) so_far.kept
          ∙ (sym (filter_map-append (λ (f : Found). kept_by texts locals f.item f.kept_by) front one)
          ∙ ap (kept_refs texts locals) (sym step)));
    }

-- the bad records, the refs that are deleted and those that are kept follow each other
pub AddsStale-of : (texts : SpecTexts) (a : Answer) (f f1 f2 : Form) (names : List (List ℕ)) (kept : List Kept)
    (old first second new : List ℕ)
    → f1 ≡ f → f2 ≡ f1 → names ≡ deleted_names a.question.local a.stale
    → kept ≡ kept_refs (pruning_texts texts) a.question.local a.stale
    → AddsObjects f IsMalformed a.question.unread old first → AddsDeleted a.question.subject f1 names first second
    → AddsObjects f2 IsKeptLine kept second new → AddsStale f texts a old new
AddsStale-of texts a f f1 f2 names kept old first second new same1 same2 of_deleted of_kept malformed deletes keeps =
    record {
      first = first;
      second = second;
      malformed = malformed;
      deleted = subst (λ (x : Form). AddsDeleted a.question.subject x (deleted_names a.question.local a.stale) first
          second)
          same1
          (subst (λ (x : List (List ℕ)). AddsDeleted a.question.subject f1 x first second) of_deleted deletes);
      kept = subst (λ (x : Form). AddsObjects x IsKeptLine (kept_refs (pruning_texts texts) a.question.local a.stale)
          second
          new)
          (same2 ∙ same1) (subst (λ (x : List Kept). AddsObjects f2 IsKeptLine x second new) of_kept keeps);
    }
