-- How the conflicts of a plan are reported: in lines among the messages, or as JSON objects in the results. This
-- project's own rule.
use Rattle.std.specs.Prelude.{◌≡◌, ◌≢◌, ◌⊎◌, ◌↔◌, ℕ, ◌-◌, List, [], ◌∷◌, ◌++◌, Some, length, map, take}
use Rattle.std.specs.Prelude.{option_map, unwrap_or, codes}
use Rattle.bstr.specs.Owned.{bstring_bytes}
use Rattle.std.specs.declared.cmp.Ordering.{Ordering}
use Rattle.std.specs.declared.cmp.Ordering.TheVariants.{Less}
use Rattle.std.specs.Cmp.Lexicographic.{slice_cmp}
use Rattle.std.specs.List.{AllByRecursion, Contains, filter_map, slice_get}
use Rattle.std.specs.List.Sorted.{IsStrictlySortedBy}
use Rattle.std.specs.Ordering.{nat_cmp, ordering_then}
use Rattle.gix_refspec_plan.specs.declared.Origin.{Origin}
use Rattle.gix_refspec_plan.specs.declared.Verdict.TheVariants as verdict
use Rattle.gix_refspec.specs.Matching.Lists.{IsMadeFrom}
use Rattle.gix_refspec_plan.specs.Matching.Plan.{Planned}
use Rattle.refspec_json.specs.Objects.{Claimed, conflict_object, line_of}
use Rattle.refspec_io.specs.declared.call.Form.{Form}
use Rattle.refspec_io.specs.declared.call.Form.TheVariants as form
use Rattle.refspec_io.specs.declared.call.Limit.{Limit}
use Rattle.refspec_io.specs.Counts.{few, more_line}
use Rattle.refspec_io.specs.Json.{AddsObjects, json_text}
use Rattle.refspec_io.specs.Rows.{source_text}
use Rattle.refspec_io.specs.Shown.{IsQuoted}
use Rattle.refspec_fetch.specs.declared.conflicts.Claimed.{Claimed as DeclaredClaimed}
use Rattle.refspec_fetch.specs.declared.conflicts.Contest.{Contest as DeclaredContest}
use Rattle.refspec_fetch.specs.declared.origins.SpecTexts.{SpecTexts}
use Rattle.refspec_fetch.specs.Origins.{note_of, origin_name, text_of}

-- a destination, and the updates to it
pub record Contest : Type 0 where
  pub destination : List ℕ
  pub updates : List Planned

-- the updates at indexes, in order
abbrev pub those_at : List Planned → List ℕ → List Planned
those_at ps indexes = filter_map (λ k. slice_get ps k) indexes

abbrev pub contest_of : List Planned → DeclaredContest → Contest
contest_of ps c = record { destination = bstring_bytes c.destination; updates = those_at ps c.indexes.items }

-- the destination of an update; empty if it is missing
abbrev pub goal_of : Planned → List ℕ
goal_of p = unwrap_or p.destination []

-- the updates of a list to a destination, in order
abbrev pub AreThoseTo : List ℕ → List Planned → List Planned → Type 0
AreThoseTo d ps claims = IsMadeFrom (λ k p q. (q ≡ p) × (goal_of p ≡ d)) 0 ps claims

-- the conflicts of updates: each destination once, in byte order, with all updates to it
pub record AreContests (ps : List Planned) (contests : List Contest) : Type 0 where
  pub order : IsStrictlySortedBy (λ c d. slice_cmp nat_cmp c.destination d.destination) contests
  pub each : (c : Contest) → Contains contests c → (c.updates ≢ []) × AreThoseTo c.destination ps c.updates
  pub all : (p : Planned) → Contains ps p → (c : Contest) × Contains contests c × (c.destination ≡ goal_of p)

-- ---- how they are found: private

-- by destination, and then by index
abbrev pub claim_cmp : DeclaredClaimed → DeclaredClaimed → Ordering
claim_cmp x y = ordering_then (slice_cmp nat_cmp x.destination.now y.destination.now) (nat_cmp x.index y.index)

-- one of the claims is of the update at index k, to the destination d
abbrev pub HasClaim : List DeclaredClaimed → ℕ → List ℕ → Type 0
HasClaim [] k d = ⊥
HasClaim (c ∷ cs) k d = ((c.index ≡ k) × (c.destination.now ≡ d)) ⊎ HasClaim cs k d

-- the update at index k is in conflict over the destination d
abbrev pub IsInConflictAt : List Planned → ℕ → List ℕ → Type 0
IsInConflictAt ps k d = (p : Planned) × (slice_get ps k ≡ Some p) × (p.verdict ≡ verdict.InConflict) × (goal_of p ≡ d)

-- the claims of all updates in conflict, sorted
pub record AreOrdered (ps : List Planned) (claims : List DeclaredClaimed) : Type 0 where
  pub are : (k : ℕ) (d : List ℕ) → HasClaim claims k d ↔ IsInConflictAt ps k d
  pub order : IsStrictlySortedBy claim_cmp claims

-- claims to one destination, and others that are all to greater ones
pub record IsRun (run others : List DeclaredClaimed) : Type 0 where
  pub destination : List ℕ
  pub same : AllByRecursion (λ c. c.destination.now ≡ destination) run
  pub beyond : AllByRecursion (λ c. slice_cmp nat_cmp destination c.destination.now ≡ Less) others

-- the conflict of claims to one destination
pub record IsContestOf (claims : List DeclaredClaimed) (c : DeclaredContest) : Type 0 where
  pub destination : option_map (λ x. x.destination.now) (slice_get claims 0) ≡ Some (bstring_bytes c.destination)
  pub indexes : c.indexes.items ≡ map (λ x. x.index) claims

-- the line of a source and the text of the spec that maps it, with what is said behind that
pub record IsClaim (source text note line : List ℕ) : Type 0 where
  pub first : List ℕ
  pub second : List ℕ
  pub is_first : IsQuoted source first
  pub is_second : IsQuoted text second
  pub is : line ≡ codes "    " ++ (first ++ (codes " by " ++ (second ++ (note ++ (10 ∷ [])))))

-- the messages grew by that line
abbrev pub WritesClaim : List ℕ → List ℕ → List ℕ → List ℕ → List ℕ → Type 0
WritesClaim source text note old new = (line : List ℕ) × IsClaim source text note line × (new ≡ old ++ line)

-- a line for each update, in order
abbrev pub AreClaims : SpecTexts → List Planned → List ℕ → Type 0
AreClaims texts [] lines = lines ≡ []
AreClaims texts (p ∷ ps) lines =
    (line : List ℕ) × (rest : List ℕ) × IsClaim (source_text p.source) (text_of texts p.origin) (note_of p.origin) line
    × AreClaims texts ps rest × (lines ≡ line ++ rest)

-- the messages grew by these lines
abbrev pub WritesClaims : SpecTexts → List Planned → List ℕ → List ℕ → Type 0
WritesClaims texts ps old new = (lines : List ℕ) × AreClaims texts ps lines × (new ≡ old ++ lines)

-- the lines on a conflict: its destination, a line for each update to it, and advice
pub record IsReportedConflict (texts : SpecTexts) (c : Contest) (lines : List ℕ) : Type 0 where
  pub shown : List ℕ
  pub claims : List ℕ
  pub advice : List ℕ
  pub destination : IsQuoted c.destination shown
  pub each : AreClaims texts c.updates claims
  pub is : lines ≡ codes "conflict: "
      ++ (shown ++ (codes " would be written from several refs, so nothing is fetched:\n" ++ (claims ++ advice)))

-- the messages grew by the lines on a conflict
abbrev pub WritesConflict : SpecTexts → Contest → List ℕ → List ℕ → Type 0
WritesConflict texts c old new = (lines : List ℕ) × IsReportedConflict texts c lines × (new ≡ old ++ lines)

-- the lines on conflicts, in order
abbrev pub AreReportedConflicts : SpecTexts → List Contest → List ℕ → Type 0
AreReportedConflicts texts [] lines = lines ≡ []
AreReportedConflicts texts (c ∷ cs) lines =
    (one : List ℕ) × (rest : List ℕ) × IsReportedConflict texts c one × AreReportedConflicts texts cs rest
    × (lines ≡ one ++ rest)

-- the messages grew by the lines on all conflicts; in JSON they stayed as they were
abbrev pub AddsEachConflict : Form → SpecTexts → List Contest → List ℕ → List ℕ → Type 0
AddsEachConflict form.Json texts cs old new = new ≡ old
AddsEachConflict _ texts cs old new = (lines : List ℕ) × AreReportedConflicts texts cs lines × (new ≡ old ++ lines)

-- the messages grew by the lines on the conflicts within a limit, and by how many more there are; in JSON they stayed
abbrev pub AddsConflictLines : Limit → Form → SpecTexts → List Contest → List ℕ → List ℕ → Type 0
AddsConflictLines limit form.Json texts cs old new = new ≡ old
AddsConflictLines limit _ texts cs old new =
    (lines : List ℕ) × AreReportedConflicts texts (take (few limit (length cs)) cs) lines
    × (new ≡ old ++ (lines ++ more_line (codes "conflict: ") (length cs - few limit (length cs))))

-- the source of each update, the text of its spec and its origin, as JSON strings
abbrev pub claim_with : List ℕ → List ℕ → Origin → Claimed
claim_with source text o = record { source = json_text source; spec = json_text text; origin = origin_name o }

abbrev pub claimed : SpecTexts → Planned → Claimed
claimed texts p = claim_with (source_text p.source) (text_of texts p.origin) p.origin

abbrev pub claims_of : SpecTexts → List Planned → List Claimed
claims_of texts ps = map (claimed texts) ps

-- the object of a conflict, as a line
abbrev pub conflict_line : SpecTexts → Contest → List ℕ
conflict_line texts c = line_of (conflict_object (json_text c.destination) (claims_of texts c.updates))

-- the line is the object of the conflict
abbrev pub IsConflict : SpecTexts → Contest → List ℕ → Type 0
IsConflict texts c line = line ≡ conflict_line texts c

-- the conflicts of updates are reported
pub record AddsConflicts (limit : Limit) (form : Form) (texts : SpecTexts) (ps : List Planned)
    (before after old new : List ℕ) : Type 0 where
  pub contests : List Contest
  pub are : AreContests ps contests
  pub messages : AddsConflictLines limit form texts contests before after
  pub objects : AddsObjects form (IsConflict texts) contests old new
