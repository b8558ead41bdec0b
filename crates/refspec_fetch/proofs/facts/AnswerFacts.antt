-- Which questions ask for what, which specs prune, and how a fetch ends.
use Rattle.std.proofs.Common.{◌≡◌, ◌≢◌, ℕ, true, false, List, [], ◌∷◌, None, inl, inr, codes, length, refl, ap, arith}
use Rattle.std.proofs.lemmas.Bool.{false≢true}
use Rattle.gix_refspec.specs.Specs.Grammar.{fetched}
use Rattle.gix_refspec.specs.Specs.Reading.{Normal, Reading}
use Rattle.gix_refspec.specs.declared.match_group.ref_names.InvalidSide.TheVariants as side
use Rattle.gix_refspec_plan.specs.declared.Origin.{Origin}
use Rattle.gix_refspec_plan.specs.declared.Origin.TheVariants as origin
use Rattle.gix_refspec_plan.specs.declared.Verdict.TheVariants as verdict
use Rattle.gix_refspec_plan.specs.Matching.Plan.{IsCarriedOut, Planned}
use Rattle.gix_refspec_plan.specs.Matching.Stale.{Found}
use Rattle.refspec_fetch.specs.declared.question.Subject.{Subject}
use Rattle.refspec_fetch.specs.declared.question.Subject.TheVariants as subject
use Rattle.refspec_fetch.specs.declared.question.Tags.TheVariants as tags
use Rattle.refspec_fetch.specs.Answer.{Answer, EndsWell, FindsStale, Question, asks_stale, asks_updates, pruning_specs}
use Rattle.refspec_fetch.specs.Answer.{takes_all}
use Rattle.refspec_fetch.proofs.facts.TextsFacts.{wish_for}
use Rattle.refspec_fetch.proofs.facts.UpdateFacts.{by_default}

abbrev a_spec : Reading
a_spec = fetched Normal (codes "a") None

abbrev b_spec : Reading
b_spec = fetched Normal (codes "b") None

-- the configured specs prune only without a given one
pub pruning : (pruning_specs (wish_for (a_spec ∷ []) (b_spec ∷ []) false) ≡ a_spec ∷ [])
    × (pruning_specs (wish_for [] (b_spec ∷ []) false) ≡ b_spec ∷ [])
    × (pruning_specs (wish_for (a_spec ∷ []) [] false) ≡ a_spec ∷ [])
pruning = (refl, refl, refl)

-- all tags are asked for if neither those are that follow nor none
pub all_tags : (takes_all tags.All ≡ true) × (takes_all tags.Followed ≡ false) × (takes_all tags.Left ≡ false)
all_tags = (refl, refl, refl)

-- updates and stale refs are asked for alone or together
pub subjects : (asks_updates subject.Updates ≡ true) × (asks_stale subject.Updates ≡ false)
    × (asks_updates subject.Both ≡ true) × (asks_stale subject.Both ≡ true)
    × (asks_updates subject.Stale ≡ false) × (asks_stale subject.Stale ≡ true)
subjects = (refl, refl, refl, refl, refl, refl)

-- a question without specs and refs, and an answer to it
abbrev pub asked : Subject → Question
asked s = record { subject = s; wish = wish_for [] [] false; refs = []; local = []; unread = [] }

abbrev pub answered : Subject → List Planned → List Origin → Answer
answered s planned missing = record { question = asked s; planned = planned; missing = missing; stale = [] }

-- an update that is left out; one that is in a directory conflict
abbrev pub left : Planned
left = record by_default { verdict = verdict.LeftOut side.Source }

abbrev pub nested : Planned
nested = record by_default { verdict = verdict.DirectoryConflict }

pub whole : IsCarriedOut (by_default ∷ []) []
whole = record { whole = refl; free = ((λ same. cc), tt) }

-- a fetch of which each update is written ends well, and so does one of which only the stale refs are asked for
pub well : EndsWell (answered subject.Updates (by_default ∷ []) []) × EndsWell (answered subject.Stale (left ∷ []) [])
well = (
  record { carried = whole; read = refl; free = λ is. is.1 refl },
  record { carried = record { whole = refl; free = ((λ same. cc), tt) }; read = refl; free = λ is. false≢true is.0 },
)

-- one that lacks a source doesn't, nor one that leaves an update out or whose update is in a directory conflict, nor
-- one
-- with a record that isn't read
pub not_well : ¬ (EndsWell (answered subject.Updates (by_default ∷ []) (origin.Default ∷ [])))
    × ¬ (EndsWell (answered subject.Updates (left ∷ by_default ∷ []) []))
    × ¬ (EndsWell (answered subject.Both (nested ∷ []) []))
    × ¬ (EndsWell
    (record (answered subject.Stale (by_default ∷ []) [])
    { question = record (asked subject.Stale) { unread = codes "x" ∷ [] } }))
not_well = (
  (λ is. omega (arith, ap length is.carried.whole)),
  (λ is. is.free (refl, λ none. omega (arith, ap length none))),
  (λ is. is.free (refl, λ none. omega (arith, ap length none))),
  λ is. omega (arith, ap length is.read),
)

-- a ref that looks stale
abbrev pub one : Found
one = record { item = 0; kept_by = None }

-- without refs here none looks stale; and none does unless they are asked for, or if a source is missing
pub stale : FindsStale (asked subject.Stale) (by_default ∷ []) [] []
stale = record { are = λ asks carried. refl; none = λ other. refl }

pub none_stale : ¬ (FindsStale (asked subject.Updates) (by_default ∷ []) [] (one ∷ []))
    × ¬ (FindsStale (asked subject.Both) (by_default ∷ []) (origin.Default ∷ []) (one ∷ []))
none_stale = (
  (λ is. omega (arith, ap length (is.none (inl refl)))),
  λ is. omega (arith, ap length (is.none (inr (λ carried. omega (arith, ap length carried.whole))))),
)
