-- The answer to a question about a fetch, in the terms of the library: what the fetch writes, and which refs here it
-- deletes if it prunes.
use Rattle.std.specs.Prelude.{◌≡◌, ◌≢◌, ◌⊎◌, ℕ, Bool, true, false, List, [], ◌∷◌, map}
use Rattle.bstr.specs.BStr.{bstr_bytes}
use Rattle.gix_refspec.specs.Matching.Match.{Ref}
use Rattle.gix_refspec.specs.Specs.Reading.{Reading}
use Rattle.gix_refspec.specs.Views.Group.{ref_of}
use Rattle.gix_refspec.specs.Views.Spec.{reading_of}
use Rattle.gix_refspec_plan.specs.declared.Origin.{Origin}
use Rattle.gix_refspec_plan.specs.Matching.Plan.{IsCarriedOut, IsPlan, Planned, Wish}
use Rattle.gix_refspec_plan.specs.Matching.Stale.{AreStale, Found}
use Rattle.gix_refspec_plan.specs.Views.Plan.{planned_of}
use Rattle.gix_refspec_plan.specs.Views.Stale.{found_of}
use Rattle.refspec_io.specs.Refs.{bad_bytes}
use Rattle.refspec_fetch.specs.declared.answer.Answer.{Answer as DeclaredAnswer}
use Rattle.refspec_fetch.specs.declared.question.Question.{Question as DeclaredQuestion}
use Rattle.refspec_fetch.specs.declared.question.Subject.{Subject}
use Rattle.refspec_fetch.specs.declared.question.Subject.TheVariants as subject
use Rattle.refspec_fetch.specs.declared.question.Tags.{Tags}
use Rattle.refspec_fetch.specs.declared.question.Tags.TheVariants as tags
use Rattle.refspec_fetch.specs.Verdicts.{failing_of}

-- a question: what is asked about the fetch of a wish, the refs of the remote, the refs here, and the records among
-- these that are none
pub record Question : Type 0 where
  pub subject : Subject
  pub wish : Wish
  pub refs : List Ref
  pub local : List Ref
  pub unread : List (List ℕ)

-- whether all tags are asked for
abbrev pub takes_all : Tags → Bool
takes_all tags.Followed = false
takes_all tags.All = true
takes_all tags.Left = false

abbrev pub question_of : DeclaredQuestion → Question
question_of q = record {
  subject = q.subject;
  wish = record {
    given = map reading_of q.given.now;
    configured = map reading_of q.configured.now;
    merges = map bstr_bytes q.merges.now;
    tags = takes_all q.tags;
  };
  refs = map ref_of q.refs.now;
  local = map ref_of q.local.now;
  unread = map bad_bytes q.unread.now;
}

-- whether the updates are asked for
abbrev pub asks_updates : Subject → Bool
asks_updates subject.Updates = true
asks_updates subject.Both = true
asks_updates subject.Stale = false

-- whether the stale refs are asked for
abbrev pub asks_stale : Subject → Bool
asks_stale subject.Updates = false
asks_stale subject.Both = true
asks_stale subject.Stale = true

-- an answer: a plan, and local refs that look stale
pub record Answer : Type 0 where
  pub question : Question
  pub planned : List Planned
  pub missing : List Origin
  pub stale : List Found

abbrev pub answer_of : DeclaredAnswer → Answer
answer_of a = record {
  question = question_of a.question;
  planned = map planned_of a.plan.updates.items;
  missing = a.plan.missing.items;
  stale = map found_of a.stale.items;
}

-- the first specs, or without any the others
abbrev pub first_of : List Reading → List Reading → List Reading
first_of [] others = others
first_of (r ∷ firsts) others = r ∷ firsts

-- the specs by which a pruning fetch deletes refs: the given ones, or without any the configured ones
abbrev pub pruning_specs : Wish → List Reading
pruning_specs wish = first_of wish.given wish.configured

-- the refs here that look stale: those of the specs by which the fetch prunes, if they are asked for, and the plan is
-- carried out; else none
pub record FindsStale (q : Question) (planned : List Planned) (missing : List Origin) (found : List Found) :
    Type 0 where
  pub are : asks_stale q.subject ≡ true → IsCarriedOut planned missing
      → AreStale (pruning_specs q.wish) q.refs q.local found
  pub none : (asks_stale q.subject ≡ false) ⊎ (¬ (IsCarriedOut planned missing)) → found ≡ []

-- the answer to its question: the plan of the fetch, and the refs here that look stale
pub record IsAnswer (a : Answer) : Type 0 where
  pub plan : IsPlan a.question.wish a.question.refs a.planned a.missing
  pub found : FindsStale a.question a.planned a.missing a.stale

-- an update that is asked for is left out or in a directory conflict
abbrev pub HasFailing : Answer → Type 0
HasFailing a = (asks_updates a.question.subject ≡ true) × (failing_of a.planned ≢ [])

-- a fetch ends well: the plan is carried out, all refs here are read, and no update that is asked for fails
pub record EndsWell (a : Answer) : Type 0 where
  pub carried : IsCarriedOut a.planned a.missing
  pub read : a.question.unread ≡ []
  pub free : ¬ (HasFailing a)

-- the exit status: 0 if the fetch ends well, else 1
abbrev pub IsStatus : Answer → ℕ → Type 0
IsStatus a status = ((status ≡ 0) × EndsWell a) ⊎ ((status ≡ 1) × ¬ (EndsWell a))
