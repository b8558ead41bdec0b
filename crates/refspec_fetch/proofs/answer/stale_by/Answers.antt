-- None is found unless stale refs are asked for, and the plan is carried out.
use Rattle.std.proofs.Common.{◌∙◌, List, ap, inl, inr, map, subst, sym}
use Rattle.std.proofs.lemmas.Bool.{false≢true}
use Rattle.gix_refspec.specs.Specs.Reading.{Reading}
use Rattle.gix_refspec.specs.Views.Group.{ref_of}
use Rattle.gix_refspec_plan.specs.Matching.Stale.{AreStale}
use Rattle.gix_refspec_plan.specs.Views.Stale.{found_of}
use Rattle.refspec_io.proofs.ShownLemmas.{if_ok}
use Rattle.refspec_fetch.proofs.answer.stale_by.Goals as goal

pub returns-then-not-asks_stale : goal.returns-then-not-asks_stale
returns-then-not-asks_stale c = record {
  are = λ asks carried. absurd (false≢true (sym (sym c.asks_stale.ensures ∙ c.if-not-asks_stale.true) ∙ asks));
  none = λ other. ap (map found_of) c.new.ensures.items;
}

pub returns-then-not-is_carried_out : goal.returns-then-not-is_carried_out
returns-then-not-is_carried_out c = record {
  are = λ asks carried. absurd (false≢true (sym c.if-not-is_carried_out.true ∙ c.is_carried_out.ensures.1 carried));
  none = λ other. ap (map found_of) c.new-then-not-is_carried_out.ensures.items;
}

pub returns : goal.returns
returns c =
    let q = c.args.question.now in
    if_ok c.stale_refs.result _ _ c.stale_refs.ensures (λ stale are. record {
      are = λ asks carried. subst (λ (g : List Reading). AreStale g (map ref_of q.refs.now) (map ref_of q.local.now)
          (map found_of stale.items))
          c.pruning_specs-specs.ensures are;
      none = λ other. elim other [
        | inl unasked ↦ absurd (false≢true (sym unasked ∙ (sym c.asks_stale.ensures ∙ c.if-not-asks_stale.false)))
        | inr stopped ↦ absurd (stopped (c.is_carried_out.ensures.0 c.if-not-is_carried_out.false))
      ];
    })
