-- The effects are those of the library.
use Rattle.std.proofs.Common.{ℕ, List, map, subst}
use Rattle.gix_refspec.specs.Views.Group.{ref_of}
use Rattle.gix_refspec.specs.Views.Spec.{reading_of}
use Rattle.gix_refspec_why.specs.Matching.Why.{IsExplained}
use Rattle.gix_refspec_why.specs.Views.Why.{effect_of}
use Rattle.refspec_commands.proofs.fates.answer.answer_to.Goals as goal

pub returns : goal.returns
returns c =
    let q = c.args.question.now in
    let effects = c.in_ok-effects.effects in
    record {
      explained = subst (λ (n : List ℕ). IsExplained (map reading_of q.specs.now) (map ref_of q.refs.now) n
          effects.item_index (map effect_of effects.of_specs.items)) c.new.ensures c.in_ok-effects.ensures;
      texts = c.in_ok-texts.ensures;
      stop = c.in_ok-stop.ensures;
    }
