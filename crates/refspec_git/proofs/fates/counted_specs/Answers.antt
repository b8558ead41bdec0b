-- The specs, that of the ref alone, and that of all tags.
use Rattle.std.proofs.Common.{[], ◌++◌, ◌∷◌, ◌∙◌, List, ap, cond, map, subst}
use Rattle.bstr.specs.BStr.{bstr_bytes}
use Rattle.gix_refspec.specs.Views.Spec.{reading_of}
use Rattle.gix_refspec_plan.specs.declared.Update.{Update}
use Rattle.gix_refspec_text.specs.Specs.Reading.{all_tags}
use Rattle.refspec_fetch.specs.Answer.{takes_all}
use Rattle.refspec_git.specs.Fates.{IsOwnSpec}
use Rattle.refspec_git.proofs.fates.counted_specs.Goals as goal

pub returns : goal.returns
returns c =
    let own = c.in_ok-add_alone.ensures in
    record {
      updates = c.in_ok-plan.plan.updates.items;
      own = own.0;
      plan = c.in_ok-plan.ensures;
      is_own = subst (λ (l : List Update). IsOwnSpec (bstr_bytes c.args.name) l own.0) c.as_slice.ensures.value own.1;
      counted = c.in_ok-add_all_tags.ensures
          ∙ ap (λ l. l ++ cond (takes_all c.args.wanted.now.tags) (all_tags ∷ []) [])
          (own.2 ∙ ap (λ l. map reading_of l ++ own.0) c.in_ok-all.ensures.items);
    }
