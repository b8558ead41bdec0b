-- The specs whose destination isn't an id are looked up.
use Rattle.std.proofs.Common.{List, map, refl, subst}
use Rattle.bstr.specs.Owned.{bstring_bytes}
use Rattle.gix_refspec.specs.Views.Spec.{reading_of}
use Rattle.gix_refspec_text.specs.declared.spec.RefSpecRef.{RefSpecRef}
use Rattle.refspec_io.specs.Rows.{AreSpecTexts}
use Rattle.refspec_commands.specs.Answer.{AreLeftOut}
use Rattle.refspec_commands.specs.Track.{AreByNames}
use Rattle.refspec_commands.proofs.tracking.answer.tracked_by.Goals as goal

pub returns : goal.returns
returns c =
    let kept = c.in_ok-specs.specs.items in
    let out = c.in_ok-specs.left_out.items in
    record {
      name = refl;
      left_out = subst (λ (l : List RefSpecRef). AreLeftOut (map reading_of l) (map reading_of out))
          c.as_slice.ensures.value
          c.in_ok-specs.ensures.1;
      by_names = map reading_of kept;
      looked_up = subst (λ (l : List RefSpecRef). AreByNames (map reading_of l) (map reading_of kept))
          c.as_slice.ensures.value c.in_ok-specs.ensures.0;
      of_specs = subst (λ (l : List RefSpecRef). AreSpecTexts (map reading_of l) (map bstring_bytes
          c.in_ok-texts.texts.items))
          c.as_slice-2.ensures.value c.in_ok-texts.ensures;
      kept = c.in_ok-outcome.ensures;
    }
