-- The warnings are on what the linter found.
use Rattle.std.proofs.Common.{List, ℕ, ap, map, subst}
use Rattle.gix_refspec_text.specs.Views.Spec.{reading_of}
use Rattle.gix_refspec_match.specs.Matching.Lists.{IsMadeFrom}
use Rattle.gix_refspec_lint.specs.Matching.Lint.{Configuration}
use Rattle.gix_refspec_lint.specs.Views.Lint.{configuration_of}
use Rattle.refspec_io.specs.Texts.{given_of}
use Rattle.refspec_io.proofs.ShownLemmas.{if_ok}
use Rattle.refspec_commands.specs.Warned.{IsExclusionSaid}
use Rattle.refspec_commands.specs.WarnedViews.{asked_of, said_of}
use Rattle.refspec_commands.proofs.WarnedLemmas.{exclusions_said}
use Rattle.refspec_commands.proofs.warnings.idle.exclusions_in.Goals as goal

pub returns : goal.returns
returns c =
    let g = map reading_of c.args.group.now.specs.items in
    let texts = map given_of c.args.group.now.texts.items in
    let fetch = configuration_of c.excludable.result in
    if_ok c.exclusion_warnings.result _ _ c.exclusion_warnings.ensures
    (λ all made. exclusions_said (asked_of c.args.beside.now) g texts fetch fetch.merges
    c.idle_exclusions.result c.in_ok-idle.idle (map said_of all.items) c.excludable.ensures
    (ap (λ (k : Configuration). k.merges) c.excludable.ensures)
    (c.idle_exclusions.ensures.ok, c.idle_exclusions.ensures.refused, c.in_ok-idle.ensures)
    (subst (λ (l : List ℕ). IsMadeFrom (λ i k s. IsExclusionSaid g texts k s) 0 l (map said_of all.items))
    c.as_slice.ensures.value made))
