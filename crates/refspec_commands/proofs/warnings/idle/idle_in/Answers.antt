-- The warnings are on what the linter found.
use Rattle.std.proofs.Common.{List, ap, arith, length, map, subst, sym}
use Rattle.std.proofs.lemmas.List.{length-map}
use Rattle.std.specs.List.{All, AllZip}
use Rattle.gix_refspec_text.specs.Specs.Reading.{Reading}
use Rattle.gix_refspec_text.specs.Views.Spec.{reading_of}
use Rattle.gix_refspec_lint.specs.declared.IdleSpec.{IdleSpec}
use Rattle.gix_refspec_lint.specs.Matching.Lint.{AreIdle, Configuration}
use Rattle.gix_refspec_lint.specs.Views.Lint.{unused_of}
use Rattle.refspec_io.specs.Texts.{given_of}
use Rattle.refspec_io.proofs.ShownLemmas.{if_ok}
use Rattle.refspec_commands.specs.Warned.{IsIdleSaid, IsInside}
use Rattle.refspec_commands.specs.WarnedViews.{said_of}
use Rattle.refspec_commands.proofs.WarnedLemmas.{FoundBy, idle_inside, idle_said}
use Rattle.refspec_commands.proofs.warnings.idle.idle_in.Goals as goal

pub warnings_on-requires-clause-inside : goal.warnings_on-requires-clause-inside
warnings_on-requires-clause-inside c =
    let specs = c.args.group.now.specs.items in
    let same = ap length (ap (λ (k : Configuration). k.values) c.configured.ensures) in
    subst (λ (l : List IdleSpec). All (IsInside (length c.args.group.now.texts.items)) (map unused_of l))
    (sym c.as_slice.ensures.value) (idle_inside (map reading_of c.configured.result.values.now)
    (length c.args.group.now.texts.items) c.idle_specs.result c.in_ok-idle.idle
    (c.idle_specs.ensures.ok, c.idle_specs.ensures.refused, c.in_ok-idle.ensures)
    (omega (arith, same, length-map specs reading_of, c.requires)))

pub returns : goal.returns
returns c =
    let g = map reading_of c.args.group.now.specs.items in
    let texts = map given_of c.args.group.now.texts.items in
    let found = subst (λ (h : List Reading). FoundBy h unused_of (AreIdle h) c.idle_specs.result c.in_ok-idle.idle)
    (ap (λ (k : Configuration). k.values) c.configured.ensures)
    (c.idle_specs.ensures.ok, c.idle_specs.ensures.refused, c.in_ok-idle.ensures) in
    if_ok c.warnings_on.result _ _ c.warnings_on.ensures
    (λ all zipped. idle_said g texts c.idle_specs.result c.in_ok-idle.idle (map said_of all.items)
    found (subst (λ (l : List IdleSpec). AllZip (IsIdleSaid texts) (map unused_of l) (map said_of all.items))
    c.as_slice.ensures.value zipped))
