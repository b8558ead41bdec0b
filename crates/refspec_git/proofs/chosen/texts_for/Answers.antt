-- Each spec is one text more.
use Rattle.std.proofs.Common.{◌∙◌, Bor, List, [], ap, arith, map, take_all, ℕ}
use Rattle.refspec_io.specs.Texts.{argument_at}
use Rattle.refspec_io.proofs.TextLemmas.{given_next}
use Rattle.refspec_git.specs.Chosen.{spec_texts}
use Rattle.refspec_git.proofs.chosen.texts_for.Goals as goal

abbrev now : Bor (List ℕ) → List ℕ
now s = s.now

pub loop-index-preserved : goal.loop-index-preserved
loop-index-preserved c =
    let give = argument_at c.args.operation in
    given_next give now c.args.specs.now c.loop-index.index c.saturating_add.result _ []
    c.loop-index.texts.items c.push.new.self.items c.argument.result c.loop-index-test.true (omega arith)
    c.in_ok-push.ensures.items
    (c.argument.ensures ∙ ap (give c.saturating_add.result) c.as_bytes.ensures.value)
    c.loop-index.invariant

pub returns : goal.returns
returns c = c.loop-index.invariant
    ∙ ap (λ (l : List (Bor (List ℕ))). spec_texts c.args.operation (map now l))
    (take_all c.loop-index.index c.args.specs.now c.loop-index-test.false)
