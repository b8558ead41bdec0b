-- Each spec is one text more.
use Rattle.std.proofs.Common.{◌∙◌, Global, List, String, [], ap, arith, map, take_all, ℕ}
use Rattle.gix_refspec_text.specs.declared.parsing.Operation.TheVariants as operation
use Rattle.refspec_io.specs.Texts.{argument_at}
use Rattle.refspec_io.proofs.TextLemmas.{given_next}
use Rattle.refspec_git.specs.Fetch.{given_texts}
use Rattle.refspec_git.proofs.specs.given_texts.Goals as goal

-- the bytes of a string
abbrev bytes_of : String Global → List ℕ
bytes_of t = t.bytes.items

pub loop-index-preserved : goal.loop-index-preserved
loop-index-preserved c =
    let give = argument_at operation.Fetch in
    given_next give bytes_of c.args.given.now c.loop-index.index c.saturating_add.result c.index-given-index.result []
    c.loop-index.texts.items c.push.new.self.items c.argument.result c.loop-index-test.true (omega arith)
    c.in_ok-push.ensures.items
    (c.argument.ensures ∙ ap (give c.saturating_add.result)
    (c.as_bytes.ensures.value ∙ ap bytes_of c.index-given-index.is))
    c.loop-index.invariant

pub returns : goal.returns
returns c = c.loop-index.invariant
    ∙ ap (λ (l : List (String Global)). given_texts (map bytes_of l))
    (take_all c.loop-index.index c.args.given.now c.loop-index-test.false)
