-- The other specs are fewer or all.
use Rattle.std.proofs.Common.{Vec, Global, List, ◌∷◌, [], ◌++◌, ap, arith, ◌∙◌}
use Rattle.bstr.specs.declared.bstring.BString.{BString}
use Rattle.refspec_commands.proofs.PrefixLemmas.{IsWhole-fewer, IsWhole-same}
use Rattle.refspec_commands.proofs.prefixes.answer.whole_of.Goals as goal

pub returns : goal.returns
returns c =
    let specs = c.args.specs.now in
    let others = c.args.others.now in
    elim c.if-others-specs.branch [
      | goal.then-others-specs+in_ok-from_slice+in_ok-push w ↦
          let p = w.in_ok-from_slice.field-0 in
          IsWhole-fewer specs others p c.if-others-specs.whole.items
          (omega (arith, w.if-others-specs.true))
          w.in_ok-from_slice.ensures
          (ap (λ (v : Vec BString Global). v.items) w.whole-is ∙ (w.in_ok-push.ensures.items
          ∙ ap (λ (l : List BString). l ++ p ∷ []) c.new-whole.ensures.items))
      | goal.else-others-specs w ↦
          IsWhole-same specs others c.if-others-specs.whole.items
          (omega (arith, w.if-others-specs.false)) c.requires
          (ap (λ (v : Vec BString Global). v.items) w.whole-is ∙ c.new-whole.ensures.items)
    ]
