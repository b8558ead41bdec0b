-- Each command is appended.
use Rattle.std.proofs.Common.{◌∙◌, ◌++◌, ◌∷◌, [], ap, append-nil, get_or, sym, take, take_all}
use Rattle.std.proofs.lemmas.List.{take_more}
use Rattle.std.proofs.lemmas.List.Concat.{flat_map-append}
use Rattle.std.specs.List.{flat_map}
use Rattle.refspec_request.specs.Calls.{requested}
use Rattle.refspec_git.proofs.answer.asks.Goals as goal

pub loop-call-preserved : goal.loop-call-preserved
loop-call-preserved c =
    let calls = c.args.calls.now in
    let i = c.loop-call.call-index in
    let so_far = flat_map requested (take i calls) in
    let d = c.call-item.result in
    c.in_ok-write.ensures ∙ (ap (λ l. l ++ requested d) c.loop-call.invariant
    ∙ (ap (λ g. so_far ++ requested g) c.call-item.is
    ∙ sym (ap (flat_map requested) (take_more calls i d c.loop-call-test.true)
    ∙ (flat_map-append requested (take i calls) (get_or calls i d ∷ [])
    ∙ ap (λ l. so_far ++ l) (append-nil (requested (get_or calls i d)))))))

pub returns : goal.returns
returns c = c.loop-call.invariant
    ∙ ap (flat_map requested) (take_all c.loop-call.call-index c.args.calls.now c.loop-call-test.false)
