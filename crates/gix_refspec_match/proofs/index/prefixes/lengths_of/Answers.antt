use Rattle.gix_refspec_match.proofs.Common.{List, ℕ, ◌∙◌, subst, length, all_weaker, one_more_mapped, IsFlagged}
use Rattle.gix_refspec_match.proofs.Common.{name_bytes}

pub loop-text-preserved : Rattle.gix_refspec_match.proofs.index.prefixes.lengths_of.Goals.loop-text-preserved
loop-text-preserved c =
    let new : List ℕ → Type 0 = λ m. IsFlagged c.flag_length.new.flags.items (length m) in
    one_more_mapped name_bytes new c.args.texts.now c.loop-text.text-index c.text-item.result
    (all_weaker _ new (λ m flagged. c.in_ok-flag_length.ensures.others (length m) flagged) _ c.loop-text.invariant)
    c.loop-text-test.true c.text-item.is
    (subst new (c.as_bytes.ensures ∙ c.as_bstr.ensures) c.in_ok-flag_length.ensures.here)
