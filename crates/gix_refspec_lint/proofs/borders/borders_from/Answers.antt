-- Each border but the longest is a border of the next longer one.
use Rattle.gix_refspec_lint.proofs.Common.{◌<◌, length, arith, cases_eq, [], ◌∷◌, all_join, Contains-push}
use Rattle.gix_refspec_lint.proofs.Common.{Contains-append_left, IsBorder}
use Rattle.gix_refspec_lint.proofs.lemmas.BorderLemmas.{border_here, border_in}
use Rattle.gix_refspec_lint.proofs.borders.borders_from.Goals as goal

pub loop-len-init : goal.loop-len-init
loop-len-init c =
    let is = c.requires.known (length c.args.text.now) c.requires.some (omega arith) in
    rw (c.new-lengths.ensures.items)
    (record { border = is.is_border; each = tt; all = λ k l at. absurd (is.longest k l at) })

pub loop-len-preserved : goal.loop-len-preserved
loop-len-preserved c =
    let len = c.loop-len.len in
    let old = c.loop-len.invariant in
    let lengths = c.loop-len.lengths.items in
    let is = c.requires.known len c.loop-len-test.true (omega (arith, old.border.shorter)) in
    rw (c.in_ok-push.ensures.items) (record {
      border = (border_in _ old.border is.is_border.shorter).0 is.is_border;
      each = all_join (IsBorder c.args.text.now) lengths (len ∷ []) old.each
          (border_here _ len c.loop-len-test.true old.border, tt);
      all = λ k l at.
          let inner : k < len → ⊥ = λ below. is.longest k l ((border_in _ old.border below).1 at) in
          grind (
            arith,
            inner,
            cases_eq k len,
            Contains-push lengths len,
            Contains-append_left lengths (len ∷ []) k,
            old.all k,
          );
    })
