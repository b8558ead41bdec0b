-- The borders that are short enough are the overlaps.
use Rattle.gix_refspec_lint.proofs.Common.{[], ◌∷◌, inl, inr, get_or, arith, bstring_bytes, AreBorders, IsBorder}
use Rattle.gix_refspec_lint.proofs.Common.{IsOverlap, Contains-append_left, Contains-push, all_join, get_or_default}
use Rattle.gix_refspec_lint.proofs.Common.{Contains-get_or}
use Rattle.gix_refspec_lint.proofs.{Common.{of_element, upto}, lemmas.BorderLemmas.border_shared}
use Rattle.gix_refspec_lint.proofs.words.Common.overlaps.Goals as goal
use Rattle.gix_refspec_lint.proofs.words.Common.overlaps.Goals.{then-length-self+in_ok-push, else-length-self}

pub loop-length-preserved : goal.loop-length-preserved
loop-length-preserved c =
    let list = c.deref-length-items.result.now in
    let i = c.loop-length.length-index in
    let k = get_or list i 0 in
    let found = c.loop-length.shared.items in
    let so_far = c.loop-length.invariant in
    let are : AreBorders (bstring_bytes c.in_ok-text.text) list = rw c.deref-length-items.ensures.value
    (rw (c.as_bytes.ensures, c.as_bstr.ensures) at c.in_ok-borders.ensures) in
    elim c.if-length-self.branch [
      | then-length-self+in_ok-push w ↦ rw (w.shared-is, w.in_ok-push.ensures.items) (record {
        each = all_join (IsOverlap _ _) found (k ∷ []) so_far.each (
          (border_shared _ _ _ _ c.requires.0 c.requires.1 c.in_ok-text.ensures k w.if-length-self.true).0
              (of_element (IsBorder _) list k are.each (Contains-get_or list i 0 c.loop-length-test.true)),
          tt,
        );
        all = λ j l few. elim (upto j i l) [
          | inl less ↦ Contains-append_left found (k ∷ []) _ (so_far.all j less few)
          | inr last ↦ rw last (Contains-push found k)
        ];
      })
      | else-length-self w ↦ rw w.shared-is (record {
        each = so_far.each;
        all = λ j l few. elim (upto j i l) [
          | inl less ↦ so_far.all j less few
          | inr last ↦
              absurd (omega (arith, rw last at few, w.if-length-self.false))
        ];
      })
    ]

pub returns : goal.returns
returns c =
    let list = c.deref-length-items.result.now in
    let are : AreBorders (bstring_bytes c.in_ok-text.text) list = rw c.deref-length-items.ensures.value
    (rw (c.as_bytes.ensures, c.as_bstr.ensures) at c.in_ok-borders.ensures) in
    record {
      each = c.loop-length.invariant.each;
      all = λ k few overlap.
          let (j, below, is) =
          are.all k ((border_shared _ _ _ _ c.requires.0 c.requires.1 c.in_ok-text.ensures k few).1 overlap) in
          let same = rw (← get_or_default list j 0 k below) at is in
          rw same at (c.loop-length.invariant.all j (omega (arith, c.loop-length-test.false)) (omega (arith, same)));
    }
