-- One of the two ends with the other, or no text ends with both.
use Rattle.gix_refspec_lint.proofs.Common.{[], inl, inr, refl, sym, ◌∙◌, false≢true, Decides-eqb, ends_is}
use Rattle.gix_refspec_lint.proofs.lemmas.ByteLemmas.{parted}
use Rattle.gix_refspec_lint.proofs.words.longer_suffix.Goals as goal

pub returns-then-ends_with : goal.returns-then-ends_with
returns-then-ends_with c =
    record {
      one = record { before = []; here = refl };
      other =
          record { before = _; here = (ends_is Decides-eqb _ _ _ c.ends_with.ensures.value).0 c.if-ends_with.true };
      is =
          inl refl;
    }

pub returns-then-ends_with-2 : goal.returns-then-ends_with-2
returns-then-ends_with-2 c =
    record {
      one =
          record {
            before = _;
            here = (ends_is Decides-eqb _ _ _ c.ends_with-else-ends_with.ensures.value).0
                c.if-ends_with-2.true;
          };
      other = record { before = []; here = refl };
      is = inr refl;
    }

pub returns-else-ends_with-2 : goal.returns-else-ends_with-2
returns-else-ends_with-2 c n by_one by_other =
    elim (parted by_one.before c.args.one.now by_other.before c.args.other.now (sym by_one.here ∙ by_other.here)) [
      | inl (m, further, longer) ↦
          false≢true (sym c.if-ends_with.false ∙ (ends_is Decides-eqb _ _ _ c.ends_with.ensures.value).1 m longer)
      | inr (m, further, longer) ↦
          false≢true (sym c.if-ends_with-2.false
          ∙ (ends_is Decides-eqb _ _ _ c.ends_with-else-ends_with.ensures.value).1 m
          longer)
    ]
