-- One of the two begins with the other, or no text begins with both.
use Rattle.gix_refspec_lint.proofs.Common.{[], append-nil, inl, inr, refl, sym, ◌∙◌, false≢true, Decides-eqb, starts_is}
use Rattle.gix_refspec_lint.proofs.lemmas.ByteLemmas.{parted}
use Rattle.gix_refspec_lint.proofs.words.longer_prefix.Goals as goal

pub returns-then-starts_with : goal.returns-then-starts_with
returns-then-starts_with c =
    record {
      one = record { after = []; here = sym (append-nil _) };
      other =
          record {
            after = _;
            here = (starts_is Decides-eqb _ _ _ c.starts_with.ensures.value).0 c.if-starts_with.true;
          };
      is = inl refl;
    }

pub returns-then-starts_with-2 : goal.returns-then-starts_with-2
returns-then-starts_with-2 c =
    let begins = (starts_is Decides-eqb _ _ _ c.starts_with-else-starts_with.ensures.value).0 c.if-starts_with-2.true in
    record {
      one = record { after = _; here = begins };
      other = record { after = []; here = sym (append-nil _) };
      is =
          inr refl;
    }

pub returns-else-starts_with-2 : goal.returns-else-starts_with-2
returns-else-starts_with-2 c n by_one by_other =
    elim (parted c.args.one.now by_one.after c.args.other.now by_other.after (sym by_one.here ∙ by_other.here)) [
      | inl (m, longer, rest) ↦
          false≢true (sym c.if-starts_with-2.false
          ∙ (starts_is Decides-eqb _ _ _ c.starts_with-else-starts_with.ensures.value).1 m longer)
      | inr (m, longer, rest) ↦
          false≢true (sym c.if-starts_with.false ∙ (starts_is Decides-eqb _ _ _ c.starts_with.ensures.value).1 m longer)
    ]
