use Rattle.gix_refspec_text.proofs.Common.{List, ℕ, subst, sym, MatchOption, bstr_bytes, HasPrefix, IsPrefix}
use Rattle.gix_refspec_text.proofs.Common.{reading_of}
use Rattle.gix_refspec_text.proofs.lemmas.prefixes.PrefixLemmas.{one_asked}
use Rattle.gix_refspec_text.proofs.spec.RefSpecRef.prefix.Goals as goal

pub returns-in_err-prefix : goal.returns-in_err-prefix
returns-in_err-prefix c = subst (λ r. MatchOption r ((p : List ℕ) → ¬ (HasPrefix (reading_of c.args.self.now) p))
    (λ p. HasPrefix (reading_of c.args.self.now) (bstr_bytes p))) (sym c.from_residual-in_err-prefix.ensures)
    (λ p has. c.in_err-prefix.ensures p
    (subst (λ (x : List ℕ). IsPrefix x p)
    (one_asked (reading_of c.args.self.now) has.0 c.in_ok-side.side.now has.1 c.in_ok-side.ensures.0) has.2))
