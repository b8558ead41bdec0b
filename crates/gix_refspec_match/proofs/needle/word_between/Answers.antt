-- What is left of the name after both cuts is the word, and without one of them there is none.
use Rattle.gix_refspec_match.proofs.Common.{common_steps, arith, ◌≡◌, ℕ, true, Option, Bor, take-append-drop, nat_eq}
use Rattle.gix_refspec_match.proofs.Common.{option_copied, take-append_seam, Decides-eqb, strip_suffix_is, not-false}
use Rattle.gix_refspec_match.proofs.Common.{pointwise_decides}
use Rattle.gix_refspec_match.proofs.{Common.option_eq, lemmas.hits.HitLemmas.word_left}
use Rattle.gix_refspec_match.proofs.needle.word_between.Goals as goal

same_end : (a b : Option (Bor ℕ)) → option_copied a ≡ option_copied b → option_eq (λ x y. nat_eq x.now y.now) a b ≡ true
same_end a b same = grind (arith, same, Decides-eqb)

pub returns-then-ne : goal.returns-then-ne
returns-then-ne c word fits = grind (
  arith,
  common_steps,
  take-append_seam,
  same_end,
  pointwise_decides,
  Decides-eqb,
  c.in_ok-front.ensures.cases.1,
  c.ne.ensures,
  c.last.ensures.value,
  c.last-2.ensures.value,
)

pub returns : goal.returns
returns c =
    grind (
      arith,
      common_steps,
      pointwise_decides,
      Decides-eqb,
      not-false,
      take-append-drop,
      word_left,
      strip_suffix_is,
      c.in_ok-front.ensures.cases,
      c.ne-else-ne.ensures,
      c.if-ne-2.false,
      c.strip_suffix.ensures.cases,
    )
