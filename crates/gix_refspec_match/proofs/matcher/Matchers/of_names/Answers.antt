use Rattle.gix_refspec_match.proofs.Common.{made_more, IsNamed, None, Some, ◌≡◌, sym, arith, inl, inr, append-nil}
use Rattle.gix_refspec_match.proofs.Common.{kind_of_side, reading_of, DeclaredKind as SideKind, Partial, IsNameKind}
use Rattle.gix_refspec_match.proofs.lemmas.hits.MatcherLemmas.{named_here, other_here}
use Rattle.gix_refspec_text.specs.declared.side.SideKind.TheVariants.{FullName}
use Rattle.gix_refspec_match.proofs.matcher.Matchers.of_names.Goals as goal

no_name : (s : SideKind) → ((x : _) → ¬ (s ≡ FullName x)) → ((x : _) → ¬ (s ≡ Partial x))
    → ¬ (IsNameKind (kind_of_side s))
no_name s full short is = grind (arith, full, short, is)

pub loop-spec_index-preserved-in_default : goal.loop-spec_index-preserved-in_default
loop-spec_index-preserved-in_default c =
    made_more IsNamed reading_of _ _ c.index-specs-spec_index.result _ _ None c.loop-spec_index-test.true
    c.loop-spec_index.invariant
    (rw (← c.index-specs-spec_index.is) (λ y is. c.in_default.ensures is.positive (rw is.is))) (sym (append-nil _))

pub loop-spec_index-preserved : goal.loop-spec_index-preserved
loop-spec_index-preserved c = elim c.match-sides.branch [
  | goal.in-FullName+in_ok-push w ↦
      rw w.list-is (made_more IsNamed reading_of _ _ c.index-specs-spec_index.result _ _
      (Some _) c.loop-spec_index-test.true c.loop-spec_index.invariant
      (rw (← c.index-specs-spec_index.is)
      (named_here _ _ c.in-Some.sides c.in-Some.ensures
      (elim w.in-FullName.is [ inl p ↦ rw p.1 tt | inr p ↦ rw p.1 tt ]))) w.in_ok-push.ensures.items)
  | goal.in_default-source w ↦
      rw w.list-is
      (made_more IsNamed reading_of _ _ c.index-specs-spec_index.result _ _ None c.loop-spec_index-test.true
      c.loop-spec_index.invariant
      (rw (← c.index-specs-spec_index.is)
      (other_here _ _ c.in-Some.sides c.in-Some.ensures
      (no_name _ w.in_default-source.not-FullName w.in_default-source.not-Partial))) (sym (append-nil _)))
]
