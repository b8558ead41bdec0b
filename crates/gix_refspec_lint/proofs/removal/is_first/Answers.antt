use Rattle.gix_refspec_lint.proofs.Common.{inl, map, refl, reading_of, IfOk-weaker, MatchBool-at_false}
use Rattle.gix_refspec_lint.proofs.Common.{MatchBool-at_true}
use Rattle.gix_refspec_lint.proofs.lemmas.{RemovalLemmas.first_told, TrackLemmas.free_rest}
use Rattle.gix_refspec_lint.proofs.removal.is_first.Goals as goal

pub merges_first-requires-2 : goal.merges_first-requires-2
merges_first-requires-2 c = record { free = rw c.requires.rest (free_rest _ _ _ c.requires.free) }

pub returns-then-branch : goal.returns-then-branch
returns-then-branch c = (
  (λ told. (c.if-index-ne0.false, inl (MatchBool-at_true _ _ c.if-branch.true c.in_ok-merges_first.ensures))),
  λ first. refl,
)

pub returns : goal.returns
returns c =
    IfOk-weaker c.merges_first-2.result _ _
    (λ is. first_told (map reading_of c.args.values.now) (map reading_of c.args.rest.now) c.args.index is
    c.if-index-ne0.false (MatchBool-at_false _ _ c.if-branch.false c.in_ok-merges_first.ensures) c.requires.rest)
    c.merges_first-2.ensures
