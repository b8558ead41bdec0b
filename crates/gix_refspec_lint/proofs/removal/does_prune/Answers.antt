use Rattle.gix_refspec_lint.proofs.Common.{[], ◌∷◌, AllZip, IsCompleted, same_Some, zip_long, ◌∙◌, ap, sym, refl, Some}
use Rattle.gix_refspec_lint.proofs.Common.{arith, map, length-map, reading_of, subst, IfOk-weaker, MatchBool}
use Rattle.gix_refspec_lint.proofs.lemmas.IndexLemmas.{reading_at}
use Rattle.gix_refspec_lint.proofs.lemmas.RemovalLemmas.{without_beyond}
use Rattle.gix_refspec_lint.proofs.lemmas.TrackLemmas.{completed_first, lists_are, never_alone, truth}
use Rattle.gix_refspec_lint.specs.Laws.Lint.{without}
use Rattle.gix_refspec_lint.specs.Matching.Removal.{PruneOtherwise}
use Rattle.gix_refspec_lint.proofs.removal.does_prune.Goals as goal

pub returns-then-index-values : goal.returns-then-index-values
returns-then-index-values c =
    let g = map reading_of c.args.values.now in
    truth _ (never_alone g (without c.args.index g)
    (without_beyond g c.args.index
    (omega (arith, c.if-index-values.true, length-map c.args.values.now reading_of))))

pub returns : goal.returns
returns c =
    let g = map reading_of c.args.values.now in
    let x = c.index-values-index.result in
    let at = reading_at c.args.values.now c.args.index x c.if-index-values.false ∙ ap (λ y. Some (reading_of y))
    (sym c.index-values-index.is) in
    let are = lists_are
    (record {
      values = c.args.values;
      rest = c.args.rest;
      others = c.as_slice-5.result;
      words =
          c.as_slice-6.result;
    }) g c.args.index (reading_of x) c.args.letter refl c.requires.rest at c.requires.free
    (rw c.as_slice-5.ensures.value c.in_ok-others.ensures) (rw c.as_slice-6.ensures.value c.in_ok-words.ensures) in
    let items = c.in_ok-completed.completed.items in
    let all : AllZip IsCompleted (reading_of x ∷ []) (map reading_of items) =
    rw c.as_slice-2.ensures at c.in_ok-completed.ensures in
    let (r, here, also) = completed_first (reading_of x ∷ []) items c.index.result.now all
    (omega (
      arith,
      zip_long IsCompleted (reading_of x ∷ []) (map reading_of items) all,
      length-map items reading_of,
    )) c.index.ensures in
    let done : IsCompleted (reading_of x) (reading_of c.index.result.now) =
    subst (λ q. IsCompleted q (reading_of c.index.result.now)) (sym (same_Some _ _ here)) also in
    IfOk-weaker c.prunes_by.result _ _
    (λ does told. truth does
    (subst (λ h. MatchBool does (PruneOtherwise g h) (¬ (PruneOtherwise g h))) c.requires.rest told))
    (c.prunes_by.ensures (reading_of x) are done)
