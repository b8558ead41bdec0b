use Rattle.gix_refspec_lint.proofs.Common.{◌≡◌, arith, get_or_default, length, subst, sym, ◌∙◌, reading_of, IfOk-weaker}
use Rattle.gix_refspec_lint.proofs.lemmas.TrackLemmas.{free_pushed, tracks_pushed}
use Rattle.gix_refspec_lint.specs.Matching.Removal.{HasDestination}
use Rattle.gix_refspec_lint.proofs.removal.does_track.Goals as goal

pub works_at-requires-clause-free : goal.works_at-requires-clause-free
works_at-requires-clause-free c =
    rw c.as_slice.ensures.value (free_pushed c.args.values.now c.in_ok-positives.positives.items c.push.new.self.items
    c.args.index c.index-values-index-2.result c.if-index-values.false c.index-values-index-2.is
    c.in_ok-positives.ensures
    c.in_ok-push.ensures.items c.args.letter c.requires.free)

pub returns : goal.returns
returns c =
    let same = c.index-values-index-2.is ∙ get_or_default c.args.values.now c.args.index c.index-values-index-2.result
    c.index-values-index.result c.if-index-values.false ∙ sym c.index-values-index.is in
    let long : c.len-last.result ≡ length c.in_ok-positives.positives.items =
    omega (arith, c.len-last.ensures, c.in_ok-positives.positives.ok.0) in
    IfOk-weaker c.works_at.result _ _
    (λ does. tracks_pushed c.args.values.now c.in_ok-positives.positives.items c.push.new.self.items c.args.index
    c.index-values-index-2.result c.if-index-values.false c.index-values-index-2.is c.in_ok-positives.ensures
    c.in_ok-push.ensures.items c.len-last.result long
    (subst (λ y. HasDestination (reading_of y)) (sym same) c.if-not-has_destination.ensures) does)
    (rw c.as_slice.ensures.value at c.works_at.ensures)
