use Rattle.gix_refspec_lint.proofs.Common.{◌∙◌, ap, map, reading_of}
use Rattle.gix_refspec_lint.proofs.lemmas.TrackLemmas.{tags_else, tags_then}
use Rattle.gix_refspec_lint.proofs.removal.removal_of.Goals.{then-follow_tags, else-follow_tags}
use Rattle.gix_refspec_lint.proofs.removal.removal_of.Goals as goal

pub returns-clause-tags : goal.returns-clause-tags
returns-clause-tags c = elim c.if-follow_tags.branch [
  | then-follow_tags w ↦ tags_then (map reading_of c.args.values.now) (map reading_of c.as_slice-rest.result.now)
      c.args.index w.follow_tags-then-follow_tags.result c.if-follow_tags.result w.if-follow_tags.ensures
      (ap (map reading_of) c.as_slice-rest.ensures.value ∙ c.in_ok-rest.ensures) w.follow_tags-then-follow_tags.ensures
      w.result-is
  | else-follow_tags w ↦ tags_else (map reading_of c.args.values.now) c.args.index c.if-follow_tags.result
      (w.result-is ∙ w.if-follow_tags.false) w.if-follow_tags.ensures
]
