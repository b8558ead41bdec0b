use Rattle.gix_refspec_lint.proofs.Common.{sym, ◌∙◌, false≢true, IfOk-weaker, arith}
use Rattle.gix_refspec_lint.proofs.lemmas.IndexLemmas.{maps_of, of_maps, reading_at, zip_of}
use Rattle.gix_refspec_lint.proofs.idle.does_map.Goals as goal

pub returns-then-not-may_take : goal.returns-then-not-may_take
returns-then-not-may_take c g is maps =
    false≢true (sym c.if-not-may_take.true ∙ c.may_take.ensures _ _
    (of_maps g _ is.completed c.args.at _
    (reading_at c.args.group.now.specs.now c.args.at c.index-group-at.result c.requires) _ _ _ maps))

pub returns-then-not-may_write : goal.returns-then-not-may_write
returns-then-not-may_write c g is maps =
    let at = reading_at c.args.group.now.specs.now c.args.at c.index-group-at.result c.requires in
    let (r, here, done) = zip_of g _ is.completed c.args.at _ at in
    false≢true (sym c.if-not-may_write.true ∙ c.may_write.ensures r _ _ done
    (of_maps g _ is.completed c.args.at _ at _ _ _ maps))

pub returns : goal.returns
returns c g is =
    let at = reading_at c.args.group.now.specs.now c.args.at c.index-group-at.result c.requires in
    IfOk-weaker c.makes.result _ _
    (λ does told. grind (
      arith,
      told,
      maps_of g _ is.completed c.args.at _ at,
      of_maps g _ is.completed c.args.at _ at,
    )) c.makes.ensures
