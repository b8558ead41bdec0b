use Rattle.gix_refspec_why.proofs.Common.{sym, ◌∙◌, drop, length, take, ◌-◌, false≢true, starts_is, ends_is}
use Rattle.gix_refspec_why.proofs.Common.{Decides-eqb}
use Rattle.gix_refspec_why.proofs.sources.pattern_mismatch.Goals as goal

pub returns-then-not-starts_with : goal.returns-then-not-starts_with
returns-then-not-starts_with c =
    let told = starts_is Decides-eqb c.args.name.now c.args.before.now c.starts_with.result
    c.starts_with.ensures.value in
    ((λ begins. false≢true (sym c.if-not-starts_with.true ∙ told.1 begins.after begins.here)), c.equal_at_start.ensures)

pub returns-then-not-ends_with : goal.returns-then-not-ends_with
returns-then-not-ends_with c =
    let told = starts_is Decides-eqb c.args.name.now c.args.before.now c.starts_with.result
    c.starts_with.ensures.value in
    let ended = ends_is Decides-eqb c.args.name.now c.args.after.now c.ends_with.result c.ends_with.ensures.value in (
      record { after = drop (length c.args.before.now) c.args.name.now; here = told.0 c.if-not-starts_with.false },
      (λ ends. false≢true (sym c.if-not-ends_with.true ∙ ended.1 ends.before ends.here)),
      c.equal_at_end.ensures,
    )

pub returns : goal.returns
returns c =
    let told = starts_is Decides-eqb c.args.name.now c.args.before.now c.starts_with.result
    c.starts_with.ensures.value in
    let ended = ends_is Decides-eqb c.args.name.now c.args.after.now c.ends_with.result c.ends_with.ensures.value in (
      record { after = drop (length c.args.before.now) c.args.name.now; here = told.0 c.if-not-starts_with.false },
      record {
        before = take (length c.args.name.now - length c.args.after.now) c.args.name.now;
        here = ended.0 c.if-not-ends_with.false;
      },
      c.requires,
    )
