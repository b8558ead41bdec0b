-- Each spec has its role after the others.
use Rattle.std.proofs.Common.{subst}
use Rattle.gix_refspec.specs.Views.Spec.{reading_of}
use Rattle.gix_refspec_text.specs.declared.spec.RefSpecRef.{RefSpecRef}
use Rattle.refspec_commands.specs.Locals.{HasRole}
use Rattle.refspec_commands.proofs.LocalLemmas.{roles_next}
use Rattle.refspec_commands.proofs.fates.roles.roles_of.Goals as goal

pub loop-index-preserved : goal.loop-index-preserved
loop-index-preserved c =
    let q = c.args.lookup.now.question.now in
    let sources = c.args.lookup.now.sources.now in
    let i = c.loop-index.index in
    let found = c.in_ok-role_of.field-0 in
    roles_next (HasRole q sources) reading_of c.args.specs.now i c.index-specs-index.result c.loop-index.roles.items
    c.push.new.self.items found c.loop-index-test.true c.loop-index.invariant
    (subst (λ (s : RefSpecRef). HasRole q sources i (reading_of s) found) c.index-specs-index.is
    c.in_ok-role_of.ensures) c.in_ok-push.ensures.items
