use Rattle.gix_refspec_plan.proofs.Common.{refl, reading_of, Some, None, sym, append-nil}
use Rattle.gix_refspec_plan.proofs.lemmas.stale.PatternLemmas.{adds_pattern}
use Rattle.gix_refspec_plan.proofs.stale.Writers.add_pattern.Goals as goal

pub returns-in_ok-push : goal.returns-in_ok-push
returns-in_ok-push c = adds_pattern (reading_of c.args.spec.now) c.args.self.now _ refl (Some c.in-Some.pattern)
    (λ m. refl) c.in-Some.ensures c.in_ok-push.ensures.items

pub returns-in_default : goal.returns-in_default
returns-in_default c = adds_pattern (reading_of c.args.spec.now) c.args.self.now c.args.self.now refl None
    (λ m. refl) c.in_default.ensures (sym (append-nil _))
