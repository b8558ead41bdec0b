-- One argument, or two without an option.
use Rattle.std.proofs.Common.{Bor, List, MatchResult, Option, subst, sym, ℕ}
use Rattle.refspec_git.specs.Fates.{IsAsked, RefusesAsked}
use Rattle.refspec_git.proofs.FateLemmas.{asked_alone, asked_both}
use Rattle.refspec_git.proofs.fates.asked_in.Goals as goal

pub returns-in-len1 : goal.returns-in-len1
returns-in-len1 c = asked_alone c.args.option c.args.arguments.now _ c.asked_by.result c.in-len1.len_at_least
    c.in-len1.len_below c.asked_by.ensures

pub returns-in-None : goal.returns-in-None
returns-in-None c =
    let l = c.args.arguments.now in
    subst (λ (option : Option (Bor (List ℕ))). MatchResult c.asked_by-in-None.result (IsAsked option l)
    (RefusesAsked option l)) (sym c.in-None.is)
    (asked_both l _ c.asked_by-in-None.result c.in-len2.len_at_least c.in-len2.len_below c.asked_by-in-None.ensures)
