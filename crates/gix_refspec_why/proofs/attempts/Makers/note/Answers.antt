use Rattle.gix_refspec_why.proofs.Common.{None, Some, IsSome, refl, sym, ap, subst, ◌∙◌, is_some, option_map}
use Rattle.gix_refspec_why.proofs.Common.{AttemptsTo, FirstOf, maker_of}
use Rattle.std.proofs.Common.{not}
use Rattle.gix_refspec_why.proofs.lemmas.NameLemmas.{attempts_once, makers_named, makers_same, makers_without}
use Rattle.gix_refspec_why.proofs.lemmas.NameLemmas.{unknown_at}
use Rattle.gix_refspec_why.proofs.attempts.Makers.note.Goals as goal

pub returns-then-is_none-clause-found : goal.returns-then-is_none-clause-found
returns-then-is_none-clause-found c attempts are =
    subst (λ d. FirstOf (AttemptsTo d) attempts c.args.self.now.without)
    (sym (ap (option_map (λ d. d.now)) c.in_default.is)) (are None)

pub returns-then-is_none-clause-noted : goal.returns-then-is_none-clause-noted
returns-then-is_none-clause-noted c attempts a are index to =
    makers_without attempts a c.args.self.now
    (record { by_destination = c.args.self.now.by_destination; without = Some c.args.index }) are
    (subst (λ d. AttemptsTo d a) (ap (option_map (λ d. d.now)) c.in_default.is) to)
    (unknown_at c.args.self.now.without (c.is_none.ensures ∙ ap not c.if-is_none.true)) refl (ap Some index)

pub returns-else-is_none-clause-found : goal.returns-else-is_none-clause-found
returns-else-is_none-clause-found c attempts are =
    subst (λ d. FirstOf (AttemptsTo d) attempts c.args.self.now.without)
    (sym (ap (option_map (λ d. d.now)) c.in_default.is)) (are None)

pub returns-else-is_none-clause-noted : goal.returns-else-is_none-clause-noted
returns-else-is_none-clause-noted c attempts a are index to =
    let none = ap (option_map (λ d. d.now)) c.in_default.is in
    let known : IsSome (maker_of c.args.self.now None) = c.is_none.ensures ∙ ap not c.if-is_none.false in
    makers_same attempts a c.args.self.now are
    (λ d also. subst (λ d. IsSome (maker_of c.args.self.now d))
    (attempts_once a None d (subst (λ d. AttemptsTo d a) none to) also) known)

pub returns-in-Some-get-clause-found : goal.returns-in-Some-get-clause-found
returns-in-Some-get-clause-found c attempts are =
    subst (λ d. FirstOf (AttemptsTo d) attempts (Some c.in-Some-get.earlier.now))
    (sym (ap (option_map (λ d. d.now)) c.in-Some.is))
    (subst (FirstOf (AttemptsTo (Some c.in-Some.name.now)) attempts) (sym c.in-Some-get.ensures.value)
    (are (Some c.in-Some.name.now)))

pub returns-in-Some-get-clause-noted : goal.returns-in-Some-get-clause-noted
returns-in-Some-get-clause-noted c attempts a are index to =
    let some = ap (option_map (λ d. d.now)) c.in-Some.is in
    let known : IsSome (maker_of c.args.self.now (Some c.in-Some.name.now)) =
    ap is_some (sym c.in-Some-get.ensures.value) in
    makers_same attempts a c.args.self.now are
    (λ d also. subst (λ d. IsSome (maker_of c.args.self.now d))
    (attempts_once a (Some c.in-Some.name.now) d (subst (λ d. AttemptsTo d a) some to) also) known)

pub returns-clause-found : goal.returns-clause-found
returns-clause-found c attempts are =
    subst (λ d. FirstOf (AttemptsTo d) attempts None)
    (sym (ap (option_map (λ d. d.now)) c.in-Some.is))
    (subst (FirstOf (AttemptsTo (Some c.in-Some.name.now)) attempts) (sym c.in_default-get.ensures.value)
    (are (Some c.in-Some.name.now)))

pub returns-clause-noted : goal.returns-clause-noted
returns-clause-noted c attempts a are index to =
    makers_named attempts a c.args.self.now
    (record { by_destination = c.insert.new.self; without = c.args.self.now.without }) c.in-Some.name are
    (subst (λ d. AttemptsTo d a) (ap (option_map (λ d. d.now)) c.in-Some.is) to) (sym c.in_default-get.ensures.value)
    refl
    (rw index at c.in_ok-insert.ensures.updates)
