-- Each group has its warnings.
use Rattle.std.proofs.Common.{Bor, List, map, subst, ℕ}
use Rattle.refspec_commands.specs.declared.warnings.group.Group.{Group}
use Rattle.refspec_commands.specs.Seen.{of_key}
use Rattle.refspec_commands.specs.Warned.{AreSaidOf, Asked}
use Rattle.refspec_commands.specs.WarnedViews.{asked_at, said_of, seen_of}
use Rattle.refspec_commands.proofs.SeenLemmas.{matching_group}
use Rattle.refspec_commands.proofs.KeyLemmas.{asked_found, next_group, said_all, said_next}
use Rattle.refspec_commands.proofs.warnings.warnings_of.Goals as goal

pub warnings_in-requires : goal.warnings_in-requires
warnings_in-requires c =
    let seen = map seen_of c.args.all.now in
    matching_group (of_key c.in-Some.key.now seen) c.in-Some.group
    (next_group c.args.form (asked_at c.args.beside.now) seen (c.in-Some.key, c.in-Some.group) c.loop-key.key-iterator
    c.next.new.self (map said_of c.loop-key.found.items) c.loop-key.invariant c.in-Some.ensures.steps)

pub loop-key-preserved : goal.loop-key-preserved
loop-key-preserved c =
    let form = c.args.form in
    let asks = asked_at c.args.beside.now in
    let seen = map seen_of c.args.all.now in
    let e : Bor (List ℕ) × Group = (c.in-Some.key, c.in-Some.group) in
    let here = next_group form asks seen e c.loop-key.key-iterator c.next.new.self (map said_of c.loop-key.found.items)
    c.loop-key.invariant c.in-Some.ensures.steps in
    let asked = asked_found c.args.beside.now c.in-Some.key.now c.get.result _ c.unwrap_or-beside.result
    c.get.ensures.value
    c.nothing-nothing.ensures c.unwrap_or-beside.ensures in
    let more = c.in_ok-more.more.items in
    said_next form asks seen e c.loop-key.key-iterator c.next.new.self c.loop-key.found.items more
    c.append.new.self.items
    c.loop-key.invariant c.in-Some.ensures.steps
    (λ json. subst (λ (a : Asked). AreSaidOf a (of_key c.in-Some.key.now seen) (map said_of more)) asked
    (c.in_ok-more.ensures (of_key c.in-Some.key.now seen) json here)) c.in_ok-append.ensures.items

pub returns : goal.returns
returns c = said_all c.args.form (asked_at c.args.beside.now) (map seen_of c.args.all.now) c.loop-key.key-iterator
    (map said_of c.loop-key.found.items) c.loop-key.invariant c.in-None.ensures.steps.0
