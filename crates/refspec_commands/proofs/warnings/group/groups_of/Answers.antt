-- A text is added to the group of its key.
use Rattle.std.proofs.Common.{◌∙◌, ◌++◌, ◌∷◌, List, [], ap, get_or, map, subst, sym, take}
use Rattle.std.proofs.lemmas.List.{map-append, take_more}
use Rattle.refspec_commands.specs.Seen.{Seen, of_key}
use Rattle.refspec_commands.specs.WarnedViews.{AreGroups, seen_of}
use Rattle.refspec_commands.proofs.KeyLemmas.{one_more, taken_group}
use Rattle.refspec_commands.proofs.warnings.group.groups_of.Goals as goal

pub loop-checked-preserved : goal.loop-checked-preserved
loop-checked-preserved c =
    let all = c.args.all.now in
    let i = c.loop-checked.checked-index in
    let item = c.checked-item.result in
    let seen = map seen_of (take i all) in
    let key = c.key_of-key.result in
    let longer = ap (map seen_of) (take_more all i item c.loop-checked-test.true)
    ∙ (map-append seen_of (take i all) (get_or all i item ∷ []) ∙ ap (λ z. seen ++ seen_of z ∷ [])
    (sym c.checked-item.is)) in
    let group = taken_group seen c.loop-checked.groups key.now c.new.result c.unwrap_or-group.result c.remove.result
    c.loop-checked.invariant c.remove.ensures.value c.new.ensures c.unwrap_or-group.ensures in
    subst (λ (l : List Seen). AreGroups l c.insert.new.self) (sym longer)
    (one_more seen (seen_of item) c.loop-checked.groups c.remove.new.self c.insert.new.self key c.add.new.self
    c.loop-checked.invariant c.key_of-key.ensures c.remove.ensures.updates c.in_ok-insert.ensures.updates
    (c.in_ok-add.ensures (of_key key.now seen) group))
