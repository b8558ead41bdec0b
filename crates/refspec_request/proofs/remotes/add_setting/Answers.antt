-- The values of the name are taken out, and put back with the setting.
use Rattle.refspec_request.proofs.FetchLemmas.{taken_values, values_more, values_same, with_value}
use Rattle.refspec_request.proofs.remotes.add_setting.Goals as goal

pub returns-in_default : goal.returns-in_default
returns-in_default c = λ seen are. values_same c.args.section.now c.args.variable.now seen c.args.setting.now
    c.args.values.now c.requires c.in_default.ensures are

pub returns : goal.returns
returns c = λ seen are.
    let s = c.args.setting.now in
    let name = c.in-Some.parts.0 in
    let section = c.args.section.now in
    let variable = c.args.variable.now in
    let taken = taken_values section variable seen c.args.values.now name.now c.new.result c.unwrap_or-named.result
    c.remove.result c.requires are c.remove.ensures.value c.new.ensures.items c.unwrap_or-named.ensures in
    values_more section variable seen s name c.in-Some.parts.1.now c.args.values.now c.remove.new.self c.insert.new.self
    c.add_value.new.values c.requires c.in-Some.ensures are c.remove.ensures.updates c.in_ok-insert.ensures.updates
    (with_value section variable seen s name.now c.in-Some.parts.1.now c.unwrap_or-named.result.items
    c.add_value.new.values.items c.in-Some.ensures taken c.in_ok-add_value.ensures)
