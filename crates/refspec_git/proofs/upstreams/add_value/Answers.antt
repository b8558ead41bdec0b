-- The specs of the remote are taken out, and put back with that of the setting.
use Rattle.std.proofs.Common.{map}
use Rattle.gix_refspec.specs.Views.Spec.{reading_of}
use Rattle.refspec_git.proofs.UpstreamLemmas.{specs_more, specs_same, taken_specs, with_spec}
use Rattle.refspec_git.proofs.upstreams.add_value.Goals as goal

pub returns-in_default : goal.returns-in_default
returns-in_default c = λ seen are. specs_same seen c.args.setting.now c.args.specs.now c.in_default.ensures are

pub returns : goal.returns
returns c = λ seen are.
    let s = c.args.setting.now in
    let name = c.in-Some.name in
    let taken = taken_specs seen c.args.specs.now name.now c.new.result c.unwrap_or-own.result c.remove.result are
    c.remove.ensures.value c.new.ensures.items c.unwrap_or-own.ensures in
    specs_more seen s name c.args.specs.now c.remove.new.self c.insert.new.self c.add_spec.new.specs c.in-Some.ensures
    are c.remove.ensures.updates c.in_ok-insert.ensures.updates
    (with_spec seen s name.now (map reading_of c.unwrap_or-own.result.items) (map reading_of c.add_spec.new.specs.items)
    c.in-Some.ensures taken c.in_ok-add_spec.ensures)
