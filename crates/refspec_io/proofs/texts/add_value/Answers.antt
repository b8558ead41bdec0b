-- The key isn't one of refspecs; or it has no value; or its value is a refspec.
use Rattle.std.proofs.Common.{map, refl, ◌∙◌, ap}
use Rattle.std.proofs.lemmas.List.{map-append}
use Rattle.refspec_io.specs.Texts.{at_setting, given_of}
use Rattle.refspec_io.proofs.SettingLemmas.{AddsValues-one, AddsValues-other}
use Rattle.refspec_io.proofs.texts.add_value.Goals as goal

pub returns-in_default : goal.returns-in_default
returns-in_default c = AddsValues-other c.args.setting.now (map given_of c.args.texts.now.items) c.in_default.ensures

pub returns : goal.returns
returns c = AddsValues-one c.args.setting.now
    (record {
      spot = at_setting c.args.setting.now.origin.now c.args.setting.now.key.now;
      operation =
          c.in-Some.operation;
      bytes = c.in-Some-value.bytes.now;
    }) c.in-Some-value.bytes
    (map given_of c.args.texts.now.items) (map given_of c.push.new.self.items) c.in-Some.ensures c.in-Some-value.is refl
    refl (ap (map given_of) c.in_ok-push.ensures.items ∙ map-append given_of c.args.texts.now.items _)
