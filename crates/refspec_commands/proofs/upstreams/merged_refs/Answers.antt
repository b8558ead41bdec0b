-- Each name adds a merged ref.
use Rattle.std.proofs.Common.{[], map, refl, sym, subst}
use Rattle.std.specs.List.{AllZip}
use Rattle.bstr.specs.BStr.{bstr_bytes}
use Rattle.gix_refspec.specs.Views.Spec.{reading_of}
use Rattle.refspec_io.proofs.CheckedLemmas.{zip_mapped_all}
use Rattle.refspec_commands.specs.Upstreams.{IsAsked}
use Rattle.refspec_commands.proofs.EachLemmas.{zip_mapped}
use Rattle.refspec_commands.proofs.upstreams.merged_refs.Goals as goal

pub loop-name-init : goal.loop-name-init
loop-name-init c = subst (AllZip (IsAsked (map reading_of c.args.specs.now)) []) (sym c.in_ok-merged.ensures.items) tt

pub loop-name-preserved : goal.loop-name-preserved
loop-name-preserved c =
    zip_mapped (IsAsked (map reading_of c.args.specs.now)) bstr_bytes c.args.names.now c.loop-name.name-index _
    c.loop-name.merged.items c.push.new.self.items _ c.loop-name-test.true c.loop-name.invariant
    (record { branch = refl; remote = refl; specs = refl; name = c.as_bytes.ensures; setup = refl })
    c.in_ok-push.ensures.items

pub returns : goal.returns
returns c = zip_mapped_all (IsAsked (map reading_of c.args.specs.now)) bstr_bytes c.args.names.now
    c.loop-name.name-index c.loop-name.merged.items c.loop-name-test.false c.loop-name.invariant
