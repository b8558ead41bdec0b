-- A line without an id and a name is bad.
use Rattle.std.proofs.Common.{ap, map}
use Rattle.gix_refspec.specs.Views.Group.{ref_of}
use Rattle.refspec_io.specs.Refs.{bad_bytes}
use Rattle.refspec_io.proofs.RefLemmas.{AddsListed-none}
use Rattle.refspec_io.proofs.ShownLemmas.{both_ok}
use Rattle.refspec_io.proofs.refs.RefList.add.Goals as goal

pub returns-in-None : goal.returns-in-None
returns-in-None c = both_ok c.add_bad.result _ _ _ c.add_bad.ensures.items c.add_bad.ensures.bad
    (λ same grown. AddsListed-none c.args.bytes.now (map ref_of c.args.self.now.items.items)
    (map ref_of c.add_bad.new.self.items.items) (map bad_bytes c.args.self.now.bad.items)
    (map bad_bytes c.add_bad.new.self.bad.items) c.in-None.ensures.none (ap (map ref_of) same) grown)
