-- The name is that of a ref, or of a peeled tag.
use Rattle.std.proofs.Common.{ℕ, List, None, ap, map, subst}
use Rattle.gix_refspec.specs.Texts.ObjectId.{id_bytes}
use Rattle.gix_refspec.specs.Views.Group.{ref_of}
use Rattle.refspec_io.specs.Refs.{ListsName, bad_bytes}
use Rattle.refspec_io.proofs.RefLemmas.{AddsListed-ref}
use Rattle.refspec_io.proofs.ShownLemmas.{both_ok}
use Rattle.refspec_io.proofs.refs.RefList.add_named.Goals as goal

pub add_peeled-requires : goal.add_peeled-requires
add_peeled-requires c = subst (λ (x : List ℕ). ListsName c.args.bytes.now x) c.in-Some.ensures.some c.requires

pub returns-in-None : goal.returns-in-None
returns-in-None c = both_ok c.add_ref.result _ _ _ c.add_ref.ensures.items c.add_ref.ensures.bad
    (λ grown same. AddsListed-ref c.args.bytes.now
    (record { name = c.args.name.now; target = id_bytes c.args.self.now.id.now; object = None })
    (map ref_of c.args.self.now.items.items) (map ref_of c.add_ref.new.self.items.items)
    (map bad_bytes c.args.self.now.bad.items) (map bad_bytes c.add_ref.new.self.bad.items) c.requires
    c.in-None.ensures.none grown (ap (map bad_bytes) same))
