-- The tag is the last ref, or the line is bad.
use Rattle.std.proofs.Common.{ap, map, refl, ◌∙◌, sym}
use Rattle.std.proofs.lemmas.Bool.{false≢true}
use Rattle.gix_refspec.specs.Views.Group.{ref_of}
use Rattle.refspec_io.specs.Refs.{bad_bytes}
use Rattle.refspec_io.proofs.RefLemmas.{AddsListed-elsewhere, AddsListed-peeled}
use Rattle.refspec_io.proofs.ShownLemmas.{both_ok}
use Rattle.refspec_io.proofs.refs.RefList.add_peeled.Goals as goal

pub returns-then-is_last : goal.returns-then-is_last
returns-then-is_last c = AddsListed-peeled c.args.bytes.now c.args.tag.now (map ref_of c.args.self.now.items.items)
    (map ref_of c.args.self.now.items.items) (map bad_bytes c.args.self.now.bad.items)
    (map bad_bytes c.args.self.now.bad.items) c.requires (c.is_last.ensures.0 c.if-is_last.true) refl refl

pub returns : goal.returns
returns c = both_ok c.add_bad.result _ _ _ c.add_bad.ensures.items c.add_bad.ensures.bad
    (λ same grown. AddsListed-elsewhere c.args.bytes.now c.args.tag.now (map ref_of c.args.self.now.items.items)
    (map ref_of c.add_bad.new.self.items.items) (map bad_bytes c.args.self.now.bad.items)
    (map bad_bytes c.add_bad.new.self.bad.items) c.requires
    (λ has. false≢true (sym c.if-is_last.false ∙ c.is_last.ensures.1 has)) (ap (map ref_of) same) grown)
