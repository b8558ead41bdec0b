-- Names are compared by their bytes, specs by their meaning.
use Rattle.gix_refspec.proofs.Common.{MappingWithPartialDestinationRemoved, ◌↔◌, IsTrue, bstring_bytes}
use Rattle.gix_refspec.proofs.Common.{bytes_eq-Decides, Fix, meaning_of, owned_reading_of, IsSameFix, equal_keys, arith}
use Rattle.gix_refspec.specs.contracts.match_group.validate.FixPartialEq.TheImpl.{ghosts}

same_fix : (a b : Fix) → IsTrue (ghosts.eq a b) ↔ IsSameFix a b
same_fix (MappingWithPartialDestinationRemoved n s) (MappingWithPartialDestinationRemoved m t) =
    grind (
      arith,
      bytes_eq-Decides (bstring_bytes n) (bstring_bytes m),
      equal_keys (meaning_of (owned_reading_of s))
          (meaning_of (owned_reading_of t)),
    )

pub returns : Rattle.gix_refspec.proofs.laws.equal_fixes.Goals.returns
returns c = same_fix c.args.a.now c.args.b.now
