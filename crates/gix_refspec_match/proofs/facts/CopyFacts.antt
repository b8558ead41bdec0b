-- The words on names that are borrowed or owned, and on copies: which of both kinds they hold of.
use Rattle.gix_refspec_match.proofs.Common.{None, Some, ◌≡◌, ℕ, Option, rules, bstr_bytes, ObjectId, IsBorrowed}
use Rattle.gix_refspec_match.proofs.Common.{IsOwned, IsLent, IsOwnedSource, HasOwned, IsNameCopy, IsSourceCopy}
use Rattle.gix_refspec_match.proofs.Common.{IsDestinationCopy, IsMappingCopy, Mapping, NameRef}
use Rattle.gix_refspec_match.specs.declared.types.NameRef.TheVariants.{Borrowed, Owned}
use Rattle.bstr.specs.Owned.{bstring_bytes}
use Rattle.bstr.specs.declared.bstr.BStr.{BStr}
use Rattle.bstr.specs.declared.bstring.BString.{BString}
use Rattle.gix_refspec_match.specs.declared.types.SourceRef.TheVariants.{FullName, ObjectId as IdSource}

-- a name is either borrowed or owned. A source is so where it is a name, and an id is neither. A mapping that owns a
-- name on
-- either side has owned ones, and one of an id to nothing has none
pub kinds : (b : BStr) (o : BString) → IsBorrowed (Borrowed b) × ¬ (IsBorrowed (Owned o)) × IsOwned (Owned o)
    × ¬ (IsOwned (Borrowed b))
    × ((i : ObjectId) → IsLent (FullName (Borrowed b)) × ¬ (IsLent (FullName (Owned o))) × ¬ (IsLent (IdSource i))
    × IsOwnedSource (FullName (Owned o)) × ¬ (IsOwnedSource (FullName (Borrowed b))) × ¬ (IsOwnedSource (IdSource i)))
    × ((i : ObjectId) (item : Option ℕ) (spec : ℕ)
    → HasOwned (record { item_index = item; lhs = FullName (Owned o); rhs = None; spec_index = spec })
    × HasOwned (record { item_index = item; lhs = IdSource i; rhs = Some (Owned o); spec_index = spec })
    × ¬ (HasOwned
    (record { item_index = item; lhs = FullName (Borrowed b); rhs = Some (Borrowed b); spec_index = spec }))
    × ¬ (HasOwned (record { item_index = item; lhs = IdSource i; rhs = None; spec_index = spec })))
kinds = search rules

-- a copy has the same bytes, and is borrowed where its original is. A copy of an id is that id, no copy of a name is
-- one, and
-- what is missing is copied as missing. A copy of a mapping has all of its fields
pub copies : ((b c : BStr) (o p : BString) → (IsNameCopy (Borrowed b) (Borrowed c) → bstr_bytes c ≡ bstr_bytes b)
    × (IsNameCopy (Owned o) (Owned p) → bstring_bytes p ≡ bstring_bytes o) × ¬ (IsNameCopy (Borrowed b) (Owned o))
    × ¬ (IsNameCopy (Owned o) (Borrowed b)))
    × ((n : NameRef) (i j : ObjectId) → (IsSourceCopy (IdSource i) (IdSource j) → j ≡ i)
    × ¬ (IsSourceCopy (IdSource i) (FullName n)) × ¬ (IsSourceCopy (FullName n) (IdSource i))
    × IsDestinationCopy None None × ¬ (IsDestinationCopy None (Some n)) × ¬ (IsDestinationCopy (Some n) None))
    × ((m copy : Mapping) → IsMappingCopy m copy → (copy.item_index ≡ m.item_index) × IsSourceCopy m.lhs copy.lhs
    × IsDestinationCopy m.rhs copy.rhs × (copy.spec_index ≡ m.spec_index))
copies = search rules
