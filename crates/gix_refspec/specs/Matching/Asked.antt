-- The ref prefixes that a client sends to a server, by gitprotocol-v2(5) under `ls-refs`, so that it lists each ref
-- that a group of fetches maps. Unlike in an expansion, `HEAD` has its six candidates, and a pattern has no list if its
-- star is outside `refs/`, directly after `refs/`, or after a `]`.
use Rattle.std.specs.Prelude.{◌≡◌, ◌≢◌, ◌⊎◌, ◌≤◌, ◌+◌, ℕ, List, [], ◌∷◌, ◌++◌, codes, length, map}
use Rattle.std.specs.List.{AllByRecursion, Any}
use Rattle.bstr.specs.Owned.{bstring_bytes}
use Rattle.gix_refspec_text.specs.declared.parsing.Operation.TheVariants.{Fetch}
use Rattle.gix_refspec_text.specs.Texts.Words.{BeginsWith}
use Rattle.gix_refspec_text.specs.Specs.Reading.{Reading, Negative}
use Rattle.gix_refspec_text.specs.Matching.Side.{SideKind, pattern, full_name, object, partial, HasKind, candidates}
use Rattle.gix_refspec_text.specs.Matching.Prefix.{IsRefPrefix, IsAsked}
use Rattle.gix_refspec_text.specs.Matching.Match.{Ref}
use Rattle.gix_refspec_match.specs.Matching.Lists.{IsJoinedFrom}
use Rattle.gix_refspec_match.specs.Matching.Mappings.{name, Mapped}
use Rattle.gix_refspec_match.specs.Matching.Redundant.{AreNeeded}
use Rattle.gix_refspec_match.specs.Matching.Hits.{AreKeptForward}
use Rattle.gix_refspec.specs.declared.match_group.prefixes.RefPrefixes.{RefPrefixes}
use Rattle.gix_refspec.specs.declared.match_group.prefixes.RefPrefixes.TheVariants.{Nothing, Listed, All}

-- the list for a side of the kind: the prefix of a pattern, if that is a ref prefix whatever follows; a full name;
-- nothing for an id; the candidates of a partial name
abbrev pub ListsAs : SideKind → List (List ℕ) → Type 0
ListsAs (pattern before after) list = IsRefPrefix before [] × (list ≡ before ∷ [])
ListsAs (full_name n) list = list ≡ n ∷ []
ListsAs (object id) list = list ≡ []
ListsAs (partial n) list = list ≡ candidates n

-- the list for a side
pub record ListsSide (x : List ℕ) (list : List (List ℕ)) : Type 0 where
  pub kind : SideKind
  pub of : HasKind x kind
  pub is : ListsAs kind list

-- the list for a reading: an empty one if it is negative, otherwise that for its side on the remote
abbrev pub Lists : Reading → List (List ℕ) → Type 0
Lists r list = ((r.mode ≡ Negative) × (list ≡ [])) ⊎ ((x : List ℕ) × IsAsked r x × ListsSide x list)

-- the lists for all readings of the group, one after the other
abbrev pub ListsGroup : List Reading → List (List ℕ) → Type 0
ListsGroup g list = IsJoinedFrom (λ k r names. Lists r names) 0 g list

-- some reading of the group has no list
abbrev pub HasNoList : List Reading → Type 0
HasNoList g = Any (λ r. (list : List (List ℕ)) → ¬ (Lists r list)) g

-- the ref prefixes to send for a group beside some others: of those and of the lists for its readings, the ones that
-- don't begin with another one
abbrev pub ListsBeside : List (List ℕ) → List Reading → List (List ℕ) → Type 0
ListsBeside others g list = (whole : List (List ℕ)) × ListsGroup g whole × AreNeeded (others ++ whole) list

-- a server heeds so many ref prefixes, and each fits into a packet line, of 65,516 bytes, behind its keyword
pub record CanBeSent (list : List (List ℕ)) : Type 0 where
  pub few : length list ≤ 65535
  pub short : AllByRecursion (λ p. length (codes "ref-prefix ") + length p ≤ 65516) list

-- what to request for a group beside some ref prefixes: nothing if none are to be sent; those, if they can be sent; and
-- otherwise, or if some reading has no list, all refs
abbrev pub RequestsBeside : List (List ℕ) → List Reading → RefPrefixes → Type 0
RequestsBeside others g Nothing = ListsBeside others g []
RequestsBeside others g (Listed list) =
    ListsBeside others g (map bstring_bytes list.items) × (list.items ≢ []) × CanBeSent (map bstring_bytes list.items)
RequestsBeside others g All =
    HasNoList g ⊎ ((list : List (List ℕ)) × ListsBeside others g list × ¬ (CanBeSent list))

-- what to request for a group alone
abbrev pub Requests : List Reading → RefPrefixes → Type 0
Requests g asked = RequestsBeside [] g asked

-- P holds of the ref prefixes to send, unless all refs are requested
abbrev pub IfNotAll : RefPrefixes → (List (List ℕ) → Type 0) → Type 0
IfNotAll Nothing P = P []
IfNotAll (Listed list) P = P (map bstring_bytes list.items)
IfNotAll All P = Unit {0}

-- each name that a group of fetches maps from left to right, over any items, begins with an entry of the list
abbrev pub Serves : List (List ℕ) → List Reading → Type 0
Serves list g =
    AllByRecursion (λ r. r.operation ≡ Fetch) g → (items : List Ref) (kept : List Mapped) → AreKeptForward g items kept
    → AllByRecursion (λ m. (n : List ℕ) → m.source ≡ name n → Any (λ p. BeginsWith p n) list) kept
