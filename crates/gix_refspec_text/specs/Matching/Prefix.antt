-- The ref prefixes that a client sends to a server for a refspec, by gitprotocol-v2(5) under `ls-refs`, and for
-- a partial name the names of gitrevisions(7). It is this project's own rule for a pattern that doesn't begin with
-- `refs/`, that has its star directly after `refs/`, or that contains a `]`.
use Rattle.std.specs.Prelude.{◌≡◌, ◌≢◌, ◌⊎◌, ℕ, List, [], ◌∷◌, ◌++◌, Some, codes}
use Rattle.gix_refspec_text.specs.Texts.Words.{Lacks, ContainsText, BeginsWith}
use Rattle.gix_refspec_text.specs.Texts.Name.{IsSplit}
use Rattle.gix_refspec_text.specs.Texts.Bytes.{star, slash, head, bracket}
use Rattle.gix_refspec_text.specs.Specs.Grammar.{IsPositive}
use Rattle.gix_refspec_text.specs.Matching.Side.{IsId, candidates}
use Rattle.gix_refspec_text.specs.Specs.Reading.{Reading, remote_of}

-- a pattern with this text before and after its star has a prefix: before begins with `refs/` and is longer, and
-- neither contains a `]`
pub record IsRefPrefix (before after : List ℕ) : Type 0 where
  pub below : BeginsWith (codes "refs/") before
  pub further : before ≢ codes "refs/"
  pub first : Lacks bracket before
  pub last : Lacks bracket after

-- p is the ref prefix of the side x
pub data IsPrefix (x p : List ℕ) : Type 0 where
  -- `HEAD` is its own prefix
  of_head : x ≡ head → p ≡ x → IsPrefix x p
  -- so is a side that begins with `refs/` and has no star
  of_name : BeginsWith (codes "refs/") x → Lacks star x → p ≡ x → IsPrefix x p
  -- the prefix of a pattern is the text before its star
  of_pattern : (before after : List ℕ) → IsSplit before after x → IsRefPrefix before after → p ≡ before → IsPrefix x p

-- the side has no prefix
abbrev pub HasNoPrefix : List ℕ → Type 0
HasNoPrefix x = (p : List ℕ) → ¬ (IsPrefix x p)

-- list is the expansion of the side x
pub data Expands (x : List ℕ) (list : List (List ℕ)) : Type 0 where
  -- its prefix alone
  to_prefix : (p : List ℕ) → IsPrefix x p → list ≡ p ∷ [] → Expands x list
  -- without one, the side itself if no further slash follows `refs/`
  to_itself : (rest : List ℕ) → HasNoPrefix x → x ≡ codes "refs/" ++ rest → Lacks slash rest → list ≡ x ∷ []
      → Expands x list
  -- nothing if a further slash follows `refs/`
  below_refs : (rest : List ℕ) → HasNoPrefix x → x ≡ codes "refs/" ++ rest → ContainsText (codes "/") rest → list ≡ []
      → Expands x list
  -- nothing for an object id
  of_object : HasNoPrefix x → ¬ (BeginsWith (codes "refs/") x) → IsId x → list ≡ [] → Expands x list
  -- otherwise its candidates, with the star in them if it has one
  to_candidates : HasNoPrefix x → ¬ (BeginsWith (codes "refs/") x) → ¬ (IsId x) → list ≡ candidates x → Expands x list

-- x is the side on the remote of a positive reading
pub record IsAsked (r : Reading) (x : List ℕ) : Type 0 where
  pub positive : IsPositive r.mode
  pub side : remote_of r ≡ Some x

-- p is the ref prefix of a positive reading: that of its side on the remote
abbrev pub HasPrefix : Reading → List ℕ → Type 0
HasPrefix r p = (x : List ℕ) × IsAsked r x × IsPrefix x p

-- the expansion of a reading: that of its side on the remote, or empty if it has none or is negative
abbrev pub IsExpansion : Reading → List (List ℕ) → Type 0
IsExpansion r list = ((x : List ℕ) × IsAsked r x × Expands x list) ⊎ (((x : List ℕ) → ¬ (IsAsked r x)) × (list ≡ []))

-- new is old with the expansion of the reading appended
pub record AppendsExpansion (r : Reading) (old new : List (List ℕ)) : Type 0 where
  pub list : List (List ℕ)
  pub is : IsExpansion r list
  pub appended : new ≡ old ++ list
