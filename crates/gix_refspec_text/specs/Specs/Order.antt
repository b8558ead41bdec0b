-- How instructions compare: this project's own order, which is that of the declarations. Pushes come before fetches;
-- within each, variants in order; then the fields in order, bytes lexicographically and false before true.
use Rattle.std.specs.Prelude.{ℕ, Bool, true, false, List, [], ◌∷◌, ◌++◌, Option, None, Some, nat_eq, pos}
use Rattle.std.specs.declared.cmp.Ordering.{Ordering}
use Rattle.std.specs.Ordering.{nat_cmp}
use Rattle.std.specs.Hash as fed
use Rattle.std.specs.Hash.{HashWrites}
use Rattle.std.specs.Cmp.Lexicographic.{pointwise, slice_cmp}
use Rattle.gix_refspec_text.specs.declared.parsing.Operation.{Operation}
use Rattle.gix_refspec_text.specs.declared.parsing.Operation.TheVariants.{Push, Fetch}
use Rattle.gix_refspec_text.specs.Specs.Meaning.{Meaning, push_all_matching, push_delete, push_matching, push_exclude}
use Rattle.gix_refspec_text.specs.Specs.Meaning.{fetch_only, fetch_exclude, fetch_and_update}

-- push before fetch
abbrev pub rank_of : Operation → ℕ
rank_of Push = 0
rank_of Fetch = 1

-- false before true
abbrev pub flag : Bool → List ℕ
flag false = 0 ∷ []
flag true = 1 ∷ []

-- the number of the variant, and then the fields
abbrev pub key_of : Meaning → List (List ℕ)
key_of (push_all_matching forced) = (0 ∷ []) ∷ flag forced ∷ []
key_of (push_delete d) = (1 ∷ []) ∷ d ∷ []
key_of (push_matching s d forced) = (2 ∷ []) ∷ s ∷ d ∷ flag forced ∷ []
key_of (push_exclude s) = (3 ∷ []) ∷ s ∷ []
key_of (fetch_only s) = (4 ∷ []) ∷ s ∷ []
key_of (fetch_exclude s) = (5 ∷ []) ∷ s ∷ []
key_of (fetch_and_update s d forced) = (6 ∷ []) ∷ s ∷ d ∷ flag forced ∷ []

-- whether two instructions are the same
abbrev pub is_same : Meaning → Meaning → Bool
is_same a b = pointwise (pointwise nat_eq) (key_of a) (key_of b)

-- how two instructions compare
abbrev pub order : Meaning → Meaning → Ordering
order a b = slice_cmp (slice_cmp nat_cmp) (key_of a) (key_of b)

-- the key of the meaning of a reading
abbrev pub keys : Option Meaning → List (List ℕ)
keys None = []
keys (Some m) = key_of m

-- what hashing an instruction writes: the operation, the variant, and then the fields
abbrev pub writes_of : Meaning → HashWrites
writes_of (push_all_matching forced) = fed.isize (pos 0) ++ (fed.isize (pos 0) ++ fed.bool forced)
writes_of (push_delete d) = fed.isize (pos 0) ++ (fed.isize (pos 1) ++ fed.slice fed.u8 d)
writes_of (push_matching s d forced) =
    fed.isize (pos 0) ++ (fed.isize (pos 2) ++ (fed.slice fed.u8 s ++ (fed.slice fed.u8 d ++ fed.bool forced)))
writes_of (push_exclude s) = fed.isize (pos 0) ++ (fed.isize (pos 3) ++ fed.slice fed.u8 s)
writes_of (fetch_only s) = fed.isize (pos 1) ++ (fed.isize (pos 0) ++ fed.slice fed.u8 s)
writes_of (fetch_exclude s) = fed.isize (pos 1) ++ (fed.isize (pos 1) ++ fed.slice fed.u8 s)
writes_of (fetch_and_update s d forced) =
    fed.isize (pos 1) ++ (fed.isize (pos 2) ++ (fed.slice fed.u8 s ++ (fed.slice fed.u8 d ++ fed.bool forced)))

-- what hashing the meaning of a reading writes
abbrev pub writes : Option Meaning → HashWrites
writes None = []
writes (Some m) = writes_of m
