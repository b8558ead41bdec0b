-- The words on order and hash at pairs of instructions that differ in one field.
use Rattle.gix_refspec_match.proofs.Common.{[], ◌∷◌, None, Some, codes, refl, ◌≡◌, ℕ, true, false, ◌++◌, Option, Less}
use Rattle.gix_refspec_match.proofs.Common.{Equal, Greater, slice_cmp, pos, nat_cmp, source_writes, pair_writes, name}
use Rattle.gix_refspec_match.proofs.Common.{id, map}
use Rattle.gix_refspec_text.specs.Specs.Meaning.{Meaning, push_all_matching, push_delete, push_matching, push_exclude}
use Rattle.gix_refspec_text.specs.Specs.Meaning.{fetch_only, fetch_exclude, fetch_and_update}
use Rattle.gix_refspec_text.specs.Specs.Order.{rank_of, keys, order, is_same, writes}
use Rattle.gix_refspec_text.specs.declared.parsing.Operation.TheVariants.{Push, Fetch}
use Rattle.std.specs.Hash.{HashWrites, isize, bool, slice, u8}

-- push is before fetch, and each is at one place. What has no meaning is before what has one, and the keys of meanings
-- compare as these do
pub ranks_and_keys : (nat_cmp (rank_of Push) (rank_of Fetch) ∷ nat_cmp (rank_of Fetch) (rank_of Push) ∷ nat_cmp
    (rank_of Fetch) (rank_of Fetch) ∷ [] ≡ Less ∷ Greater ∷ Equal ∷ [])
    × (slice_cmp (slice_cmp nat_cmp) (keys None) (keys (Some (push_all_matching false))) ≡ Less)
    × (map (λ m. slice_cmp (slice_cmp nat_cmp) (keys (Some (fetch_only (codes "a")))) (keys m))
    (Some (push_delete (codes "z")) ∷ Some (fetch_only (codes "a")) ∷ []) ≡ Greater ∷ Equal ∷ [])
ranks_and_keys = (refl, refl, refl)

-- of two instructions of one kind, each field decides where those before it are equal
pub other_fields_rise : map (λ (p : Meaning × Meaning). order p.0 p.1)
    ((push_all_matching false, push_all_matching true) ∷ (push_delete (codes "a"), push_delete (codes "b"))
    ∷ (push_exclude (codes "a"), push_exclude (codes "b")) ∷ (fetch_exclude (codes "a"), fetch_exclude (codes "b"))
    ∷ (fetch_and_update (codes "a") (codes "z") true, fetch_and_update (codes "b") (codes "a") false)
    ∷ (fetch_and_update (codes "a") (codes "a") true, fetch_and_update (codes "a") (codes "b") false)
    ∷ (fetch_and_update (codes "a") (codes "b") true, fetch_and_update (codes "a") (codes "b") false) ∷ [])
    ≡ Less ∷ Less ∷ Less ∷ Less ∷ Less ∷ Less ∷ Greater ∷ []
other_fields_rise = refl

-- instructions differ by any of their fields, and the last pair doesn't
pub fields_differ : map (λ (p : Meaning × Meaning). is_same p.0 p.1)
    ((push_all_matching true, push_all_matching false) ∷ (push_delete (codes "a"), push_delete (codes "b"))
    ∷ (push_matching (codes "a") (codes "b") true, push_matching (codes "c") (codes "b") true)
    ∷ (push_matching (codes "a") (codes "b") true, push_matching (codes "a") (codes "c") true)
    ∷ (push_matching (codes "a") (codes "b") true, push_matching (codes "a") (codes "b") false)
    ∷ (push_exclude (codes "a"), push_exclude (codes "aa"))
    ∷ (fetch_only (codes "a"), fetch_only (codes "A")) ∷ (fetch_exclude (codes "a"), fetch_exclude [])
    ∷ (fetch_and_update (codes "a") (codes "b") true, fetch_and_update (codes "a") (codes "b") false)
    ∷ (fetch_and_update (codes "a") (codes "b") true, fetch_and_update (codes "b") (codes "a") true)
    ∷ (fetch_and_update (codes "a") (codes "b") true, fetch_and_update (codes "a") (codes "b") true) ∷ [])
    ≡ false ∷ false ∷ false ∷ false ∷ false ∷ false ∷ false ∷ false ∷ false ∷ false ∷ true ∷ []
fields_differ = refl

-- the place of an operation and of a kind in their declarations, as derived code feeds them
abbrev kind : ℕ → ℕ → HashWrites
kind operation place = isize (pos operation) ++ isize (pos place)

-- a hasher is fed the operation, the kind, each field with its length, and the sign last, and nothing without a meaning
pub hashed : (writes None ≡ []) × (writes (Some (push_all_matching true)) ≡ kind 0 0 ++ bool true)
    × (writes (Some (push_delete (codes "a"))) ≡ kind 0 1 ++ slice u8 (codes "a"))
    × (writes (Some (push_matching (codes "a") (codes "b") false)) ≡ kind 0 2 ++ slice u8 (codes "a") ++ slice u8
    (codes "b") ++ bool false)
    × (map (λ m. writes (Some m)) (push_exclude (codes "a") ∷ fetch_only (codes "a") ∷ fetch_exclude (codes "a") ∷ [])
    ≡ map (λ k. k ++ slice u8 (codes "a")) (kind 0 3 ∷ kind 1 0 ∷ kind 1 1 ∷ []))
    × (writes (Some (fetch_and_update (codes "a") (codes "b") true)) ≡ kind 1 2 ++ slice u8 (codes "a") ++ slice u8
    (codes "b") ++ bool true)
hashed = (refl, refl, refl, refl, refl, refl)

-- of a source its kind and its bytes, those of a name in one write. Of a mapping its source and its destination, and
-- not the places of its item and its spec
pub mappings_hashed : (source_writes (name (codes "a")) ≡ isize (pos 0) ++ (codes "a" ∷ []))
    × (source_writes (id (codes "a")) ≡ isize (pos 1) ++ slice u8 (codes "a"))
    × ((item : Option ℕ) (spec : ℕ)
    → (pair_writes (record { item = item; source = name (codes "a"); destination = None; spec = spec })
    ≡ source_writes (name (codes "a")) ++ isize (pos 0))
    × (pair_writes (record { item = item; source = name (codes "a"); destination = Some (codes "b"); spec = spec })
    ≡ source_writes (name (codes "a")) ++ (isize (pos 1) ++ (codes "b" ∷ []))))
mappings_hashed = (refl, refl, λ item spec. (refl, refl))
