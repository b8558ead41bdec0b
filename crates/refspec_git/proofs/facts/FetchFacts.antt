-- What is asked about a fetch: merged refs, refs here, and given specs.
use Rattle.std.proofs.Common.{◌≡◌, ℕ, true, false, List, None, [], ◌∷◌, arith, ap, codes, inl, inr, length, refl}
use Rattle.gix_refspec_text.specs.declared.parsing.Operation.TheVariants as operation
use Rattle.std.proofs.lemmas.Bool.Decides.{Decides-eqb}
use Rattle.std.proofs.lemmas.Slice.Eq.{strip_suffix_is}
use Rattle.refspec_io.specs.declared.call.Limit.TheVariants as limit
use Rattle.refspec_io.specs.Texts.{at_argument}
use Rattle.refspec_git.specs.Fetch.{AreAmong, IsWhole, given_texts, limit_of, merged_name}

-- without a name the merged ref is `HEAD`, as an empty source is
pub merged : (merged_name [] ≡ codes "HEAD") × (merged_name (codes "main") ≡ codes "main")
merged = (refl, refl)

no_space : (name : List ℕ) → ¬ (IsWhole 0 (codes "refs/heads/main") name)
no_space name is = strip_suffix_is Decides-eqb (codes "refs/heads/main") (32 ∷ []) None refl name is

-- git for-each-ref writes a name, a space and the target of a symbolic ref
pub whole : IsWhole 0 (codes "refs/heads/main ") (codes "refs/heads/main")
    × ((name : List ℕ) → ¬ (IsWhole 0 (codes "refs/heads/main") name))
whole = (refl, no_space)

no_second : ¬ (AreAmong (codes "a" ∷ []) (codes "a" ∷ codes "a" ∷ []))
no_second (inl none) = omega (arith, ap length none)
no_second (inr (rest, none, is)) = omega (arith, ap length none, ap length is)

-- some of the merged refs, in order
pub among : AreAmong (codes "a" ∷ codes "b" ∷ []) (codes "b" ∷ [])
    × ¬ (AreAmong (codes "a" ∷ []) (codes "a" ∷ codes "a" ∷ []))
among = (inl (inr ([], refl, refl)), no_second)

-- all messages are asked for, or twenty of a kind
pub limits : (limit_of true ≡ limit.All) × (limit_of false ≡ limit.Twenty)
limits = (refl, refl)

-- given specs are numbered from 1
pub given : given_texts (codes "a" ∷ codes "b" ∷ [])
    ≡ record { spot = at_argument 1; operation = operation.Fetch; bytes = codes "a" }
    ∷ (record { spot = at_argument 2; operation = operation.Fetch; bytes = codes "b" } ∷ [])
given = refl
