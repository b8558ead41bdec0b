-- The refs that arguments name: what Git is asked for, and where a name would be.
use Rattle.std.proofs.Common.{◌≡◌, ◌++◌, ℕ, zero, suc, true, false, List, None, [], ◌∷◌, arith, ap, codes, inl, inr}
use Rattle.std.proofs.Common.{length, refl}
use Rattle.std.proofs.lemmas.Bool.Decides.{Decides-eqb}
use Rattle.std.proofs.lemmas.Slice.Eq.{strip_prefix_is}
use Rattle.std.specs.List.{Contains}
use Rattle.gix_refspec_text.specs.Texts.Words.{BeginsWith}
use Rattle.refspec_git.specs.declared.named.NamedRef.{NamedRef}
use Rattle.refspec_git.specs.declared.refs.Meaning.{Meaning}
use Rattle.refspec_git.specs.declared.refs.Meaning.TheVariants as meaning
use Rattle.refspec_git.specs.Named.{AreNew, IsBelow, IsFolder, asked_lines, listed_for, name_in, needs_name}

-- an argument for which Git printed nothing
abbrev pub named : List ℕ → Meaning → NamedRef
named a m = record { argument = record { ref_ptr = (0, 0); now = a }; meaning = m; printed = None }

-- a partial name may mean five refs, a full one itself
pub listed : (listed_for (named (codes "main") meaning.Short)
    ≡ codes "refs/main" ∷ codes "refs/tags/main" ∷ codes "refs/heads/main" ∷ codes "refs/remotes/main"
    ∷ codes "refs/remotes/main/HEAD" ∷ [])
    × (listed_for (named (codes "refs/notes/a") meaning.Full) ≡ codes "refs/notes/a" ∷ [])
    × (listed_for (named (codes "HEAD") meaning.Expression) ≡ [])
listed = (refl, refl, refl)

-- Git resolves expressions alone
pub resolved : (needs_name (named (codes "HEAD") meaning.Expression) ≡ true)
    × (needs_name (named (codes "main") meaning.Short) ≡ false)
resolved = (refl, refl)

-- where nothing is named, nothing is asked
pub idle : asked_lines [] None ≡ []
idle = refl

-- without an output there is no name
pub unnamed : name_in None ≡ []
unnamed = refl

no_text : (x : List ℕ) → ¬ (Contains [] x)
no_text x (k, below, at) = omega (arith, below)

other_text : ¬ (Contains (codes "a" ∷ []) (codes "bb"))
other_text (zero, below, at) = omega (arith, ap length at)
other_text (suc k, below, at) = omega (arith, below)

same_text : Contains (codes "a" ∷ codes "bb" ∷ []) (codes "a")
same_text = (0, omega arith, refl)

not_twice : ¬ (AreNew [] (codes "a" ∷ codes "a" ∷ []) (codes "a" ∷ codes "a" ∷ []))
not_twice (inl (has, are)) = no_text (codes "a") has
not_twice (inr (none, rest, inl (has, are), is)) = omega (arith, ap length is, ap length are)
not_twice (inr (none, rest, inr (other, more, are, same), is)) = other (0, omega arith, refl)

-- each name once, where it is first
pub once : AreNew [] (codes "a" ∷ codes "bb" ∷ codes "a" ∷ []) (codes "a" ∷ codes "bb" ∷ [])
    × ¬ (AreNew [] (codes "a" ∷ codes "a" ∷ []) (codes "a" ∷ codes "a" ∷ []))
once = (
  inr (no_text (codes "a"), codes "bb" ∷ [], inr (other_text, [], inl (same_text, refl), refl), refl),
  not_twice,
)

-- a text doesn't begin with another
apart : (start text : List ℕ) → ((rest : List ℕ) → ¬ (text ≡ start ++ rest)) → ¬ (BeginsWith start text)
apart start text none begins = none begins.after begins.here

not_below : ¬ (IsBelow (codes "tag/v1"))
not_below (inl is) =
    apart (codes "heads/") (codes "tag/v1")
    (strip_prefix_is Decides-eqb (codes "tag/v1") (codes "heads/") None refl) is
not_below (inr (inl is)) =
    apart (codes "tags/") (codes "tag/v1") (strip_prefix_is Decides-eqb (codes "tag/v1") (codes "tags/") None refl) is
not_below (inr (inr is)) =
    apart (codes "remotes/") (codes "tag/v1")
    (strip_prefix_is Decides-eqb (codes "tag/v1") (codes "remotes/") None refl) is

-- without remotes, a new name is that of a branch, unless it begins with a folder
pub folders : IsFolder [] (codes "tags/v1") (codes "refs/") × IsFolder [] (codes "tag/v1") (codes "refs/heads/")
folders = (
  inl (inr (inl (record { after = codes "v1"; here = refl })), refl),
  inr (inr (not_below, (λ k d below. absurd (omega (arith, below))), refl)),
)
