-- The line of an output, the branch of HEAD, and the path among the arguments.
use Rattle.std.proofs.Common.{◌≡◌, ◌++◌, List, [], ◌∷◌, ap, arith, codes, false, get_or, inl, inr, length, refl, true}
use Rattle.std.proofs.Common.{ℕ}
use Rattle.std.proofs.Common.{sym}
use Rattle.std.proofs.lemmas.Bool.{false≢true}
use Rattle.gix_refspec_text.proofs.readers.Texts.{differ}
use Rattle.gix_refspec_text.specs.Texts.Words.{BeginsWith}
use Rattle.refspec_git.specs.Repository.{IsBranch, IsLine, IsPath}
use Rattle.refspec_git.specs.World.{anything}

no_newline : (other : List ℕ) → ¬ (codes "a" ≡ other ++ (10 ∷ []))
no_newline [] is = differ (codes "a") (10 ∷ []) refl is
no_newline (x ∷ []) is = absurd (omega (arith, ap length is))
no_newline (x ∷ (y ∷ other)) is = absurd (omega (arith, ap length is))

-- a line ends before its newline, or lacks it
pub lines : IsLine (codes "a\n") (codes "a") × IsLine (codes "a") (codes "a")
    × ¬ (IsLine (codes "a\n") (codes "a\n"))
lines = (inl refl, inr (refl, no_newline), kept)
  where
    kept : ¬ (IsLine (codes "a\n") (codes "a\n"))
    kept (inl is) = differ (codes "a\n") (codes "a\n\n") refl is
    kept (inr (same, none)) = none (codes "a") refl

no_branch : ¬ (BeginsWith (codes "refs/heads/") (codes "refs/tags/a"))
no_branch begins = absurd (omega (arith, ap (λ (l : List ℕ). get_or l 5 0) begins.here))

-- a branch is named below its folder, and a tag is none
pub branches : IsBranch (codes "refs/heads/a") (codes "a") × IsBranch (codes "refs/tags/a") []
    × ¬ (IsBranch (codes "refs/heads/a") (codes "refs/heads/a"))
branches = (inl refl, inr (no_branch, refl), whole)
  where
    whole : ¬ (IsBranch (codes "refs/heads/a") (codes "refs/heads/a"))
    whole (inl is) = differ (codes "refs/heads/a") (codes "refs/heads/refs/heads/a") refl is
    whole (inr (none, same)) = differ (codes "refs/heads/a") [] refl same

-- an empty argument is no path, whatever exists, nor is a missing one
pub paths : IsPath anything ([] ∷ []) false × IsPath anything [] false × ¬ (IsPath anything ([] ∷ []) true)
paths = (inr (inl refl, refl), refl, none)
  where
    none : ¬ (IsPath anything ([] ∷ []) true)
    none (inl (full, text, is)) = full refl
    none (inr (empty, is)) = absurd (false≢true (sym is))
