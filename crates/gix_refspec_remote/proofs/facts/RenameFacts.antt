-- Examples of what `git remote rename` makes of fetch values, as Git 2.39.5 does.
use Rattle.gix_refspec_remote.proofs.Common.{[], ℕ, List, ◌++◌, ap, codes, length, length-append, refl, arith}
use Rattle.gix_refspec_remote.specs.Rename.{IsRenamed, stored_below}

-- the folder of the remote is renamed
pub folder_renamed : IsRenamed (codes ":refs/remotes/o/b") (codes "o") (codes "n") (codes ":refs/remotes/n/b")
folder_renamed = record { before = []; after = codes "b"; here = refl; first = λ b a is. omega arith; renamed = refl }

-- a ref of its name isn't
pub ref_left : (text : List ℕ) → ¬ (IsRenamed (codes ":refs/remotes/o") (codes "o") (codes "n") text)
ref_left text is = absurd (omega (
  arith,
  ap length is.here,
  length-append is.before (stored_below (codes "o") ++ is.after),
  length-append (stored_below (codes "o")) is.after,
))
