-- How arguments of `git refspec track` name refs, and the lines of refs.
use Rattle.std.proofs.Common.{[], codes, inl, inr, refl}
use Rattle.gix_refspec_text.proofs.readers.Texts.{Lacks-tested, begins, begins_not, contains, holds_not}
use Rattle.refspec_git.specs.Refs.{IsExpression, IsRef, IsRefLine, IsSuffixed}

-- `HEAD`, `@`, and a name with a suffix are expressions
pub expressions : IsExpression (codes "HEAD") × IsExpression (codes "@") × IsExpression (codes "main@{u}")
expressions = (
  inl refl,
  inr (inl refl),
  inr (inr (record {
    suffix = contains (codes "@{") (codes "main@{u}") refl;
    other = begins_not (codes "-") (codes "main@{u}") refl;
    line = holds_not (codes "\n") (codes "main@{u}") refl;
  })),
)

-- what looks like an option is neither an expression nor a ref
pub options : ¬ (IsSuffixed (codes "-x@{u}")) × ¬ (IsRef (codes "-x"))
options = (
  (λ is. is.other (begins (codes "-") (codes "-x@{u}") refl)),
  λ is. is.1 (begins (codes "-") (codes "-x") refl),
)

-- a space follows the name of a ref, and then the target if it is symbolic
pub lines : IsRefLine (codes "refs/heads/a") [] (codes "refs/heads/a ")
    × IsRefLine (codes "HEAD") (codes "refs/heads/a") (codes "HEAD refs/heads/a")
lines = ((Lacks-tested 32 (codes "refs/heads/a") refl, refl), (Lacks-tested 32 (codes "HEAD") refl, refl))
