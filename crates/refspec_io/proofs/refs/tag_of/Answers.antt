-- The name is the tag and the suffix.
use Rattle.std.proofs.Common.{◌≡◌, ◌≢◌, ◌++◌, ℕ, List, Bor, Option, None, Some, IfSome, MatchOption, codes}
use Rattle.std.proofs.lemmas.Bool.Decides.{Decides-eqb}
use Rattle.std.proofs.lemmas.Slice.Eq.{strip_suffix_is}
use Rattle.refspec_io.proofs.refs.tag_of.Goals as goal

some_of : (r : Option (Bor (List ℕ))) (P : Type 0) (Q : Bor (List ℕ) → Type 0) → MatchOption r P Q → IfSome r Q
some_of None P Q is = tt
some_of (Some x) P Q is = is

pub returns-clause-some : goal.returns-clause-some
returns-clause-some c =
    let name = c.args.name.now in
    let end = codes "^{}" in
    some_of c.strip_suffix.result ((front : List ℕ) → name ≢ front ++ end) (λ tag. name ≡ tag.now ++ end)
    (strip_suffix_is Decides-eqb name end c.strip_suffix.result c.strip_suffix.ensures.cases)
