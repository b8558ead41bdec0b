-- How the arguments of `git refspec track` name refs, by gitrevisions(7), and the refs that `git for-each-ref` lists.
use Rattle.std.specs.Prelude.{◌≡◌, ◌≢◌, ◌⊎◌, ℕ, List, [], ◌∷◌, ◌++◌, MatchOption, Option, codes}
use Rattle.std.specs.BTreeMap.{BTreeMap, get_by}
use Rattle.std.specs.Borrow.{Bor}
use Rattle.std.specs.Cmp.Lexicographic.{slice_cmp}
use Rattle.std.specs.List.{Any}
use Rattle.std.specs.Ordering.{nat_cmp}
use Rattle.gix_refspec_text.specs.Texts.Name.{IsName}
use Rattle.gix_refspec_text.specs.Texts.Words.{BeginsWith, ContainsText, Lacks}
use Rattle.refspec_io.specs.Input.{AreRecords}
use Rattle.refspec_git.specs.declared.refs.Meaning.{Meaning}
use Rattle.refspec_git.specs.declared.refs.Meaning.TheVariants as meaning

-- an argument with `@{`, as `main@{upstream}`; none that begins as options do, or has several lines
pub record IsSuffixed (a : List ℕ) : Type 0 where
  pub suffix : ContainsText (codes "@{") a
  pub other : ¬ (BeginsWith (codes "-") a)
  pub line : ¬ (ContainsText (codes "\n") a)

-- an argument that Git resolves to a ref
abbrev pub IsExpression : List ℕ → Type 0
IsExpression a = (a ≡ codes "HEAD") ⊎ (a ≡ codes "@") ⊎ IsSuffixed a

-- a ref name that doesn't begin as options do
abbrev pub IsRef : List ℕ → Type 0
IsRef a = IsName a × ¬ (BeginsWith (codes "-") a)

-- how an argument names a ref
abbrev pub IsMeant : List ℕ → Meaning → Type 0
IsMeant a meaning.Expression = IsExpression a
IsMeant a meaning.Bad = ¬ (IsExpression a) × ¬ (IsRef a)
IsMeant a meaning.Full = ¬ (IsExpression a) × IsRef a × BeginsWith (codes "refs/") a
IsMeant a meaning.Short = ¬ (IsExpression a) × IsRef a × ¬ (BeginsWith (codes "refs/") a)

-- a line has a ref with this name: a space follows it, and then the target of a symbolic ref
abbrev pub IsRefLine : List ℕ → List ℕ → List ℕ → Type 0
IsRefLine name target line = Lacks 32 name × (line ≡ name ++ (32 ∷ target))

abbrev pub HasRef : List ℕ → List ℕ → Type 0
HasRef name line = (target : List ℕ) × IsRefLine name target line

-- what refs have at a name: the target of such a line, or nothing if there is none
abbrev pub IsRefAt : List (List ℕ) → List ℕ → Option (Bor (List ℕ)) → Type 0
IsRefAt lines name found =
    MatchOption found (¬ (Any (HasRef name) lines)) (λ target. Any (IsRefLine name target.now) lines)

abbrev pub ref_at : List ℕ → BTreeMap (Bor (List ℕ)) (Bor (List ℕ)) → Option (Bor (List ℕ))
ref_at name refs = get_by (λ k. slice_cmp nat_cmp name k.now) refs

abbrev pub AreRefs : List (List ℕ) → BTreeMap (Bor (List ℕ)) (Bor (List ℕ)) → Type 0
AreRefs lines refs = (name : List ℕ) → IsRefAt lines name (ref_at name refs)

-- the refs that these lines list
abbrev pub AreExisting : List ℕ → BTreeMap (Bor (List ℕ)) (Bor (List ℕ)) → Type 0
AreExisting input refs = (lines : List (List ℕ)) × AreRecords 10 lines input × AreRefs lines refs

-- what is looked up for a name: the target of a symbolic ref, or else the name
abbrev pub IsLookedUp : BTreeMap (Bor (List ℕ)) (Bor (List ℕ)) → List ℕ → List ℕ → Type 0
IsLookedUp refs name ref = MatchOption (ref_at name refs) (ref ≡ name)
    (λ target. ((target.now ≡ []) × (ref ≡ name)) ⊎ ((target.now ≢ []) × (ref ≡ target.now)))
