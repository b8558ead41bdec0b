-- Two specs of which one may write a directory of what the other writes. Only private functions use these definitions.
use Rattle.std.specs.Prelude.{◌≡◌, ◌⊎◌, ◌<◌, ℕ, Bool, false, List, [], ◌∷◌, ◌++◌, length, Option, None, Some}
use Rattle.std.specs.List.{slice_get}
use Rattle.gix_refspec_lint.specs.declared.group.Group.{Group}
use Rattle.gix_refspec_lint.specs.declared.nestings.Two.{Two}
use Rattle.gix_refspec_lint.specs.declared.words.Common.{Common}
use Rattle.gix_refspec_text.specs.Texts.Bytes.{slash}
use Rattle.gix_refspec_text.specs.Texts.Name.{IsSplit}
use Rattle.gix_refspec_text.specs.Texts.Words.{Lacks}
use Rattle.gix_refspec_text.specs.Specs.Reading.{Reading}
use Rattle.gix_refspec_text.specs.Matching.Match.{Ref}
use Rattle.gix_refspec_text.specs.Matching.Side.{Fits}
use Rattle.gix_refspec_match.specs.Matching.Mappings.{Source, name, id}
use Rattle.gix_refspec_lint.specs.Matching.Lint.{Fetches, IsNestingOf, Nesting, NestingOver, refs_of}
use Rattle.gix_refspec_lint.specs.Private.Lints.{AreCommon, HasPattern}

-- both indexes are of specs of the group
abbrev pub AreWithin : Two → Type 0
AreWithin two = (two.upper < length two.group.now.specs.now) × (two.lower < length two.group.now.specs.now)

-- the specs marked with false fetch nothing, whatever refs there are
abbrev pub TellWork : List Reading → List Bool → Type 0
TellWork g works = (k : ℕ) → slice_get works k ≡ Some false
    → (refs : List Ref) (s : Source) (d : Option (List ℕ)) → ¬ (Fetches g refs k s d)

-- the spec at index i doesn't write d where that at index j writes e, over the refs of two sources
abbrev pub NoneNested : List Reading → ℕ → ℕ → List ℕ → List ℕ → Type 0
NoneNested g i j d e = (s t : Source) → ¬ (NestingOver g (refs_of s ++ refs_of t) i j s t d e)

-- an example, or there is none at destinations of which P holds
abbrev pub IsFoundIf : List Reading → ℕ → ℕ → (List ℕ → List ℕ → Type 0) → Option Nesting → Type 0
IsFoundIf g i j P None = (d e : List ℕ) → P d e → NoneNested g i j d e
IsFoundIf g i j P (Some n) = IsNestingOf g i j n

-- or there is none at all
abbrev pub IsNestingFound : List Reading → ℕ → ℕ → Option Nesting → Type 0
IsNestingFound g i j found = IsFoundIf g i j (λ d e. Unit {0}) found

-- the same both ways
abbrev pub IsFoundEither : List Reading → ℕ → ℕ → Option Nesting → Type 0
IsFoundEither g i j None = (d e : List ℕ) → NoneNested g i j d e × NoneNested g j i d e
IsFoundEither g i j (Some n) = IsNestingOf g i j n ⊎ IsNestingOf g j i n

-- the side is a pattern that ends with its star
abbrev pub IsOpen : Option (List ℕ) → Type 0
IsOpen side = (x : List ℕ) × (before : List ℕ) × (side ≡ Some x) × IsSplit before [] x

-- both readings have the same sides, two such patterns
pub record HaveOpenSides (one other : Reading) : Type 0 where
  pub source : one.source ≡ other.source
  pub destination : one.destination ≡ other.destination
  pub from : IsOpen other.source
  pub to : IsOpen other.destination

-- the source isn't a name with the byte
abbrev pub IsWithout : ℕ → Source → Type 0
IsWithout z (name n) = Lacks z n
IsWithout z (id bytes) = Unit {0}

-- nor is any from which the spec at index i fetches to d
abbrev pub SourcesLack : List Reading → ℕ → ℕ → List ℕ → Type 0
SourcesLack g z i d = (refs : List Ref) (s : Source) → Fetches g refs i s (Some d) → IsWithout z s

-- the slash after d is in the word of e, by the texts around the star
abbrev pub IsInWord : List ℕ → List ℕ → List ℕ → List ℕ → Type 0
IsInWord before after d e = (u : List ℕ) × (v : List ℕ) × (d ≡ before ++ u) × (e ≡ d ++ (slash ∷ (v ++ after)))

-- it is in the text after the star
abbrev pub IsAfter : List ℕ → List ℕ → List ℕ → List ℕ → Type 0
IsAfter before after d e =
    (u : List ℕ) × (p : List ℕ) × (q : List ℕ) × (after ≡ p ++ (slash ∷ q)) × (d ≡ before ++ (u ++ p))
    × (e ≡ d ++ (slash ∷ q))

-- the upper pattern has these texts in common with the lower one up to the slash, which the rest follows
pub record HaveFollowed (group : Group) (i j : ℕ) (common : Common) (rest : List ℕ) : Type 0 where
  pub before : List ℕ
  pub after : List ℕ
  pub prefix : List ℕ
  pub suffix : List ℕ
  pub one : HasPattern group i before after
  pub other : HasPattern group j prefix suffix
  pub end : List ℕ
  pub more : List ℕ
  pub shared : AreCommon before after prefix end common
  pub whole : end ++ rest ≡ more ++ suffix
  pub behind : (q : List ℕ) × (rest ≡ slash ∷ q)

-- the rest follows d, which the lower pattern begins with up to there
abbrev pub IsFollowed : List ℕ → List ℕ → List ℕ → List ℕ → List ℕ → Type 0
IsFollowed prefix end rest d e = (u : List ℕ) × Fits prefix end d u × (e ≡ d ++ rest)
