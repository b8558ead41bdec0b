-- Names that come to nothing for one reason, as long as their texts overlap at one distance. Only private functions use
-- these definitions.
use Rattle.std.specs.Prelude.{◌≡◌, ◌≢◌, ◌⊎◌, ◌<◌, ◌≤◌, ◌+◌, ℕ, List, [], ◌++◌, length, Some}
use Rattle.std.specs.List.{slice_get}
use Rattle.gix_refspec_lint.specs.declared.conflicts.Tried.{Tried}
use Rattle.gix_refspec_lint.specs.declared.conflicts.Tried.TheVariants.{Conflict, Nothing}
use Rattle.gix_refspec_lint.specs.declared.runs.Of.{Of}
use Rattle.gix_refspec_lint.specs.declared.runs.Of.TheVariants.{First, Second}
use Rattle.gix_refspec_lint.specs.declared.runs.Run.{Run}
use Rattle.gix_refspec_lint.specs.declared.runs.Why.{Why}
use Rattle.gix_refspec_lint.specs.declared.runs.Why.TheVariants.{Unknown, Unwritable, Invalid, Excluded, Same}
use Rattle.gix_refspec_text.specs.Texts.Words.{EndsWith}
use Rattle.gix_refspec_text.specs.Texts.Name.{IsSplit}
use Rattle.gix_refspec_text.specs.Specs.Reading.{Reading}
use Rattle.gix_refspec_text.specs.Matching.Side.{Fits}
use Rattle.gix_refspec_match.specs.Matching.Mappings.{IsExcludedBy}
use Rattle.gix_refspec.specs.Matching.RefNames.{IsRefName}
use Rattle.gix_refspec_plan.specs.Matching.Plan.{CanBeWritten}
use Rattle.gix_refspec_lint.specs.Matching.Lint.{IsExample}
use Rattle.gix_refspec_lint.specs.Views.Lint.{example_of}
use Rattle.gix_refspec_lint.specs.Private.Idles.{HasSourcePattern}
use Rattle.gix_refspec_lint.specs.Private.Lints.{NoneAt}
use Rattle.gix_refspec_lint.specs.Private.Overlaps.{power}

-- ---- runs

-- the run begins with this overlap
pub record IsFirstOf (shared : ℕ) (reason : Why) (run : Run) : Type 0 where
  pub longest : run.longest ≡ shared
  pub shortest : run.shortest ≡ shared
  pub why : run.why ≡ reason

-- it goes on with it
pub record IsNextOf (old : Run) (shared : ℕ) (reason : Why) (run : Run) : Type 0 where
  pub longest : run.longest ≡ old.longest
  pub shortest : run.shortest ≡ shared
  pub why : run.why ≡ reason
  pub same : reason ≡ old.why
  pub some : 0 < run.step
  pub step : shared + run.step ≡ old.shortest
  pub equal : (old.longest ≡ old.shortest) ⊎ (run.step ≡ old.step)

-- the names of the run have a word once more each, and for all of them the reason holds
pub record IsRun (Holds : Why → List ℕ → Type 0) (prefix suffix : List ℕ) (run : Run) : Type 0 where
  pub front : List ℕ
  pub word : List ℕ
  pub times : ℕ
  pub rest : List ℕ
  pub whole : suffix ≡ front ++ (power word times ++ rest)
  pub some : word ≢ []
  pub shortest : length front ≡ run.shortest
  pub longest : run.shortest + length (power word times) ≡ run.longest
  pub ends : EndsWith front prefix
  pub equal : 0 < times → EndsWith word prefix × (length word ≡ run.step)
  pub holds : (i : ℕ) → i ≤ times → Holds run.why (prefix ++ (power word i ++ rest))

-- ---- why a name comes to nothing

-- the destination of the reading is a pattern with these texts
pub record HasDestinationPattern (r : Reading) (before after : List ℕ) : Type 0 where
  pub text : List ℕ
  pub has : r.destination ≡ Some text
  pub split : IsSplit before after text

-- both sides of the reading are patterns, and n and d are names that they match with the same word
pub record ArePaired (r : Reading) (n d : List ℕ) : Type 0 where
  pub prefix : List ℕ
  pub suffix : List ℕ
  pub before : List ℕ
  pub after : List ℕ
  pub word : List ℕ
  pub source : HasSourcePattern r prefix suffix
  pub destination : HasDestinationPattern r before after
  pub takes : Fits prefix suffix n word
  pub makes : Fits before after d word

-- the spec at this index excludes the name
abbrev pub IsExcludedAt : List Reading → ℕ → List ℕ → Type 0
IsExcludedAt g k n = (r : Reading) × (slice_get g k ≡ Some r) × IsExcludedBy n r

-- why two specs don't conflict at the destination d, by their sources for it
abbrev pub Fails : List Reading → Reading → Reading → Why → List ℕ → Type 0
Fails g one other Unknown d = Unit {0}
Fails g one other Unwritable d = ¬ (CanBeWritten (Some d))
Fails g one other (Invalid First) d = (n : List ℕ) × ArePaired one n d × ¬ (IsRefName n)
Fails g one other (Invalid Second) d = (n : List ℕ) × ArePaired other n d × ¬ (IsRefName n)
Fails g one other (Excluded First k) d = (n : List ℕ) × ArePaired one n d × IsExcludedAt g k n
Fails g one other (Excluded Second k) d = (n : List ℕ) × ArePaired other n d × IsExcludedAt g k n
Fails g one other Same d = (n : List ℕ) × ArePaired one n d × ArePaired other n d

-- why a spec doesn't map the name n soundly
abbrev pub IsUnsound : Reading → Why → List ℕ → Type 0
IsUnsound r Unknown n = Unit {0}
IsUnsound r Unwritable n = (d : List ℕ) × ArePaired r n d × ¬ (CanBeWritten (Some d))
IsUnsound r (Invalid First) n = ¬ (IsRefName n)
IsUnsound r (Invalid Second) n = ⊥
IsUnsound r (Excluded of k) n = ⊥
IsUnsound r Same n = ⊥

-- why a spec doesn't fetch the name n
abbrev pub IsNotFetched : List Reading → Of → List ℕ → Why → Type 0
IsNotFetched g of n Unknown = ⊥
IsNotFetched g of n Unwritable = ⊥
IsNotFetched g of n (Invalid o) = (o ≡ of) × ¬ (IsRefName n)
IsNotFetched g of n (Excluded o k) = (o ≡ of) × IsExcludedAt g k n
IsNotFetched g of n Same = ⊥

-- an example of a conflict of two specs, or there is none at the destination, and why
abbrev pub IsTried : List Reading → Reading → Reading → ℕ → ℕ → List ℕ → Tried → Type 0
IsTried g one other i j d (Conflict c) = IsExample g i j (example_of c)
IsTried g one other i j d (Nothing why) = NoneAt g i j d × Fails g one other why d
