-- What each spec of a fetch does with one ref of a remote, by git-fetch(1) under `<refspec>`, and for partial names by
-- the
-- order of gitrevisions(7). In which order the reasons are given why a ref isn't fetched is this project's own rule.
use Rattle.std.specs.Prelude.{◌≡◌, ◌≢◌, ◌<◌, ℕ, List, [], ◌∷◌, ◌++◌, Option, None, Some, length, take}
use Rattle.std.specs.List.{AllByRecursion, AllZip, slice_get}
use Rattle.gix_refspec_text.specs.Texts.Words.{BeginsWith, EndsWith, Lacks}
use Rattle.gix_refspec_text.specs.Texts.Name.{IsSplit}
use Rattle.gix_refspec_text.specs.Texts.Bytes.{star}
use Rattle.gix_refspec_text.specs.Specs.Reading.{Reading, Negative}
use Rattle.gix_refspec_text.specs.Matching.Side.{SideKind, pattern, full_name, object, partial, HasKind, IsCandidate}
use Rattle.gix_refspec_text.specs.Matching.Side.{Fits}
use Rattle.gix_refspec_text.specs.Matching.Match.{Ref, HasName, IsFirstCandidate}
use Rattle.gix_refspec_match.specs.Matching.Mappings.{Source, name, IsExcludedBy, IsExcluded, IsSourceExcluded}
use Rattle.gix_refspec.specs.Matching.RefNames.{IsRefName, IsValidSource}
use Rattle.gix_refspec.specs.Laws.Matching.{MakesForward}
use Rattle.gix_refspec.specs.Laws.Indexes.{MakesForwardOf}
use Rattle.gix_refspec_plan.specs.Matching.Plan.{AreNested, CanBeWritten, IsCompleted}
use Rattle.gix_refspec_why.specs.declared.ExcludedBy.{ExcludedBy}
use Rattle.gix_refspec_why.specs.declared.Fate.{Fate}
use Rattle.gix_refspec_why.specs.declared.Fate.TheVariants as fate
use Rattle.gix_refspec_why.specs.declared.Mismatch.{Mismatch}
use Rattle.gix_refspec_why.specs.declared.Mismatch.TheVariants as mismatch
use Rattle.gix_refspec_why.specs.declared.Rival.{Rival}
use Rattle.gix_refspec_why.specs.declared.StarWord.{StarWord}

-- x is the first element of the list of which P holds, and has this index
pub record IsFirstWith {X : Type 0} (P : X → Type 0) (l : List X) (index : ℕ) (x : X) : Type 0 where
  pub at : slice_get l index ≡ Some x
  pub holds : P x
  pub before : AllByRecursion (λ y. ¬ (P y)) (take index l)

-- the first of the refs with the name n has this index
abbrev pub IsFirstNamed : List Ref → List ℕ → ℕ → Type 0
IsFirstNamed refs n index = (ref : Ref) × IsFirstWith (λ r. r.name ≡ n) refs index ref

-- ---- why a source doesn't match a name

-- the texts begin with this many equal bytes, and not with more
pub record AgreeAtStart (x y : List ℕ) (count : ℕ) : Type 0 where
  pub shared : List ℕ
  pub x_rest : List ℕ
  pub y_rest : List ℕ
  pub of_x : x ≡ shared ++ x_rest
  pub of_y : y ≡ shared ++ y_rest
  pub size : length shared ≡ count
  pub apart : (b : ℕ) → BeginsWith (b ∷ []) x_rest → ¬ (BeginsWith (b ∷ []) y_rest)

-- the texts end with this many equal bytes, and not with more
pub record AgreeAtEnd (x y : List ℕ) (count : ℕ) : Type 0 where
  pub shared : List ℕ
  pub x_rest : List ℕ
  pub y_rest : List ℕ
  pub of_x : x ≡ x_rest ++ shared
  pub of_y : y ≡ y_rest ++ shared
  pub size : length shared ≡ count
  pub apart : (b : ℕ) → EndsWith (b ∷ []) x_rest → ¬ (EndsWith (b ∷ []) y_rest)

-- why the pattern with these texts before and after its star doesn't match the name n: its prefix is looked at first
abbrev pub IsPatternMismatch : List ℕ → List ℕ → List ℕ → Mismatch → Type 0
IsPatternMismatch before after n (mismatch.Prefix count) = ¬ (BeginsWith before n) × AgreeAtStart before n count
IsPatternMismatch before after n (mismatch.Suffix count) =
    BeginsWith before n × ¬ (EndsWith after n) × AgreeAtEnd after n count
IsPatternMismatch before after n mismatch.Overlap =
    BeginsWith before n × EndsWith after n × ((word : List ℕ) → ¬ (Fits before after n word))
IsPatternMismatch before after n mismatch.NoSource = ⊥
IsPatternMismatch before after n mismatch.OtherName = ⊥
IsPatternMismatch before after n mismatch.Object = ⊥
IsPatternMismatch before after n mismatch.NoCandidate = ⊥
IsPatternMismatch before after n (mismatch.EarlierCandidate index) = ⊥

-- why the partial name x doesn't take the name n among the refs
abbrev pub IsPartialMismatch : List Ref → List ℕ → List ℕ → Mismatch → Type 0
IsPartialMismatch refs x n mismatch.NoCandidate = ¬ (IsCandidate x n)
IsPartialMismatch refs x n (mismatch.EarlierCandidate index) =
    IsCandidate x n × ((m : List ℕ) × IsFirstCandidate refs x m × (m ≢ n) × IsFirstNamed refs m index)
IsPartialMismatch refs x n (mismatch.Prefix count) = ⊥
IsPartialMismatch refs x n (mismatch.Suffix count) = ⊥
IsPartialMismatch refs x n mismatch.Overlap = ⊥
IsPartialMismatch refs x n mismatch.NoSource = ⊥
IsPartialMismatch refs x n mismatch.OtherName = ⊥
IsPartialMismatch refs x n mismatch.Object = ⊥

-- why a source of this kind takes no ref of the name n among the refs
abbrev pub IsKindMismatch : List Ref → SideKind → List ℕ → Mismatch → Type 0
IsKindMismatch refs (pattern before after) n m = IsPatternMismatch before after n m
IsKindMismatch refs (full_name x) n m = (m ≡ mismatch.OtherName) × (n ≢ x)
IsKindMismatch refs (object bytes) n m = m ≡ mismatch.Object
IsKindMismatch refs (partial x) n m = IsPartialMismatch refs x n m

-- why the reading takes no ref of the name n among the refs, or excludes none if it is negative
pub data Misses (refs : List Ref) (r : Reading) (n : List ℕ) (m : Mismatch) : Type 0 where
  -- it has no source
  sourceless : r.source ≡ None → m ≡ mismatch.NoSource → Misses refs r n m
  -- it isn't negative, and its source is of this kind
  by_kind : r.mode ≢ Negative → (x : List ℕ) (kind : SideKind) → r.source ≡ Some x → HasKind x kind
      → IsKindMismatch refs kind n m → Misses refs r n m
  -- it is negative, and its source is another name
  by_name : r.mode ≡ Negative → (x : List ℕ) → r.source ≡ Some x → Lacks star x → n ≢ x → m ≡ mismatch.OtherName
      → Misses refs r n m
  -- it is negative, and its source is a pattern
  by_pattern : r.mode ≡ Negative → (x before after : List ℕ) → r.source ≡ Some x → IsSplit before after x
      → IsPatternMismatch before after n m → Misses refs r n m

-- ---- what excludes a name

-- the name n is the text x, which has no star; or x is a pattern that matches it, with this word for its star
abbrev pub IsExcludedWith : List ℕ → List ℕ → Option StarWord → Type 0
IsExcludedWith x n None = Lacks star x × (n ≡ x)
IsExcludedWith x n (Some word) =
    (before : List ℕ) × (after : List ℕ) × (bytes : List ℕ) × IsSplit before after x × Fits before after n bytes
    × (length before ≡ word.start) × (length bytes ≡ word.len)

-- the reading is negative, and excludes the name n with this word
pub record ExcludesWith (r : Reading) (n : List ℕ) (word : Option StarWord) : Type 0 where
  pub negative : r.mode ≡ Negative
  pub text : List ℕ
  pub source : r.source ≡ Some text
  pub with : IsExcludedWith text n word

-- the first reading of the group that excludes the name n is at this index, and does it with this word
abbrev pub IsFirstExclusion : List Reading → List ℕ → ExcludedBy → Type 0
IsFirstExclusion g n by = (r : Reading) × IsFirstWith (IsExcludedBy n) g by.spec_index r × ExcludesWith r n by.word

-- ---- what else a fetch does

-- the reading maps the name n, of a ref among these, to the destination
abbrev pub MapsTo : List Ref → List ℕ → Option (List ℕ) → Reading → Type 0
MapsTo refs n d r = MakesForward refs (name n) d r

-- of the readings before index k the first that maps the name n to this destination is at index j
abbrev pub IsEarlierMaker : List Reading → List Ref → List ℕ → Option (List ℕ) → ℕ → ℕ → Type 0
IsEarlierMaker g refs n d k j = (j < k) × ((r : Reading) × IsFirstWith (MapsTo refs n d) g j r)

-- the reading and the item at these indexes make the mapping of this source to this destination, which are valid, and
-- no
-- reading excludes the source
pub record IsFetchedAt (g : List Reading) (refs : List Ref) (s : Source) (d : List ℕ) (rival : Rival) : Type 0 where
  pub reading : Reading
  pub at : slice_get g rival.spec_index ≡ Some reading
  pub makes : MakesForwardOf refs rival.item_index s (Some d) reading
  pub included : ¬ (IsSourceExcluded g s)
  pub source : IsValidSource s
  pub destination : CanBeWritten (Some d)

-- another source than the name n is fetched to the same destination
abbrev pub IsContestedBy : List Reading → List Ref → List ℕ → Option (List ℕ) → Rival → Type 0
IsContestedBy g refs n d rival =
    (e : List ℕ) × (s : Source) × (d ≡ Some e) × (s ≢ name n) × IsFetchedAt g refs s e rival

-- a source is fetched to a destination that is a directory of this one, or is in it
abbrev pub IsObstructedBy : List Reading → List Ref → Option (List ℕ) → Rival → Type 0
IsObstructedBy g refs d rival =
    (e : List ℕ) × (other : List ℕ) × (s : Source) × (d ≡ Some e) × AreNested e other × IsFetchedAt g refs s other rival

-- nothing else is fetched to the destination
abbrev pub IsUncontested : List Reading → List Ref → List ℕ → Option (List ℕ) → Type 0
IsUncontested g refs n d = (rival : Rival) → ¬ (IsContestedBy g refs n d rival)

-- nor to a directory of it, or into it
abbrev pub IsUnobstructed : List Reading → List Ref → Option (List ℕ) → Type 0
IsUnobstructed g refs d = (rival : Rival) → ¬ (IsObstructedBy g refs d rival)

-- ---- the fate of a ref by one spec

-- the reading maps the name n to the destination, and none of the group excludes it
pub record MapsIncluded (g : List Reading) (refs : List Ref) (n : List ℕ) (d : Option (List ℕ)) (r : Reading) : Type 0
  where
    pub maps : MapsTo refs n d r
    pub included : ¬ (IsExcluded g n)

-- and name and destination are valid
pub record MapsValidly (g : List Reading) (refs : List Ref) (n : List ℕ) (d : Option (List ℕ)) (r : Reading) : Type 0
  where
    pub maps : MapsIncluded g refs n d r
    pub name : IsRefName n
    pub destination : CanBeWritten d

-- and the reading, which is at index k, is the first that does so
pub record MapsFirst (g : List Reading) (refs : List Ref) (n : List ℕ) (d : Option (List ℕ)) (k : ℕ) (r : Reading) :
    Type 0 where
  pub maps : MapsValidly g refs n d r
  pub first : AllByRecursion (λ q. ¬ (MapsTo refs n d q)) (take k g)

-- what becomes of the ref n by the reading at index k of the group, which maps it to the destination d or, where it
-- doesn't map it, to none. Each fate is given only where none before it in this list is
abbrev pub HasFate : List Reading → List Ref → List ℕ → ℕ → Reading → Option (List ℕ) → Fate → Type 0
HasFate g refs n k r d (fate.Unmatched m) = (d ≡ None) × Misses refs r n m
HasFate g refs n k r d (fate.Excludes word) = (d ≡ None) × ExcludesWith r n word
HasFate g refs n k r d (fate.Excluded by) = MapsTo refs n d r × IsFirstExclusion g n by
HasFate g refs n k r d fate.InvalidName = MapsIncluded g refs n d r × ¬ (IsRefName n)
HasFate g refs n k r d fate.InvalidDestination = MapsIncluded g refs n d r × IsRefName n × ¬ (CanBeWritten d)
HasFate g refs n k r d (fate.Duplicate j) = MapsValidly g refs n d r × IsEarlierMaker g refs n d k j
HasFate g refs n k r d (fate.InConflict rival) = MapsFirst g refs n d k r × IsContestedBy g refs n d rival
HasFate g refs n k r d (fate.DirectoryConflict rival) =
    MapsFirst g refs n d k r × IsUncontested g refs n d × IsObstructedBy g refs d rival
HasFate g refs n k r d fate.Written = MapsFirst g refs n d k r × IsUncontested g refs n d × IsUnobstructed g refs d

-- what a spec does with a ref: the destination that it maps it to, if there is one, and what becomes of it
pub record Effect : Type 0 where
  pub destination : Option (List ℕ)
  pub fate : Fate

-- ys has one element for each of xs, of which the relation holds, with the index
pub record AreEach {X Y : Type 0} (R : ℕ → X → Y → Type 0) (xs : List X) (ys : List Y) : Type 0 where
  pub count : length ys ≡ length xs
  pub each : (k : ℕ) (x : X) (y : Y) → slice_get xs k ≡ Some x → slice_get ys k ≡ Some y → R k x y

-- each of these readings of the group, which are its first ones, has its fate for the ref n
abbrev pub HaveFatesIn : List Reading → List Ref → List ℕ → List Reading → List Effect → Type 0
HaveFatesIn g refs n readings effects = AreEach (λ k r e. HasFate g refs n k r e.destination e.fate) readings effects

-- so has each of them
abbrev pub HaveFates : List Reading → List Ref → List ℕ → List Effect → Type 0
HaveFates g refs n effects = HaveFatesIn g refs n g effects

-- so has each with the destination that a fetch completes
pub record AreEffects (g : List Reading) (refs : List Ref) (n : List ℕ) (effects : List Effect) : Type 0 where
  pub completed : List Reading
  pub are : AllZip IsCompleted g completed
  pub have : HaveFates completed refs n effects

-- the refs with the ref n: the refs themselves, if they have it, the first at this index; otherwise one more at the end
abbrev pub HaveRef : List Ref → List ℕ → Option ℕ → List Ref → Type 0
HaveRef refs n (Some index) all = (all ≡ refs) × IsFirstNamed refs n index
HaveRef refs n None all = ¬ (HasName refs n) × ((r : Ref) × (r.name ≡ n) × (all ≡ refs ++ r ∷ []))

-- where the ref n is among the refs, and what the readings do with it
pub record IsExplained (g : List Reading) (refs : List Ref) (n : List ℕ) (index : Option ℕ) (effects : List Effect) :
    Type 0 where
  pub all : List Ref
  pub have : HaveRef refs n index all
  pub are : AreEffects g all n effects
