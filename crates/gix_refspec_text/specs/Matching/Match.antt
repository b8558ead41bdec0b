-- What a side of a refspec matches among the refs of a repository, by git-fetch(1) under `<refspec>`, and
-- which name a partial source takes, by the order of gitrevisions(7). That a partial destination matches all
-- of its candidates, and that an id matches each ref that points to it, are this project's own rules.
use Rattle.std.specs.Prelude.{◌≡◌, ◌⊎◌, ℕ, List, [], ◌∷◌, ◌++◌, Option, None, Some}
use Rattle.std.specs.List.{AllByRecursion}
use Rattle.gix_refspec_text.specs.Matching.Side.{SideKind, pattern, full_name, object, partial, HasKind, candidates}
use Rattle.gix_refspec_text.specs.Matching.Side.{IsCandidate, Fits}

-- a ref: its full name, the id that it points to, and for a tag the id of the tagged object
pub record Ref : Type 0 where
  pub name : List ℕ
  pub target : List ℕ
  pub object : Option (List ℕ)

-- a side of this kind matches the ref; for a pattern, the word is what its star matches
abbrev pub MatchesAs : SideKind → Ref → Option (List ℕ) → Type 0
MatchesAs (pattern before after) r None = ⊥
MatchesAs (pattern before after) r (Some word) = Fits before after r.name word
MatchesAs (full_name n) r word = (word ≡ None) × (r.name ≡ n)
MatchesAs (object id) r word = (word ≡ None) × ((r.target ≡ id) ⊎ (r.object ≡ Some id))
MatchesAs (partial n) r word = (word ≡ None) × IsCandidate n r.name

-- the side x matches the ref r, with the word if x is a pattern
pub record Matches (x : List ℕ) (r : Ref) (word : Option (List ℕ)) : Type 0 where
  pub kind : SideKind
  pub of : HasKind x kind
  pub is : MatchesAs kind r word

-- one of the refs has the name n
abbrev pub HasName : List Ref → List ℕ → Type 0
HasName [] n = ⊥
HasName (r ∷ rs) n = (r.name ≡ n) ⊎ HasName rs n

-- n is the first candidate of x that is the name of a ref: for `main` it is `refs/tags/main`, if the refs are
-- `refs/heads/main` and `refs/tags/main`
pub record IsFirstCandidate (refs : List Ref) (x n : List ℕ) : Type 0 where
  pub earlier : List (List ℕ)
  pub later : List (List ℕ)
  pub here : candidates x ≡ earlier ++ (n ∷ later)
  pub absent : AllByRecursion (λ m. ¬ (HasName refs m)) earlier
  pub present : HasName refs n

-- among the refs, the source x takes r: it matches r, and a partial name does so only by its first candidate
pub record Takes (refs : List Ref) (x : List ℕ) (r : Ref) (word : Option (List ℕ)) : Type 0 where
  pub matches : Matches x r word
  pub first : (n : List ℕ) → HasKind x (partial n) → IsFirstCandidate refs n r.name
