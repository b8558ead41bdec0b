-- What needles match, and what the other side becomes, for functions that callers of the library can't reach.
use Rattle.std.specs.Prelude.{◌≡◌, ◌⊎◌, ◌-◌, ℕ, List, [], codes, Option, None, Some, take, drop, length}
use Rattle.gix_refspec_text.specs.declared.side.SideKind.{SideKind as DeclaredKind}
use Rattle.gix_refspec_text.specs.Matching.Side.{SideKind, pattern, full_name, object, partial}
use Rattle.gix_refspec_text.specs.Matching.Side.{HasKind, IsCandidate, Fits, filled}
use Rattle.gix_refspec_text.specs.Matching.Match.{Ref, MatchesAs, IsFirstCandidate}
use Rattle.gix_refspec_text.specs.Private.SideViews.{kind_of_side}
use Rattle.gix_refspec_match.specs.declared.matcher.Candidates.{Candidates}
use Rattle.gix_refspec_match.specs.declared.matcher.Candidates.TheVariants.{First, All}

-- a side of the kind matches the ref, a pattern with some word
abbrev pub IsMatched : SideKind → Ref → Type 0
IsMatched kind r = (word : Option (List ℕ)) × MatchesAs kind r word

-- so it does a ref that is listed for it: what is listed for a partial name is what it takes
abbrev pub MatchesListed : SideKind → Ref → Type 0
MatchesListed (pattern before after) r = IsMatched (pattern before after) r
MatchesListed (full_name x) r = IsMatched (full_name x) r
MatchesListed (object id) r = IsMatched (object id) r
MatchesListed (partial x) r = Unit {0}

-- of a pattern, what is between its two texts in a name that it matches
abbrev pub word_in : SideKind → List ℕ → Option (List ℕ)
word_in (pattern before after) n = Some (take (length n - length after - length before) (drop (length before) n))
word_in (full_name x) n = None
word_in (object id) n = None
word_in (partial x) n = None

-- where a needle of the kind takes its first candidate alone, n is that one
abbrev pub IsFirstIn : SideKind → Candidates → List Ref → List ℕ → Type 0
IsFirstIn (pattern before after) which items n = Unit {0}
IsFirstIn (full_name x) which items n = Unit {0}
IsFirstIn (object id) which items n = Unit {0}
IsFirstIn (partial x) First items n = IsFirstCandidate items x n
IsFirstIn (partial x) All items n = Unit {0}

-- among the items, a needle of the kind takes the ref
pub record IsTaken (which : Candidates) (items : List Ref) (kind : SideKind) (r : Ref) : Type 0 where
  pub matched : IsMatched kind r
  pub first : IsFirstIn kind which items r.name

-- a needle of the kind takes each item that it matches
abbrev pub TakesEach : SideKind → Type 0
TakesEach (pattern before after) = Unit {0}
TakesEach (full_name x) = Unit {0}
TakesEach (object id) = Unit {0}
TakesEach (partial x) = ⊥

-- the bytes are tried before a partial name, with nothing after it
abbrev pub IsFolder : List ℕ → Type 0
IsFolder x = (x ≡ []) ⊎ (x ≡ codes "refs/") ⊎ (x ≡ codes "refs/tags/") ⊎ (x ≡ codes "refs/heads/")
    ⊎ (x ≡ codes "refs/remotes/")

-- a side of the kind matches each ref of the name n, whatever it points to, with the word if it is a pattern
abbrev pub MatchesNamed : SideKind → List ℕ → Option (List ℕ) → Type 0
MatchesNamed (pattern before after) n None = ⊥
MatchesNamed (pattern before after) n (Some word) = Fits before after n word
MatchesNamed (full_name x) n word = (word ≡ None) × (n ≡ x)
MatchesNamed (object id) n word = ⊥
MatchesNamed (partial x) n word = (word ≡ None) × IsCandidate x n

-- the side, where it is there, has the kind
abbrev pub HasSideKind : Option (List ℕ) → Option DeclaredKind → Type 0
HasSideKind None None = Unit {0}
HasSideKind None (Some k) = ⊥
HasSideKind (Some x) None = ⊥
HasSideKind (Some x) (Some k) = HasKind x (kind_of_side k)

-- what a side of the kind becomes, where there is one
abbrev pub filled_side : Option DeclaredKind → Option (List ℕ) → Option (List ℕ)
filled_side None word = None
filled_side (Some k) word = Some (filled (kind_of_side k) word)

-- a side of the kind becomes a name of its own: one that isn't a full name
abbrev pub IsMade : Option DeclaredKind → Type 0
IsMade None = ⊥
IsMade (Some k) = (n : List ℕ) → ¬ (kind_of_side k ≡ full_name n)
