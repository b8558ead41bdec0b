-- The kind of a side, the names that it may stand for, and the name that it becomes when the other side matches: by
-- git-fetch(1) under `<refspec>` for patterns, and by gitrevisions(7) for partial names. The names that an id and a
-- partial name become are this project's own rule.
use Rattle.std.specs.Prelude.{◌≡◌, ℕ, ◌||◌, if◌then◌else◌, List, [], ◌∷◌, ◌++◌, Option, None, Some, codes, nat_eq}
use Rattle.std.specs.List.{starts_with}
use Rattle.gix_refspec_text.specs.Texts.Words.{Lacks, BeginsWith}
use Rattle.gix_refspec_text.specs.Texts.Name.{IsSplit}
use Rattle.gix_refspec_text.specs.Texts.Bytes.{star}
use Rattle.gix_refspec_text.specs.Texts.ObjectId.{IsIdText, lower_of}

-- the kind of a side: a pattern with the texts before and after its star, a full name, an object id with its bytes,
-- or a partial name
pub data SideKind : Type 0 where
  pattern : List ℕ → List ℕ → SideKind
  full_name : List ℕ → SideKind
  object : List ℕ → SideKind
  partial : List ℕ → SideKind

-- x is the text of an id
abbrev pub IsId : List ℕ → Type 0
IsId x = (id : List ℕ) × IsIdText x id

-- k is the kind of the side x. A side with several stars has none
abbrev pub HasKind : List ℕ → SideKind → Type 0
HasKind x (pattern before after) = IsSplit before after x
HasKind x (full_name n) = (n ≡ x) × Lacks star x × BeginsWith (codes "refs/") x
HasKind x (object id) = Lacks star x × ¬ (BeginsWith (codes "refs/") x) × IsIdText x id
HasKind x (partial n) = (n ≡ x) × Lacks star x × ¬ (BeginsWith (codes "refs/") x) × ¬ (IsId x)

-- the candidates of a partial name: the names that it may stand for, in the order in which gitrevisions(7) tries them
abbrev pub candidates : List ℕ → List (List ℕ)
candidates x =
    x
    ∷ (codes "refs/" ++ x)
    ∷ (codes "refs/tags/" ++ x)
    ∷ (codes "refs/heads/" ++ x)
    ∷ (codes "refs/remotes/" ++ x)
    ∷ (codes "refs/remotes/" ++ (x ++ codes "/HEAD"))
    ∷ []

-- n is a candidate of x, with the candidates before and after it
pub record IsCandidate (x n : List ℕ) : Type 0 where
  pub earlier : List (List ℕ)
  pub later : List (List ℕ)
  pub here : candidates x ≡ earlier ++ (n ∷ later)

-- the pattern with these texts before and after its star matches the name n, with this word for the star. The two
-- texts never overlap in n
abbrev pub Fits : List ℕ → List ℕ → List ℕ → List ℕ → Type 0
Fits before after n word = n ≡ before ++ (word ++ after)

-- the source x of a negative spec excludes the ref name n
pub data Excludes (x n : List ℕ) : Type 0 where
  -- without a star, exactly the name x, even if x looks like a partial name or an id
  the_name : Lacks star x → n ≡ x → Excludes x n
  -- a pattern, each name that it matches
  by_pattern : (before after word : List ℕ) → IsSplit before after x → Fits before after n word → Excludes x n

-- the full name that a partial one becomes: `refs/` is put before a name that begins with `tags/` or `remotes/`,
-- otherwise `refs/heads/`
abbrev pub full_name_of : List ℕ → List ℕ
full_name_of x =
    if starts_with nat_eq x (codes "tags/") || starts_with nat_eq x (codes "remotes/")
    then codes "refs/" ++ x
    else codes "refs/heads/" ++ x

-- the ref that a fetch writes for a destination without a star: `refs/` is put before one that begins with `heads/`,
-- `tags/`
-- or `remotes/`, and `refs/heads/` before any other that doesn't begin with `refs/`. git-fetch(1) doesn't say so
abbrev pub written_name_of : List ℕ → List ℕ
written_name_of x =
    if starts_with nat_eq x (codes "refs/")
    then x
    else (if starts_with nat_eq x (codes "heads/") || starts_with nat_eq x (codes "tags/")
    || starts_with nat_eq x (codes "remotes/")
    then codes "refs/" ++ x
    else codes "refs/heads/" ++ x)

-- the name that a side becomes when the other side matched, with a word or without: a pattern gets the word for its
-- star, or keeps the star; a full name stays the same; an id becomes `refs/heads/` and its lower-case digits; a
-- partial name becomes a full name
abbrev pub filled : SideKind → Option (List ℕ) → List ℕ
filled (pattern before after) None = before ++ (star ∷ after)
filled (pattern before after) (Some word) = before ++ (word ++ after)
filled (full_name n) word = n
filled (object id) word = codes "refs/heads/" ++ lower_of id
filled (partial n) word = full_name_of n
