-- The definitions on sides of specs, and the readings and names that other examples use.
use Rattle.gix_refspec_text.proofs.Common.{rules, ◌≡◌, ◌≢◌, ℕ, zero, suc, ◌==◌, false, List, [], ◌∷◌, ◌++◌, None, Some}
use Rattle.gix_refspec_text.proofs.Common.{length, get_or, codes, refl, ap, ◌∙◌, subst, arith, AllByRecursion, Contains}
use Rattle.gix_refspec_text.proofs.Common.{list_any, length-append, Fetch, Push, BeginsWith, IsSplit, star, IsIdText}
use Rattle.gix_refspec_text.proofs.Common.{Normal, Forced, Negative, Reading, fetched, full_name, object, partial}
use Rattle.gix_refspec_text.proofs.Common.{HasKind, Fits, Excludes, the_name, by_pattern, Ref}
use Rattle.gix_refspec_text.proofs.facts.ManualFacts.{Lacks-tested, named}
use Rattle.gix_refspec_text.proofs.readers.Texts.{differ}
use Rattle.gix_refspec_text.proofs.lemmas.hits.MatchLemmas.{lacks_no_pattern, split_once}
use Rattle.gix_refspec_text.proofs.lemmas.lists.LacksLemmas.{Lacks-here}
use Rattle.gix_refspec_text.proofs.lemmas.texts.ObjectIdLemmas.{no_kind}
use Rattle.gix_refspec_text.proofs.facts.ObjectIdFacts.{IsIdText-empty_blob, empty_blob}

-- texts that differ at an index differ
pub other_byte : (k : ℕ) (x y : List ℕ) → get_or x k 0 ≢ get_or y k 0 → x ≢ y
other_byte k x y differ same = differ (ap (λ (z : List ℕ). get_or z k 0) same)

-- a text with another first byte doesn't begin with `refs/`
pub other_first : (b : ℕ) (x : List ℕ) → b ≢ 114 → ¬ (BeginsWith (codes "refs/") (b ∷ x))
other_first b x differ begins = other_byte 0 (b ∷ x) (codes "refs/" ++ begins.after) differ begins.here

pub push_is_none : Push ≢ Fetch
push_is_none same = cc

-- what holds for each element of a list holds for an element that it contains
pub of_element : {X : Type 0} (P : X → Type 0) (xs : List X) (x : X) → AllByRecursion P xs → Contains xs x → P x
of_element P [] x all (k, below, is) = absurd (omega (arith, below))
of_element P (y ∷ ys) x all (zero, below, is) = subst P is all.0
of_element P (y ∷ ys) x all (suc k, below, is) = of_element P ys x all.1 (k, omega (arith, below), is)

-- a word lies between the prefix and the suffix of a pattern, which never overlap
pub fitting : Fits (codes "refs/heads/") [] (codes "refs/heads/main") (codes "main") × Fits (codes "refs/heads/a")
    (codes "a") (codes "refs/heads/aa") [] × ((w : List ℕ) → ¬ (Fits (codes "a") (codes "a") (codes "a") w))
fitting = (
  refl,
  refl,
  λ word fits. let size : 1 ≡ suc (length (word ++ codes "a")) =
      ap length fits in omega (arith, size, length-append word (codes "a")),
)

-- a pattern that ends with its only star
pub split_at_end : (before : List ℕ) → list_any (λ c. c == star) before ≡ false
    → IsSplit before [] (before ++ codes "*")
split_at_end before none = record { starred = refl; first = Lacks-tested star before none; last = tt }

-- a negative spec excludes exactly its name, and not a full name that it may be short for
pub excludes_name : Excludes (codes "refs/heads/wip") (codes "refs/heads/wip")
    × ¬ (Excludes (codes "wip") (codes "refs/heads/wip"))
excludes_name = (
  the_name (Lacks-tested star (codes "refs/heads/wip") refl) refl,
  search (rules, differ, lacks_no_pattern (codes "wip"), Lacks-tested),
)

-- a pattern excludes the names that it matches, and no others
pub excludes_dev : Excludes (codes "refs/heads/dev-*") (codes "refs/heads/dev-a")
excludes_dev = by_pattern (codes "refs/heads/dev-") [] (codes "a") (split_at_end (codes "refs/heads/dev-") refl) refl

pub excludes_no_main : ¬ (Excludes (codes "refs/heads/dev-*") (codes "refs/heads/main"))
excludes_no_main (the_name lacks same) = Lacks-here star (codes "refs/heads/dev-") [] lacks
excludes_no_main (by_pattern before after word split fits) =
    let once = split_once (codes "refs/heads/dev-*") before after (codes "refs/heads/dev-") [] split
    (split_at_end (codes "refs/heads/dev-") refl) in
    other_byte 11 (codes "refs/heads/main") (codes "refs/heads/dev-" ++ (word ++ after)) (λ same. omega (arith, same))
    (fits ∙ ap (λ (y : List ℕ). y ++ (word ++ after)) once.0)

-- what `git clone` writes, and an exclusion of git-fetch(1)
abbrev pub every : Reading
every = fetched Forced (codes "refs/heads/*") (Some (codes "refs/remotes/origin/*"))

abbrev pub no_dev : Reading
no_dev = fetched Negative (codes "refs/heads/dev-*") None

-- the refs of the examples
abbrev pub dev_ref : Ref
dev_ref = named (codes "refs/heads/dev-a")

abbrev pub tag_ref : Ref
tag_ref = named (codes "refs/tags/v1")

abbrev pub main_ref : Ref
main_ref = named (codes "refs/heads/main")

pub heads_split : IsSplit (codes "refs/heads/") [] (codes "refs/heads/*")
heads_split = split_at_end (codes "refs/heads/") refl

pub origin_split : IsSplit (codes "refs/remotes/origin/") [] (codes "refs/remotes/origin/*")
origin_split = split_at_end (codes "refs/remotes/origin/") refl

-- a spec with a source alone, which is a partial name
abbrev pub short : Reading
short = fetched Normal (codes "main") None

-- the empty blob by its id, and a tag as its destination
abbrev pub blob : Reading
blob = fetched Normal (codes "e69de29bb2d1d6434b8b29ae775ad8c2e48c5391") (Some (codes "refs/tags/blob"))

pub below_tags : HasKind (codes "refs/tags/blob") (full_name (codes "refs/tags/blob"))
below_tags = (refl, Lacks-tested star (codes "refs/tags/blob") refl, record { after = codes "tags/blob"; here = refl })

pub blob_kind : HasKind (codes "e69de29bb2d1d6434b8b29ae775ad8c2e48c5391") (object empty_blob)
blob_kind = search (arith, Lacks-tested, other_byte, IsIdText-empty_blob)

pub short_no_id : (bytes : List ℕ) → ¬ (IsIdText (codes "main") bytes)
short_no_id bytes text = no_kind 4 (λ same. omega (arith, same)) (λ same. omega (arith, same)) (text.kind, text.digits)

pub short_kind : HasKind (codes "main") (partial (codes "main"))
short_kind = search (arith, Lacks-tested, other_byte, short_no_id)
