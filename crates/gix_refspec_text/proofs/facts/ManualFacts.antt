-- The definitions of names and refspecs at the examples of git-check-ref-format(1), git-fetch(1) and git-push(1), and
-- at similar ones on both sides of a boundary, so that a wrong definition fails here.
use Rattle.gix_refspec_text.proofs.Common.{subst, rules, ◌≡◌, ◌≢◌, ℕ, ◌==◌, true, false, List, [], ◌∷◌, ◌++◌, Option}
use Rattle.gix_refspec_text.proofs.Common.{None, Some, map, length, codes, refl, ap, inl, inr, arith, replicate}
use Rattle.gix_refspec_text.proofs.Common.{list_any, filter, range_with_len, length-replicate, eqb-false, false≢true}
use Rattle.gix_refspec_text.proofs.Common.{RepeatedDot, Operation, Push, Fetch, is_refused_byte, IsSplit, IsPattern}
use Rattle.gix_refspec_text.proofs.Common.{IsPatternFault, slash, star, letter, plus, caret, Mode, Normal, Forced}
use Rattle.gix_refspec_text.proofs.Common.{Negative, Reading, HasSide, remote_of, local_of, IsSigned, AreParts, Reads}
use Rattle.gix_refspec_text.proofs.Common.{pushed, fetched, Meaning, push_all_matching, push_delete, push_matching}
use Rattle.gix_refspec_text.proofs.Common.{push_exclude, fetch_and_update, meaning_of, text_of, PatternUnsupported}
use Rattle.gix_refspec_text.proofs.Common.{PushToEmpty, NegativeWithDestination, ReferenceName, IsBadPattern}
use Rattle.gix_refspec_text.proofs.Common.{NeedsMemory, ReachesMemory, MayNeedMemory, pattern, full_name, object}
use Rattle.gix_refspec_text.proofs.Common.{partial, HasKind, candidates, Ref, Matches, MatchesAs, same_Some, with_colon}
use Rattle.gix_refspec_text.specs.declared.name.PatternError.TheVariants.{Memory}
use Rattle.gix_refspec_text.proofs.lemmas.lists.LacksLemmas.{Lacks-here}
use Rattle.gix_refspec_text.proofs.lemmas.parsing.PartsLemmas.{parts_once}
use Rattle.gix_refspec_text.proofs.lemmas.parsing.SideLemmas.{HasStar-stars}
use Rattle.gix_refspec_text.proofs.lemmas.texts.TestedLemmas.{IsName-tested, is_suspect}
use Rattle.gix_refspec_text.proofs.readers.Readings.{bad_for, sign_of, words, parts_of, reaches, reads, is_read}
use Rattle.gix_refspec_text.proofs.readers.Readings.{read_by}
use Rattle.gix_refspec_text.proofs.readers.Texts.{begins, contains, differ, holds_not, not_several, several, unstarred}
pub use Rattle.gix_refspec_text.proofs.readers.Texts.{Lacks-tested}

-- a text with a byte isn't empty
pub full : (b : ℕ) (bs : List ℕ) → b ∷ bs ≢ []
full b bs = λ e. cc

-- a missing word isn't a word
pub none_some : (x : List ℕ) → None ≢ Some x
none_some x same = cc

pub some_none : (x : List ℕ) → Some x ≢ None
some_none x same = cc

-- texts of different lengths, and texts with different first bytes, differ
pub other_length : (x y : List ℕ) → length x ≢ length y → x ≢ y
other_length x y differ same = differ (ap length same)

-- for the operation, the text has a reading with the meaning m
abbrev Says : Operation → List ℕ → Meaning → Type 0
Says op text m = (r : Reading) × Reads op text r × (meaning_of r ≡ Some m)

-- of the 256 bytes, the control characters, space, colon, question mark, bracket, backslash, caret, tilde and DEL, and
-- no other
pub refused_bytes : filter is_refused_byte (range_with_len 0 256) ≡ 0 ∷ 1 ∷ 2 ∷ 3 ∷ 4 ∷ 5 ∷ 6 ∷ 7 ∷ 8 ∷ 9 ∷ 10 ∷ 11 ∷ 12
    ∷ 13 ∷ 14 ∷ 15 ∷ 16 ∷ 17 ∷ 18 ∷ 19 ∷ 20 ∷ 21 ∷ 22 ∷ 23 ∷ 24 ∷ 25 ∷ 26 ∷ 27 ∷ 28 ∷ 29 ∷ 30 ∷ 31
    ∷ (codes " :?[\\^~" ++ (127 ∷ []))
refused_bytes = refl

-- two texts without a star, and a star between them, are a text with exactly one star
pub IsSplit-tested : (before after : List ℕ) → list_any (λ c. c == star) before ≡ false
    → list_any (λ c. c == star) after ≡ false → IsSplit before after (before ++ (star ∷ after))
IsSplit-tested before after first last = record {
  starred = refl;
  first = Lacks-tested star before first;
  last =
      Lacks-tested star after last;
}

-- it is a pattern if it is a name with the letter in the place of the star
pub IsPattern-tested : (before after : List ℕ) → list_any (λ c. c == star) before ≡ false
    → list_any (λ c. c == star) after ≡ false → is_suspect slash (before ++ (letter ∷ after)) ≡ false
    → IsPattern (before ++ (star ∷ after))
IsPattern-tested before after first last sound =
    record {
      with_letter = _;
      replaces =
          record { before = before; after = after; split = IsSplit-tested before after first last; replaced = refl };
      name = IsName-tested _ sound;
    }

-- a text with another first byte has no sign
pub no_sign : (b : ℕ) (bs : List ℕ) → (b == plus) ≡ false → (b == caret) ≡ false → IsSigned Normal (b ∷ bs) (b ∷ bs)
no_sign b bs no_plus no_caret = (refl, (eqb-false b plus no_plus, eqb-false b caret no_caret))

-- a sign of a mode, and what follows it
abbrev pub with_sign : Mode → List ℕ → List ℕ
with_sign Normal rest = rest
with_sign Forced rest = plus ∷ rest
with_sign Negative rest = caret ∷ rest

-- a text has the parts that it is cut into
pub parts : (mode : Mode) (s : List ℕ) (d : Option (List ℕ)) → sign_of (with_sign mode (with_colon s d)) ≡ mode
    → words (with_sign mode (with_colon s d)) ≡ (s, d) → AreParts mode s d (with_sign mode (with_colon s d))
parts mode s d signs cuts =
    let text = with_sign mode (with_colon s d) in
    subst (λ (m : Mode). AreParts m s d text) signs
    (subst (λ (w : List ℕ × Option (List ℕ)). AreParts (sign_of text) w.0 w.1 text) cuts (parts_of text))

says : {op : Operation} {text : List ℕ} {m : Meaning} → is_read op text ≡ true → meaning_of (read_by op text) ≡ Some m
    → Says op text m
says so is = (_, reads so refl, is)

-- git fetch origin +refs/heads/*:refs/remotes/origin/*, and so on; the last is an exclusion as in git-fetch(1), given
-- to a push
pub manual : Says Fetch (codes "+refs/heads/*:refs/remotes/origin/*")
    (fetch_and_update (codes "refs/heads/*") (codes "refs/remotes/origin/*") true)
    × Says Fetch (codes "+seen:seen") (fetch_and_update (codes "seen") (codes "seen") true) × Says Push (codes "master")
    (push_matching (codes "master") (codes "master") false)
    × Says Push (codes "HEAD:master") (push_matching (codes "HEAD") (codes "master") false)
    × Says Push (codes "master:refs/heads/experimental")
    (push_matching (codes "master") (codes "refs/heads/experimental") false)
    × Says Push (codes "+dev:master") (push_matching (codes "dev") (codes "master") true)
    × Says Push (codes ":experimental") (push_delete (codes "experimental"))
    × Says Push (codes ":") (push_all_matching false) × Says Push (codes "^refs/heads/dev-*")
    (push_exclude (codes "refs/heads/dev-*"))
    -- the canonical texts of these
    × (map text_of (push_matching (codes "master") (codes "master") false ∷ push_matching (codes "dev")
    (codes "master") true
    ∷ push_delete (codes "experimental") ∷ push_all_matching false ∷ push_exclude (codes "refs/heads/dev-*")
    ∷ fetch_and_update (codes "seen") (codes "seen") true ∷ [])
    ≡ codes "master:master" ∷ codes "+dev:master" ∷ codes ":experimental" ∷ codes ":" ∷ codes "^refs/heads/dev-*"
    ∷ codes "+seen:seen" ∷ [])
manual = search (rules, says)

-- a ref of this name
abbrev pub named : List ℕ → Ref
named n = record { name = n; target = 1 ∷ []; object = None }

-- a tag with the first id, of an object with the second
abbrev tag : Ref
tag = record { name = codes "refs/tags/v1"; target = 1 ∷ []; object = Some (2 ∷ []) }

-- a full name matches the ref with this name
pub full_name_matches : Matches (codes "refs/heads/main") (named (codes "refs/heads/main")) None
full_name_matches = record {
  kind = full_name (codes "refs/heads/main");
  of = search (arith, Lacks-tested, begins);
  is =
      (refl, refl);
}

pub matches :
    -- and no other one, and without a word
    ((word : List ℕ)
    → ¬ (MatchesAs (full_name (codes "refs/heads/main")) (named (codes "refs/heads/main")) (Some word)))
    × ¬ (MatchesAs (full_name (codes "refs/heads/main")) (named (codes "refs/heads/main2")) None)
    × ¬ (MatchesAs (full_name (codes "refs/heads/main")) (named (codes "refs/heads/mai")) None)
    -- an id matches a ref that points to it, a tag of the object with this id, and no other ref
    × MatchesAs (object (1 ∷ [])) tag None × MatchesAs (object (2 ∷ [])) tag None
    × ¬ (MatchesAs (object (3 ∷ [])) tag None)
    -- an id and a partial name match without a word, too
    × ((word : List ℕ) → ¬ (MatchesAs (object (1 ∷ [])) tag (Some word))
    × ¬ (MatchesAs (partial (codes "main")) (named (codes "main")) (Some word)))
    -- neither the text after the star of a pattern nor the text before it has another star
    × ¬ (HasKind (codes "a*b*") (pattern (codes "a") (codes "b*")))
    × ¬ (HasKind (codes "a*b*") (pattern (codes "a*b") []))
matches = search (rules, arith, differ, some_none, same_Some, Lacks-here)

-- the names that `main` may stand for, in the order of gitrevisions(7)
pub candidates_of_main : candidates (codes "main")
    ≡ codes "main" ∷ codes "refs/main" ∷ codes "refs/tags/main" ∷ codes "refs/heads/main" ∷ codes "refs/remotes/main"
    ∷ codes "refs/remotes/main/HEAD" ∷ []
candidates_of_main = refl

-- a star and n letters
abbrev starred : ℕ → List ℕ
starred n = star ∷ replicate n letter

pub pattern_too_long :
    -- a pattern of 257 bytes may be too long to be copied, and one of 256 is not
    IsPatternFault Memory (starred 256) × ¬ (IsPatternFault Memory (starred 255))
    -- a source with two stars is reported whole
    × IsBadPattern (codes "a*b*") (PatternUnsupported (codes "a*b*"))
    × ¬ (IsBadPattern (codes "a*b*") (PatternUnsupported (codes "a*b")))
    -- a side with a star and 257 bytes may need memory; one with a star and 256 bytes never does, nor does one of 257
    -- bytes without a star
    × NeedsMemory (starred 256) × ¬ (NeedsMemory (starred 255)) × ¬ (NeedsMemory (replicate 257 letter))
pattern_too_long = search (
  rules,
  arith,
  several,
  contains,
  differ,
  length-replicate {A = ℕ},
  not_several (starred 255) refl,
  holds_not (codes "*") (replicate 257 letter) refl,
  HasStar-stars,
)

pub texts_need_memory :
    -- so a text may need memory, or may not; and a destination may need it too
    MayNeedMemory Fetch (starred 256) × ¬ (MayNeedMemory Fetch (starred 255)) × ReachesMemory Push Normal (codes "a..b")
    (Some (codes "c*d*"))
    -- but not after a bad source; nor may the source of a push to an empty destination, or of a negative spec with a
    -- colon
    × ¬ (ReachesMemory Fetch Normal (codes "a..b") (Some (codes "c*d*")))
    × ¬ (ReachesMemory Push Normal (codes "a*b*") (Some []))
    × ¬ (ReachesMemory Fetch Negative (codes "a*b*") (Some (codes "c")))
texts_need_memory = (
  record {
    mode = _;
    source = _;
    destination = _;
    parts = parts_of (starred 256);
    reaches =
        (reaches _ _ _ _ refl, pattern_too_long.4);
  },
  alone,
  search (rules, reaches, several, unstarred),
  (λ reached. elim reached.1 [
    | inl needs ↦ holds_not (codes "*") (codes "a..b") refl
        (elim needs [ inl stars ↦ HasStar-stars (codes "a..b") stars | inr long ↦ long.0 ])
    | inr after ↦ after.0 (ReferenceName RepeatedDot)
        (record {
          source = full _ _;
          refusal = bad_for Fetch (Some (codes "c*d*")) (codes "a..b")
              (ReferenceName RepeatedDot) refl;
        })
  ]),
  (λ reached. reached.0.2 PushToEmpty (record { push = refl; source = full _ _; nowhere = refl; refusal = refl })),
  (λ reached. reached.0.1 NegativeWithDestination (record { negative = refl; colon = refl; refusal = refl })),
)
  where
    alone : ¬ (MayNeedMemory Fetch (starred 255))
    alone may =
        let once = parts_once may.mode Normal may.source (starred 255) may.destination None (starred 255) may.parts
        (parts_of (starred 255)) in
        let reached : ReachesMemory Fetch may.mode may.source None = rw once.destination at may.reaches in
        pattern_too_long.5 (rw once.source at reached.1)

pub sides :
    -- either side alone is enough
    HasSide (pushed Normal (Some (codes "a")) None) × HasSide (pushed Normal None (Some (codes "a")))
    × ¬ (HasSide (pushed Normal None None))
    -- a fetch has its source on the remote, and a push its destination
    × (map remote_of (fetched Normal (codes "a") (Some (codes "b")) ∷ pushed Normal (Some (codes "a"))
    (Some (codes "b")) ∷ []) ≡ Some (codes "a") ∷ Some (codes "b") ∷ [])
    × (map local_of (fetched Normal (codes "a") (Some (codes "b")) ∷ pushed Normal (Some (codes "a")) (Some (codes "b"))
    ∷ []) ≡ Some (codes "b") ∷ Some (codes "a") ∷ [])
sides = search (arith, false≢true)
