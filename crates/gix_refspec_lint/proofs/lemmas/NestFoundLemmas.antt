-- What is found of two specs at two destinations, and of one spec with all others.
use Rattle.gix_refspec_lint.proofs.Common.{◌≡◌, inl, inr, ℕ, ◌+◌, ◌<◌, ◌≤◌, List, [], ◌∷◌, ◌++◌, Option, None, Some}
use Rattle.gix_refspec_lint.proofs.Common.{length, take, map, get_or, refl, sym, ap, ◌∙◌, subst, arith, append-nil}
use Rattle.gix_refspec_lint.proofs.Common.{length-take-le, take_more, AllByRecursion, AllZip, Contains}
use Rattle.gix_refspec_lint.proofs.Common.{slice_get, some_element, of_element, joined_next, IsMadeFrom}
use Rattle.gix_refspec_lint.proofs.Common.{IsJoinedFrom, Ref, Reading, Source, HaveSameNames, MakesForward}
use Rattle.gix_refspec_lint.proofs.Common.{AreStorable, CanBeWritten, Fetches, IsCompleted, IsDirectoryOf}
use Rattle.gix_refspec_lint.proofs.Common.{IsSourceExcluded, IsValidSource, refs_of, Bor, Fits, HaveParts, IsFree}
use Rattle.gix_refspec_lint.proofs.Common.{RefSpecRef, candidate_contained, candidates, reading_of, AreApart, AreCommon}
use Rattle.gix_refspec_lint.proofs.Common.{BeginsWith, Common, Group, HasPattern, IsAccepted, IsDeciding, IsGroupOf}
use Rattle.gix_refspec_lint.proofs.Common.{IsSplit, Lacks, all_join, all_left, all_right, append_assoc, slash, name, id}
use Rattle.gix_refspec_lint.proofs.Common.{words_with, ◌≢◌, AreOverlaps, BString, option_map, same_Some, slice_get-map}
use Rattle.gix_refspec_lint.proofs.Common.{Contains-append_left, Contains-append_right, bstring_bytes, cases_lt, drop}
use Rattle.gix_refspec_lint.proofs.Common.{length-append, map-append, mapped_there}
use Rattle.std.proofs.Math.Seq.{get_or-append_seam, take-append_seam}
use Rattle.std.proofs.lemmas.List.{drop_more}
use Rattle.std.proofs.Common.{option_copied}
use Rattle.gix_refspec_lint.proofs.Common.{HasName, IsLongerPrefix, split_once, length-drop, take_all, ◌-◌}
use Rattle.gix_refspec_lint.proofs.Common.{append_cancel_left, not, true, Bool, false, false≢true, is_some, MatchOption}
use Rattle.gix_refspec_lint.proofs.Common.{get_or_from_slice_get, take-append-drop}
use Rattle.gix_refspec_lint.proofs.lemmas.FoundLemmas.{makes_also, parts_at, unsplit_lacks}
use Rattle.gix_refspec_lint.proofs.lemmas.IndexLemmas.{IsThere, accepted_of, made_there, reading_at, maps_of}
use Rattle.gix_refspec_lint.proofs.lemmas.IndexLemmas.{one_completed, zip_of, of_maps}
use Rattle.gix_refspec_lint.proofs.lemmas.MovedLemmas.{lacks_destination, lacks_parts, lacks_source}
use Rattle.gix_refspec_lint.proofs.lemmas.PatternLemmas.{MapsPattern, maps_pattern}
use Rattle.gix_refspec_lint.proofs.lemmas.SourceLemmas.{source_unsplit, taken_cases}
use Rattle.gix_refspec_lint.proofs.lemmas.NestLemmas.{candidates_lack, after_star, before_star, decided_below}
use Rattle.gix_refspec_lint.proofs.lemmas.NestLemmas.{decided_followed, in_word, slash_of, word_freed}
use Rattle.gix_refspec_lint.specs.Matching.Lint.{IsNesting, IsNestingOf, Nesting, NestingOver}
use Rattle.std.proofs.lemmas.Option.{same_Some}
use Rattle.gix_refspec_lint.specs.declared.idle.Idleness.{Idleness}
use Rattle.gix_refspec_lint.specs.declared.idle.Idleness.TheVariants as idleness
use Rattle.gix_refspec_lint.specs.Private.Idles.{IsWhyBeside}
use Rattle.gix_refspec_lint.specs.Private.Nestings.{HaveFollowed, HaveOpenSides, IsAfter, IsFollowed, IsFoundEither}
use Rattle.gix_refspec_lint.specs.Private.Nestings.{IsFoundIf, IsInWord, IsNestingFound, IsWithout, NoneNested}
use Rattle.gix_refspec_lint.specs.Private.Nestings.{SourcesLack}

-- ---- lists of what is found

-- the later specs with which the one at index i has an example
abbrev pub AreNestingsOf : List Reading → ℕ → List Reading → List Nesting → Type 0
AreNestingsOf g i l found = IsMadeFrom (λ j q n. IsNesting g i j n) 0 l found

-- ---- specs that fetch nothing

-- a spec that does nothing, though there are no others beside it, fetches nothing
pub dead_spec : (g : List Reading) (k : ℕ) (c : Reading) (why : Option Idleness)
    → IsWhyBeside g (record { from = 0; to = 0 }) k c why → is_some why ≡ true
    → (refs : List Ref) (s : Source) (d : Option (List ℕ)) → ¬ (Fetches g refs k s d)
dead_spec g k c None is some refs s d = absurd (false≢true some)
dead_spec g k c (Some idleness.Invalid) is some refs s d = λ fetches. is.1 refs s d fetches.maps
dead_spec g k c (Some (idleness.Excluded n)) is some refs s d = is.1.0 refs s d
dead_spec g k c (Some (idleness.Duplicate h)) is some refs s d = absurd (omega (arith, is.1.1.other.1))

pub rows_next : (g : List Reading) (i : ℕ) (row ys zs : List Nesting) → i < length g → AreNestingsOf g i g row
    → IsJoinedFrom (λ i r of_first. AreNestingsOf g i g of_first) 0 (take i g) ys → zs ≡ ys ++ row
    → IsJoinedFrom (λ i r of_first. AreNestingsOf g i g of_first) 0 (take (i + 1) g) zs
rows_next g i row ys zs below is so_far more =
    let x = some_element g i below in
    rw (more, take_more g i x below) (joined_next (λ i r of_first. AreNestingsOf g i g of_first) i (take i g)
    (get_or g i x) ys row (length-take-le i g (omega (arith, below))) so_far is)

-- ---- two specs, by their completed readings

pub nest_made : (g h : List Reading) → AllZip IsCompleted g h → (i j : ℕ) (refs : List Ref) (s t : Source)
    (d e : List ℕ) → HaveSameNames refs (refs_of s ++ refs_of t) → (b c : Reading) → slice_get h i ≡ Some b
    → slice_get h j ≡ Some c
    → AreStorable (refs_of s ++ refs_of t) → IsValidSource s × ¬ (IsSourceExcluded g s) → IsValidSource t
    × ¬ (IsSourceExcluded g t) → CanBeWritten (Some d) → CanBeWritten (Some e) → IsDirectoryOf d e
    → MakesForward refs s (Some d) b → MakesForward refs t (Some e) c
    → NestingOver g (refs_of s ++ refs_of t) i j s t d e
nest_made g h all i j refs s t d e named b c at here storable one other written also nested makes too =
    let few = refs_of s ++ refs_of t in
    record {
      storable = storable;
      upper = record {
        maps =
            record {
              maps = maps_of g h all i b at few s (Some d) (makes_also refs few s (Some d) b named makes);
              source =
                  one.0;
              destination = written;
            };
        included = one.1;
      };
      lower = record {
        maps =
            record {
              maps = maps_of g h all j c here few t (Some e) (makes_also refs few t (Some e) c named too);
              source =
                  other.0;
              destination = also;
            };
        included = other.1;
      };
      nested = nested;
    }

-- two sources don't make an example at these destinations
abbrev pub NoNesting : List Reading → ℕ → ℕ → List ℕ → List ℕ → Source → Source → Type 0
NoNesting g i j d e s t = ¬ (NestingOver g (refs_of s ++ refs_of t) i j s t d e)

pub none_of_pairs : (g : List Reading) (i j : ℕ) (d e : List ℕ) (ones others : List Source)
    → AllByRecursion (λ s. AllByRecursion (NoNesting g i j d e s) others) ones
    → ((s t : Source) → NestingOver g (refs_of s ++ refs_of t) i j s t d e → Contains ones s × Contains others t)
    → NoneNested g i j d e
none_of_pairs g i j d e ones others all listed_there s t c =
    let (one, other) = listed_there s t c in
    of_element (NoNesting g i j d e s) others t
    (of_element (λ s. AllByRecursion (NoNesting g i j d e s) others) ones s all one) other c

-- none at two destinations is none where both are the same
pub none_there : (g : List Reading) (i j : ℕ) (d e : List ℕ) → NoneNested g i j d e
    → IsFoundIf g i j (λ x y. (x ≡ d) × (y ≡ e)) None
none_there g i j d e none x y (is, same) = rw (is, same) none

pub copied_nesting : (g : List Reading) (i j : ℕ) (s t u v : Source) (d e m n : List ℕ) → u ≡ s → v ≡ t → m ≡ d → n ≡ e
    → NestingOver g (refs_of s ++ refs_of t) i j s t d e
    → IsNestingOf g i j (record { upper = i; lower = j; one = u; other = v; directory = m; nested = n })
copied_nesting g i j s t u v d e m n first second to also c =
    record { upper = refl; lower = refl; over = rw (first, second, to, also) c }

-- where P is no more than Q
pub found_so : (g : List Reading) (i j : ℕ) (P Q : List ℕ → List ℕ → Type 0) (found : Option Nesting)
    → ((d e : List ℕ) → P d e → Q d e) → IsFoundIf g i j Q found → IsFoundIf g i j P found
found_so g i j P Q None fewer none = λ d e of. none d e (fewer d e of)
found_so g i j P Q (Some n) fewer shown = shown

-- where there is none in one order, what is found in the other is what is found
pub both_ways : (g : List Reading) (i j : ℕ) (found : Option Nesting) → IsFoundIf g i j (λ d e. Unit {0}) None
    → IsFoundIf g j i (λ d e. Unit {0}) found → IsFoundEither g i j found
both_ways g i j None none also = λ d e. (none d e tt, also d e tt)
both_ways g i j (Some n) none shown = inr shown

-- ---- what the names that decide say of two patterns

e_begins : (d a w e after : List ℕ) → d ≡ a ++ w → e ≡ (d ++ slash ∷ []) ++ after → e ≡ a ++ (w ++ (slash ∷ after))
e_begins d a w e after fits here = here ∙ append_assoc d (slash ∷ []) after ∙ ap (λ x. x ++ (slash ∷ after)) fits
    ∙ append_assoc a w (slash ∷ after)

-- the reading of the spec at an index
pub reading_of_spec : (cs : List RefSpecRef) (k : ℕ) (x : RefSpecRef) → slice_get cs k ≡ Some x
    → slice_get (map reading_of cs) k ≡ Some (reading_of x)
reading_of_spec cs k x at = slice_get-map reading_of cs k ∙ ap (option_map reading_of) at

-- what a spec with a destination pattern fetches
module _ (g : List Reading) (group : Group) (is : IsGroupOf g group) (k : ℕ) (p q : List ℕ)
    (has : HasPattern group k p q) (refs : List Ref) (s : Source) (d : List ℕ) (f : Fetches g refs k s (Some d)) where
  same_reading : has.reading ≡ f.maps.maps.completed
  same_reading = sym (one_completed g (map reading_of group.specs.now) is.completed k has.reading has.at f.maps.maps)

  accepted_so : ∥ IsAccepted f.maps.maps.completed ∥₁
  accepted_so = subst (λ r. ∥ IsAccepted r ∥₁) same_reading (accepted_of group.specs.now k has.reading has.at)

  destination_so : f.maps.maps.completed.destination ≡ Some has.destination
  destination_so = subst (λ r. r.destination ≡ Some has.destination) same_reading has.has

  pub fetched_so : MapsPattern f.maps.maps.completed p q s d
  fetched_so = maps_pattern f.maps.maps.completed accepted_so has.destination p q destination_so has.split refs s d
      f.maps.maps.makes

  -- a side that ends with its star: the text before that, and the word
  source_open : (x before : List ℕ) → has.reading.source ≡ Some x → IsSplit before [] x
      → s ≡ name (before ++ fetched_so.word)
  source_open x before source split =
      let m = fetched_so in
      let same : m.side.text ≡ x =
      same_Some _ _ (sym m.side.has ∙ subst (λ r. r.source ≡ Some x) same_reading source) in
      let (front, back) = split_once x m.before m.after before [] (subst (IsSplit m.before m.after) same m.side.split)
      split in
      m.source ∙ ap (λ y. name (m.before ++ (m.word ++ y))) back ∙ ap (λ y. name (y ++ (m.word ++ []))) front
      ∙ ap (λ y. name (before ++ y)) (append-nil m.word)

  destination_open : (x folder : List ℕ) → has.reading.destination ≡ Some x → IsSplit folder [] x
      → d ≡ folder ++ fetched_so.word
  destination_open x folder destination split =
      let m = fetched_so in
      let same : has.destination ≡ x = same_Some _ _ (sym has.has ∙ destination) in
      let (front, back) = split_once x p q folder [] (subst (IsSplit p q) same has.split) split in
      m.fits ∙ ap (λ y. p ++ (m.word ++ y)) back ∙ ap (λ y. y ++ (m.word ++ [])) front
      ∙ ap (λ y. folder ++ y) (append-nil m.word)

module _ (g : List Reading) (group : Group) (is : IsGroupOf g group) (i j : ℕ) where
  module _ (d : List ℕ) (p q : List ℕ) (lower : HasPattern group j p q) where
    pub none_apart : AreApart (d ++ slash ∷ []) [] p q → (e : List ℕ) → NoneNested g i j d e
    none_apart apart e s t k =
        let other = fetched_so g group is j p q lower (refs_of s ++ refs_of t) t e k.lower in
        apart e k.nested.after other.word
        (k.nested.here ∙ ap (λ x. (d ++ slash ∷ []) ++ x) (sym (append-nil k.nested.after))) other.fits

    pub none_below : SourcesLack g is.letter i d → (common : Common) → AreCommon (d ++ slash ∷ []) [] p q common
        → (names : List (List ℕ))
        → ((n : List ℕ) → IsDeciding (words_with is.letter) common.prefix.now common.suffix.now common.most n
        → Contains names n)
        → AllByRecursion (NoneNested g i j d) names → (e : List ℕ) → NoneNested g i j d e
    none_below lack common shared names there none e s t k =
        let refs = refs_of s ++ refs_of t in
        let one = decided_below g is.letter is.free i j refs s t d e k (lack refs s k.upper)
        (accepted_so g group is j p q lower refs t e k.lower) lower.destination p q
        (destination_so g group is j p q lower refs t e k.lower) lower.split
        common.prefix.now common.suffix.now common.most shared.prefix shared.suffix shared.most in
        of_element (NoneNested g i j d) names one.name none (there one.name one.deciding) one.one one.other one.over

  pub none_followed : (common : Common) (rest : List ℕ) (have : HaveFollowed group i j common rest)
      (names : List (List ℕ))
      → ((n : List ℕ) → IsDeciding (words_with is.letter) common.prefix.now common.suffix.now common.most n
      → Contains names n)
      → AllByRecursion (λ n. NoneNested g i j n (n ++ rest)) names
      → IsFoundIf g i j (IsFollowed have.prefix have.end rest) None
  none_followed common rest have names there none d e (u, begins, follows) s t k =
      let refs = refs_of s ++ refs_of t in
      let one = decided_followed g is.letter is.free i j refs s t d e k
      (accepted_so g group is i have.before have.after have.one refs s d k.upper) have.one.destination have.before
      have.after (destination_so g group is i have.before have.after have.one refs s d k.upper) have.one.split
      (accepted_so g group is j have.prefix have.suffix have.other refs t e k.lower) have.other.destination have.prefix
      have.suffix (destination_so g group is j have.prefix have.suffix have.other refs t e k.lower) have.other.split
      rest have.end have.more u follows have.whole have.behind begins common.prefix.now common.suffix.now common.most
      have.shared.prefix have.shared.suffix have.shared.most in
      of_element (λ n. NoneNested g i j n (n ++ rest)) names one.name none (there one.name one.deciding) one.one
      one.other one.over

  module _ (a b p q : List ℕ) (upper : HasPattern group i a b) (lower : HasPattern group j p q) where
    -- no directory is common to the upper pattern and what the lower one begins with
    pub none_common : (end rest : List ℕ) → AreApart a b p end → IsFoundIf g i j (IsFollowed p end rest) None
    none_common end rest apart d e (u, begins, follows) s t k =
        let one = fetched_so g group is i a b upper (refs_of s ++ refs_of t) s d k.upper in
        apart d one.word u one.fits begins

    -- the byte stands for each word after the slash
    pub none_in_word : IsFoundIf g i j (IsFollowed p [] (slash ∷ (is.letter ∷ q))) None
        → IsFoundIf g i j (IsInWord p q) None
    none_in_word none d e (u, v, begins, follows) s t k =
        let refs = refs_of s ++ refs_of t in
        let (r, over) = word_freed g is.letter is.free i j refs s t d e k
        (accepted_so g group is i a b upper refs s d k.upper) upper.destination a b
        (destination_so g group is i a b upper refs s d k.upper) upper.split
        (accepted_so g group is j p q lower refs t e k.lower) lower.destination p q
        (destination_so g group is j p q lower refs t e k.lower) lower.split u v begins follows in
        none d (d ++ (slash ∷ (is.letter ∷ q))) (u, begins ∙ ap (λ x. p ++ x) (sym (append-nil u)), refl) s r over

    pub found_in_word : (rest : List ℕ) → rest ≡ slash ∷ (is.letter ∷ q) → (found : Option Nesting)
        → IsFoundIf g i j (IsFollowed p [] rest) found → IsFoundIf g i j (IsInWord p q) found
    found_in_word rest at None none = none_in_word (subst (λ r. IsFoundIf g i j (IsFollowed p [] r) None) at none)
    found_in_word rest at (Some n) shown = shown

    abbrev pub have_in_word : (rest : List ℕ) → rest ≡ slash ∷ (is.letter ∷ q) → (common : Common)
        → AreCommon a b p [] common → HaveFollowed group i j common rest
    have_in_word rest at common shared = record {
      before = a;
      after = b;
      prefix = p;
      suffix = q;
      one = upper;
      other = lower;
      end = [];
      more = slash ∷ (is.letter ∷ []);
      shared = shared;
      whole = at;
      behind = (is.letter ∷ q, at);
    }

    abbrev pub have_after : (end rest k : List ℕ) → q ≡ end ++ rest → rest ≡ slash ∷ k → (common : Common)
        → AreCommon a b p end common → HaveFollowed group i j common rest
    have_after end rest k cut at common shared =
        record {
          before = a;
          after = b;
          prefix = p;
          suffix = q;
          one = upper;
          other = lower;
          end = end;
          more = [];
          shared = shared;
          whole = sym cut;
          behind = (k, at);
        }

    -- the slash is in one of the three parts
    pub none_of_three : IsFoundIf g i j (λ d e. BeginsWith (d ++ slash ∷ []) p) None
        → IsFoundIf g i j (IsInWord p q) None → IsFoundIf g i j (IsAfter p q) None → IsNestingFound g i j None
    none_of_three before within behind d e told s t k =
        let other = fetched_so g group is j p q lower (refs_of s ++ refs_of t) t e k.lower in
        elim (slash_of p q other.word d e other.fits k.nested) [
          | before_star b ↦ before d e b s t k
          | in_word w ↦ within d e w s t k
          | after_star a ↦ behind d e a s t k
        ]

    pub found_of_three : (found : Option Nesting) → IsFoundIf g i j (λ d e. BeginsWith (d ++ slash ∷ []) p) None
        → IsFoundIf g i j (IsInWord p q) None → IsFoundIf g i j (IsAfter p q) found → IsNestingFound g i j found
    found_of_three None before within behind = none_of_three before within behind
    found_of_three (Some n) before within shown = shown

    -- none before the slashes of the text after the star
    pub none_after : (((end a : List ℕ) → q ≡ end ++ (slash ∷ a) → IsFoundIf g i j (IsFollowed p end (slash ∷ a)) None))
        → IsFoundIf g i j (IsAfter p q) None
    none_after none d e (u, end, a, cut, begins, follows) = none end a cut d e (u, begins, follows)

    -- nor before those of the text before it
    pub none_before : ((d a : List ℕ) → p ≡ d ++ (slash ∷ a) → (e : List ℕ) → NoneNested g i j d e)
        → IsFoundIf g i j (λ d e. BeginsWith (d ++ slash ∷ []) p) None
    none_before none d e begins = none d begins.after (begins.here ∙ append_assoc d (slash ∷ []) begins.after) e

    -- none where the upper pattern doesn't match the directory
    pub none_matched : (d : List ℕ) → ((w : List ℕ) → ¬ (Fits a b d w)) → (e : List ℕ) → NoneNested g i j d e
    none_matched d none e s t k = let one = fetched_so g group is i a b upper (refs_of s ++ refs_of t) s d k.upper in
        none one.word one.fits

    -- one of the texts before the stars begins with the other
    pub none_beside : ((n : List ℕ) → BeginsWith a n → ¬ (BeginsWith p n)) → IsNestingFound g i j None
    none_beside apart d e told s t k =
        let refs = refs_of s ++ refs_of t in
        let one = fetched_so g group is i a b upper refs s d k.upper in
        let other = fetched_so g group is j p q lower refs t e k.lower in
        apart e (record {
          after = (one.word ++ b) ++ (slash ∷ k.nested.after);
          here =
              e_begins d a (one.word ++ b) e k.nested.after one.fits k.nested.here;
        })
        (record { after = other.word ++ q; here = other.fits })

    -- two patterns with the same sides, and stars at their ends: what one writes is in the directory of what the other
    -- writes
    -- only if their sources are so too
    pub none_open : (above below : RefSpecRef) → slice_get group.specs.now i ≡ Some above
        → slice_get group.specs.now j ≡ Some below
        → HaveOpenSides (reading_of above) (reading_of below) → IsNestingFound g i j None
    none_open above below at also same d e told s t k =
        let upper_is : reading_of above ≡ upper.reading =
        same_Some _ _ (sym (reading_of_spec group.specs.now i above at) ∙ upper.at) in
        let lower_is : reading_of below ≡ lower.reading =
        same_Some _ _ (sym (reading_of_spec group.specs.now j below also) ∙ lower.at) in
        let refs = refs_of s ++ refs_of t in
        let one = fetched_so g group is i a b upper refs s d k.upper in
        let other = fetched_so g group is j p q lower refs t e k.lower in
        let (x, before, from, source) = same.from in
        let (y, folder, to, destination) = same.to in
        let upper_source = source_open g group is i a b upper refs s d k.upper x before
        (subst (λ r. r.source ≡ Some x) upper_is (same.source ∙ from)) source in
        let lower_source = source_open g group is j p q lower refs t e k.lower x before
        (subst (λ r. r.source ≡ Some x) lower_is from) source in
        let directory = destination_open g group is i a b upper refs s d k.upper y folder
        (subst (λ r. r.destination ≡ Some y) upper_is (same.destination ∙ to)) destination in
        let nested = destination_open g group is j p q lower refs t e k.lower y folder
        (subst (λ r. r.destination ≡ Some y) lower_is to) destination in
        let after = slash ∷ k.nested.after in
        let word : other.word ≡ one.word ++ after =
        append_cancel_left folder _ _
        (sym nested ∙ e_begins d folder one.word e k.nested.after directory k.nested.here) in
        let here : HasName refs (before ++ one.word) = subst (IsThere refs) upper_source
        (made_there refs s (Some d) k.upper.maps.maps.completed k.upper.maps.maps.makes) in
        let there : HasName refs (before ++ other.word) = subst (IsThere refs) lower_source
        (made_there refs t (Some e) k.lower.maps.maps.completed k.lower.maps.maps.makes) in
        let behind : before ++ other.word ≡ ((before ++ one.word) ++ slash ∷ []) ++ k.nested.after =
        ap (λ w. before ++ w) word ∙ simp append_assoc in
        k.storable _ _ here there (record { after = k.nested.after; here = behind })

    -- a directory that lacks the byte is written only from such sources
    pub sources_lack : (d : List ℕ) → Lacks is.letter d → SourcesLack g is.letter i d
    sources_lack d lacks refs s f =
        let one = fetched_so g group is i a b upper refs s d f in
        let z = is.letter in
        let text = lacks_source g z is.free i f.maps.maps.reading f.maps.maps.completed one.side.text f.maps.maps.at
        f.maps.maps.is one.side.has in
        let near = lacks_parts g z is.free one.side.text one.before one.after text one.side.split in
        let word = all_left (λ c. c ≢ z) one.word b
        (all_right (λ c. c ≢ z) a (one.word ++ b) (subst (Lacks z) one.fits lacks)) in
        subst (IsWithout z) (sym one.source) (all_join (λ c. c ≢ z) one.before (one.word ++ one.after) near.0
        (all_join (λ c. c ≢ z) one.word one.after word near.1))

    -- so it is with what the lower text before the star begins with
    pub directory_lacks : (d : List ℕ) → BeginsWith (d ++ slash ∷ []) p → SourcesLack g is.letter i d
    directory_lacks d begins refs s f =
        let z = is.letter in
        let (r, here, done) = zip_of g (map reading_of group.specs.now) is.completed j lower.reading lower.at in
        let sides = lacks_parts g z is.free lower.destination p q
        (lacks_destination g z is.free j r lower.reading lower.destination p q here done lower.has lower.split)
        lower.split in
        let whole = subst (Lacks z) begins.here sides.0 in
        sources_lack d
        (all_left (λ c. c ≢ z) d (slash ∷ []) (all_left (λ c. c ≢ z) (d ++ slash ∷ []) begins.after whole)) refs s f

-- a spec without a star in its destination has no source with the byte
pub plain_lacks : (g : List Reading) (z : ℕ) → IsFree g z → (i : ℕ) (d : List ℕ)
    → ((refs : List Ref) (s : Source) → Fetches g refs i s (Some d) → (f : Fetches g refs i s (Some d))
    → (x before after : List ℕ) → f.maps.maps.completed.source ≡ Some x → ¬ (IsSplit before after x))
    → SourcesLack g z i d
plain_lacks g z free i d unsplit refs (id bytes) f = tt
plain_lacks g z free i d unsplit refs (name n) f =
    let makes = f.maps.maps.makes in
    let text = lacks_source g z free i f.maps.maps.reading f.maps.maps.completed makes.ends.near f.maps.maps.at
    f.maps.maps.is makes.has.near in
    elim (taken_cases f.maps.maps.completed refs n (Some d) makes) [
      | inl (p, t, split) ↦ absurd (unsplit refs (name n) f f makes.ends.near p t makes.has.near split)
      | inr (inl is) ↦ subst (Lacks z) (sym is) text
      | inr (inr one) ↦ of_element (Lacks z) (candidates makes.ends.near) n
          (candidates_lack g z free makes.ends.near text) (candidate_contained makes.ends.near n one)
    ]

-- ---- lists of names, and slashes of a text

map_next : {X Y : Type 0} (f : X → Y) (l : List X) (i : ℕ) (d : X) → i < length l → map f (take (i + 1) l) ≡ map f
    (take i l) ++ f (get_or l i d) ∷ []
map_next f l i d below = ap (map f) (take_more l i d below) ∙ map-append f (take i l) (get_or l i d ∷ [])

abbrev pub AreNames : List ℕ → List ℕ → List (List ℕ) → List ℕ → List (List ℕ) → Type 0
AreNames prefix suffix words list names = names ≡ map (λ w. prefix ++ (w ++ suffix)) words ++ map
    (λ k. prefix ++ drop k suffix) list

pub name_of_word : (prefix suffix : List ℕ) (items : List BString) (i : ℕ) (w : BString) (old new : List BString)
    (n : BString) → i < length items → w ≡ get_or items i w
    → AreNames prefix suffix (map bstring_bytes (take i items)) [] (map bstring_bytes old)
    → bstring_bytes n ≡ prefix ++ (bstring_bytes w ++ suffix) → new ≡ old ++ n ∷ []
    → AreNames prefix suffix (map bstring_bytes (take (i + 1) items)) [] (map bstring_bytes new)
name_of_word prefix suffix items i w old new n below is so_far made more =
    let F = λ (w : List ℕ). prefix ++ (w ++ suffix) in
    ap (map bstring_bytes) more ∙ map-append bstring_bytes old (n ∷ []) ∙ ap (λ l. l ++ bstring_bytes n ∷ [])
    (so_far ∙ append-nil _)
    ∙ ap (λ m. map F (map bstring_bytes (take i items)) ++ m ∷ []) (made ∙ ap (λ w. F (bstring_bytes w)) is)
    ∙ sym (ap (map F) (map_next bstring_bytes items i w below) ∙ map-append F (map bstring_bytes (take i items))
    (bstring_bytes (get_or items i w) ∷ [])) ∙ sym (append-nil _)

pub name_of_overlap : (prefix suffix : List ℕ) (words : List (List ℕ)) (items : List ℕ) (i k : ℕ)
    (old new : List BString) (n : BString) → i < length items → k ≡ get_or items i 0
    → AreNames prefix suffix words (take i items) (map bstring_bytes old) → bstring_bytes n ≡ prefix ++ drop k suffix
    → new ≡ old ++ n ∷ []
    → AreNames prefix suffix words (take (i + 1) items) (map bstring_bytes new)
name_of_overlap prefix suffix words items i k old new n below is so_far made more =
    let F = λ (w : List ℕ). prefix ++ (w ++ suffix) in
    let G = λ (k : ℕ). prefix ++ drop k suffix in
    ap (map bstring_bytes) more ∙ map-append bstring_bytes old (n ∷ []) ∙ ap (λ l. l ++ bstring_bytes n ∷ []) so_far
    ∙ append_assoc (map F words) (map G (take i items)) (bstring_bytes n ∷ [])
    ∙ ap (λ m. map F words ++ (map G (take i items) ++ m ∷ [])) (made ∙ ap G is) ∙ ap (λ l. map F words ++ l)
    (sym (map_next G items i 0 below))

pub deciding_there : (words : List (List ℕ)) (prefix suffix : List ℕ) (most : ℕ) (list : List ℕ) (names : List (List ℕ))
    → AreOverlaps prefix suffix most list → AreNames prefix suffix words list names
    → (n : List ℕ) → IsDeciding words prefix suffix most n → Contains names n
deciding_there words prefix suffix most list names are is n (inl (w, has, at)) =
    rw (is, at) (Contains-append_left (map (λ w. prefix ++ (w ++ suffix)) words)
    (map (λ k. prefix ++ drop k suffix) list) (prefix ++ (w ++ suffix))
    (mapped_there (λ w. prefix ++ (w ++ suffix)) words w has))
deciding_there words prefix suffix most list names are is n (inr (k, below, overlap, at)) =
    rw (is, at) (Contains-append_right (map (λ w. prefix ++ (w ++ suffix)) words)
    (map (λ k. prefix ++ drop k suffix) list) (prefix ++ drop k suffix)
    (mapped_there (λ k. prefix ++ drop k suffix) list k (are.all k below overlap)))

-- P holds of what is before each slash of the text, up to the index, and of what follows the slash
abbrev pub HoldsBefore : (List ℕ → List ℕ → Type 0) → List ℕ → ℕ → Type 0
HoldsBefore P x i = (d a : List ℕ) → x ≡ d ++ (slash ∷ a) → length d < i → P d a

pub holds_all : (P : List ℕ → List ℕ → Type 0) (x : List ℕ) (i : ℕ) → HoldsBefore P x i → length x ≤ i → (d a : List ℕ)
    → x ≡ d ++ (slash ∷ a) → P d a
holds_all P x i before over d a is = before d a is (omega (arith, over, ap length is, length-append d (slash ∷ a)))

pub holds_next : (P : List ℕ → List ℕ → Type 0) (x : List ℕ) (i : ℕ) → HoldsBefore P x i
    → ((d a : List ℕ) → x ≡ d ++ (slash ∷ a) → length d ≡ i → P d a) → HoldsBefore P x (i + 1)
holds_next P x i before here d a is within = elim (cases_lt (length d) i) [
  | inl less ↦ before d a is less
  | inr from ↦
      here d a is (omega (arith, within, from))
]

-- where a text has a slash at an index, what is before it
slash_at : (x d a : List ℕ) (i : ℕ) → x ≡ d ++ (slash ∷ a) → length d ≡ i → get_or x i 0 ≡ slash
slash_at x d a i is at = ap (λ y. get_or y i 0) is ∙ ap (λ k. get_or (d ++ (slash ∷ a)) k 0) (sym at)
    ∙ get_or-append_seam d slash a 0

front_at : (x d a : List ℕ) (i : ℕ) → x ≡ d ++ (slash ∷ a) → length d ≡ i → take i x ≡ d
front_at x d a i is at = ap (take i) is ∙ ap (λ k. take k (d ++ (slash ∷ a))) (sym at) ∙ take-append_seam d (slash ∷ a)

-- P holds of what is before the index and after it
pub holds_here : (P : List ℕ → List ℕ → Type 0) (x : List ℕ) (i : ℕ) → HoldsBefore P x i
    → ((a : List ℕ) → x ≡ take i x ++ (slash ∷ a) → P (take i x) a) → HoldsBefore P x (i + 1)
holds_here P x i before here =
    holds_next P x i before
    (λ d a is at. let front = front_at x d a i is at in subst (λ f. P f a) front
    (here a (is ∙ ap (λ f. f ++ (slash ∷ a)) (sym front))))

-- there is no slash at the index
pub holds_past : (P : List ℕ → List ℕ → Type 0) (x : List ℕ) (i : ℕ) → HoldsBefore P x i → get_or x i 0 ≢ slash
    → HoldsBefore P x (i + 1)
holds_past P x i before none = holds_next P x i before (λ d a is at. absurd (none (slash_at x d a i is at)))

-- what is from a slash on
pub slash_rest : (x : List ℕ) (i : ℕ) → i < length x → get_or x i 0 ≡ slash → drop i x ≡ slash ∷ drop (i + 1) x
slash_rest x i below is = drop_more x i 0 below ∙ ap (λ b. b ∷ drop (i + 1) x) is

pub slash_begins : (x : List ℕ) (i : ℕ) → i < length x → get_or x i 0 ≡ slash → BeginsWith (take i x ++ slash ∷ []) x
slash_begins x i below is = record {
  after = drop (i + 1) x;
  here = sym (take-append-drop i x) ∙ ap (λ r. take i x ++ r) (slash_rest x i below is)
      ∙ sym (append_assoc (take i x) (slash ∷ []) (drop (i + 1) x));
}

-- as the code slices it
pub slice_rest : (x : List ℕ) (i : ℕ) → take (length x - i) (drop i x) ≡ drop i x
slice_rest x i = take_all (length x - i) (drop i x) (omega (arith, length-drop i x))

pub rest_is : (x a : List ℕ) (i : ℕ) → x ≡ take i x ++ (slash ∷ a) → drop i x ≡ slash ∷ a
rest_is x a i cut = append_cancel_left (take i x) (drop i x) (slash ∷ a) (take-append-drop i x ∙ cut)

pub destination_at : (specs : List RefSpecRef) (k : ℕ) (x : RefSpecRef) (o : Option (List ℕ))
    → slice_get specs k ≡ Some x → (reading_of x).destination ≡ o → (reading_of (get_or specs k x)).destination ≡ o
destination_at specs k x o at is = ap (λ y. (reading_of y).destination) (get_or_from_slice_get specs k x x at) ∙ is

-- no word between two texts
pub matched_nothing : (a b d : List ℕ) (found : Option (Bor (List ℕ))) {t : Bool} → t ≡ is_some found → t ≡ false
    → MatchOption found ((w : List ℕ) → ¬ (Fits a b d w)) (λ w. Fits a b d w.now) → (w : List ℕ) → ¬ (Fits a b d w)
matched_nothing a b d None is none told = told
matched_nothing a b d (Some w) is none told = absurd (false≢true (sym none ∙ is))

-- the first of the words to try is the byte
pub first_is : (z : ℕ) (l : List BString) (w : BString) → map bstring_bytes l ≡ words_with z → Some w ≡ slice_get l 0
    → bstring_bytes w ≡ z ∷ []
first_is z [] w is at = absurd (cc (at))
first_is z (v ∷ l) w is at = ap bstring_bytes (same_Some w v at) ∙ ap (λ l. get_or l 0 []) is

empty_never : (x : List ℕ) (l : List (List ℕ)) → ¬ ([] ≡ x ∷ l)
empty_never x l is = absurd (cc (is))

pub no_first : (z : ℕ) (l : List BString) → map bstring_bytes l ≡ words_with z → None ≡ slice_get l 0 → ⊥
no_first z [] is at = empty_never _ _ is
no_first z (v ∷ l) is at = absurd (cc (at))

pub first_word : (z : ℕ) (l : List BString) (o : Option (Bor BString)) → option_copied o ≡ slice_get l 0
    → map bstring_bytes l ≡ words_with z → MatchOption o ⊥ (λ w. bstring_bytes w.now ≡ z ∷ [])
first_word z l None at is = no_first z l is at
first_word z l (Some w) at is = first_is z l w.now is at

-- no text begins with both
pub no_prefix : (a p : List ℕ) (found : Option (Bor (List ℕ))) (t : Bool) → is_some found ≡ not t → t ≡ true
    → MatchOption found ((n : List ℕ) → BeginsWith a n → ¬ (BeginsWith p n)) (λ longer. IsLongerPrefix a p longer.now)
    → (n : List ℕ) → BeginsWith a n → ¬ (BeginsWith p n)
no_prefix a p None t is none told = told
no_prefix a p (Some w) t is none told = absurd (false≢true (sym (is ∙ ap not none)))

-- a spec whose destination has no star has no source with the byte
pub plain_sources : (g : List Reading) (group : Group) (is : IsGroupOf g group) (k : ℕ) (z : RefSpecRef)
    → k < length group.specs.now → (parts : List (Option (Bor (List ℕ) × Bor (List ℕ))))
    → HaveParts group.specs.now parts
    → get_or parts k None ≡ None → (n : List ℕ) → (reading_of (get_or group.specs.now k z)).destination ≡ Some n
    → SourcesLack g is.letter k n
plain_sources g group is k z within parts have none n has =
    let c = reading_of (get_or group.specs.now k z) in
    let at = reading_at group.specs.now k z within in
    let accepted = accepted_of group.specs.now k c at in
    let lacks = unsplit_lacks c accepted n (inr has)
    (λ before after. parts_at group.specs.now parts k z None have within none n before after has) in
    plain_lacks g is.letter is.free k n (λ refs s f also x before after source split.
    let same = one_completed g (map reading_of group.specs.now) is.completed k c at also.maps.maps in
    source_unsplit c n accepted has lacks x before after (subst (λ r. r.source ≡ Some x) same source) split)

-- it writes no other destination
pub only_plain : (g : List Reading) (i j : ℕ) (d : List ℕ) (found : Option Nesting)
    → ((refs : List Ref) (s : Source) (e : List ℕ) → Fetches g refs i s (Some e) → e ≡ d)
    → IsFoundIf g i j (λ x e. x ≡ d) found → IsNestingFound g i j found
only_plain g i j d None only none = λ x e told s t k. none x e (only (refs_of s ++ refs_of t) s x k.upper) s t k
only_plain g i j d (Some n) only shown = shown

pub plain_below : (g : List Reading) (i j : ℕ) (e : List ℕ) (found : Option Nesting)
    → ((refs : List Ref) (t : Source) (d : List ℕ) → Fetches g refs j t (Some d) → d ≡ e)
    → IsFoundIf g i j (λ d x. x ≡ e) found → IsNestingFound g i j found
plain_below g i j e None only none = λ d x told s t k. none d x (only (refs_of s ++ refs_of t) t x k.lower) s t k
plain_below g i j e (Some n) only shown = shown

pub plain_both : (g : List Reading) (i j : ℕ) (d e : List ℕ) (found : Option Nesting)
    → ((refs : List Ref) (s : Source) (x : List ℕ) → Fetches g refs i s (Some x) → x ≡ d)
    → ((refs : List Ref) (t : Source) (x : List ℕ) → Fetches g refs j t (Some x) → x ≡ e)
    → IsFoundIf g i j (λ x y. (x ≡ d) × (y ≡ e)) found → IsNestingFound g i j found
plain_both g i j d e None one other none = λ x y told s t k. none x y (
  one (refs_of s ++ refs_of t) s x k.upper,
  other (refs_of s ++ refs_of t) t y k.lower,
) s t k
plain_both g i j d e (Some n) one other shown = shown

pub pattern_at : (g : List Reading) (group : Group) (k : ℕ) (z : RefSpecRef) → k < length group.specs.now
    → (parts : List (Option (Bor (List ℕ) × Bor (List ℕ)))) → HaveParts group.specs.now parts
    → (p : Bor (List ℕ) × Bor (List ℕ)) → get_or parts k None ≡ Some p → HasPattern group k p.0.now p.1.now
pattern_at g group k z within parts have p at =
    let (d, has, split) = parts_at group.specs.now parts k z (Some p) have within at in
    record {
      reading = reading_of (get_or group.specs.now k z);
      at = reading_at group.specs.now k z within;
      destination = d;
      has = has;
      split = split;
    }

-- what is known of that spec
module _ (g : List Reading) (group : Group) (is : IsGroupOf g group) (k : ℕ) (x : RefSpecRef)
    (at : slice_get group.specs.now k ≡ Some x) where
  pub completed_spec : (r : Reading) × IsCompleted r (reading_of x)
  completed_spec = let (r, here, done) = zip_of g (map reading_of group.specs.now) is.completed k (reading_of x)
      (reading_of_spec group.specs.now k x at) in (r, done)

  pub spec_makes : (refs : List Ref) (s : Source) (d : List ℕ) → Fetches g refs k s (Some d)
      → MakesForward refs s (Some d) (reading_of x)
  spec_makes refs s d f = of_maps g (map reading_of group.specs.now) is.completed k (reading_of x)
      (reading_of_spec group.specs.now k x at) refs s (Some d) f.maps.maps
