-- Reasons for which names come to nothing, where a word repeats in the names: they hold with the word once more.
use Rattle.gix_refspec_lint.proofs.Common.{HasSourcePattern, Bor, ◌≡◌, ◌≢◌, ℕ, zero, suc, ◌+◌, ◌≤◌, List, [], ◌++◌}
use Rattle.gix_refspec_lint.proofs.Common.{Option, Some, length, refl, sym, ap, ◌∙◌, subst, arith, nil_from_length}
use Rattle.gix_refspec_lint.proofs.Common.{same_Some, Fits, Excludes, the_name, by_pattern, Reading, one_word}
use Rattle.gix_refspec_lint.proofs.Common.{split_once, lacks_no_pattern, IsRefName, CanBeWritten, power, ArePaired}
use Rattle.gix_refspec_lint.proofs.Common.{IsExcludedAt, Fails, IsUnsound, First, Second, Why, Unknown, Unwritable}
use Rattle.gix_refspec_lint.proofs.Common.{Invalid, Excluded, Same, append-nil, None, IfSome, MatchOption}
use Rattle.gix_refspec_lint.proofs.Common.{bstring_bytes, BString, HasParts, map, slice_get, Ref, pattern, IsAccepted}
use Rattle.gix_refspec_lint.proofs.Common.{reading_of, IsFilled, Source, name, IsSourceExcluded, MakesForward}
use Rattle.gix_refspec_lint.proofs.Common.{IsValidSource, ExcludesFrom, IsGroupOf, NoneAt, IsNotFetched, Group, Fetches}
use Rattle.gix_refspec_lint.proofs.lemmas.IndexLemmas.{excluded_at, accepted_of, of_maps}
use Rattle.gix_refspec_lint.proofs.lemmas.PatternLemmas.{destination_once, pattern_spec, spec_made}
use Rattle.gix_refspec_lint.proofs.lemmas.RepeatLemmas.{power_length, power_one, words_repeat, same_repeats}
use Rattle.gix_refspec_lint.proofs.lemmas.RepeatLemmas.{differ_again, names_again, written_again}
use Rattle.gix_refspec_lint.proofs.lemmas.SourceLemmas.{pattern_there}
use Rattle.gix_refspec_lint.proofs.lemmas.WordLemmas.{between}
use Rattle.gix_refspec_lint.specs.Private.Runs.{HasDestinationPattern}

-- with its sides the other way round a reading pairs names the other way round
abbrev swapped : Reading → Reading
swapped r = record r { source = r.destination; destination = r.source }

abbrev swap : (r : Reading) (n d : List ℕ) → ArePaired r n d → ArePaired (swapped r) d n
swap r n d p =
    let source : HasSourcePattern (swapped r) p.before p.after =
    record { text = p.destination.text; has = p.destination.has; split = p.destination.split } in
    let destination : HasDestinationPattern (swapped r) p.prefix p.suffix =
    record { text = p.source.text; has = p.source.has; split = p.source.split } in
    record {
      prefix = p.before;
      suffix = p.after;
      before = p.prefix;
      after = p.suffix;
      word = p.word;
      source = source;
      destination = destination;
      takes = p.makes;
      makes = p.takes;
    }

-- the patterns of one pair are those of each
makes_too : (r : Reading) (n d m e : List ℕ) (one : ArePaired r n d) (other : ArePaired r m e)
    → Fits one.before one.after e other.word
makes_too r n d m e one other =
    let same : other.destination.text ≡ one.destination.text =
    same_Some _ _ (sym other.destination.has ∙ one.destination.has) in
    let ends = split_once one.destination.text other.before other.after one.before one.after
    (rw same at other.destination.split) one.destination.split in
    rw (ends.0, ends.1) at other.makes

paired_once : (r : Reading) (n m d : List ℕ) → ArePaired r n d → ArePaired r m d → n ≡ m
paired_once r n m d one other =
    let word : one.word ≡ other.word = one_word one.before one.after d one.word other.word one.makes
    (makes_too r n d m d one other) in
    one.takes ∙ ap (λ w. one.prefix ++ (w ++ one.suffix)) word
    ∙ sym (makes_too (swapped r) d n d m (swap r n d one) (swap r m d other))

-- the sources paired with the destinations in which a word repeats have a word as long that repeats in them
pub record SourcesRepeat (r : Reading) (x v y : List ℕ) : Type 0 where
  pub front : List ℕ
  pub word : List ℕ
  pub back : List ℕ
  pub size : length word ≡ length v
  pub pairs : (i : ℕ) → ArePaired r (front ++ (power word i ++ back)) (x ++ (power v i ++ y))

-- where the destinations without the word and with it once are paired, they all are
pub sources_repeat : (r : Reading) (x v y n0 n1 : List ℕ) → ArePaired r n0 (x ++ y)
    → ArePaired r n1 (x ++ (power v 1 ++ y)) → SourcesRepeat r x v y
sources_repeat r x v y n0 n1 without once =
    let all = words_repeat without.before without.after v x y without.word once.word without.makes
    (rw power_one at (makes_too r n0 (x ++ y) n1 (x ++ (power v 1 ++ y)) without once)) in
    let takes = λ (i : ℕ). between without.prefix all.front (power all.word i) all.back without.suffix in
    let pairs : (i : ℕ)
    → ArePaired r ((without.prefix ++ all.front) ++ (power all.word i ++ (all.back ++ without.suffix)))
    (x ++ (power v i ++ y)) = λ i.
    record {
      prefix = _;
      suffix = _;
      before = _;
      after = _;
      word = all.front ++ (power all.word i ++ all.back);
      source =
          without.source;
      destination = without.destination;
      takes = takes i;
      makes = all.each i;
    } in
    record {
      front = without.prefix ++ all.front;
      word = all.word;
      back = all.back ++ without.suffix;
      size = all.size;
      pairs = pairs;
    }

-- ---- names in which a word repeats

excludes_again : (text x v y : List ℕ) → v ≢ [] → Excludes text (x ++ y) → Excludes text (x ++ (v ++ y)) → (i : ℕ)
    → Excludes text (x ++ (power v i ++ y))
excludes_again text x v y some (the_name lacks is) (the_name whole also) i =
    absurd (differ_again text v x y some (sym is) (sym also))
excludes_again text x v y some (the_name lacks is) (by_pattern before after word split fits) i =
    absurd (lacks_no_pattern text before after lacks split)
excludes_again text x v y some (by_pattern before after word split fits) (the_name lacks is) i =
    absurd (lacks_no_pattern text before after lacks split)
excludes_again text x v y some (by_pattern a b word split fits) (by_pattern p q second parts also) i =
    let ends = split_once text p q a b parts split in
    let all = words_repeat a b v x y word second fits (rw (ends.0, ends.1) at also) in
    by_pattern a b (all.front ++ (power all.word i ++ all.back)) split (all.each i)

is_there : (v : List ℕ) (i : ℕ) → 5 ≤ length (power v i) → 1 ≤ i
is_there v zero long = absurd (omega (arith, long))
is_there v (suc i) long = omega arith

-- where something holds once more of names in which a word so long repeats, it does of the sources of destinations in
-- which one does
sources_again : (r : Reading) (x v y : List ℕ) (i : ℕ) → v ≢ [] → 5 ≤ length (power v i) → (Bad : List ℕ → Type 0)
    → ((x v y : List ℕ) → v ≢ [] → 5 ≤ length (power v i) → ((j : ℕ) → j ≤ i → Bad (x ++ (power v j ++ y)))
    → Bad (x ++ (power v (i + 1) ++ y)))
    → ((j : ℕ) → j ≤ i → (n : List ℕ) × ArePaired r n (x ++ (power v j ++ y)) × Bad n) → (n : List ℕ)
    × ArePaired r n (x ++ (power v (i + 1) ++ y)) × Bad n
sources_again r x v y i some long Bad step all =
    let first = all 0 (omega arith) in
    let second = all 1 (is_there v i long) in
    let names = sources_repeat r x v y first.0 second.0 first.1 second.1 in
    let bad = step names.front names.word names.back
    (λ none. some (nil_from_length v (sym names.size ∙ ap length none)))
    (rw (power_length names.word i, names.size, ← power_length v i) long)
    (λ j below. let (n, paired, bad) = all j below in subst Bad (paired_once r n _ _ paired (names.pairs j)) bad) in
    (names.front ++ (power names.word (i + 1) ++ names.back), names.pairs (i + 1), bad)

-- the spec that excludes a name without a word and with it once excludes it however often the word stands there
excluded_step : (g : List Reading) (k i : ℕ) (x v y : List ℕ) → v ≢ [] → 5 ≤ length (power v i)
    → ((j : ℕ) → j ≤ i → IsExcludedAt g k (x ++ (power v j ++ y))) → IsExcludedAt g k (x ++ (power v (i + 1) ++ y))
excluded_step g k i x v y some long all =
    let (r, at, by) = all 0 (omega arith) in
    let (q, there, too) = all 1 (is_there v i long) in
    let text : too.text ≡ by.text =
    same_Some _ _ (sym too.source ∙ ap (λ (s : Reading). s.source) (same_Some _ _ (sym there ∙ at)) ∙ by.source) in
    let both = excludes_again by.text x v y some by.excludes
    (rw power_one at (subst (λ t. Excludes t (x ++ (power v 1 ++ y))) text too.excludes)) (i + 1) in
    (r, at, record { negative = by.negative; text = by.text; source = by.source; excludes = both })

-- where two readings have one source for the destinations without the word and with it once, they have one for each
same_again : (one other : Reading) (x v y : List ℕ) → (n : List ℕ) × ArePaired one n (x ++ y)
    × ArePaired other n (x ++ y) → (n : List ℕ) × ArePaired one n (x ++ (power v 1 ++ y))
    × ArePaired other n (x ++ (power v 1 ++ y))
    → (i : ℕ) → (n : List ℕ) × ArePaired one n (x ++ (power v i ++ y)) × ArePaired other n (x ++ (power v i ++ y))
same_again one other x v y first second i =
    let names = sources_repeat one x v y first.0 second.0 first.1 second.1 in
    let others = sources_repeat other x v y first.0 second.0 first.2 second.2 in
    let without = sym (paired_once one first.0 _ (x ++ y) first.1 (names.pairs 0)) ∙ paired_once other first.0 _
    (x ++ y) first.2 (others.pairs 0) in
    let once = sym (paired_once one second.0 _ (x ++ (power v 1 ++ y)) second.1 (names.pairs 1))
    ∙ paired_once other second.0 _ (x ++ (power v 1 ++ y)) second.2 (others.pairs 1) in
    let same = same_repeats others.front others.back others.word names.word names.front names.back without
    (rw (append-nil names.word, append-nil others.word) at once) i in (
      names.front ++ (power names.word i ++ names.back),
      names.pairs i,
      subst (λ n. ArePaired other n (x ++ (power v i ++ y))) (sym same) (others.pairs i),
    )

-- a reason for which two specs don't conflict at the destinations up to the i-th, whose word so often has five bytes or
-- more, holds at the next
pub fails_again : (g : List Reading) (one other : Reading) (why : Why) (x v y : List ℕ) (i : ℕ) → why ≢ Unknown → v ≢ []
    → 5 ≤ length (power v i)
    → ((j : ℕ) → j ≤ i → Fails g one other why (x ++ (power v j ++ y)))
    → Fails g one other why (x ++ (power v (i + 1) ++ y))
fails_again g one other Unknown x v y i known some long all = absurd (known refl)
fails_again g one other Unwritable x v y i known some long all = written_again x v y i long (all i (omega arith))
fails_again g one other (Invalid First) x v y i known some long all = sources_again one x v y i some long
    (λ n. ¬ (IsRefName n)) (λ x v y some long bad. names_again x v y i long (bad i (omega arith))) all
fails_again g one other (Invalid Second) x v y i known some long all = sources_again other x v y i some long
    (λ n. ¬ (IsRefName n)) (λ x v y some long bad. names_again x v y i long (bad i (omega arith))) all
fails_again g one other (Excluded First k) x v y i known some long all = sources_again one x v y i some long
    (IsExcludedAt g k) (excluded_step g k i) all
fails_again g one other (Excluded Second k) x v y i known some long all = sources_again other x v y i some long
    (IsExcludedAt g k) (excluded_step g k i) all
fails_again g one other Same x v y i known some long all = same_again one other x v y (all 0 (omega arith))
    (all 1 (is_there v i long)) (i + 1)

-- and so does one for which a spec doesn't map the sources soundly
pub unsound_again : (r : Reading) (why : Why) (x v y : List ℕ) (i : ℕ) → why ≢ Unknown → v ≢ [] → 5 ≤ length (power v i)
    → ((j : ℕ) → j ≤ i → IsUnsound r why (x ++ (power v j ++ y))) → IsUnsound r why (x ++ (power v (i + 1) ++ y))
unsound_again r Unknown x v y i known some long all = absurd (known refl)
unsound_again r Unwritable x v y i known some long all =
    let (d, paired, bad) = sources_again (swapped r) x v y i some long (λ d. ¬ (CanBeWritten (Some d)))
    (λ x v y some long bad. written_again x v y i long (bad i (omega arith)))
    (λ j below. let (d, one, bad) = all j below in (d, swap r _ d one, bad)) in
    (d, swap (swapped r) d _ paired, bad)
unsound_again r (Invalid First) x v y i known some long all = names_again x v y i long (all i (omega arith))
unsound_again r _ x v y i known some long all = absurd (all 0 (omega arith))

-- ---- what one side of a spec of patterns becomes with the word of the other

-- the texts that have the word, and those that get it
abbrev HasItsWord : Bor (List ℕ) × Bor (List ℕ) → Bor (List ℕ) × Bor (List ℕ) → List ℕ → Option BString → Type 0
HasItsWord matching texts n other = MatchOption other ((w : List ℕ) → ¬ (Fits matching.0.now matching.1.now n w))
    (λ m. (w : List ℕ) × Fits matching.0.now matching.1.now n w × (bstring_bytes m ≡ texts.0.now ++ (w ++ texts.1.now)))

module _ (r : Reading) (near far : Bor (List ℕ) × Bor (List ℕ)) (source : HasParts r.source (Some near))
    (destination : HasParts r.destination (Some far)) where
  paired : (n d w : List ℕ) → Fits near.0.now near.1.now n w → Fits far.0.now far.1.now d w → ArePaired r n d
  paired n d w takes makes =
      let near_is : HasSourcePattern r near.0.now near.1.now =
      record { text = source.0; has = source.1; split = source.2 } in
      let far_is : HasDestinationPattern r far.0.now far.1.now =
      record { text = destination.0; has = destination.1; split = destination.2 } in
      record {
        prefix = near.0.now;
        suffix = near.1.now;
        before = far.0.now;
        after = far.1.now;
        word = w;
        source =
            near_is;
        destination = far_is;
        takes = takes;
        makes = makes;
      }

  pub source_told : (d : List ℕ) (o : Option BString) → HasItsWord far near d o
      → IfSome o (λ n. ArePaired r (bstring_bytes n) d)
  source_told d None none = tt
  source_told d (Some n) (w, fits, is) = paired (bstring_bytes n) d w is fits

  pub destination_told : (n : List ℕ) (o : Option BString) → HasItsWord near far n o
      → IfSome o (λ d. ArePaired r n (bstring_bytes d))
  destination_told n None none = tt
  destination_told n (Some d) (w, fits, is) = paired n (bstring_bytes d) w fits is

-- ---- one spec of patterns

-- it writes a source to the destination with the same word alone
paired_destination : (c : Reading) → ∥ IsAccepted c ∥₁ → (n d : List ℕ) → ArePaired c n d
    → (refs : List Ref) (e : Option (List ℕ)) → MakesForward refs (name n) e c → e ≡ Some d
paired_destination c accepted n d paired refs e makes =
    let spec = pattern_spec c paired.prefix paired.suffix accepted makes.has.positive paired.source in
    let (w, fits, far, there) = spec_made c paired.prefix paired.suffix spec refs n e makes in
    let same : w ≡ paired.word = one_word paired.prefix paired.suffix n w paired.word fits paired.takes in
    far ∙ ap spec.far same ∙ destination_once c (Some paired.word) (spec.far paired.word) (Some d)
    (spec.fills paired.word)
    (subst (λ x. IsFilled x (Some paired.word) (Some d)) (sym paired.destination.has)
    (pattern paired.before paired.after, paired.destination.split, ap Some paired.makes))

-- a name that it doesn't map soundly isn't one that is excluded and mapped
pub unsound_none : (negative c : Reading) → ∥ IsAccepted c ∥₁ → (why : Why) (n : List ℕ) → why ≢ Unknown
    → IsUnsound c why n → ¬ (ExcludesFrom negative c (name n))
unsound_none negative c accepted Unknown n known unsound e = known refl
unsound_none negative c accepted Unwritable n known (d, paired, bad) e =
    bad (subst CanBeWritten (paired_destination c accepted n d paired e.refs e.destination e.makes.makes)
    e.makes.destination)
unsound_none negative c accepted (Invalid First) n known bad e = bad e.makes.source
unsound_none negative c accepted _ n known bad e = bad

module _ (g : List Reading) (group : Group) (is : IsGroupOf g group) (i j : ℕ) (one other : Reading)
    (at : slice_get (map reading_of group.specs.now) i ≡ Some one)
    (also : slice_get (map reading_of group.specs.now) j ≡ Some other) (d : List ℕ) where
  -- they write a destination from the source with the same word alone
  source_is : (k : ℕ) (c : Reading) → slice_get (map reading_of group.specs.now) k ≡ Some c
      → (refs : List Ref) (s : Source) → Fetches g refs k s (Some d) → (n : List ℕ) → ArePaired c n d → s ≡ name n
  source_is k c here refs s f n p =
      let makes = of_maps g (map reading_of group.specs.now) is.completed k c here refs s (Some d) f.maps.maps in
      pattern_there c (accepted_of group.specs.now k c here) p.destination.text p.before p.after p.destination.has
      p.destination.split p.prefix p.suffix p.source d p.word p.makes refs s makes ∙ ap name (sym p.takes)

  -- they don't conflict at a destination where a reason holds
  pub fails_none : (why : Why) → why ≢ Unknown → Fails g one other why d → NoneAt g i j d
  fails_none Unknown known fails s t c = known refl
  fails_none Unwritable known bad s t c = bad c.one.maps.destination
  fails_none (Invalid First) known (n, paired, bad) s t c =
      bad (subst IsValidSource (source_is i one at _ s c.one n paired) c.one.maps.source)
  fails_none (Invalid Second) known (n, paired, bad) s t c =
      bad (subst IsValidSource (source_is j other also _ t c.other n paired) c.other.maps.source)
  fails_none (Excluded First k) known (n, paired, (r, there, by)) s t c =
      c.one.included (subst (IsSourceExcluded g) (sym (source_is i one at _ s c.one n paired))
      (excluded_at g k r n there by))
  fails_none (Excluded Second k) known (n, paired, (r, there, by)) s t c =
      c.other.included (subst (IsSourceExcluded g) (sym (source_is j other also _ t c.other n paired))
      (excluded_at g k r n there by))
  fails_none Same known (n, paired, too) s t c =
      c.differ (source_is i one at _ s c.one n paired ∙ sym (source_is j other also _ t c.other n too))

pub first_fails : (g : List Reading) (one other : Reading) (why : Why) (n d : List ℕ) → IsNotFetched g First n why
    → ArePaired one n d → Fails g one other why d
first_fails g one other (Invalid First) n d is paired = (n, paired, is.1)
first_fails g one other (Invalid Second) n d is paired = absurd (cc (is.0))
first_fails g one other (Excluded First k) n d is paired = (n, paired, is.1)
first_fails g one other (Excluded Second k) n d is paired = absurd (cc (is.0))
first_fails g one other _ n d is paired = absurd is

pub second_fails : (g : List Reading) (one other : Reading) (why : Why) (n d : List ℕ) → IsNotFetched g Second n why
    → ArePaired other n d → Fails g one other why d
second_fails g one other (Invalid First) n d is paired = absurd (cc (is.0))
second_fails g one other (Invalid Second) n d is paired = (n, paired, is.1)
second_fails g one other (Excluded First k) n d is paired = absurd (cc (is.0))
second_fails g one other (Excluded Second k) n d is paired = (n, paired, is.1)
second_fails g one other _ n d is paired = absurd is
