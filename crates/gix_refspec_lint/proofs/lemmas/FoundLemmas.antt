-- Whether two specs conflict over the refs of two sources, by what their completed readings make of items with these
-- names.
use Rattle.gix_refspec_lint.proofs.Common.{IsSplit, ◌⊎◌, Bor, ◌≡◌, ◌≢◌, ℕ, List, ◌++◌, Option, Some, map, sym, ap, ◌∙◌}
use Rattle.gix_refspec_lint.proofs.Common.{AllZip, slice_get, map-append, Ref, Reading, Source, name, id}
use Rattle.gix_refspec_lint.proofs.Common.{IsSourceExcluded, HaveSameNames, MakesForward, IsValidSource, has_also}
use Rattle.gix_refspec_lint.proofs.Common.{CanBeWritten, IsCompleted, ConflictOver, refs_of, inl, inr, ◌+◌, ◌<◌, []}
use Rattle.gix_refspec_lint.proofs.Common.{◌∷◌, None, get_or, length, take, refl, subst, Contains, take_more, star}
use Rattle.gix_refspec_lint.proofs.Common.{Lacks, reading_of, RefSpecRef, sides_agree, HasParts, zip_at, zip_more}
use Rattle.gix_refspec_lint.proofs.Common.{Example, IsExample, AreApart, AreCommon, HasPattern, HaveCommon, HaveParts}
use Rattle.gix_refspec_lint.proofs.Common.{IsFound, IsFoundAt, IsGroupOf, Group, Common, IsAccepted, ◌≤◌}
use Rattle.gix_refspec_lint.proofs.Common.{option_to_list, arith, AllByRecursion, length-map, length-take-le}
use Rattle.gix_refspec_lint.proofs.Common.{IsJoinedFrom, IsMadeFrom, MakesOf, some_element, joined_next, made_next}
use Rattle.gix_refspec_lint.proofs.Common.{zip_long, NoneAt, MatchOption, drop, option_map, words_with, IsOverlap}
use Rattle.gix_refspec_lint.proofs.Common.{example_of, of_element, Fetches}
use Rattle.gix_refspec_lint.proofs.lemmas.IndexLemmas.{made_there, makes_fewer, of_maps, maps_of, zip_of, accepted_of}
use Rattle.gix_refspec_lint.proofs.lemmas.IndexLemmas.{one_completed, reading_at}
use Rattle.gix_refspec_lint.proofs.lemmas.MovedLemmas.{decided}
use Rattle.gix_refspec_lint.proofs.lemmas.PatternLemmas.{maps_pattern, MapsPattern}
use Rattle.gix_refspec_lint.proofs.lemmas.RunLemmas.{each_deciding}
use Rattle.gix_refspec_lint.proofs.lemmas.SourceLemmas.{destination_made, pattern_there, plain_made}
use Rattle.gix_refspec_lint.{proofs.Common.AreStorable, specs.declared.PossibleConflict.PossibleConflict}

pub makes_also : (A B : List Ref) (s : Source) (d : Option (List ℕ)) (r : Reading) → HaveSameNames A B
    → MakesForward A s d r → MakesForward B s d r
makes_also A B (name n) d r same makes = makes_fewer A B (name n) d r (λ n has. has_also B A n (sym same) has)
    (has_also A B n same (made_there A (name n) d r makes)) makes
makes_also A B (id bytes) d r same makes = makes

pub both_named : (one two xs ys : List Ref) → HaveSameNames one xs → HaveSameNames two (one ++ ys)
    → HaveSameNames two (xs ++ ys)
both_named one two xs ys first second =
    simp map-append (simp map-append at second ∙ ap (λ l. l ++ map (λ (r : Ref). r.name) ys) first)

-- two specs at indexes, and refs with the names of two sources
module _ (g h : List Reading) (all : AllZip IsCompleted g h) (i j : ℕ) (refs : List Ref) (s t : Source) (d : List ℕ)
    (named : HaveSameNames refs (refs_of s ++ refs_of t)) where
  -- if one of them fetches to the destination, it makes the pair
  pub makes_named : (k : ℕ) (c : Reading) → slice_get h k ≡ Some c → (r : Source)
      → Fetches g (refs_of s ++ refs_of t) k r (Some d) → MakesForward refs r (Some d) c
  makes_named k c at r f = makes_also (refs_of s ++ refs_of t) refs r (Some d) c (sym named)
      (of_maps g h all k c at (refs_of s ++ refs_of t) r (Some d) f.maps.maps)

  -- and where both do, they conflict
  pub conflict_made : (b c : Reading) → slice_get h i ≡ Some b → slice_get h j ≡ Some c → s ≢ t
      → AreStorable (refs_of s ++ refs_of t) → IsValidSource s × ¬ (IsSourceExcluded g s)
      → IsValidSource t × ¬ (IsSourceExcluded g t) → CanBeWritten (Some d)
      → MakesForward refs s (Some d) b → MakesForward refs t (Some d) c
      → ConflictOver g (refs_of s ++ refs_of t) i j s t d
  conflict_made b c at here differ together one other written makes also = grind (arith, maps_of, makes_also)

-- ---- what an example of a conflict says of its two specs, by their completed readings

pub parts_next : (specs : List RefSpecRef) (i : ℕ) (s : RefSpecRef)
    (old new : List (Option (Bor (List ℕ) × Bor (List ℕ)))) (p : Option (Bor (List ℕ) × Bor (List ℕ)))
    → i < length specs → s ≡ get_or specs i s
    → HaveParts (take i specs) old → HasParts (reading_of s).destination p → new ≡ old ++ p ∷ []
    → HaveParts (take (i + 1) specs) new
parts_next specs i s old new p below is so_far here more =
    rw (take_more specs i s below, more) (zip_more (λ s p. HasParts (reading_of s).destination p) (take i specs) old
    (get_or specs i s) p so_far (subst (λ z. HasParts (reading_of z).destination p) is here))

pub parts_at : (specs : List RefSpecRef) (parts : List (Option (Bor (List ℕ) × Bor (List ℕ)))) (i : ℕ) (s : RefSpecRef)
    (p : Option (Bor (List ℕ) × Bor (List ℕ))) → HaveParts specs parts
    → i < length specs → get_or parts i None ≡ p → HasParts (reading_of (get_or specs i s)).destination p
parts_at specs parts i s p all below at = subst (λ q. HasParts (reading_of (get_or specs i s)).destination q) at
    (zip_at (λ s p. HasParts (reading_of s).destination p) specs parts i s None all below)

pub unsplit_lacks : (c : Reading) → ∥ IsAccepted c ∥₁ → (n : List ℕ) → (c.source ≡ Some n) ⊎ (c.destination ≡ Some n)
    → ((before after : List ℕ) → ¬ (IsSplit before after n)) → Lacks star n
unsplit_lacks c accepted n has none =
    elim ((sides_agree c accepted).each n has) [ inl one ↦ absurd (none one.0 one.1 one.2) | inr lacks ↦ lacks ]

pub found_only : (g : List Reading) (i j : ℕ) (n : List ℕ) (found : Option Example)
    → ((e : Example) → IsExample g i j e → e.destination ≡ n) → IsFoundAt g i j n found → IsFound g i j found
found_only g i j n None only none = λ e shown. none e.one e.other
    (subst (ConflictOver g (refs_of e.one ++ refs_of e.other) i j e.one e.other) (only e shown) shown.conflict)
found_only g i j n (Some e) only shown = shown

-- the spec at an index of a group
module _ (g : List Reading) (group : Group) (is : IsGroupOf g group) (k : ℕ) (z : RefSpecRef)
    (within : k < length group.specs.now) where
  abbrev spec : Reading
  spec = reading_of (get_or group.specs.now k z)

  at : slice_get (map reading_of group.specs.now) k ≡ Some spec
  at = reading_at group.specs.now k z within

  -- it comes from a spec of the group
  pub completed_of : (r : Reading) × IsCompleted r spec
  completed_of = let (r, here, done) = zip_of g (map reading_of group.specs.now) is.completed k spec at in (r, done)

  pub makes_of : (refs : List Ref) (s : Source) (d : List ℕ) → Fetches g refs k s (Some d)
      → MakesForward refs s (Some d) spec
  makes_of refs s d f = of_maps g (map reading_of group.specs.now) is.completed k spec at refs s (Some d) f.maps.maps

  pub none_fetched : spec.destination ≡ None → (refs : List Ref) (s : Source) (d : List ℕ)
      → ¬ (Fetches g refs k s (Some d))
  none_fetched none refs s d f = let made = destination_made refs s d spec (makes_of refs s d f) in absurd
      (cc (made.2, none))

  -- if its destination has no star, it fetches to no other one
  pub fetches_only : (parts : List (Option (Bor (List ℕ) × Bor (List ℕ)))) → HaveParts group.specs.now parts
      → get_or parts k None ≡ None → (n : List ℕ) → spec.destination ≡ Some n
      → (refs : List Ref) (s : Source) (d : List ℕ) → Fetches g refs k s (Some d) → d ≡ n
  fetches_only parts have none n has refs s d f =
      plain_made completed_of.0 spec n completed_of.1 has (unsplit_lacks spec (accepted_of group.specs.now k spec at) n
      (inr has)
      (λ before after. parts_at group.specs.now parts k z None have within none n before after has)) refs s d
      (makes_of refs s d f)

  pattern_of : (parts : Bor (List ℕ) × Bor (List ℕ)) → HasParts spec.destination (Some parts)
      → HasPattern group k parts.0.now parts.1.now
  pattern_of parts (d, has, split) = record { reading = spec; at = at; destination = d; has = has; split = split }

  maps_as_pattern : (parts : Bor (List ℕ) × Bor (List ℕ)) → HasParts spec.destination (Some parts)
      → (refs : List Ref) (s : Source) (d : List ℕ) → Fetches g refs k s (Some d)
      → MapsPattern spec parts.0.now parts.1.now s d
  maps_as_pattern parts (x, has, split) refs s d f = maps_pattern spec (accepted_of group.specs.now k spec at) x
      parts.0.now parts.1.now has split refs s d (makes_of refs s d f)

module _ (g : List Reading) (group : Group) (is : IsGroupOf g group)
    (parts : List (Option (Bor (List ℕ) × Bor (List ℕ)))) (have : HaveParts group.specs.now parts)
    (i j : ℕ) (x y : RefSpecRef) (below : i < length group.specs.now) (inside : j < length group.specs.now) where
  pub names_differ : get_or parts i None ≡ None → get_or parts j None ≡ None → (n m : List ℕ)
      → (reading_of (get_or group.specs.now i x)).destination ≡ Some n
      → (reading_of (get_or group.specs.now j y)).destination ≡ Some m → n ≢ m → (e : Example) → ¬ (IsExample g i j e)
  names_differ none neither n m has also differ e shown =
      let one = fetches_only g group is i x below parts have none n has (refs_of e.one ++ refs_of e.other) e.one
      e.destination shown.conflict.one in
      let other = fetches_only g group is j y inside parts have neither m also (refs_of e.one ++ refs_of e.other)
      e.other e.destination shown.conflict.other in
      differ (sym one ∙ other)

  module _ (one other : Bor (List ℕ) × Bor (List ℕ)) (first_parts : get_or parts i None ≡ Some one)
      (second_parts : get_or parts j None ≡ Some other) where
    of_one : HasParts (reading_of (get_or group.specs.now i x)).destination (Some one)
    of_one = parts_at group.specs.now parts i x (Some one) have below first_parts

    of_other : HasParts (reading_of (get_or group.specs.now j y)).destination (Some other)
    of_other = parts_at group.specs.now parts j y (Some other) have inside second_parts

    pub have_common : (common : Common) → AreCommon one.0.now one.1.now other.0.now other.1.now common
        → HaveCommon group i j common
    have_common common shared =
        let first = pattern_of g group is i x below one of_one in
        let second = pattern_of g group is j y inside other of_other in
        record {
          before = one.0.now;
          after = one.1.now;
          prefix = other.0.now;
          suffix = other.1.now;
          one = first;
          other =
              second;
          shared = shared;
        }

    -- with the same source too, both map the same ref
    pub none_alike : (reading_of (get_or group.specs.now i x)).source ≡ (reading_of (get_or group.specs.now j y)).source
        → (reading_of (get_or group.specs.now i x)).destination ≡ (reading_of (get_or group.specs.now j y)).destination
        → (e : Example) → ¬ (IsExample g i j e)
    none_alike source destination e shown =
        let c = reading_of (get_or group.specs.now j y) in
        let m = maps_as_pattern g group is i x below one of_one (refs_of e.one ++ refs_of e.other) e.one e.destination
        shown.conflict.one in
        let same = pattern_there c (accepted_of group.specs.now j c (reading_at group.specs.now j y inside)) of_one.0
        one.0.now one.1.now (sym destination ∙ of_one.1) of_one.2 m.before m.after
        (record { text = m.side.text; has = sym source ∙ m.side.has; split = m.side.split })
        e.destination m.word m.fits (refs_of e.one ++ refs_of e.other) e.other
        (makes_of g group is j y inside (refs_of e.one ++ refs_of e.other) e.other e.destination
        shown.conflict.other) in
        shown.conflict.differ (m.source ∙ sym same)

    pub none_apart : AreApart one.0.now one.1.now other.0.now other.1.now → (e : Example) → ¬ (IsExample g i j e)
    none_apart apart e shown =
        let a = maps_as_pattern g group is i x below one of_one (refs_of e.one ++ refs_of e.other) e.one e.destination
        shown.conflict.one in
        let b = maps_as_pattern g group is j y inside other of_other (refs_of e.one ++ refs_of e.other) e.other
        e.destination shown.conflict.other in
        apart e.destination a.word b.word a.fits b.fits

-- ---- what is found of two specs at some names, and of one spec with all others

-- the sources don't conflict, in this order
abbrev pub NoConflict : List Reading → ℕ → ℕ → List ℕ → Source → Source → Type 0
NoConflict g i j d s t = ¬ (ConflictOver g (refs_of s ++ refs_of t) i j s t d)

pub none_of_all : (g : List Reading) (i j : ℕ) (d : List ℕ) (ones others : List Source)
    → AllByRecursion (λ s. AllByRecursion (NoConflict g i j d s) others) ones
    → ((s t : Source) → ConflictOver g (refs_of s ++ refs_of t) i j s t d → Contains ones s × Contains others t)
    → NoneAt g i j d
none_of_all g i j d ones others all listed_there s t c =
    let (one, other) = listed_there s t c in
    of_element (NoConflict g i j d s) others t
    (of_element (λ s. AllByRecursion (NoConflict g i j d s) others) ones s all one) other c

pub copied_example : (g : List Reading) (i j : ℕ) (s t u v : Source) (d n : List ℕ) → i < j → u ≡ s → v ≡ t → n ≡ d
    → ConflictOver g (refs_of s ++ refs_of t) i j s t d
    → IsExample g i j (record { first = i; second = j; one = u; other = v; destination = n })
copied_example g i j s t u v d n order first second to c =
    record { first = refl; second = refl; order = order; conflict = rw (first, second, to) c }

pub group_long : (g : List Reading) (group : Group) → IsGroupOf g group → length g ≡ length group.specs.now
group_long g group is = zip_long IsCompleted g (map reading_of group.specs.now) is.completed
    ∙ length-map group.specs.now reading_of

pub row_next : (g : List Reading) (i j : ℕ) (found : Option Example) (ys zs : List Example) → j < length g
    → IsFound g i j found → IsMadeFrom (λ j q e. IsExample g i j e) 0 (take j g) ys → zs ≡ ys ++ option_to_list found
    → IsMadeFrom (λ j q e. IsExample g i j e) 0 (take (j + 1) g) zs
row_next g i j found ys zs below is so_far more =
    let x = some_element g j below in
    let makes = elim found as (λ f. IsFound g i j f → MakesOf (λ j q e. IsExample g i j e) j (get_or g j x) f)
    [ None ↦ λ none. none | Some e ↦ λ shown. shown ] in
    rw (more, take_more g j x below) (made_next (λ j q e. IsExample g i j e) j (take j g) (get_or g j x) ys found
    (length-take-le j g (omega (arith, below))) so_far (makes is))

abbrev pub AreOfFirst : List Reading → ℕ → List Example → Type 0
AreOfFirst g i of_first = IsMadeFrom (λ j q e. IsExample g i j e) 0 g of_first

pub rows_next : (g : List Reading) (i : ℕ) (row ys zs : List Example) → i < length g → AreOfFirst g i row
    → IsJoinedFrom (λ i r of_first. AreOfFirst g i of_first) 0 (take i g) ys → zs ≡ ys ++ row
    → IsJoinedFrom (λ i r of_first. AreOfFirst g i of_first) 0 (take (i + 1) g) zs
rows_next g i row ys zs below is so_far more =
    let x = some_element g i below in
    rw (more, take_more g i x below) (joined_next (λ i r of_first. AreOfFirst g i of_first) i (take i g)
    (get_or g i x) ys row (length-take-le i g (omega (arith, below))) so_far is)

-- ---- without a conflict at the names that decide two specs of patterns don't conflict

-- what is found with the words and in the overlaps
pub among_found : (g : List Reading) (group : Group) (is : IsGroupOf g group) (i j : ℕ) (common : Common)
    → HaveCommon group i j common
    → (found : Option PossibleConflict)
    → AllByRecursion (λ w. NoneAt g i j (common.prefix.now ++ (w ++ common.suffix.now))) (words_with is.letter)
    → MatchOption found ((k : ℕ) → k ≤ common.most → IsOverlap common.prefix.now common.suffix.now k
    → NoneAt g i j (common.prefix.now ++ drop k common.suffix.now)) (λ c. IsExample g i j (example_of c))
    → IsFound g i j (option_map example_of found)
among_found g group is i j common have (Some c) by_word shown = shown
among_found g group is i j common have None by_word none = λ e shown.
    let c = shown.conflict in
    let a = have.one in
    let b = have.other in
    let one = sym (one_completed g (map reading_of group.specs.now) is.completed i a.reading a.at c.one.maps.maps) in
    let other = sym
    (one_completed g (map reading_of group.specs.now) is.completed j b.reading b.at c.other.maps.maps) in
    let d = decided g is.letter is.free i j (refs_of e.one ++ refs_of e.other) e.one e.other e.destination c
    (subst (λ r. ∥ IsAccepted r ∥₁) one (accepted_of group.specs.now i a.reading a.at)) a.destination have.before
    have.after (subst (λ r. r.destination ≡ Some a.destination) one a.has) a.split
    (subst (λ r. ∥ IsAccepted r ∥₁) other (accepted_of group.specs.now j b.reading b.at)) b.destination have.prefix
    have.suffix (subst (λ r. r.destination ≡ Some b.destination) other b.has) b.split
    common.prefix.now common.suffix.now common.most have.shared.prefix have.shared.suffix have.shared.most in
    each_deciding (NoneAt g i j) (words_with is.letter) common.prefix.now common.suffix.now common.most by_word none
    d.name d.deciding d.one d.other d.conflict
