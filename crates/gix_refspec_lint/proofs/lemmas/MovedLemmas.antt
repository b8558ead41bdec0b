-- What a spec of two patterns fetches with the free byte in place of a word, and that the names that decide show each
-- conflict of two.
use Rattle.gix_refspec_lint.proofs.Common.{MakesForward, all_at, ◌≡◌, ◌≢◌, ◌⊎◌, inl, inr, ℕ, List, [], ◌∷◌, ◌++◌, codes}
use Rattle.gix_refspec_lint.proofs.Common.{Some, map, append_assoc, refl, sym, ap, ◌∙◌, subst, AllByRecursion, Contains}
use Rattle.gix_refspec_lint.proofs.Common.{slice_get, Contains-append_left, Contains-append_right, Ref, HasName}
use Rattle.gix_refspec_lint.proofs.Common.{IsAccepted, Reading, star, IsSplit, BeginsWith, Lacks, lacks_no_pattern}
use Rattle.gix_refspec_lint.proofs.Common.{all_join, all_left, all_right, first_once, Source, name, SidesLack}
use Rattle.gix_refspec_lint.proofs.Common.{IsRefName, IsValidSource, mapped_there, one_name, CanBeWritten, IsCompleted}
use Rattle.gix_refspec_lint.proofs.Common.{completed_destination, written_lacks, ConflictOver, Fetches, IsFree, refs_of}
use Rattle.gix_refspec_lint.proofs.Common.{IsDeciding, IsLongerPrefix, IsLongerSuffix, IsMost, endings, parts}
use Rattle.gix_refspec_lint.proofs.Common.{words_with, of_element}
use Rattle.gix_refspec_lint.proofs.lemmas.ByteLemmas.{excluded_moved, lacks_refs, name_with_byte, lacks_in}
use Rattle.gix_refspec_lint.proofs.lemmas.IndexLemmas.{IsThere, conflict_of_two, made_there, maps_as}
use Rattle.gix_refspec_lint.proofs.lemmas.PatternLemmas.{MapsPattern, maps_pattern, pattern_maps}
use Rattle.gix_refspec_lint.proofs.lemmas.WordLemmas.{begins_before, Around, IsParted, IsRefAround, between}
use Rattle.gix_refspec_lint.proofs.lemmas.WordLemmas.{common_name, ending_or_part, within}
use Rattle.gix_refspec_lint.proofs.{Common.AreStorable, lemmas.StorableLemmas.{directory_moved, pair_storable}}
use Rattle.gix_refspec.proofs.lemmas.validate.RefNameLemmas.{name_of_ref}

pub regroup : (p x e z y t : List ℕ) → p ++ ((x ++ ((e ++ z) ++ y)) ++ t) ≡ ((p ++ x) ++ e) ++ (z ++ (y ++ t))
regroup p x e z y t = simp append_assoc

-- with the byte in place of the rest of the word there are names of refs around it too
pub record IsWithByte (z : ℕ) (v : List ℕ) (ts : List Around) : Type 0 where
  pub ending : List ℕ
  pub rest : List ℕ
  pub is : v ≡ ending ++ rest
  pub lacks : Lacks z ending
  pub listed : Contains (words_with z) (ending ++ z ∷ [])
  pub written : AllByRecursion (λ t. CanBeWritten (Some (t.front ++ ((ending ++ z ∷ []) ++ t.back)))) ts

module _ (g : List Reading) (z : ℕ) (free : IsFree g z) where
  ref_moved : (e rest : List ℕ) (ts : List Around) → AllByRecursion (λ a. BeginsWith (codes "refs/") (a ++ e))
      (map (λ t. t.front) ts) → AllByRecursion (IsRefAround (e ++ rest)) ts
      → AllByRecursion (λ t. CanBeWritten (Some (t.front ++ ((e ++ z ∷ []) ++ t.back)))) ts
  ref_moved e rest [] begins all = tt
  ref_moved e rest (t ∷ ts) begins all =
      let x = t.front ++ e in
      let whole = begins_before x (rest ++ t.back) begins.0 in
      let same : t.front ++ ((e ++ z ∷ []) ++ t.back) ≡ x ++ (z ∷ t.back) = simp append_assoc in
      let was : t.front ++ ((e ++ rest) ++ t.back) ≡ x ++ (rest ++ t.back) = simp append_assoc in
      let named = name_of_ref (x ++ (rest ++ t.back)) (subst IsRefName was all.0) in
      let some : x ++ (rest ++ t.back) ≢ [] = λ none. let same : codes "refs/" ++ whole.after ≡ [] = sym whole.here
      ∙ none in cc in (
        rw same (begins_before x (z ∷ t.back) begins.0, name_with_byte z free.usable x rest t.back some named),
        ref_moved e rest ts begins.1 all.1,
      )

  -- a word in several names of refs is one of the words, or the byte comes in place of its rest
  pub word_or_moved : (v : List ℕ) (ts : List Around) → AllByRecursion (IsRefAround v) ts → Contains (words_with z) v
      ⊎ IsWithByte z v ts
  word_or_moved v ts all = elim (ending_or_part v ts all) [
    | inl part ↦ inl (Contains-append_right (map (λ u. u ++ z ∷ []) endings) parts v part)
    | inr h ↦ inr (record {
      ending = h.ending;
      rest = h.rest;
      is = h.is;
      lacks = let all = lacks_refs z free.usable in of_element (Lacks z) endings h.ending
          (tt, (all.1.1.1.1, (all.1.1.1, (all.1.1, (all.1, (all, tt)))))) h.listed;
      listed = Contains-append_left (map (λ u. u ++ z ∷ []) endings) parts (h.ending ++ z ∷ [])
          (mapped_there (λ u. u ++ z ∷ []) endings h.ending h.listed);
      written = ref_moved h.ending h.rest ts h.begin (subst (λ u. AllByRecursion (IsRefAround u) ts) h.is all);
    })
  ]

  -- the texts of a pattern lack it
  pub lacks_parts : (x before after : List ℕ) → Lacks z x → IsSplit before after x → Lacks z before × Lacks z after
  lacks_parts x before after lacks split =
      let sides = subst (Lacks z) split.starred lacks in
      (all_left (λ c. c ≢ z) before (star ∷ after) sides, (all_right (λ c. c ≢ z) before (star ∷ after) sides).1)

  pub lacks_source : (k : ℕ) (r c : Reading) (x : List ℕ) → slice_get g k ≡ Some r → IsCompleted r c → c.source ≡ Some x
      → Lacks z x
  lacks_source k r c x at done has = lacks_in z free.usable r.source x (sym done.source ∙ has)
      (all_at (SidesLack z) g k r free.lacks at).0

  pub lacks_destination : (k : ℕ) (r c : Reading) (d a b : List ℕ) → slice_get g k ≡ Some r → IsCompleted r c
      → c.destination ≡ Some d → IsSplit a b d → Lacks z d
  lacks_destination k r c d a b at done has split =
      let (x, was, shape) = completed_destination r.destination c.destination d done.destination has in
      elim shape [
        | inl (one, same) ↦ lacks_in z free.usable r.destination d (was ∙ ap Some same)
            (all_at (SidesLack z) g k r free.lacks at).1
        | inr (lacks, same) ↦ absurd (lacks_no_pattern d a b (subst (Lacks star) same (written_lacks x lacks)) split)
      ]

  -- the same spec fetches from the name with the byte
  module _ (refs : List Ref) (k : ℕ) (s : Source) (n : List ℕ) (f : Fetches g refs k s (Some n))
      (accepted : ∥ IsAccepted f.maps.maps.completed ∥₁)
      (d a b : List ℕ) (has : f.maps.maps.completed.destination ≡ Some d) (split : IsSplit a b d) where
    pub mapped_so : MapsPattern f.maps.maps.completed a b s n
    mapped_so = maps_pattern f.maps.maps.completed accepted d a b has split refs s n f.maps.maps.makes

    pub lacks_sides : Lacks z a × Lacks z b
    lacks_sides =
        lacks_parts d a b (lacks_destination k f.maps.maps.reading f.maps.maps.completed d a b f.maps.maps.at
        f.maps.maps.is has split) split

    -- the texts around the rest of its word in the source, and that it fetches from them with the byte there
    pub moved_so : (x e rest y m : List ℕ) → mapped_so.word ≡ x ++ ((e ++ rest) ++ y) → Lacks z x → Lacks z e
        → CanBeWritten (Some ((mapped_so.before ++ x) ++ ((e ++ z ∷ []) ++ (y ++ mapped_so.after))))
        → CanBeWritten (Some m) → m ≡ a ++ ((x ++ ((e ++ z ∷ []) ++ y)) ++ b)
        → (front : List ℕ) × (back : List ℕ) × (s ≡ name (front ++ (rest ++ back))) × Lacks z front
        × ((few : List Ref) → HasName few (front ++ (z ∷ back)) → Fetches g few k (name (front ++ (z ∷ back)))
        (Some m))
    moved_so x e rest y m word lacks also valid written is =
        let q = mapped_so in
        let c = f.maps.maps.completed in
        let w = x ++ ((e ++ z ∷ []) ++ y) in
        let front = (q.before ++ x) ++ e in
        let back = y ++ q.after in
        let was : s ≡ name (front ++ (rest ++ back)) = q.source ∙ ap (λ v. name (q.before ++ (v ++ q.after))) word
        ∙ ap name (regroup q.before x e rest y q.after) in
        let same : q.before ++ (w ++ q.after) ≡ front ++ (z ∷ back) = regroup q.before x e (z ∷ []) y q.after in
        let text = lacks_source k f.maps.maps.reading c q.side.text f.maps.maps.at f.maps.maps.is q.side.has in
        let before = all_join (λ c. c ≢ z) q.before x (lacks_parts q.side.text q.before q.after text q.side.split).0
        lacks in
        let fetches : (few : List Ref) → HasName few (front ++ (z ∷ back))
        → Fetches g few k (name (front ++ (z ∷ back))) (Some m) = λ few there.
        let makes = pattern_maps c accepted d a b has split few q.before q.after w q.positive q.side
        (subst (HasName few) (sym same) there) in
        let moved = subst (λ o. MakesForward few (name o) (Some m) c) same
        (subst (λ o. MakesForward few (name (q.before ++ (w ++ q.after))) (Some o) c) (sym is) makes) in
        let own : IsValidSource (name (front ++ (z ∷ back))) =
        inl (subst (λ o. CanBeWritten (Some o)) (between q.before x (e ++ z ∷ []) y q.after ∙ same) valid) in
        record {
          maps = record { maps = maps_as f.maps.maps moved; source = own; destination = written };
          included =
              λ by. f.included (rw was (excluded_moved z free.usable g front rest back free.lacks by));
        } in
        (front, back, was, all_join (λ c. c ≢ z) (q.before ++ x) e before also, fetches)

-- ---- conflicts of two patterns

-- a name that decides, and a conflict there
pub record DecidesConflict (g : List Reading) (z : ℕ) (prefix suffix : List ℕ) (most i j : ℕ) : Type 0 where
  pub name : List ℕ
  pub deciding : IsDeciding (words_with z) prefix suffix most name
  pub one : Source
  pub other : Source
  pub conflict : ConflictOver g (refs_of one ++ refs_of other) i j one other name

module _ (g : List Reading) (z : ℕ) (free : IsFree g z) (i j : ℕ) (refs : List Ref) (s t : Source) (n : List ℕ)
    (c : ConflictOver g refs i j s t n)
    (accepted : ∥ IsAccepted c.one.maps.maps.completed ∥₁) (d a b : List ℕ)
    (has : c.one.maps.maps.completed.destination ≡ Some d) (split : IsSplit a b d)
    (also : ∥ IsAccepted c.other.maps.maps.completed ∥₁) (e p q : List ℕ)
    (also_has : c.other.maps.maps.completed.destination ≡ Some e) (also_split : IsSplit p q e)
    (prefix suffix : List ℕ) (most : ℕ) (longer : IsLongerPrefix a p prefix) (ends : IsLongerSuffix b q suffix)
    (is_most : IsMost a b p q prefix suffix most) where
  abbrev one : MapsPattern c.one.maps.maps.completed a b s n
  one = mapped_so g z free refs i s n c.one accepted d a b has split

  abbrev other : MapsPattern c.other.maps.maps.completed p q t n
  other = mapped_so g z free refs j t n c.other also e p q also_has also_split

  by_itself : IsDeciding (words_with z) prefix suffix most n → DecidesConflict g z prefix suffix most i j
  by_itself deciding = record {
    name = n;
    deciding = deciding;
    one = s;
    other = t;
    conflict =
        conflict_of_two g refs i j s t n c;
  }

  -- the word and the texts around it in the two sources and the destination
  abbrev around : IsParted a b p q prefix suffix n one.word other.word → List Around
  around w =
      record { front = one.before ++ w.x; back = w.y ++ one.after }
      ∷ record { front = other.before ++ w.p; back = w.q ++ other.after }
      ∷ record { front = prefix; back = suffix }
      ∷ []

  module _ (w : IsParted a b p q prefix suffix n one.word other.word) (h : IsWithByte z w.word (around w)) where
    lacks_prefix : Lacks z prefix
    lacks_prefix = elim longer.is [
      | inl is ↦ rw is (lacks_sides g z free refs i s n c.one accepted d a b has split).0
      | inr is ↦ rw is (lacks_sides g z free refs j t n c.other also e p q also_has also_split).0
    ]

    by_ending : DecidesConflict g z prefix suffix most i j
    by_ending =
        let v = h.ending ++ z ∷ [] in
        let m = prefix ++ (v ++ suffix) in
        let (front, back, was, lacks, fetches) = moved_so g z free refs i s n c.one accepted d a b has split w.x
        h.ending h.rest w.y m (w.one ∙ ap (λ v. w.x ++ (v ++ w.y)) h.is)
        (all_right (λ c. c ≢ z) a w.x (subst (Lacks z) w.before lacks_prefix)) h.lacks h.written.0 h.written.1.1.0
        (within a b prefix suffix w.x w.y v w.before w.after) in
        let (start, end, other_was, other_lacks, other_fetches) = moved_so g z free refs j t n c.other also e p q
        also_has also_split w.p h.ending h.rest w.q m (w.other ∙ ap (λ v. w.p ++ (v ++ w.q)) h.is)
        (all_right (λ c. c ≢ z) p w.p (subst (Lacks z) w.front lacks_prefix)) h.lacks h.written.1.0 h.written.1.1.0
        (within p q prefix suffix w.p w.q v w.front w.back) in
        let few = refs_of (name (front ++ (z ∷ back))) ++ refs_of (name (start ++ (z ∷ end))) in
        let differ = λ (same : name (front ++ (z ∷ back)) ≡ name (start ++ (z ∷ end))).
        let both = first_once z front start back end lacks other_lacks
        (one_name (front ++ (z ∷ back)) (start ++ (z ∷ end)) same) in
        let sources : s ≡ t = cc (was, other_was, both.0, both.1) in
        c.differ sources in
        let here : HasName refs (front ++ (h.rest ++ back)) = subst (IsThere refs) was
        (made_there refs s (Some n) c.one.maps.maps.completed c.one.maps.maps.makes) in
        let there : HasName refs (start ++ (h.rest ++ end)) = subst (IsThere refs) other_was
        (made_there refs t (Some n) c.other.maps.maps.completed c.other.maps.maps.makes) in
        let together : AreStorable few = pair_storable (front ++ (z ∷ back)) (start ++ (z ∷ end))
        (λ d. c.storable _ _ here there (directory_moved z front back start end h.rest lacks other_lacks d))
        (λ d. c.storable _ _ there here (directory_moved z start end front back h.rest other_lacks lacks d)) in
        let conflict : ConflictOver g few i j (name (front ++ (z ∷ back)))
        (name (start ++ (z ∷ end))) m = record {
          storable = together;
          one = fetches few (inl refl);
          other = other_fetches few (inr (inl refl));
          differ = differ;
        } in
        record {
          name = m;
          deciding = inl (v, h.listed, refl);
          one = name (front ++ (z ∷ back));
          other =
              name (start ++ (z ∷ end));
          conflict = conflict;
        }

  valid_around : (w : IsParted a b p q prefix suffix n one.word other.word) → AllByRecursion (IsRefAround w.word)
      (around w)
  valid_around w =
      let own = subst IsValidSource (one.source ∙ ap (λ v. name (one.before ++ (v ++ one.after))) w.one
      ∙ ap name (sym (between one.before w.x w.word w.y one.after))) c.one.maps.source in
      let others = subst IsValidSource (other.source ∙ ap (λ v. name (other.before ++ (v ++ other.after))) w.other
      ∙ ap name (sym (between other.before w.p w.word w.q other.after))) c.other.maps.source in
      (own, (others, (subst IsRefName w.whole (inl c.one.maps.destination), tt)))

  pub decided : DecidesConflict g z prefix suffix most i j
  decided = elim (common_name (words_with z) a b p q prefix suffix most n one.word other.word longer ends is_most
      one.fits other.fits) [
        | inr deciding ↦ by_itself deciding
        | inl w ↦ elim (word_or_moved g z free w.word (around w) (valid_around w)) [
          | inl listed ↦ by_itself (inl (w.word, listed, w.whole))
          | inr h ↦ by_ending w h
        ]
      ]
