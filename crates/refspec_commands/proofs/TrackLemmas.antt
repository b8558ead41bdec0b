-- Refs of which only the name is known, the specs by which they are looked up, and the refs that mappings write.
use Rattle.std.proofs.Common.{◌≡◌, ◌↔◌, ◌⊎◌, ℕ, ◌+◌, ◌<◌, ◌≤◌, Bool, Bor, true, false, cond, IsTrue, List, [], ◌∷◌}
use Rattle.std.proofs.Common.{◌++◌, None, Some, inl, inr, length, map, take, take_all, get_or, replicate, refl, sym, ap}
use Rattle.std.proofs.Common.{◌∙◌, subst, append_assoc, arith}
use Rattle.std.specs.BTreeMap.{is_at}
use Rattle.std.specs.BTreeSet.{BTreeSet, Updates, contains_by}
use Rattle.std.specs.List.{list_any}
use Rattle.std.specs.Cmp.Lexicographic.{slice_cmp}
use Rattle.std.specs.Ordering.{is_eq, nat_cmp}
use Rattle.std.proofs.lemmas.Bool.{false≢true}
use Rattle.std.proofs.lemmas.Map.Text.{is_eq-slice_cmp}
use Rattle.std.proofs.lemmas.Slice.Eq.{bytes_eq-Decides}
use Rattle.std.proofs.lemmas.List.{map-append, take_more}
use Rattle.gix_refspec.specs.Laws.Items.{HasIdDestination}
use Rattle.gix_refspec.specs.Views.Group.{mapped_of}
use Rattle.gix_refspec.specs.Views.Spec.{reading_of}
use Rattle.gix_refspec_match.specs.declared.types.Mapping.{Mapping}
use Rattle.gix_refspec_text.specs.declared.spec.RefSpecRef.{RefSpecRef}
use Rattle.gix_refspec.specs.Matching.Mappings.{Mapped}
use Rattle.gix_refspec.specs.Matching.Match.{Ref}
use Rattle.gix_refspec.specs.Specs.Reading.{Reading}
use Rattle.refspec_commands.specs.Track.{AreByNames, AreWritten, IsWritten, named}
use Rattle.gix_refspec_text.proofs.lemmas.lists.MapLemmas.{map_next}

-- a ref with the name and the target
abbrev pub plain : List ℕ → List ℕ → Ref
plain n t = record { name = n; target = t; object = None }

-- the ref with the name, if the target is the null id
pub named_of : (a b target : List ℕ) → a ≡ b → target ≡ replicate 20 0 → plain a target ≡ named b
named_of a b target same zeros = ap (λ n. plain n target) same ∙ ap (plain b) zeros

-- one more spec by which names are looked up
AreByNames-more : (xs : List Reading) (kept : List Reading) (r : Reading) → ¬ (HasIdDestination r) → AreByNames xs kept
    → AreByNames (xs ++ r ∷ []) (kept ++ r ∷ [])
AreByNames-more [] kept r none is = inr (none, ([], refl, ap (λ l. l ++ r ∷ []) is))
AreByNames-more (x ∷ xs) kept r none (inl (has, is)) = inl (has, AreByNames-more xs kept r none is)
AreByNames-more (x ∷ xs) kept r none (inr (other, (rest, is, same))) =
    inr (other, (rest ++ r ∷ [], AreByNames-more xs rest r none is, ap (λ l. l ++ r ∷ []) same))

-- one more spec whose destination is an object id
AreByNames-less : (xs : List Reading) (kept : List Reading) (r : Reading) → HasIdDestination r → AreByNames xs kept
    → AreByNames (xs ++ r ∷ []) kept
AreByNames-less [] kept r has is = inl (has, is)
AreByNames-less (x ∷ xs) kept r has (inl (it, is)) = inl (it, AreByNames-less xs kept r has is)
AreByNames-less (x ∷ xs) kept r has (inr (other, (rest, is, same))) =
    inr (other, (rest, AreByNames-less xs rest r has is, same))

pub AreByNames-kept : (specs old new : List RefSpecRef) (i : ℕ) (s : RefSpecRef) → i < length specs
    → s ≡ get_or specs i s → ¬ (HasIdDestination (reading_of s)) → new ≡ old ++ s ∷ []
    → AreByNames (map reading_of (take i specs)) (map reading_of old) → AreByNames (map reading_of (take (i + 1) specs))
    (map reading_of new)
AreByNames-kept specs old new i s below is none grown so_far =
    subst (λ (l : List Reading). AreByNames l (map reading_of new)) (sym (map_next reading_of specs i s below is))
    (subst (AreByNames (map reading_of (take i specs) ++ reading_of s ∷ []))
    (sym (ap (map reading_of) grown ∙ map-append reading_of old (s ∷ [])))
    (AreByNames-more (map reading_of (take i specs)) (map reading_of old) (reading_of s) none so_far))

pub AreByNames-left : (specs kept : List RefSpecRef) (i : ℕ) (s : RefSpecRef) → i < length specs → s ≡ get_or specs i s
    → HasIdDestination (reading_of s) → AreByNames (map reading_of (take i specs)) (map reading_of kept)
    → AreByNames (map reading_of (take (i + 1) specs)) (map reading_of kept)
AreByNames-left specs kept i s below is has so_far =
    subst (λ (l : List Reading). AreByNames l (map reading_of kept)) (sym (map_next reading_of specs i s below is))
    (AreByNames-less (map reading_of (take i specs)) (map reading_of kept) (reading_of s) has so_far)

pub AreByNames-all : (specs kept : List RefSpecRef) (i : ℕ) → length specs ≤ i
    → AreByNames (map reading_of (take i specs)) (map reading_of kept) → AreByNames (map reading_of specs)
    (map reading_of kept)
AreByNames-all specs kept i long so_far =
    subst (λ (l : List RefSpecRef). AreByNames (map reading_of l) (map reading_of kept)) (take_all i specs long) so_far

-- the specs by which names are looked up are at most as many as all, and if as many, they are all
by_names-few : (g kept : List Reading) → AreByNames g kept → length kept ≤ length g
by_names-few [] kept is = omega (arith, ap length is)
by_names-few (r ∷ g) kept (inl (has, is)) = omega (arith, by_names-few g kept is)
by_names-few (r ∷ g) kept (inr (other, (rest, is, same))) = omega (arith, by_names-few g rest is, ap length same)

pub by_names-whole : (g kept : List Reading) → AreByNames g kept → length g ≤ length kept → kept ≡ g
by_names-whole [] kept is many = is
by_names-whole (r ∷ g) kept (inl (has, is)) many = absurd (omega (arith, by_names-few g kept is, many))
by_names-whole (r ∷ g) kept (inr (other, (rest, is, same))) many = same
    ∙ ap (λ l. r ∷ l) (by_names-whole g rest is (omega (arith, many, ap length same)))

-- one more mapping
IsWritten-front : (name : List ℕ) (ms : List Mapped) (m : Mapped) → IsWritten name ms → IsWritten name (ms ++ m ∷ [])
IsWritten-front name [] m is = absurd is
IsWritten-front name (x ∷ ms) m (inl same) = inl same
IsWritten-front name (x ∷ ms) m (inr is) = inr (IsWritten-front name ms m is)

IsWritten-here : (name : List ℕ) (ms : List Mapped) (m : Mapped) → m.destination ≡ Some name
    → IsWritten name (ms ++ m ∷ [])
IsWritten-here name [] m same = inl same
IsWritten-here name (x ∷ ms) m same = inr (IsWritten-here name ms m same)

IsWritten-cases : (name : List ℕ) (ms : List Mapped) (m : Mapped) → IsWritten name (ms ++ m ∷ []) → IsWritten name ms
    ⊎ (m.destination ≡ Some name)
IsWritten-cases name [] m (inl same) = inr same
IsWritten-cases name [] m (inr is) = absurd is
IsWritten-cases name (x ∷ ms) m (inl same) = inl (inl same)
IsWritten-cases name (x ∷ ms) m (inr is) = later (IsWritten-cases name ms m is)
  where
    later : IsWritten name ms ⊎ (m.destination ≡ Some name) → IsWritten name (x ∷ ms) ⊎ (m.destination ≡ Some name)
    later (inl before) = inl (inr before)
    later (inr here) = inr here

-- at the start the set is empty
pub AreWritten-start : (set : BTreeSet (Bor (List ℕ))) → set.keys ≡ [] → AreWritten set []
AreWritten-start set none name = (
  (λ has. absurd (false≢true (sym (ap (list_any (is_at (λ (n : Bor (List ℕ)). slice_cmp nat_cmp name n.now))) none)
      ∙ has))),
  (λ is. absurd is),
)

-- the mappings before an index, and the one at it
pub AreWritten-next : (set : BTreeSet (Bor (List ℕ))) (before : List Mapped) (ms : List Mapping) (i : ℕ) (m : Mapping)
    → i < length ms → m ≡ get_or ms i m → AreWritten set ((before ++ map mapped_of (take i ms)) ++ mapped_of m ∷ [])
    → AreWritten set (before ++ map mapped_of (take (i + 1) ms))
AreWritten-next set before ms i m below is so_far =
    let step : map mapped_of (take (i + 1) ms) ≡ map mapped_of (take i ms) ++ mapped_of m ∷ [] =
    ap (map mapped_of) (take_more ms i m below)
    ∙ (map-append mapped_of (take i ms) (get_or ms i m ∷ [])
    ∙ ap (λ (x : Mapping). map mapped_of (take i ms) ++ mapped_of x ∷ []) (sym is)) in
    subst (AreWritten set) (append_assoc before (map mapped_of (take i ms)) (mapped_of m ∷ [])
    ∙ ap (λ l. before ++ l) (sym step)) so_far

-- one more mapping, without a destination
pub AreWritten-none : (set : BTreeSet (Bor (List ℕ))) (ms : List Mapped) (m : Mapped) → m.destination ≡ None
    → AreWritten set ms → AreWritten set (ms ++ m ∷ [])
AreWritten-none set ms m none so_far name = (
  (λ has. IsWritten-front name ms m ((so_far name).0 has)),
  (λ is. back (IsWritten-cases name ms m is)),
)
  where
    back : IsWritten name ms ⊎ (m.destination ≡ Some name)
        → IsTrue (contains_by (λ n. slice_cmp nat_cmp name n.now) set)
    back (inl before) = (so_far name).1 before
    back (inr here) = absurd (no_name (sym none ∙ here))
      where
        no_name : None ≡ Some name → ⊥
        no_name same = cc

-- one more mapping, whose destination was inserted into the set
pub AreWritten-more : (old new : BTreeSet (Bor (List ℕ))) (key : Bor (List ℕ)) (ms : List Mapped) (m : Mapped)
    → Updates (λ x y. slice_cmp nat_cmp x.now y.now) old new key true → m.destination ≡ Some key.now → AreWritten old ms
    → AreWritten new (ms ++ m ∷ [])
AreWritten-more old new key ms m updates is so_far name = by (is_eq (slice_cmp nat_cmp key.now name)) refl
    (updates.0 (record { ref_ptr = (0, 0); now = name }))
  where
    has : BTreeSet (Bor (List ℕ)) → Bool
    has set = contains_by (λ n. slice_cmp nat_cmp name n.now) set

    by : (b : Bool) → is_eq (slice_cmp nat_cmp key.now name) ≡ b → has new ≡ cond b true (has old) → IsTrue (has new)
        ↔ IsWritten name (ms ++ m ∷ [])
    by true same found = (
      (λ _. IsWritten-here name ms m
          (is ∙ ap Some ((bytes_eq-Decides key.now name).0 (sym (is_eq-slice_cmp key.now name) ∙ same)))),
      (λ _. found),
    )
    by false other found = (
      (λ has_it. IsWritten-front name ms m ((so_far name).0 (sym found ∙ has_it))),
      (λ some. back (IsWritten-cases name ms m some)),
    )
      where
        back : IsWritten name ms ⊎ (m.destination ≡ Some name) → IsTrue (has new)
        back (inl before) = found ∙ (so_far name).1 before
        back (inr here) =
            absurd (false≢true
            (sym other ∙ (is_eq-slice_cmp key.now name ∙ (bytes_eq-Decides key.now name).1 (one_name (sym is ∙ here)))))
          where
            one_name : Some key.now ≡ Some name → key.now ≡ name
            one_name same = cc
