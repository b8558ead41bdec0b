-- What is known of destinations, and the verdicts on mappings, as these are read one after another.
use Rattle.std.proofs.Common.{◌≡◌, ◌≢◌, ◌⊎◌, ◌↔◌, ◌<◌, ◌+◌, ◌==◌, ◌||◌, ◌∙◌, inl, inr, ℕ, zero, suc, List, [], ◌∷◌}
use Rattle.std.proofs.Common.{◌++◌, Bool, Bor, true, false, cond, IsTrue, MatchOption, Option, None, Some, length, map}
use Rattle.std.proofs.Common.{option_map, take, get_or, bytes_eq, refl, sym, ap, subst, arith}
use Rattle.std.specs.BTreeMap.{BTreeMap, UpdatesBy, get_by}
use Rattle.std.specs.Cmp.Lexicographic.{slice_cmp}
use Rattle.std.specs.List.{AllZip, Contains, list_any, slice_get}
use Rattle.std.specs.Ordering.{nat_cmp}
use Rattle.std.proofs.lemmas.Bool.{false≢true}
use Rattle.std.proofs.lemmas.List.{length-map, length-take-le, map_more}
use Rattle.std.proofs.lemmas.List.Elements.{All-contains, All-from_recursion, Contains-append_left, Contains-push}
use Rattle.std.proofs.lemmas.List.Elements.{Contains-push_cases}
use Rattle.std.proofs.lemmas.Map.Text.{btree_map_updates_str}
use Rattle.std.proofs.lemmas.Option.{get_or_from_slice_get, same_Some, slice_get_within}
use Rattle.std.proofs.lemmas.Slice.Eq.{bytes_eq-Decides}
use Rattle.std.proofs.lemmas.Slice.Zip.{all_zipped_more}
use Rattle.gix_refspec.specs.Matching.Mappings.{Mapped}
use Rattle.gix_refspec.specs.Matching.Validation.{HasConflictAt, IsWritable, Survives}
use Rattle.gix_refspec_why.specs.Matching.Why.{IsFirstWith}
use Rattle.gix_refspec_why.specs.Private.Attempts.{FirstOf}
use Rattle.gix_refspec_why.proofs.lemmas.FirstLemmas.{first_kept, first_new, first_same, slice_get_end, slice_get_left}
use Rattle.gix_refspec_c.specs.declared.failure.Failure.{Failure}
use Rattle.gix_refspec_c.specs.declared.failure.Failure.TheVariants as failure
use Rattle.gix_refspec_c.specs.declared.validating.Claim.{Claim}
use Rattle.gix_refspec_c.specs.declared.validating.PairIn.{PairIn}
use Rattle.gix_refspec_c.specs.declared.validating.PairVerdictOut.{PairVerdictOut}
use Rattle.gix_refspec_c.specs.Buffer.{IsTooSmall, IsWrittenTo}
use Rattle.gix_refspec_c.specs.Mapping.{no_index}
use Rattle.gix_refspec_c.specs.Outcome.{number_of}
use Rattle.gix_refspec_c.specs.Validating.{AreClaims, TellConflicts, GoesTo, HasConflict, HasFirstSource}
use Rattle.gix_refspec_c.specs.Validating.{IsClaim, IsFree, IsVerdict, kept, removed, in_conflict, claimed_source}
use Rattle.gix_refspec_c.specs.Validating.{mapped_in, AreVerdictsIn, HaveVerdicts, IsValidated, all_free}
use Rattle.gix_refspec_c.specs.Validating.{no_room, some_contested, tells_conflict}

module _ (l : List Mapped) (m : Mapped) (d : List ℕ) where
  -- two mappings in conflict are in conflict beside another one
  conflict_kept : HasConflictAt l d → HasConflictAt (l ++ m ∷ []) d
  conflict_kept at = record {
    one = at.one;
    other = at.other;
    has_one = Contains-append_left l (m ∷ []) at.one at.has_one;
    has_other = Contains-append_left l (m ∷ []) at.other at.has_other;
    one_to = at.one_to;
    other_to = at.other_to;
    differ = at.differ;
  }

  -- a mapping to the destination is that one or an earlier one
  earlier_or_last : (x : Mapped) → Contains (l ++ m ∷ []) x → Contains l x ⊎ (m ≡ x)
  earlier_or_last x has = Contains-push_cases l m x has

  -- a mapping to another destination makes no conflict
  conflict_elsewhere : ¬ (GoesTo d m) → HasConflictAt (l ++ m ∷ []) d → HasConflictAt l d
  conflict_elsewhere none at = record {
    one = at.one;
    other = at.other;
    has_one = old at.one at.one_to at.has_one;
    has_other = old at.other at.other_to at.has_other;
    one_to = at.one_to;
    other_to = at.other_to;
    differ = at.differ;
  }
    where
      old : (x : Mapped) → GoesTo d x → Contains (l ++ m ∷ []) x → Contains l x
      old x to has = elim (earlier_or_last x has) [
        | inl before ↦ before
        | inr last ↦ absurd (none (subst (GoesTo d) (sym last) to))
      ]

  first_source_kept : (known : Option Claim) → HasFirstSource l known → HasFirstSource (l ++ m ∷ []) known
  first_source_kept None has = tt
  first_source_kept (Some c) (x, at, is) = (x, slice_get_left l (m ∷ []) c.first x at, is)

  pub claim_same : (known : Option Claim) → ¬ (GoesTo d m) → IsClaim l d known → IsClaim (l ++ m ∷ []) d known
  claim_same known none is = record {
    first = first_same (GoesTo d) l m _ none is.first;
    source = first_source_kept known is.source;
    contested = (
      λ tells. conflict_kept (is.contested.0 tells),
      λ at. is.contested.1 (conflict_elsewhere none at),
    );
  }

  -- the first mapping to a destination
  pub claim_new : (c : Claim) → c.first ≡ length l → m.source ≡ claimed_source c → c.contested ≡ false → GoesTo d m
      → IsClaim l d None → IsClaim (l ++ m ∷ []) d (Some c)
  claim_new c here source free to is = record {
    first = subst (λ k. FirstOf (GoesTo d) (l ++ m ∷ []) (Some k)) (sym here) (first_new (GoesTo d) l m to is.first);
    source = (m, ap (slice_get (l ++ m ∷ [])) here ∙ slice_get_end l m, source);
    contested = (
      λ tells. absurd (false≢true (sym free ∙ tells)),
      λ at. absurd (at.differ (one_source at)),
    );
  }
    where
      only : (x : Mapped) → GoesTo d x → Contains (l ++ m ∷ []) x → m ≡ x
      only x goes has = elim (earlier_or_last x has) [
        | inl before ↦ absurd (All-contains (λ y. ¬ (GoesTo d y)) l x
            (All-from_recursion (λ y. ¬ (GoesTo d y)) l is.first) before goes)
        | inr last ↦ last
      ]

      one_source : (at : HasConflictAt (l ++ m ∷ []) d) → at.one.source ≡ at.other.source
      one_source at = subst (λ (x : Mapped). x.source ≡ at.other.source) (only at.one at.one_to at.has_one)
          (subst (λ (x : Mapped). m.source ≡ x.source) (only at.other at.other_to at.has_other) refl)

  -- another mapping to a destination, of which this was known
  pub claim_more : (known c : Claim) → c.first ≡ known.first → claimed_source c ≡ claimed_source known
      → (IsTrue c.contested ↔ (IsTrue known.contested ⊎ (claimed_source known ≢ m.source))) → GoesTo d m
      → IsClaim l d (Some known) → IsClaim (l ++ m ∷ []) d (Some c)
  claim_more known c here source tells to is = record {
    first = subst (λ k. FirstOf (GoesTo d) (l ++ m ∷ []) (Some k)) (sym here)
        (first_kept (GoesTo d) l m known.first is.first);
    source = (
      first,
      ap (slice_get (l ++ m ∷ [])) here ∙ slice_get_left l (m ∷ []) known.first first at,
      is.source.2 ∙ sym source,
    );
    contested = (λ is_so. found (tells.0 is_so), λ conflict. tells.1 (told conflict));
  }
    where
      first : Mapped
      first = is.source.0

      at : slice_get l known.first ≡ Some first
      at = is.source.1

      has : Contains l first
      has = (
        known.first,
        slice_get_within l known.first first at,
        get_or_from_slice_get l known.first first first at,
      )

      goes : GoesTo d first
      goes = subst (GoesTo d) (same_Some is.first.0 first (sym is.first.1.at ∙ at)) is.first.1.holds

      -- a mapping from another source than the first one
      by_source : (x : Mapped) → Contains l x → GoesTo d x → x.source ≢ first.source → HasConflictAt l d
      by_source x inside also differ = record {
        one = x;
        other = first;
        has_one = inside;
        has_other = has;
        one_to = also;
        other_to = goes;
        differ = differ;
      }

      found : IsTrue known.contested ⊎ (claimed_source known ≢ m.source) → HasConflictAt (l ++ m ∷ []) d
      found (inl old) = conflict_kept (is.contested.0 old)
      found (inr differ) = record {
        one = first;
        other = m;
        has_one = Contains-append_left l (m ∷ []) first has;
        has_other = Contains-push l m;
        one_to = goes;
        other_to = to;
        differ = λ same. differ (sym is.source.2 ∙ same);
      }

      none_of : known.contested ≡ false → ¬ (HasConflictAt l d)
      none_of isnt there = false≢true (sym isnt ∙ is.contested.1 there)

      -- if all have the source of the first one, none are in conflict
      clash : known.contested ≡ false → first.source ≡ m.source → ¬ (HasConflictAt (l ++ m ∷ []) d)
      clash isnt same conflict = by (earlier_or_last conflict.one conflict.has_one)
          (earlier_or_last conflict.other conflict.has_other)
        where
          by : Contains l conflict.one ⊎ (m ≡ conflict.one) → Contains l conflict.other ⊎ (m ≡ conflict.other) → ⊥
          by (inl before) (inl also) = none_of isnt (record {
            one = conflict.one;
            other = conflict.other;
            has_one = before;
            has_other = also;
            one_to = conflict.one_to;
            other_to = conflict.other_to;
            differ = conflict.differ;
          })
          by (inl before) (inr last) = none_of isnt (by_source conflict.one before conflict.one_to
              (λ alike. conflict.differ (alike ∙ same ∙ ap (λ (x : Mapped). x.source) last)))
          by (inr last) (inl also) = none_of isnt (by_source conflict.other also conflict.other_to
              (λ alike. conflict.differ (sym (alike ∙ same ∙ ap (λ (x : Mapped). x.source) last))))
          by (inr last) (inr also) = conflict.differ (ap (λ (x : Mapped). x.source) (sym last ∙ also))

      told : HasConflictAt (l ++ m ∷ []) d → IsTrue known.contested ⊎ (claimed_source known ≢ m.source)
      told conflict = by known.contested refl
        where
          by : (b : Bool) → known.contested ≡ b → IsTrue known.contested ⊎ (claimed_source known ≢ m.source)
          by true is_so = inl is_so
          by false isnt = inr (λ same. clash isnt (is.source.2 ∙ same) conflict)

-- what is known of destinations tells the conflicts
pub claims_tell : (l : List Mapped) (claims : BTreeMap (Bor (List ℕ)) Claim) → AreClaims l claims
    → TellConflicts l claims
claims_tell l claims are d = record {
  contested = (are d).contested;
  first = λ c known is_so. subst (λ (k : Option ℕ). FirstOf (GoesTo d) l k)
      (ap (option_map (λ (c : Claim). c.first)) known) (are d).first;
}

-- without conflicts nothing has to be known
pub none_tell : (l : List Mapped) (conflicts : BTreeMap (Bor (List ℕ)) Claim) → ((d : List ℕ) → ¬ (HasConflictAt l d))
    → conflicts.entries ≡ [] → TellConflicts l conflicts
none_tell l conflicts none empty d = rw empty (record {
  contested = (λ is_so. absurd (false≢true is_so), λ at. absurd (none d at));
  first = λ c known is_so. absurd (cc);
})

-- ---- verdicts

module _ (l : List Mapped) (m : Mapped) where
  -- a mapping without a destination is kept
  pub kept_alone : (v : PairVerdictOut) → m.destination ≡ None → v ≡ record { verdict = 1; first = no_index }
      → IsVerdict l m v
  kept_alone v none is = kept (λ d goes. cc (none, goes))
      (subst (λ (d : Option (List ℕ)). MatchOption d (Unit {0}) IsWritable) (sym none) tt) is

  module _ (d : List ℕ) (goes : GoesTo d m) where
    uncontested : ¬ (HasConflictAt l d) → IsFree l m
    uncontested none e also = subst (λ e. ¬ (HasConflictAt l e)) (same_Some d e (sym goes ∙ also)) none

    survives_to : Survives m ≡ IsWritable d
    survives_to = ap (λ (d : Option (List ℕ)). MatchOption d (Unit {0}) IsWritable) goes

    -- one to a destination without conflict
    pub kept_to : (v : PairVerdictOut) → ¬ (HasConflictAt l d) → IsWritable d
        → v ≡ record { verdict = 1; first = no_index }
        → IsVerdict l m v
    kept_to v none writable is = kept (uncontested none) (subst (λ (t : Type 0). t) (sym survives_to) writable) is

    pub removed_to : (v : PairVerdictOut) → ¬ (HasConflictAt l d) → ¬ (IsWritable d)
        → v ≡ record { verdict = 2; first = no_index } → IsVerdict l m v
    removed_to v none partial is = removed (uncontested none)
        (λ survive. partial (subst (λ (t : Type 0). t) survives_to survive)) is

    -- one to a destination in conflict
    pub contested_to : (v : PairVerdictOut) (first : ℕ) → HasConflictAt l d
        → (x : Mapped) × IsFirstWith (GoesTo d) l first x → v ≡ record { verdict = 3; first = first } → IsVerdict l m v
    contested_to v first at (x, is) same = subst (IsVerdict l m) (sym same) (in_conflict d goes at x is refl)

  -- the verdict on a mapping in conflict tells that
  conflict_shown : (d : List ℕ) (v : PairVerdictOut) → GoesTo d m → HasConflictAt l d → IsVerdict l m v
      → tells_conflict v ≡ true
  conflict_shown d v goes at (kept free survive is) = absurd (free d goes at)
  conflict_shown d v goes at (removed free gone is) = absurd (free d goes at)
  conflict_shown d v goes at (in_conflict e to other first is three) = ap (λ n. n == 3) three

  -- and no other verdict does
  shown_conflict : (v : PairVerdictOut) → IsVerdict l m v → tells_conflict v ≡ true → HasConflict l
  shown_conflict v (kept free survive is) is_so = absurd (false≢true (ap tells_conflict (sym is) ∙ is_so))
  shown_conflict v (removed free gone is) is_so = absurd (false≢true (ap tells_conflict (sym is) ∙ is_so))
  shown_conflict v (in_conflict d goes at first is three) is_so = (d, at)

-- there are as many verdicts as mappings
as_many : (l ms : List Mapped) (vs : List PairVerdictOut) → AllZip (IsVerdict l) ms vs → length ms ≡ length vs
as_many l [] [] zip = refl
as_many l [] (v ∷ vs) zip = absurd zip
as_many l (m ∷ ms) [] zip = absurd zip
as_many l (m ∷ ms) (v ∷ vs) (is, zip) = ap suc (as_many l ms vs zip)

-- if a verdict tells of a conflict, there is one
pub conflict_told : (l ms : List Mapped) (vs : List PairVerdictOut) → AllZip (IsVerdict l) ms vs
    → list_any tells_conflict vs ≡ true → HasConflict l
conflict_told l [] [] zip any = absurd (false≢true any)
conflict_told l [] (v ∷ vs) zip any = absurd zip
conflict_told l (m ∷ ms) [] zip any = absurd zip
conflict_told l (m ∷ ms) (v ∷ vs) (is, zip) any = by (tells_conflict v) refl (conflict_told l ms vs zip)
  where
    by : (b : Bool) → tells_conflict v ≡ b → (list_any tells_conflict vs ≡ true → HasConflict l) → HasConflict l
    by true is_so later = shown_conflict l m v is is_so
    by false isnt later = later (sym (ap (λ b. b || list_any tells_conflict vs) isnt) ∙ any)

-- a mapping in conflict has a verdict that tells so
told_of : (l ms : List Mapped) (vs : List PairVerdictOut) (d : List ℕ) (x : Mapped) → AllZip (IsVerdict l) ms vs
    → Contains ms x → GoesTo d x → HasConflictAt l d → list_any tells_conflict vs ≡ true
told_of l [] vs d x zip (i, below, is) goes at = absurd (omega (arith, below))
told_of l (m ∷ ms) [] d x zip has goes at = absurd zip
told_of l (m ∷ ms) (v ∷ vs) d x (this, zip) (zero, below, is) goes at =
    ap (λ b. b || list_any tells_conflict vs)
    (conflict_shown l m d v (subst (GoesTo d) (sym is) goes) at this)
told_of l (m ∷ ms) (v ∷ vs) d x (this, zip) (suc i, below, is) goes at =
    or_right (tells_conflict v) (told_of l ms vs d x zip (i, omega (arith, below), is) goes at)
  where
    or_right : (b : Bool) → list_any tells_conflict vs ≡ true → (b || list_any tells_conflict vs) ≡ true
    or_right true is_so = refl
    or_right false is_so = is_so

-- if no verdict tells of a conflict, there is none
pub none_told : (l : List Mapped) (vs : List PairVerdictOut) → AllZip (IsVerdict l) l vs
    → list_any tells_conflict vs ≡ false → ¬ (HasConflict l)
none_told l vs zip none (d, at) = false≢true (sym none ∙ told_of l l vs d at.one zip at.has_one at.one_to at)

module _ (l : List Mapped) (vs before after : List PairVerdictOut) (count n : ℕ) (have : HaveVerdicts l vs) where
  -- the verdicts are written, and the outcome tells whether there is a conflict
  pub verdicts_written : IsWrittenTo vs before after count
      → (list_any tells_conflict vs ≡ true → n ≡ number_of failure.InConflict)
      → (list_any tells_conflict vs ≡ false → n ≡ 0) → IsValidated l before after n
  verdicts_written write conflict none = by (list_any tells_conflict vs) refl
    where
      shown : AreVerdictsIn l before after
      shown = record {
        verdicts = vs;
        have = have;
        write = record { fits = write.fits; write = write.write; describes = refl };
      }

      by : (b : Bool) → list_any tells_conflict vs ≡ b → IsValidated l before after n
      by true is_so = some_contested (conflict is_so) (conflict_told l l vs have is_so) shown
      by false isnt = all_free (none isnt) (none_told l vs have isnt) shown

  -- there is no room for them
  pub verdicts_unwritten : (f : Failure) → n ≡ number_of f → f ≡ failure.TooSmall → IsTooSmall vs before after count
      → IsValidated l before after n
  verdicts_unwritten f number is small =
      let many = as_many l l vs have in let long = small.long in
      no_room (number ∙ ap number_of is) (omega (arith, many, long)) small.same

-- ---- mappings one after another

-- the index of a mapping is how many there are before it
pub count_before : (pairs : List PairIn) (i : ℕ) → i < length pairs → length (map mapped_in (take i pairs)) ≡ i
count_before pairs i below = length-map (take i pairs) mapped_in ∙ length-take-le i pairs (omega (arith, below))

module _ (pairs : List PairIn) (i : ℕ) (d : PairIn) (below : i < length pairs) where
  next : map mapped_in (take (i + 1) pairs) ≡ map mapped_in (take i pairs) ++ mapped_in (get_or pairs i d) ∷ []
  next = map_more mapped_in pairs i d below

  -- one without a destination
  pub claims_same : (claims : BTreeMap (Bor (List ℕ)) Claim) → (mapped_in (get_or pairs i d)).destination ≡ None
      → AreClaims (map mapped_in (take i pairs)) claims → AreClaims (map mapped_in (take (i + 1) pairs)) claims
  claims_same claims none are e = subst (λ l. IsClaim l e (get_by (λ k. slice_cmp nat_cmp e k.now) claims)) (sym next)
      (claim_same (map mapped_in (take i pairs)) (mapped_in (get_or pairs i d)) e _ (λ goes. cc (none, goes)) (are e))

  -- one with this destination
  pub claims_more : (old new : BTreeMap (Bor (List ℕ)) Claim) (e : Bor (List ℕ)) (claim : Claim)
      → GoesTo e.now (mapped_in (get_or pairs i d))
      → IsClaim (map mapped_in (take i pairs) ++ mapped_in (get_or pairs i d) ∷ []) e.now (Some claim)
      → AreClaims (map mapped_in (take i pairs)) old
      → UpdatesBy (λ x y. slice_cmp nat_cmp x.now y.now) (λ k. slice_cmp nat_cmp e.now k.now) old new (Some claim)
      → AreClaims (map mapped_in (take (i + 1) pairs)) new
  claims_more old new e claim goes here are updates n =
      subst (λ l. IsClaim l n (get_by (λ k. slice_cmp nat_cmp n k.now) new)) (sym next)
      (rw (btree_map_updates_str e.now old new (Some claim) updates n) (by (bytes_eq e.now n) refl))
    where
      by : (b : Bool) → bytes_eq e.now n ≡ b
          → IsClaim (map mapped_in (take i pairs) ++ mapped_in (get_or pairs i d) ∷ []) n
          (cond b (Some claim) (get_by (λ k. slice_cmp nat_cmp n k.now) old))
      by true equal = subst (λ k. IsClaim (map mapped_in (take i pairs) ++ mapped_in (get_or pairs i d) ∷ []) k
          (Some claim)) ((bytes_eq-Decides e.now n).0 equal) here
      by false other = claim_same (map mapped_in (take i pairs)) (mapped_in (get_or pairs i d)) n _
          (λ also. false≢true (sym other ∙ (bytes_eq-Decides e.now n).1 (same_Some e.now n (sym goes ∙ also)))) (are n)

  -- one more verdict
  pub verdicts_more : (l : List Mapped) (vs : List PairVerdictOut) (v : PairVerdictOut)
      → AllZip (IsVerdict l) (map mapped_in (take i pairs)) vs → IsVerdict l (mapped_in (get_or pairs i d)) v
      → AllZip (IsVerdict l) (map mapped_in (take (i + 1) pairs)) (vs ++ v ∷ [])
  verdicts_more l vs v so_far is = subst (λ ms. AllZip (IsVerdict l) ms (vs ++ v ∷ [])) (sym next)
      (all_zipped_more (IsVerdict l) (map mapped_in (take i pairs)) vs (mapped_in (get_or pairs i d)) v so_far is)
