-- Settings from pairs of records, and the refspecs among them.
use Rattle.std.proofs.Common.{◌≡◌, ◌⊎◌, Bool, true, false, ◌||◌, MatchBool, MatchOption, ℕ, ◌+◌, ◌<◌, ◌≤◌, List, []}
use Rattle.std.proofs.Common.{◌∷◌, ◌++◌, Option, None, Some, Bor, inl, inr, codes, length, take, take_all, drop, get_or}
use Rattle.std.proofs.Common.{refl, sym, ap, ◌∙◌, subst, append_assoc, zero, suc, arith}
use Rattle.std.specs.Bool.{⊤}
use Rattle.std.proofs.lemmas.Bool.{false≢true}
use Rattle.std.proofs.lemmas.List.{append-nil, drop_all, drop_more, take_more}
use Rattle.gix_refspec_text.specs.declared.parsing.Operation.{Operation}
use Rattle.gix_refspec.specs.Texts.Words.{BeginsWith}
use Rattle.refspec_io.specs.declared.settings.Setting.{Setting}
use Rattle.refspec_io.specs.Settings.{ArePairs, HasLacking, HoldsSpecs, IsOrigin, IsSetting, LacksValue}
use Rattle.refspec_io.specs.Texts.{AddsValues, AreValues, Given, at_setting}
use Rattle.refspec_io.proofs.RecordLemmas.{bytes_of}

-- a text begins with w, or doesn't
pub begins_if : (w o : List ℕ) (r : Bool) → (r ≡ true → o ≡ w ++ drop (length w) o)
    × ((rest : List ℕ) → o ≡ w ++ rest → r ≡ true) → MatchBool r (BeginsWith w o) (¬ (BeginsWith w o))
begins_if w o true is = record { after = drop (length w) o; here = is.0 refl }
begins_if w o false is = λ begins. false≢true (is.1 begins.after begins.here)

-- a record begins with one of the four prefixes of an origin, or with none
pub origin_if : (o : List ℕ) (a b c d : Bool) → MatchBool a (BeginsWith (codes "file:") o)
    (¬ (BeginsWith (codes "file:") o)) → MatchBool b (BeginsWith (codes "standard input:") o)
    (¬ (BeginsWith (codes "standard input:") o)) → MatchBool c (BeginsWith (codes "blob:") o)
    (¬ (BeginsWith (codes "blob:") o)) → MatchBool d (BeginsWith (codes "command line:") o)
    (¬ (BeginsWith (codes "command line:") o)) → MatchBool ((a || b) || (c || d)) (IsOrigin o) (¬ (IsOrigin o))
origin_if o true b c d is_a is_b is_c is_d = inl is_a
origin_if o false true c d is_a is_b is_c is_d = inr (inl is_b)
origin_if o false false true d is_a is_b is_c is_d = inr (inr (inl is_c))
origin_if o false false false true is_a is_b is_c is_d = inr (inr (inr is_d))
origin_if o false false false false is_a is_b is_c is_d = none
  where
    none : ¬ (IsOrigin o)
    none (inl is) = is_a is
    none (inr (inl is)) = is_b is
    none (inr (inr (inl is))) = is_c is
    none (inr (inr (inr is))) = is_d is

-- settings of the rest complete the settings so far to those of all records, and settings of all records end with
-- settings of the rest
pub record Pairing (all rest : List (List ℕ)) (done : List Setting) : Type 0 where
  pub forth : (more : List Setting) → ArePairs rest more → ArePairs all (done ++ more)
  pub back : (whole : List Setting) → ArePairs all whole → (more : List Setting) × ArePairs rest more

-- the rest, after the origin that was read before it, if there is one
abbrev pub with_origin : Option (Bor (List ℕ)) → List (List ℕ) → List (List ℕ)
with_origin None rest = rest
with_origin (Some origin) rest = origin.now ∷ rest

abbrev pub IsReadOrigin : Option (Bor (List ℕ)) → Type 0
IsReadOrigin None = ⊤
IsReadOrigin (Some origin) = IsOrigin origin.now

-- the records up to an index are these settings, and maybe the origin of the next one
pub record PairsSoFar (records : List (Bor (List ℕ))) (i : ℕ) (origin : Option (Bor (List ℕ))) (done : List Setting) :
    Type 0 where
  pub pairing : Pairing (bytes_of records) (with_origin origin (bytes_of (drop i records))) done
  pub from : IsReadOrigin origin

bytes_more : (records : List (Bor (List ℕ))) (i : ℕ) (d : Bor (List ℕ)) → i < length records
    → bytes_of (drop i records) ≡ (get_or records i d).now ∷ bytes_of (drop (i + 1) records)
bytes_more records i d below = ap bytes_of (drop_more records i d below)

-- one more origin
pub PairsSoFar-origin : (records : List (Bor (List ℕ))) (i : ℕ) (d : Bor (List ℕ)) (origin next : Option (Bor (List ℕ)))
    (done new : List Setting) → i < length records → IsOrigin (get_or records i d).now → origin ≡ None
    → next ≡ Some (get_or records i d) → new ≡ done → PairsSoFar records i origin done
    → PairsSoFar records (i + 1) next new
PairsSoFar-origin records i d origin next done new below is none some same so_far =
    let before : PairsSoFar records i None done = subst (λ (o : Option (Bor (List ℕ))). PairsSoFar records i o done)
    none so_far in
    let after : PairsSoFar records (i + 1) (Some (get_or records i d)) done = record {
      pairing = subst (λ (rest : List (List ℕ)). Pairing (bytes_of records) rest done) (bytes_more records i d below)
          before.pairing;
      from = is;
    } in
    subst (PairsSoFar records (i + 1) next) (sym same)
    (subst (λ (o : Option (Bor (List ℕ))). PairsSoFar records (i + 1) o done) (sym some) after)

-- one more setting
pub PairsSoFar-setting : (records : List (Bor (List ℕ))) (i : ℕ) (o d : Bor (List ℕ))
    (origin next : Option (Bor (List ℕ))) (done new : List Setting) (s : Setting) → i < length records
    → IsSetting o.now (get_or records i d).now s → origin ≡ Some o → next ≡ None → new ≡ done ++ s ∷ []
    → PairsSoFar records i origin done → PairsSoFar records (i + 1) next new
PairsSoFar-setting records i o d origin next done new s below is some none grown so_far =
    let rest = bytes_of (drop (i + 1) records) in
    let before : PairsSoFar records i (Some o) done = subst (λ (x : Option (Bor (List ℕ))). PairsSoFar records i x done)
    some so_far in
    let pairing : Pairing (bytes_of records) (o.now ∷ ((get_or records i d).now ∷ rest)) done =
    subst (λ (rest : List (List ℕ)). Pairing (bytes_of records) (o.now ∷ rest) done) (bytes_more records i d below)
    before.pairing in
    let after : PairsSoFar records (i + 1) None new = record {
      pairing = record {
        forth = λ more pairs. subst (ArePairs (bytes_of records)) (sym (append_assoc done (s ∷ []) more)
            ∙ ap (λ (l : List Setting). l ++ more) (sym grown)) (pairing.forth (s ∷ more) (s, more, is, pairs, refl));
        back = λ whole pairs. let (those, found) = pairing.back whole pairs in (found.1, found.3);
      };
      from = tt;
    } in
    subst (λ (o : Option (Bor (List ℕ))). PairsSoFar records (i + 1) o new) (sym none) after

-- all records
pub PairsSoFar-end : (records : List (Bor (List ℕ))) (i : ℕ) (origin : Option (Bor (List ℕ))) (done : List Setting)
    → length records ≤ i → origin ≡ None → PairsSoFar records i origin done → ArePairs (bytes_of records) done
PairsSoFar-end records i origin done long none so_far =
    let whole : PairsSoFar records i None done = subst (λ (o : Option (Bor (List ℕ))). PairsSoFar records i o done) none
    so_far in
    subst (ArePairs (bytes_of records)) (append-nil done)
    (whole.pairing.forth [] (subst (λ (l : List (Bor (List ℕ))). ArePairs (bytes_of l) [])
    (sym (drop_all i records long)) refl))

-- a record that should be an origin isn't
pub no_pairs : (records : List (Bor (List ℕ))) (i : ℕ) (d : Bor (List ℕ)) (origin : Option (Bor (List ℕ)))
    (done settings : List Setting) → i < length records → ¬ (IsOrigin (get_or records i d).now) → origin ≡ None
    → PairsSoFar records i origin done → ¬ (ArePairs (bytes_of records) settings)
no_pairs records i d origin done settings below other none so_far pairs =
    let before : PairsSoFar records i None done = subst (λ (o : Option (Bor (List ℕ))). PairsSoFar records i o done)
    none so_far in
    let (more, left) = before.pairing.back settings pairs in
    from_origin (bytes_of (drop (i + 1) records)) more
    (subst (λ (rest : List (List ℕ)). ArePairs rest more) (bytes_more records i d below) left)
  where
    from_origin : (rest : List (List ℕ)) (more : List Setting) → ArePairs ((get_or records i d).now ∷ rest) more → ⊥
    from_origin [] more none = none
    from_origin (x ∷ rest) more (s, others, is, those, same) = other is.from

-- a key without a value is found at its index
pub HasLacking-at : (xs : List Setting) (i : ℕ) (d : Setting) → i < length xs → LacksValue (get_or xs i d)
    → HasLacking xs
HasLacking-at [] i d below lacks = absurd (omega (arith, below))
HasLacking-at (x ∷ xs) zero d below lacks = inl lacks
HasLacking-at (x ∷ xs) (suc i) d below lacks = inr (HasLacking-at xs i d (omega (arith, below)) lacks)

last_or_before : (xs : List Setting) (y : Setting) → HasLacking (xs ++ y ∷ []) → HasLacking xs ⊎ LacksValue y
last_or_before [] y (inl lacks) = inr lacks
last_or_before [] y (inr none) = absurd none
last_or_before (x ∷ xs) y (inl lacks) = inl (inl lacks)
last_or_before (x ∷ xs) y (inr more) = elim (last_or_before xs y more) [
  | inl before ↦ inl (inr before)
  | inr lacks ↦
      inr lacks
]

-- one more setting that doesn't lack its value
pub none_lacking_next : (xs : List Setting) (i : ℕ) (d : Setting) → i < length xs → ¬ (LacksValue (get_or xs i d))
    → ¬ (HasLacking (take i xs)) → ¬ (HasLacking (take (i + 1) xs))
none_lacking_next xs i d below has none lacking =
    elim (last_or_before (take i xs) (get_or xs i d) (subst HasLacking (take_more xs i d below) lacking))
    [ inl before ↦ none before | inr lacks ↦ has lacks ]

pub none_lacking_all : (xs : List Setting) (i : ℕ) → length xs ≤ i → ¬ (HasLacking (take i xs)) → ¬ (HasLacking xs)
none_lacking_all xs i long none lacking = none (subst HasLacking (sym (take_all i xs long)) lacking)

AreValues-append : (xs ys : List Setting) (us vs : List Given) → AreValues xs us → AreValues ys vs
    → AreValues (xs ++ ys) (us ++ vs)
AreValues-append [] ys us vs none more = subst (λ (l : List Given). AreValues ys (l ++ vs)) (sym none) more
AreValues-append (x ∷ xs) ys us vs (inl (text, rest, is, those, same)) more =
    inl (text, rest ++ vs, is, AreValues-append xs ys rest vs those more, ap (λ l. l ++ vs) same)
AreValues-append (x ∷ xs) ys us vs (inr (other, those)) more = inr (other, AreValues-append xs ys us vs those more)

-- ---- texts

pub AddsValues-none : (old : List Given) → AddsValues [] old old
AddsValues-none old = ([], refl, sym (append-nil old))

-- a setting whose key isn't one of refspecs
pub AddsValues-other : (s : Setting) (old : List Given) → ((op : Operation) → ¬ (HoldsSpecs s.key.now op))
    → AddsValues (s ∷ []) old old
AddsValues-other s old other = ([], inr (λ text is. other text.operation is.holds, refl), sym (append-nil old))

-- a setting with a refspec
pub AddsValues-one : (s : Setting) (t : Given) (value : Bor (List ℕ)) (old new : List Given)
    → HoldsSpecs s.key.now t.operation → s.value ≡ Some value → t.spot ≡ at_setting s.origin.now s.key.now
    → t.bytes ≡ value.now → new ≡ old ++ t ∷ [] → AddsValues (s ∷ []) old new
AddsValues-one s t value old new holds some spot same grown = (
  t ∷ [],
  inl (
    t,
    [],
    record {
      holds = holds;
      at = spot;
      value = subst (λ (o : Option (Bor (List ℕ))). MatchOption o ⊥ (λ x. t.bytes ≡ x.now)) (sym some) same;
    },
    refl,
    refl,
  ),
  grown,
)

-- the texts of one more setting
pub AddsValues-next : (xs : List Setting) (i : ℕ) (d : Setting) (old mid new : List Given) → i < length xs
    → AddsValues (take i xs) old mid → AddsValues (get_or xs i d ∷ []) mid new → AddsValues (take (i + 1) xs) old new
AddsValues-next xs i d old mid new below (us, some, so_far) (vs, more, grown) = (
  us ++ vs,
  subst (λ (l : List Setting). AreValues l (us ++ vs)) (sym (take_more xs i d below))
      (AreValues-append (take i xs) (get_or xs i d ∷ []) us vs some more),
  grown ∙ (ap (λ l. l ++ vs) so_far ∙ append_assoc old us vs),
)

pub AddsValues-all : (xs : List Setting) (i : ℕ) (old new : List Given) → length xs ≤ i → AddsValues (take i xs) old new
    → AddsValues xs old new
AddsValues-all xs i old new long so_far = subst (λ (l : List Setting). AddsValues l old new) (take_all i xs long) so_far

-- the refspecs among some settings and then others are those of the ones and then of the others
AreValues-split : (xs ys : List Setting) (all : List Given) → AreValues (xs ++ ys) all → (us : List Given)
    × (vs : List Given) × AreValues xs us × AreValues ys vs × (all ≡ us ++ vs)
AreValues-split [] ys all are = ([], all, refl, are, refl)
AreValues-split (x ∷ xs) ys all (inl (text, more, is, those, same)) =
    let (us, vs, front, back, both) = AreValues-split xs ys more those in
    (text ∷ us, vs, inl (text, us, is, front, refl), back, same ∙ ap (λ l. text ∷ l) both)
AreValues-split (x ∷ xs) ys all (inr (other, those)) =
    let (us, vs, front, back, both) = AreValues-split xs ys all those in
    (us, vs, inr (other, front), back, both)

pub AddsValues-split : (xs ys : List Setting) (old new : List Given) → AddsValues (xs ++ ys) old new
    → (mid : List Given) × AddsValues xs old mid × AddsValues ys mid new
AddsValues-split xs ys old new (values, are, grown) =
    let (us, vs, front, back, both) = AreValues-split xs ys values are in
    (old ++ us, (us, front, refl), (vs, back, grown ∙ (ap (λ l. old ++ l) both ∙ sym (append_assoc old us vs))))
