-- Which bytes of a refused text are wrong, by the first reason to refuse its parts.
use Rattle.gix_refspec_text.proofs.Common.{[], arith, ◌≡◌, inl, inr, ℕ, List, ◌∷◌, ◌++◌, Option, None, Some, unwrap_or}
use Rattle.gix_refspec_text.proofs.Common.{ap, ◌∙◌, ◌+◌, ◌≤◌, length, length-append, length-map, same_Some, letter_for}
use Rattle.gix_refspec_text.proofs.Common.{with_letters, Operation, Mode, Normal, Forced, Negative, Lacks, star, colon}
use Rattle.gix_refspec_text.proofs.Common.{IsSigned, Refusal, PatternUnsupported, ReferenceName, PatternUnbalanced}
use Rattle.gix_refspec_text.proofs.Common.{AreParts, NegativeObjectHash, NegativeWithDestination, IsBadSourceFor}
use Rattle.gix_refspec_text.proofs.Common.{IsOneStarred, IsFirstReason, HasParts, Reading, Reads, destination_of}
use Rattle.gix_refspec_text.proofs.Common.{mode_of, refl, sym, subst, HasBadSource, HasStar, IfSome, IsSameReason}
use Rattle.gix_refspec_text.proofs.Common.{MatchOption, Never}
use Rattle.gix_refspec_text.proofs.lemmas.parsing.PartsLemmas.{parts_once}
use Rattle.gix_refspec_text.proofs.lemmas.parsing.ReadsLemmas.{refused}
use Rattle.gix_refspec_text.proofs.lemmas.parsing.RefusalLemmas.{Agree-first}
use Rattle.gix_refspec_text.proofs.lemmas.{texts.TextLemmas.Lacks-ContainsText, lists.LacksLemmas.first_once}
use Rattle.gix_refspec_text.specs.declared.parsing.Side.{Side}
use Rattle.gix_refspec_text.specs.declared.parsing.Side.TheVariants.{Source, Destination}
use Rattle.gix_refspec_text.specs.declared.parsing.reading.Parts.{Parts}
use Rattle.gix_refspec_text.specs.declared.{parsing.Span.Span}
use Rattle.gix_refspec_text.specs.Specs.Span.{AreFirstWrong, AreWrong, Concerns, HasFirstStar, HasNoSpan, HasSecondStar}
use Rattle.gix_refspec_text.specs.Specs.Span.{IsFirstWrongWord, IsOnlySpan, IsSide, IsSpan, index_of_side, sign_length}
use Rattle.gix_refspec_text.specs.Private.Spans.{HasNoWordIn}

no_unbalanced_source : (op : Operation) (d : Option (List ℕ)) (s : List ℕ) → IsBadSourceFor op d s PatternUnbalanced → ⊥
no_unbalanced_source op d s bad = grind arith

-- of unbalanced sides exactly one has a star
one_starred : (op : Operation) (m : Mode) (s : List ℕ) (d : Option (List ℕ)) → IsFirstReason op m s d PatternUnbalanced
    → IsOneStarred s (unwrap_or d [])
one_starred op m s d first = elim first [
  | inl h ↦ let same = h.refusal in absurd (cc)
  | inr (n1, inl h) ↦ let same = h.refusal in absurd (cc)
  | inr (n1, inr (n2, inl h)) ↦ let same = h.refusal in absurd (cc)
  | inr (n1, inr (n2, inr (n3, inl h))) ↦ absurd (no_unbalanced_source op d s h.refusal)
  | inr (n1, inr (n2, inr (n3, inr (n4, inl h)))) ↦ absurd (elim h.refusal [ inl bad ↦ bad | inr bad ↦ bad ])
  | inr (n1, inr (n2, inr (n3, inr (n4, inr (n5, inl h))))) ↦ h.one
  | inr (n1, inr (n2, inr (n3, inr (n4, inr (n5, inr (n6, inl h)))))) ↦ let same = h.refusal in absurd (cc)
  | inr (n1, inr (n2, inr (n3, inr (n4, inr (n5, inr (n6, inr (n7, h))))))) ↦ let same = h.refusal in absurd (cc)
]

-- if both sides lack a star, they aren't unbalanced
pub balanced : (op : Operation) (m : Mode) (s : List ℕ) (d : Option (List ℕ)) → IsFirstReason op m s d PatternUnbalanced
    → Lacks star s → Lacks star (unwrap_or d []) → ⊥
balanced op m s d first none_s none_d = elim (one_starred op m s d first) [
  | inl left ↦ Lacks-ContainsText star s none_s left.0
  | inr right ↦ Lacks-ContainsText star (unwrap_or d []) none_d right.1
]

-- the wrong bytes lie in their side, and the side in the text
star_inside : (x before after : List ℕ) → x ≡ before ++ (star ∷ after) → length before + 1 ≤ length x
star_inside x before after here = omega (arith, ap length here ∙ length-append before (star ∷ after))

pub wrong_inside : (e : Refusal) (x : List ℕ) (i n : ℕ) → AreWrong e x i n → i + n ≤ length x
wrong_inside (ReferenceName f) x i n wrong =
    let w = wrong.has in
    let whole : length (with_letters x) ≡ length w.before + length (w.word ++ w.after) =
    ap length w.here ∙ length-append w.before (w.word ++ w.after) in
    omega (arith, whole, length-append w.word w.after, w.index, w.size, length-map x letter_for)
wrong_inside (PatternUnsupported p) x i n (found, size) =
    let rest = found.between ++ (star ∷ found.after) in
    let whole : length x ≡ length found.before + length (star ∷ rest) =
    ap length found.here ∙ length-append found.before (star ∷ rest) in
    omega (arith, whole, length-append found.between (star ∷ found.after), found.index, size)
wrong_inside PatternUnbalanced x i n (found, size) =
    omega (arith, star_inside x found.before found.after found.here, found.index, size)
wrong_inside NegativeWithDestination x i n (some, start, size) = omega (arith, start, size)
wrong_inside NegativeObjectHash x i n (start, size) = omega (arith, start, size)
wrong_inside e x i n wrong = absurd wrong

signed_length : (m : Mode) (text rest : List ℕ) → IsSigned m text rest → length text ≡ sign_length m + length rest
signed_length Normal text rest signed = omega (arith, ap length signed.0)
signed_length Forced text rest signed = omega (arith, ap length signed)
signed_length Negative text rest signed = omega (arith, ap length signed)

pub side_inside : (m : Mode) (s : List ℕ) (d : Option (List ℕ)) (text : List ℕ) (side : Side) (x : List ℕ)
    → AreParts m s d text
    → IsSide s d side x → index_of_side m s side + length x ≤ length text
side_inside m s None text Source x parts is = omega (arith, signed_length m text s parts.signed, ap length is)
side_inside m s (Some t) text Source x parts is =
    omega (arith, signed_length m text _ parts.signed, length-append s (colon ∷ t), ap length is)
side_inside m s None text Destination x parts is = let same = is in absurd (cc)
side_inside m s (Some t) text Destination x parts is =
    omega (arith, signed_length m text _ parts.signed, length-append s (colon ∷ t), ap length (same_Some t x is))

-- a text has wrong bytes exactly if its parts have them
pub no_span : (p : Parts) (text : List ℕ) → HasParts text p → HasNoWordIn p → (span : Span)
    → ¬ (IsSpan p.operation text span)
no_span p text parts none span is =
    let same =
    parts_once is.mode (mode_of p.mode) is.source p.source.now is.destination (destination_of p) text is.parts parts in
    let wrong = is.wrong in
    none span.side is.word is.index span.len (rw (same.mode, same.source, same.destination) at wrong)

pub accepted_right : (op : Operation) (text : List ℕ) (r : Reading) → Reads op text r → (span : Span)
    → ¬ (IsSpan op text span)
accepted_right op text r reads span is =
    (refused op is.mode is.source is.destination text is.wrong.refusal is.parts is.wrong.first).unread r reads

-- a text has at most one span of wrong bytes

one_first : (x : List ℕ) (i n j m : ℕ) → IsFirstWrongWord x i n → IsFirstWrongWord x j m → (i ≡ j) × (n ≡ m)
one_first x i n j m a b = elim (a.first j m b.has) [
  | inl less ↦ elim (b.first i n a.has) [
    | inl more ↦ absurd (omega (arith, less, more))
    | inr same ↦
        absurd (omega (arith, less, same.0))
  ]
  | inr same ↦ elim (b.first i n a.has) [
    | inl more ↦ absurd (omega (arith, same.0, more))
    | inr back ↦
        (same.0, omega (arith, same.1, back.1))
  ]
]

star_of_first : (x : List ℕ) (i : ℕ) → HasFirstStar x i → HasStar x
star_of_first x i found = record { before = found.before; after = found.after; here = found.here }

one_star : (x : List ℕ) (i j : ℕ) → HasFirstStar x i → HasFirstStar x j → i ≡ j
one_star x i j a b =
    let both = first_once star a.before b.before a.after b.after a.first b.first (sym a.here ∙ b.here) in
    a.index ∙ (ap length both.0 ∙ sym b.index)

one_second : (x : List ℕ) (i j : ℕ) → HasSecondStar x i → HasSecondStar x j → i ≡ j
one_second x i j a b =
    let outer =
    first_once star a.before b.before (a.between ++ (star ∷ a.after)) (b.between ++ (star ∷ b.after)) a.first b.first
    (sym a.here ∙ b.here) in
    let inner = first_once star a.between b.between a.after b.after a.second b.second outer.1 in
    omega (arith, a.index, b.index, ap length outer.0, ap length inner.0)

-- in one side, the bytes that are wrong by one reason are the same
one_range : (e f : Refusal) (x : List ℕ) (i n j m : ℕ) → IsSameReason e f → AreWrong e x i n → AreWrong f x j m
    → (i ≡ j) × (n ≡ m)
one_range e f x i n j m (inr same) w v =
    let one = subst (λ g. AreWrong g x i n) same.2 w in
    one_first (with_letters x) i n j m one (subst (λ g. AreWrong g x j m) same.3 v)
one_range (ReferenceName a) f x i n j m (inl same) w v =
    one_first (with_letters x) i n j m w (subst (λ g. AreWrong g x j m) (sym same) v)
one_range (PatternUnsupported p) f x i n j m (inl same) w v =
    let other = subst (λ g. AreWrong g x j m) (sym same) v in (one_second x i j w.0 other.0, w.1 ∙ sym other.1)
one_range PatternUnbalanced f x i n j m (inl same) w v =
    let other = subst (λ g. AreWrong g x j m) (sym same) v in (one_star x i j w.0 other.0, w.1 ∙ sym other.1)
one_range NegativeWithDestination f x i n j m (inl same) w v =
    let other = subst (λ g. AreWrong g x j m) (sym same) v in (w.1 ∙ sym other.1, w.2 ∙ sym other.2)
one_range NegativeObjectHash f x i n j m (inl same) w v =
    let other = subst (λ g. AreWrong g x j m) (sym same) v in (w.0 ∙ sym other.0, w.1 ∙ sym other.1)
one_range e f x i n j m (inl same) w v = absurd w

-- not both sides are wrong
two_sides : (op : Operation) (m : Mode) (s t : List ℕ) (e f : Refusal) (i n j k : ℕ) → IsFirstReason op m s (Some t) e
    → IsSameReason e f
    → Concerns op s (Some t) e Source → Concerns op s (Some t) f Destination → AreWrong e s i n → AreWrong f t j k → ⊥
two_sides op m s t e f i n j k first (inr same) bad none w v =
    let never : Never (HasBadSource op s (Some t)) = subst (λ g. Concerns op s (Some t) g Destination) same.3 none in
    never _ (subst (λ g. Concerns op s (Some t) g Source) same.2 bad)
two_sides op m s t (ReferenceName a) f i n j k first (inl same) bad none w v =
    let never : Never (HasBadSource op s (Some t)) =
    subst (λ g. Concerns op s (Some t) g Destination) (sym same) none in never _ bad
two_sides op m s t (PatternUnsupported p) f i n j k first (inl same) bad none w v =
    let never : Never (HasBadSource op s (Some t)) =
    subst (λ g. Concerns op s (Some t) g Destination) (sym same) none in never _ bad
two_sides op m s t PatternUnbalanced f i n j k first (inl same) bad none w v =
    let other = subst (λ g. AreWrong g t j k) (sym same) v in
    elim (one_starred op m s (Some t) first) [
      | inl left ↦ Lacks-ContainsText star t left.1 (star_of_first t j other.0)
      | inr right ↦ Lacks-ContainsText star s right.0 (star_of_first s i w.0)
    ]
two_sides op m s t NegativeWithDestination f i n j k first (inl same) bad none w v = let side = bad in absurd (cc)
two_sides op m s t NegativeObjectHash f i n j k first (inl same) bad none w v =
    let side = subst (λ g. Concerns op s (Some t) g Destination) (sym same) none in absurd (cc)
two_sides op m s t e f i n j k first (inl same) bad none w v = w

-- wrong bytes of the same parts are the same
pub record SameBytes (side other : Side) (i n j m : ℕ) : Type 0 where
  pub side_is : side ≡ other
  pub index_is : i ≡ j
  pub size_is : n ≡ m

in_one : (e f : Refusal) (x y : List ℕ) (side : Side) (i n j m : ℕ) → x ≡ y → IsSameReason e f → AreWrong e x i n
    → AreWrong f y j m → SameBytes side side i n j m
in_one e f x y side i n j m word same w v =
    let range = one_range e f x i n j m same w (subst (λ z. AreWrong f z j m) (sym word) v) in
    record { side_is = refl; index_is = range.0; size_is = range.1 }

pub same_bytes : (op : Operation) (m : Mode) (s : List ℕ) (d : Option (List ℕ)) (a b : Side) (x y : List ℕ)
    (i n j k : ℕ)
    → AreFirstWrong op m s d a x i n → AreFirstWrong op m s d b y j k → SameBytes a b i n j k
same_bytes op m s d Source Source x y i n j k w v =
    in_one w.refusal v.refusal x y Source i n j k (w.word ∙ sym v.word)
    (Agree-first op m s d w.refusal v.refusal w.first v.first) w.wrong v.wrong
same_bytes op m s d Destination Destination x y i n j k w v =
    in_one w.refusal v.refusal x y Destination i n j k (same_Some x y (sym w.word ∙ v.word))
    (Agree-first op m s d w.refusal v.refusal w.first v.first) w.wrong v.wrong
same_bytes op m s None Source Destination x y i n j k w v = let is = v.word in absurd (cc)
same_bytes op m s (Some t) Source Destination x y i n j k w v =
    let same = Agree-first op m s (Some t) w.refusal v.refusal w.first v.first in
    let here = subst (λ z. AreWrong w.refusal z i n) w.word w.wrong in
    let there = subst (λ z. AreWrong v.refusal z j k) (sym (same_Some t y v.word)) v.wrong in
    absurd (two_sides op m s t w.refusal v.refusal i n j k w.first same w.concerned v.concerned here there)
same_bytes op m s None Destination Source x y i n j k w v = let is = w.word in absurd (cc)
same_bytes op m s (Some t) Destination Source x y i n j k w v =
    let same = Agree-first op m s (Some t) v.refusal w.refusal v.first w.first in
    let here = subst (λ z. AreWrong v.refusal z j k) v.word v.wrong in
    let there = subst (λ z. AreWrong w.refusal z i n) (sym (same_Some t x w.word)) w.wrong in
    absurd (two_sides op m s t v.refusal w.refusal j k i n v.first same v.concerned w.concerned here there)

span_is : (a b : Span) → a.side ≡ b.side → a.start ≡ b.start → a.len ≡ b.len → a ≡ b
span_is a b side start len =
    let to : Side → Span = λ (s : Side). record { side = s; start = a.start; len = a.len } in
    let from : ℕ → Span = λ (n : ℕ). record { side = b.side; start = n; len = a.len } in
    let long : ℕ → Span = λ (n : ℕ). record { side = b.side; start = b.start; len = n } in
    ap to side ∙ (ap from start ∙ ap long len)

one_span : (op : Operation) (text : List ℕ) (a b : Span) → IsSpan op text a → IsSpan op text b → a ≡ b
one_span op text a b one other =
    let same =
    parts_once one.mode other.mode one.source other.source one.destination other.destination text one.parts
    other.parts in
    let wrong = one.wrong in
    let moved = rw (same.mode, same.source, same.destination) at wrong in
    let bytes =
    same_bytes op other.mode other.source other.destination a.side b.side one.word other.word one.index a.len
    other.index b.len moved other.wrong in
    let begins : index_of_side one.mode one.source a.side ≡ index_of_side other.mode other.source b.side =
    rw (same.mode, same.source, bytes.side_is) refl in
    span_is a b bytes.side_is (omega (arith, one.start, other.start, begins, bytes.index_is)) bytes.size_is

pub only_span : (op : Operation) (text : List ℕ) (found : Option Span)
    → MatchOption found (HasNoSpan op text) (IsSpan op text)
    → IfSome found (IsOnlySpan op text)
only_span op text None told = tt
only_span op text (Some span) told = λ other is. one_span op text other span is told
