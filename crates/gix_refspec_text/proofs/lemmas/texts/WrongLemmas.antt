-- The first wrong word of a text, by the index at which one pass over its bytes finds a fault.
use Rattle.gix_refspec_text.proofs.Common.{[], arith, ◌≡◌, ◌≢◌, ◌⊎◌, inl, inr, ℕ, suc, List, ◌∷◌, ◌++◌, codes, refl}
use Rattle.gix_refspec_text.proofs.Common.{sym, ap, ◌∙◌, ◌+◌, ◌-◌, ◌<◌, ◌≤◌, length, take, drop, get_or, append_assoc}
use Rattle.gix_refspec_text.proofs.Common.{append-nil, length-append, cases_lt, cases_eq, take-append-drop}
use Rattle.gix_refspec_text.proofs.Common.{take-append-le, length-map, Error, Empty, EmptyComponent, StartsWithDot}
use Rattle.gix_refspec_text.proofs.Common.{LockSuffix, EndsWithDot, RepeatedDot, ReflogPortion, Asterisk, InvalidByte}
use Rattle.gix_refspec_text.proofs.Common.{EndsWith, slash, star, dot, brace, AddsFault, IsClean, LeavesFault}
use Rattle.gix_refspec_text.proofs.Common.{IsFoundAt, letter_for, with_letters, subst, length-take-le}
use Rattle.gix_refspec_text.proofs.lemmas.texts.{NameLemmas.{added_at, last_byte}, TextLemmas.split_at}
use Rattle.gix_refspec_text.specs.Specs.Span.{IsWrong, HasWrongWord, IsFirstWrongWord}
use Rattle.gix_refspec_text.specs.Private.Words.{word_begins, word_ends}
use Rattle.gix_refspec_text.proofs.lemmas.texts.LetterLemmas.{found_with_letters}
use Rattle.std.proofs.Math.Seq.{take-append_seam, get_or-append_seam}
use Rattle.std.proofs.lemmas.List.{get_or-append-add, get_or-take, length-take}

-- the byte of y at the index k adds the fault e
abbrev pub FoundByte : List ℕ → Error → ℕ → Type 0
FoundByte y e k = (k < length y) × AddsFault (slash ∷ take k y) (get_or y k 0) e

-- the word of a fault that the byte at the index k adds: m bytes from the index j on
abbrev pub WordOfByte : Error → ℕ → ℕ → ℕ → Type 0
WordOfByte EmptyComponent k j m = ((k ≡ 0) × (j ≡ 0) × (m ≡ 1)) ⊎ ((k ≡ j + 1) × (m ≡ 2))
WordOfByte StartsWithDot k j m = ((k ≡ 0) × (j ≡ 0) × (m ≡ 1)) ⊎ ((k ≡ j + 1) × (m ≡ 2))
WordOfByte LockSuffix k j m = (k ≡ j + 5) × (m ≡ 5)
WordOfByte RepeatedDot k j m = (k ≡ j + 1) × (m ≡ 2)
WordOfByte ReflogPortion k j m = (k ≡ j + 1) × (m ≡ 2)
WordOfByte Asterisk k j m = (k ≡ j) × (m ≡ 1)
WordOfByte (InvalidByte b) k j m = (k ≡ j) × (m ≡ 1)
WordOfByte _ k j m = ⊥

-- the word of a fault that the end of n bytes has
abbrev pub WordOfEnd : Error → ℕ → ℕ → ℕ → Type 0
WordOfEnd EmptyComponent n j m = (n ≡ j + 1) × (m ≡ 1)
WordOfEnd EndsWithDot n j m = (n ≡ j + 1) × (m ≡ 1)
WordOfEnd LockSuffix n j m = (n ≡ j + 5) × (m ≡ 5)
WordOfEnd _ n j m = ⊥

-- the byte of y at the index i adds no fault to any text
abbrev IsQuiet : List ℕ → ℕ → Type 0
IsQuiet y i = (z : List ℕ) (e : Error) → ¬ (AddsFault z (get_or y i 0) e)

-- the word of m bytes at the index j has a fault that the byte at k adds, or that the end has; and the bytes between
-- its
-- first one and that index or end are quiet
abbrev ByByte : List ℕ → ℕ → ℕ → Type 0
ByByte y j m = (e : Error) × (k : ℕ) × FoundByte y e k × WordOfByte e k j m × ((i : ℕ) → j < i → i < k → IsQuiet y i)

abbrev ByEnd : List ℕ → ℕ → ℕ → Type 0
ByEnd y j m =
    (e : Error) × LeavesFault (slash ∷ y) e × WordOfEnd e (length y) j m
    × ((i : ℕ) → j < i → i < length y → IsQuiet y i)

byte_found : (y p after : List ℕ) (b : ℕ) (e : Error) → y ≡ p ++ (b ∷ after) → AddsFault (slash ∷ p) b e
    → FoundByte y e (length p)
byte_found y p after b e here adds =
    let before : take (length p) y ≡ p = ap (take (length p)) here ∙ take-append_seam p (b ∷ after) in
    let at : get_or y (length p) 0 ≡ b = ap (λ z. get_or z (length p) 0) here ∙ get_or-append_seam p b after 0 in
    (omega (arith, ap length here ∙ length-append p (b ∷ after)), rw (before, at) adds)

single : (y before w after : List ℕ) (b : ℕ) (e : Error) → y ≡ before ++ (w ++ after) → w ≡ b ∷ []
    → AddsFault (slash ∷ before) b e
    → WordOfByte e (length before) (length before) 1 → ByByte y (length before) (length w)
single y before w after b e here is adds word =
    let found = byte_found y before after b e (here ∙ ap (λ z. before ++ (z ++ after)) is) adds in
    (e, length before, found, rw is word, λ i above below. absurd (omega arith))

pair : (y before w after : List ℕ) (a b : ℕ) (e : Error) → y ≡ before ++ (w ++ after) → w ≡ a ∷ b ∷ []
    → AddsFault (slash ∷ (before ++ (a ∷ []))) b e → WordOfByte e (length before + 1) (length before) 2
    → ByByte y (length before) (length w)
pair y before w after a b e here is adds word =
    let p = before ++ (a ∷ []) in
    let there : y ≡ p ++ (b ∷ after) =
    here ∙ ap (λ z. before ++ (z ++ after)) is ∙ sym (append_assoc before (a ∷ []) (b ∷ after)) in
    let size : length p ≡ length before + 1 = length-append before (a ∷ []) in (
      e,
      length p,
      byte_found y p after b e there adds,
      rw (size, is) word,
      λ i above below. absurd (omega (arith, size)),
    )

ended : (y before w : List ℕ) → y ≡ before ++ (w ++ []) → EndsWith w (slash ∷ y) × (length y ≡ length before + length w)
ended y before w here =
    let whole : y ≡ before ++ w = here ∙ ap (λ z. before ++ z) (append-nil w) in
    (record { before = slash ∷ before; here = ap (λ z. slash ∷ z) whole }, ap length whole ∙ length-append before w)

-- `l`, `o`, `c` and `k` are quiet
letter_quiet : (b : ℕ) → (b ≡ 108) ⊎ ((b ≡ 111) ⊎ ((b ≡ 99) ⊎ (b ≡ 107))) → (z : List ℕ) (e : Error)
    → ¬ (AddsFault z b e)
letter_quiet b one z e adds = grind arith

lock_quiet : (y before after : List ℕ) → y ≡ before ++ (codes ".lock" ++ after) → (i : ℕ) → length before < i
    → i < length before + 5 → IsQuiet y i
lock_quiet y before after here i above below =
    let at =
    λ (t : ℕ). ap (λ z. get_or z (length before + t) 0) here ∙ get_or-append-add before (codes ".lock" ++ after) t 0 in
    let letter : (get_or y i 0 ≡ 108) ⊎ ((get_or y i 0 ≡ 111) ⊎ ((get_or y i 0 ≡ 99) ⊎ (get_or y i 0 ≡ 107))) =
    elim (cases_eq i (length before + 1)) [
      | inl one ↦ inl (ap (λ n. get_or y n 0) one ∙ at 1)
      | inr more ↦ elim (cases_eq i (length before + 2)) [
        | inl two ↦ inr (inl (ap (λ n. get_or y n 0) two ∙ at 2))
        | inr more_2 ↦ elim (cases_eq i (length before + 3)) [
          | inl three ↦ inr (inr (inl (ap (λ n. get_or y n 0) three ∙ at 3)))
          | inr more_3 ↦ let four : i ≡ length before + 4 =
              omega arith in inr (inr (inr (ap (λ n. get_or y n 0) four ∙ at 4)))
        ]
      ]
    ] in
    letter_quiet (get_or y i 0) letter

-- each wrong word is found by a byte or by the end
word_found : (y before w after : List ℕ) (e : Error) → y ≡ before ++ (w ++ after) → IsWrong e before w after
    → ByByte y (length before) (length w) ⊎ ByEnd y (length before) (length w)
word_found y before w after Empty here wrong = absurd wrong
word_found y before w after EmptyComponent here (inl is) =
    inl (pair y before w after slash slash EmptyComponent here is (
      refl,
      record {
        before = slash ∷ before;
        here = refl;
      },
    ) (inr (refl, refl)))
word_found y before w after EmptyComponent here (inr (is, inl first)) =
    let adds : AddsFault (slash ∷ before) slash EmptyComponent = rw first (refl, record { before = []; here = refl }) in
    inl (single y before w after slash EmptyComponent here is adds (inl (ap length first, ap length first, refl)))
word_found y before w after EmptyComponent here (inr (is, inr last)) =
    let ends = ended y before w (rw last at here) in
    inr (
      EmptyComponent,
      subst (λ v. EndsWith v (slash ∷ y)) is ends.0,
      (ends.1 ∙ ap (λ v. length before + length v) is, ap length is),
      λ i above below. absurd (omega (arith, ends.1, ap length is)),
    )
word_found y before w after StartsWithDot here (inl is) =
    inl (pair y before w after slash dot StartsWithDot here is (
      refl,
      record {
        before = slash ∷ before;
        here = refl;
      },
    ) (inr (refl, refl)))
word_found y before w after StartsWithDot here (inr (is, first)) =
    let adds : AddsFault (slash ∷ before) dot StartsWithDot = rw first (refl, record { before = []; here = refl }) in
    inl (single y before w after dot StartsWithDot here is adds (inl (ap length first, ap length first, refl)))
word_found y before w after LockSuffix here (is, inl last) =
    let ends = ended y before w (rw last at here) in
    let lock : y ≡ before ++ (codes ".lock" ++ after) = here ∙ ap (λ v. before ++ (v ++ after)) is in
    inr (
      LockSuffix,
      subst (λ v. EndsWith v (slash ∷ y)) is ends.0,
      (ends.1 ∙ ap (λ v. length before + length v) is, ap length is),
      λ i above below. lock_quiet y before after lock i above (omega (arith, ends.1, ap length is)),
    )
word_found y before w after LockSuffix here (is, inr more) =
    let lock : y ≡ before ++ (codes ".lock" ++ after) = here ∙ ap (λ v. before ++ (v ++ after)) is in
    let p = before ++ codes ".lock" in
    let there : y ≡ p ++ (slash ∷ more.after) =
    lock ∙ ap (λ z. before ++ (codes ".lock" ++ z)) more.here
    ∙ sym (append_assoc before (codes ".lock") (slash ∷ more.after)) in
    let size : length p ≡ length before + 5 = length-append before (codes ".lock") in
    let adds : AddsFault (slash ∷ p) slash LockSuffix = (refl, record { before = slash ∷ before; here = refl }) in
    inl (
      LockSuffix,
      length p,
      byte_found y p more.after slash LockSuffix there adds,
      (size, ap length is),
      λ i above below. lock_quiet y before after lock i above (omega (arith, size)),
    )
word_found y before w after EndsWithDot here (is, last) =
    let ends = ended y before w (rw last at here) in
    inr (
      EndsWithDot,
      subst (λ v. EndsWith v (slash ∷ y)) is ends.0,
      (ends.1 ∙ ap (λ v. length before + length v) is, ap length is),
      λ i above below. absurd (omega (arith, ends.1, ap length is)),
    )
word_found y before w after RepeatedDot here is =
    inl (pair y before w after dot dot RepeatedDot here is (
      refl,
      record {
        before = slash ∷ before;
        here = refl;
      },
    ) (refl, refl))
word_found y before w after ReflogPortion here is =
    inl (pair y before w after 64 brace ReflogPortion here is (
      refl,
      record {
        before = slash ∷ before;
        here = refl;
      },
    ) (refl, refl))
word_found y before w after Asterisk here is = inl (single y before w after star Asterisk here is refl (refl, refl))
word_found y before w after (InvalidByte b) here is =
    inl (single y before w after b (InvalidByte b) here is.0 (refl, is.1) (refl, refl))

found : (y : List ℕ) (j m : ℕ) → HasWrongWord y j m → ByByte y j m ⊎ ByEnd y j m
found y j m w = rw (w.index, w.size) at (word_found y w.before w.word w.after w.fault w.here w.wrong)

-- a byte adds only one fault, and an end has only one
dot_or_slash : (z : List ℕ) → EndsWith (codes "/") z → EndsWith (codes ".") z → ⊥
dot_or_slash z by_slash by_dot = let same = last_byte z slash dot by_slash by_dot in omega (arith, same)

lock_last : (z : List ℕ) (b : ℕ) → b ≢ 107 → EndsWith (codes ".lock") z → EndsWith (b ∷ []) z → ⊥
lock_last z b other lock ends =
    other (sym (last_byte z 107 b (record {
      before = lock.before ++ codes ".loc";
      here = lock.here ∙ sym (append_assoc lock.before (codes ".loc") (107 ∷ []));
    }) ends))

slash_or_lock : (z : List ℕ) → EndsWith (codes "/") z → EndsWith (codes ".lock") z → ⊥
slash_or_lock z by_slash lock = lock_last z slash (omega arith) lock by_slash

dot_or_lock : (z : List ℕ) → EndsWith (codes ".") z → EndsWith (codes ".lock") z → ⊥
dot_or_lock z by_dot lock = lock_last z dot (omega arith) lock by_dot

one_fault : (z : List ℕ) (b : ℕ) (e f : Error) → AddsFault z b e → AddsFault z b f → e ≡ f
one_fault z b EmptyComponent LockSuffix one other = absurd (slash_or_lock z one.1 other.1)
one_fault z b EmptyComponent f one other = grind arith
one_fault z b StartsWithDot RepeatedDot one other = absurd (dot_or_slash z one.1 other.1)
one_fault z b StartsWithDot f one other = grind arith
one_fault z b LockSuffix EmptyComponent one other = absurd (slash_or_lock z other.1 one.1)
one_fault z b LockSuffix f one other = grind arith
one_fault z b RepeatedDot StartsWithDot one other = absurd (dot_or_slash z other.1 one.1)
one_fault z b RepeatedDot f one other = grind arith
one_fault z b ReflogPortion f one other = grind arith
one_fault z b Asterisk f one other = grind arith
one_fault z b (InvalidByte c) f one other = grind arith
one_fault z b e f one other = absurd one

one_end : (z : List ℕ) (e f : Error) → LeavesFault z e → LeavesFault z f → e ≡ f
one_end z EmptyComponent EmptyComponent one other = refl
one_end z EmptyComponent LockSuffix one other = absurd (slash_or_lock z one other)
one_end z EmptyComponent EndsWithDot one other = absurd (dot_or_slash z one other)
one_end z LockSuffix EmptyComponent one other = absurd (slash_or_lock z other one)
one_end z LockSuffix LockSuffix one other = refl
one_end z LockSuffix EndsWithDot one other = absurd (dot_or_lock z other one)
one_end z EndsWithDot EmptyComponent one other = absurd (dot_or_slash z other one)
one_end z EndsWithDot LockSuffix one other = absurd (dot_or_lock z one other)
one_end z EndsWithDot EndsWithDot one other = refl
one_end z e f one other = absurd (grind arith)

-- no byte of the bytes up to an index adds a fault
none_before : (y : List ℕ) (e : Error) (i k : ℕ) → IsClean (slash ∷ take i y) → k < i → FoundByte y e k → ⊥
none_before y e i k clean before at =
    let x = take i y in
    let below : k < length x = omega (arith, length-take i y) in
    let same : take k y ≡ take k x =
    ap (take k) (sym (take-append-drop i y)) ∙ take-append-le k x (drop i y) (omega arith) in
    clean e (added_at x k e below (rw (get_or-take i y k 0 before, ← same) at.1))

same_word_of_byte : (e : Error) (k i n j m : ℕ) → WordOfByte e k i n → WordOfByte e k j m → (i ≡ j) × (n ≡ m)
same_word_of_byte e k i n j m one other = grind arith

same_word_of_end : (e : Error) (k i n j m : ℕ) → WordOfEnd e k i n → WordOfEnd e k j m → (i ≡ j) × (n ≡ m)
same_word_of_end e k i n j m one other = grind arith

-- a word begins at most at the index at which it is found, and then has one byte
starts_before : (e : Error) (k j m : ℕ) → WordOfByte e k j m → j + m ≤ k + 1
starts_before e k j m word = grind arith

sized : (e : Error) (k j m : ℕ) → WordOfByte e k j m → 1 ≤ m
sized e k j m word = grind arith

sized_end : (e : Error) (k j m : ℕ) → WordOfEnd e k j m → 1 ≤ m
sized_end e k j m word = grind arith

-- the first word is at or before each other
abbrev ComesBefore : ℕ → ℕ → ℕ → ℕ → Type 0
ComesBefore i n j m = (i < j) ⊎ ((i ≡ j) × (n ≤ m))

before_later : (y : List ℕ) (e : Error) (k i n j m end : ℕ) → FoundByte y e k → WordOfByte e k i n → 1 ≤ m → k < end
    → ((t : ℕ) → j < t → t < end → IsQuiet y t) → ComesBefore i n j m
before_later y e k i n j m end at word some below quiet = elim (cases_lt j k) [
  | inl inside ↦ absurd (quiet k inside below (slash ∷ take k y) e at.1)
  | inr past ↦ let size = starts_before e k i n word in elim (cases_lt i j) [
    | inl less ↦ inl less
    | inr more ↦
        inr (omega (arith, size, sized e k i n word), omega (arith, size))
  ]
]

by_byte : (y : List ℕ) (e : Error) (k i n j m : ℕ) → IsClean (slash ∷ take k y) → FoundByte y e k → WordOfByte e k i n
    → ByByte y j m ⊎ ByEnd y j m → ComesBefore i n j m
by_byte y e k i n j m clean at word (inl (f, h, other, of_other, quiet)) = elim (cases_lt h k) [
  | inl less ↦ absurd (none_before y f k h clean less other)
  | inr more ↦ elim (cases_eq h k) [
    | inl same ↦
        let fault = one_fault _ _ e f at.1 (subst (λ t. AddsFault (slash ∷ take t y) (get_or y t 0) f) same other.1) in
        let both =
        same_word_of_byte f k i n j m (subst (λ g. WordOfByte g k i n) fault word)
        (subst (λ t. WordOfByte f t j m) same of_other) in
        inr (both.0, omega (arith, both.1))
    | inr differ ↦ before_later y e k i n j m h at word (sized f h j m of_other) (omega arith) quiet
  ]
]
by_byte y e k i n j m clean at word (inr (f, left, of_other, quiet)) =
    before_later y e k i n j m (length y) at word (sized_end f (length y) j m of_other) at.0 quiet

by_end : (y : List ℕ) (e : Error) (i n j m : ℕ) → IsClean (slash ∷ y) → LeavesFault (slash ∷ y) e
    → WordOfEnd e (length y) i n
    → ByByte y j m ⊎ ByEnd y j m → ComesBefore i n j m
by_end y e i n j m clean left word (inl (f, h, other, of_other, quiet)) =
    absurd (clean f (added_at y h f other.0 other.1))
by_end y e i n j m clean left word (inr (f, other, of_other, quiet)) =
    let fault = one_end (slash ∷ y) e f left other in
    let both = same_word_of_end f (length y) i n j m (subst (λ g. WordOfEnd g (length y) i n) fault word) of_other in
    inr (both.0, omega (arith, both.1))

-- what follows the slash before a text, if it is no longer than the text
ends_after : (x q w : List ℕ) → slash ∷ x ≡ q ++ w → length w ≤ length x → (p : List ℕ) × (x ≡ p ++ w)
ends_after x [] w here short = absurd (omega (arith, ap length here))
ends_after x (c ∷ q) w here short = (q, cc)

wrong_byte : (y : List ℕ) (k b : ℕ) (e : Error) → k < length y → get_or y k 0 ≡ b
    → IsWrong e (take k y) (b ∷ []) (drop (suc k) y) → HasWrongWord y k 1
wrong_byte y k b e below byte wrong =
    record {
      before = take k y;
      word = b ∷ [];
      after = drop (suc k) y;
      here = split_at y k b below byte;
      index = length-take-le k y (omega arith);
      size = refl;
      fault = e;
      wrong = wrong;
    }

wrong_pair : (y : List ℕ) (k j a b : ℕ) (e : Error) → k < length y → k ≡ j + 1 → EndsWith (a ∷ []) (slash ∷ take k y)
    → get_or y k 0 ≡ b
    → ((before after : List ℕ) → IsWrong e before (a ∷ b ∷ []) after) → HasWrongWord y j 2
wrong_pair y k j a b e below is ends byte wrong =
    let x = take k y in
    let rest = drop (suc k) y in
    let long : length x ≡ k = length-take-le k y (omega arith) in
    let (p, front) = ends_after x ends.before (a ∷ []) ends.here (omega (arith, long)) in
    let here = split_at y k b below byte ∙ ap (λ z. z ++ (b ∷ rest)) front ∙ append_assoc p (a ∷ []) (b ∷ rest) in
    let index : length p ≡ j = omega (arith, ap length front ∙ length-append p (a ∷ []), long) in
    record {
      before = p;
      word = a ∷ b ∷ [];
      after = rest;
      here = here;
      index = index;
      size = refl;
      fault = e;
      wrong = wrong p rest;
    }

wrong_lock : (y : List ℕ) (k j : ℕ) → k < length y → k ≡ j + 5 → EndsWith (codes ".lock") (slash ∷ take k y)
    → get_or y k 0 ≡ slash → HasWrongWord y j 5
wrong_lock y k j below is ends byte =
    let x = take k y in
    let rest = drop (suc k) y in
    let long : length x ≡ k = length-take-le k y (omega arith) in
    let (p, front) = ends_after x ends.before (codes ".lock") ends.here (omega (arith, long)) in
    let here =
    split_at y k slash below byte ∙ ap (λ z. z ++ (slash ∷ rest)) front ∙ append_assoc p (codes ".lock")
    (slash ∷ rest) in
    let index : length p ≡ j = omega (arith, ap length front ∙ length-append p (codes ".lock"), long) in
    record {
      before = p;
      word = codes ".lock";
      after = slash ∷ rest;
      here = here;
      index = index;
      size = refl;
      fault = LockSuffix;
      wrong = (refl, inr (record { after = rest; here = refl }));
    }

wrong_end : (y w : List ℕ) (j : ℕ) (e : Error) → EndsWith w (slash ∷ y) → length y ≡ j + length w
    → ((before : List ℕ) → IsWrong e before w []) → HasWrongWord y j (length w)
wrong_end y w j e ends long wrong =
    let (p, front) = ends_after y ends.before w ends.here (omega (arith, long)) in
    let index : length p ≡ j = omega (arith, ap length front ∙ length-append p w, long) in
    record {
      before = p;
      word = w;
      after = [];
      here = front ∙ ap (λ z. p ++ z) (sym (append-nil w));
      index = index;
      size = refl;
      fault = e;
      wrong = wrong p;
    }

-- a fault that is found is that of a wrong word
wrong_by_byte : (y : List ℕ) (e : Error) (k j m : ℕ) → FoundByte y e k → WordOfByte e k j m → HasWrongWord y j m
wrong_by_byte y EmptyComponent k j m at (inl (first, start, size)) =
    rw (start ∙ sym first, size)
    (wrong_byte y k slash EmptyComponent at.0 at.1.0 (inr (refl, inl (ap (λ t. take t y) first))))
wrong_by_byte y EmptyComponent k j m at (inr (is, size)) =
    rw size (wrong_pair y k j slash slash EmptyComponent at.0 is at.1.1 at.1.0 (λ p r. inl refl))
wrong_by_byte y StartsWithDot k j m at (inl (first, start, size)) =
    rw (start ∙ sym first, size) (wrong_byte y k dot StartsWithDot at.0 at.1.0 (inr (refl, ap (λ t. take t y) first)))
wrong_by_byte y StartsWithDot k j m at (inr (is, size)) =
    rw size (wrong_pair y k j slash dot StartsWithDot at.0 is at.1.1 at.1.0 (λ p r. inl refl))
wrong_by_byte y LockSuffix k j m at (is, size) = rw size (wrong_lock y k j at.0 is at.1.1 at.1.0)
wrong_by_byte y RepeatedDot k j m at (is, size) =
    rw size (wrong_pair y k j dot dot RepeatedDot at.0 is at.1.1 at.1.0 (λ p r. refl))
wrong_by_byte y ReflogPortion k j m at (is, size) =
    rw size (wrong_pair y k j 64 brace ReflogPortion at.0 is at.1.1 at.1.0 (λ p r. refl))
wrong_by_byte y Asterisk k j m at (is, size) = rw (sym is, size) (wrong_byte y k star Asterisk at.0 at.1 refl)
wrong_by_byte y (InvalidByte b) k j m at (is, size) =
    rw (sym is, size) (wrong_byte y k b (InvalidByte b) at.0 at.1.0 (refl, at.1.1))
wrong_by_byte y e k j m at word = absurd word

wrong_by_end : (y : List ℕ) (e : Error) (j m : ℕ) → LeavesFault (slash ∷ y) e → WordOfEnd e (length y) j m
    → HasWrongWord y j m
wrong_by_end y EmptyComponent j m left (is, size) =
    rw size (wrong_end y (codes "/") j EmptyComponent left is (λ p. inr (refl, inr refl)))
wrong_by_end y EndsWithDot j m left (is, size) =
    rw size (wrong_end y (codes ".") j EndsWithDot left is (λ p. (refl, refl)))
wrong_by_end y LockSuffix j m left (is, size) =
    rw size (wrong_end y (codes ".lock") j LockSuffix left is (λ p. (refl, inl refl)))
wrong_by_end y e j m left word = absurd word

-- with letters for its stars, the first wrong word of x is that of the fault found at the index k
pub first_wrong : (x : List ℕ) (e : Error) (k i n : ℕ) → IsFoundAt x e k → (k < length x → WordOfByte e k i n)
    → (k ≡ length x → WordOfEnd e k i n) → IsFirstWrongWord (with_letters x) i n
first_wrong x e k i n at by_byte_word by_end_word =
    let y = with_letters x in
    let long : length y ≡ length x = length-map x letter_for in
    elim (found_with_letters x e k at) [
      | inl (clean, byte) ↦
          let word = by_byte_word (omega (arith, byte.0, long)) in
          record {
            has = wrong_by_byte y e k i n byte word;
            first = λ j m other. by_byte y e k i n j m clean byte word (found y j m other);
          }
      | inr (is, (clean, left)) ↦
          let word = subst (λ t. WordOfEnd e t i n) (is ∙ sym long) (by_end_word is) in
          record {
            has = wrong_by_end y e i n left word;
            first = λ j m other. by_end y e i n j m clean left word (found y j m other);
          }
    ]

room : (x q w : List ℕ) (b : ℕ) → b ≢ slash → slash ∷ x ≡ q ++ (b ∷ w) → 1 + length w ≤ length x
room x [] w b other here = let first : slash ≡ b = cc in absurd (other (sym first))
room x (c ∷ q) w b other here =
    let rest : x ≡ q ++ (b ∷ w) = cc in omega (arith, ap length rest ∙ length-append q (b ∷ w))

of_byte : (x : List ℕ) (e : Error) (k b : ℕ) → k < length x → AddsFault (slash ∷ take k x) b e
    → WordOfByte e k (word_begins e k) (word_ends e (length x) k - word_begins e k)
of_byte x EmptyComponent k b below adds = elim (cases_eq k 0) [
  | inl first ↦ inl (first, omega (arith, first), omega (arith, first))
  | inr later ↦ inr (omega (arith, later), omega (arith, later))
]
of_byte x StartsWithDot k b below adds = elim (cases_eq k 0) [
  | inl first ↦ inl (first, omega (arith, first), omega (arith, first))
  | inr later ↦ inr (omega (arith, later), omega (arith, later))
]
of_byte x LockSuffix k b below adds =
    let some : 5 ≤ length (take k x) = room (take k x) adds.1.before (codes "lock") dot (omega arith) adds.1.here in
    (omega (arith, some, length-take k x), omega (arith, some, length-take k x))
of_byte x RepeatedDot k b below adds =
    let some : 1 ≤ length (take k x) = room (take k x) adds.1.before [] dot (omega arith) adds.1.here in
    (omega (arith, some, length-take k x), omega (arith, some, length-take k x))
of_byte x ReflogPortion k b below adds =
    let some : 1 ≤ length (take k x) = room (take k x) adds.1.before [] 64 (omega arith) adds.1.here in
    (omega (arith, some, length-take k x), omega (arith, some, length-take k x))
of_byte x Asterisk k b below adds = (refl, omega arith)
of_byte x (InvalidByte c) k b below adds = (refl, omega arith)
of_byte x e k b below adds = absurd adds

of_end : (x : List ℕ) (e : Error) (k : ℕ) → 0 < length x → k ≡ length x → LeavesFault (slash ∷ x) e
    → WordOfEnd e k (word_begins e k) (word_ends e (length x) k - word_begins e k)
of_end x EmptyComponent k some is left = (omega arith, omega arith)
of_end x EndsWithDot k some is left = (omega arith, omega arith)
of_end x LockSuffix k some is left =
    let long : 5 ≤ length x = room x left.before (codes "lock") dot (omega arith) left.here in
    (omega (arith, long), omega (arith, long))
of_end x e k some is left = absurd left

-- the first wrong word of x is that of the fault which is found
pub word_of_fault : (x : List ℕ) (e : Error) (k : ℕ) → 0 < length x → IsFoundAt x e k
    → IsFirstWrongWord (with_letters x) (word_begins e k) (word_ends e (length x) k - word_begins e k)
word_of_fault x e k some at = elim at.here [
  | inl (below, other, adds) ↦ first_wrong x e k _ _ at (λ under. of_byte x e k _ below adds)
      (λ is. absurd (omega arith))
  | inr (is, left) ↦ first_wrong x e k _ _ at (λ under. absurd (omega arith)) (λ same. of_end x e k some is left)
]

-- a word ends where it begins, or later
pub word_fits : (e : Error) (n k : ℕ) → k ≤ n → word_begins e k ≤ word_ends e n k
word_fits e n k inside = grind arith

pub found_inside : (x : List ℕ) (e : Error) (k : ℕ) → IsFoundAt x e k → k ≤ length x
found_inside x e k at = elim at.here [ inl (below, other, adds) ↦ omega arith | inr (is, left) ↦ omega arith ]
