-- A text with letters in place of its stars has the faults that one pass over the text finds.
use Rattle.gix_refspec_text.proofs.Common.{[], ◌≡◌, ◌≢◌, ◌⊎◌, ℕ, List, ◌∷◌, ◌++◌, codes, length, take, drop, get_or}
use Rattle.gix_refspec_text.proofs.Common.{get_or-map, length-map, suc, ◌<◌, Option, Some, None, MatchOption, true}
use Rattle.gix_refspec_text.proofs.Common.{refl, sym, ap, ◌∙◌, subst, inl, inr, if◌then◌else◌, arith, append_assoc}
use Rattle.gix_refspec_text.proofs.Common.{Bool, zero, ◌-◌, ◌≤◌, false, ◌==◌, ◌+◌, eq-eqb, ne_eqb, map-append}
use Rattle.gix_refspec_text.proofs.Common.{count_by_more_no, Error, Asterisk, Lacks, EndsWith, slash, star, letter}
use Rattle.gix_refspec_text.proofs.Common.{HasFault, IsName, IsSplit, IsPattern, HasOneStar, ReplacesStar, AddsFault}
use Rattle.gix_refspec_text.proofs.Common.{IsClean, LeavesFault, Finds, letter_for, with_letters, IsFoundAt, IsScanned}
use Rattle.gix_refspec_text.proofs.Common.{IsCalm, AreCalm, count_by_more_yes, cond, zero-add, count_by, sum_by-append}
use Rattle.gix_refspec_text.proofs.Common.{HasSeveralStars, take_all, IsStarCount, one_if}
use Rattle.std.proofs.lemmas.List.{take-map}
use Rattle.gix_refspec_text.proofs.lemmas.lists.LacksLemmas.{lacks_or_first}
use Rattle.gix_refspec_text.proofs.lemmas.texts.TextLemmas.{split_at}
use Rattle.gix_refspec_text.proofs.lemmas.texts.NameLemmas.{one_more, IsClean-more, HasFault-added, answer_at_end}
use Rattle.gix_refspec_text.proofs.lemmas.texts.NameLemmas.{slash_adds, last_byte}

abbrev stars : List ℕ → ℕ
stars x = count_by (λ b. b == star) x

stars-cons : (b : ℕ) (x : List ℕ) → stars (b ∷ x) ≡ cond (b == star) 1 0 + stars x
stars-cons b x = sum_by-append (λ c. cond (c == star) 1 0) (b ∷ []) x
    ∙ ap (λ n. n + stars x) (zero-add (cond (b == star) 1 0))

stars-split : (x before after : List ℕ) → x ≡ before ++ (star ∷ after) → stars x ≡ stars before + (1 + stars after)
stars-split x before after here = ap stars here ∙ sum_by-append (λ c. cond (c == star) 1 0) before (star ∷ after)
    ∙ ap (λ n. stars before + n) (stars-cons star after)

no_stars : (x : List ℕ) → Lacks star x → stars x ≡ 0
no_stars [] lacks = refl
no_stars (b ∷ x) lacks = omega (
  arith,
  stars-cons b x ∙ ap (λ t. cond t 1 0 + stars x) (ne_eqb b star lacks.0),
  no_stars x lacks.1,
)

pub Lacks-count_by : (x : List ℕ) → count_by (λ b. b == star) x ≡ 0 → Lacks star x
Lacks-count_by x none =
    elim (lacks_or_first star x) [
      | inl lacks ↦ lacks
      | inr i ↦
          absurd (omega (arith, none, stars-split x i.before i.after i.here))
    ]

pub HasOneStar-count_by : (x : List ℕ) → count_by (λ b. b == star) x ≡ 1 → HasOneStar x
HasOneStar-count_by x one = elim (lacks_or_first star x) [
  | inl lacks ↦ absurd (omega (arith, one, no_stars x lacks))
  | inr i ↦ (
    i.before,
    i.after,
    record {
      starred = i.here;
      first = i.first;
      last =
          Lacks-count_by i.after (omega (arith, one, stars-split x i.before i.after i.here));
    },
  )
]

pub count_by-HasOneStar : (x : List ℕ) → HasOneStar x → count_by (λ b. b == star) x ≡ 1
count_by-HasOneStar x (before, after, split) =
    omega (arith, stars-split x before after split.starred, no_stars before split.first, no_stars after split.last)

pub second_star : (x : List ℕ) (i : ℕ) → i < length x → get_or x i 0 ≡ star → count_by (λ b. b == star) (take i x) ≡ 1
    → HasSeveralStars x
second_star x i below here one =
    let (before, after, split) = HasOneStar-count_by (take i x) one in
    let rest = star ∷ drop (suc i) x in
    record {
      before = before;
      between = after;
      after = drop (suc i) x;
      here = split_at x i star below here
          ∙ ap (λ y. y ++ rest) split.starred ∙ append_assoc before (star ∷ after) rest;
    }

letter_for-other : (b : ℕ) → b ≢ star → letter_for b ≡ b
letter_for-other b other = ap (λ t. if t then letter else b) (ne_eqb b star other)

same_word : (y w : List ℕ) → Lacks letter w → with_letters y ≡ w → y ≡ w
same_word (b ∷ y) (c ∷ w) lacks same = let rest : y ≡ w = same_word y w lacks.1 (cc) in grind arith
same_word y w lacks same = cc

end_before : (y p w : List ℕ) → Lacks letter w → with_letters y ≡ p ++ w → EndsWith w y
end_before y [] w lacks same = record { before = []; here = same_word y w lacks same }
end_before [] (c ∷ p) w lacks same = cc
end_before (b ∷ y) (c ∷ p) w lacks same =
    let end = end_before y p w lacks (cc) in
    record { before = b ∷ end.before; here = ap (λ z. b ∷ z) end.here }

-- y ends with each word without the letter and without a star that x ends with
abbrev EndsAs : List ℕ → List ℕ → Type 0
EndsAs x y = (w : List ℕ) → Lacks letter w × (with_letters w ≡ w) → EndsWith w x → EndsWith w y

ends_before : (y : List ℕ) → EndsAs (with_letters y) y
ends_before y w kept ends = end_before y ends.before w kept.0 ends.here

ends_with_letters : (y : List ℕ) → EndsAs y (with_letters y)
ends_with_letters y w kept ends = record {
  before = with_letters ends.before;
  here = ap with_letters ends.here
      ∙ map-append letter_for ends.before w ∙ ap (λ z. with_letters ends.before ++ z) kept.1;
}

AddsFault-as : (x y : List ℕ) (b : ℕ) → EndsAs x y → (e : Error) → AddsFault x b e → AddsFault y b e
AddsFault-as x y b ends h fault = grind arith

LeavesFault-as : (x y : List ℕ) → EndsAs x y → (e : Error) → LeavesFault x e → LeavesFault y e
LeavesFault-as x y ends h left = grind arith

-- the bytes up to an index stay scanned with one that adds no fault, which isn't a star, or with the first star
clean_more : (x : List ℕ) (i : ℕ) → i < length x
    → ((e : Error) → ¬ (AddsFault (with_letters (slash ∷ take i x)) (letter_for (get_or x i 0)) e))
    → IsClean (with_letters (slash ∷ take i x)) → IsClean (with_letters (slash ∷ take (i + 1) x))
clean_more x i below none clean =
    let y = slash ∷ take i x in
    subst IsClean (sym (ap with_letters (one_more x i below) ∙ map-append letter_for y (get_or x i 0 ∷ [])))
    (IsClean-more (with_letters y) (letter_for (get_or x i 0)) clean none)

pub scanned_other : (x : List ℕ) (i : ℕ) (s : Bool) → i < length x
    → ((e : Error) → ¬ (AddsFault (slash ∷ take i x) (get_or x i 0) e)) → IsScanned x i s → IsScanned x (i + 1) s
scanned_other x i s below none scanned =
    let y = slash ∷ take i x in (
      clean_more x i below
          (λ e fault. none e
          (AddsFault-as (with_letters y) y _ (ends_before y) e
          (rw (letter_for-other (get_or x i 0) (none Asterisk)) at fault))) scanned.0,
      count_by_more_no (λ d. d == star) x i 0 below (ne_eqb (get_or x i 0) star (none Asterisk)) ∙ scanned.1,
    )

pub scanned_star : (x : List ℕ) (i : ℕ) → i < length x → get_or x i 0 ≡ star → IsScanned x i false
    → IsScanned x (i + 1) true
scanned_star x i below same scanned = (
  clean_more x i below (λ e fault. let added = subst (λ b. AddsFault (with_letters (slash ∷ take i x)) (letter_for b) e)
      same fault in grind arith) scanned.0,
  count_by_more_yes (λ d. d == star) x i 0 below (eq-eqb (get_or x i 0) star same) ∙ ap (λ n. n + 1) scanned.1,
)

pub scanned_whole : (x : List ℕ) (s : Bool) → IsScanned x (length x) s → IsClean (with_letters (slash ∷ x))
    × IsStarCount x (one_if s)
scanned_whole x s scanned = subst (λ y. IsClean (with_letters (slash ∷ y)) × IsStarCount y (one_if s))
    (take_all (length x) x (omega arith)) scanned

some_letters : (x : List ℕ) → x ≢ [] → with_letters x ≢ []
some_letters [] some same = some refl
some_letters (b ∷ x) some same = cc

pub fault_with_letters : (x : List ℕ) (i : ℕ) (e : Error) → i < length x → get_or x i 0 ≢ star
    → AddsFault (slash ∷ take i x) (get_or x i 0) e → HasFault (with_letters x) e
fault_with_letters x i e below other fault =
    let b = get_or x i 0 in
    let y = slash ∷ take i x in
    let rest = with_letters (drop (suc i) x) in
    let here = ap (λ z. with_letters (slash ∷ z)) (split_at x i b below refl) ∙ map-append letter_for y
    (b ∷ drop (suc i) x) ∙ ap (λ c. with_letters y ++ (c ∷ rest)) (letter_for-other b other) in
    HasFault-added (with_letters x) e (some_letters x (λ empty. omega (arith, ap length empty)))
    (record {
      before = with_letters y;
      byte = b;
      after = rest;
      here = here;
      fault = AddsFault-as y (with_letters y) b
          (ends_with_letters y) e fault;
    })

finds_with_letters : (y : List ℕ) (fault : Option Error) → Finds fault (LeavesFault y)
    → Finds fault (LeavesFault (with_letters y))
finds_with_letters y None none = λ e left. none e (LeavesFault-as (with_letters y) y (ends_before y) e left)
finds_with_letters y (Some e) left = LeavesFault-as y (with_letters y) (ends_with_letters y) e left

pub answer_with_letters : (x : List ℕ) (fault : Option Error) → x ≢ [] → IsClean (with_letters (slash ∷ x))
    → Finds fault (LeavesFault (slash ∷ x)) → MatchOption fault (IsName (with_letters x)) (HasFault (with_letters x))
answer_with_letters x fault some clean left = answer_at_end (with_letters x) fault (some_letters x some) clean
    (finds_with_letters (slash ∷ x) fault left)

-- what is found in x with letters for its stars is found in the text with these letters
pub found_with_letters : (x : List ℕ) (e : Error) (k : ℕ) → IsFoundAt x e k
    → (IsClean (slash ∷ take k (with_letters x))
    × ((k < length (with_letters x)) × AddsFault (slash ∷ take k (with_letters x)) (get_or (with_letters x) k 0) e))
    ⊎ ((k ≡ length x) × (IsClean (slash ∷ with_letters x) × LeavesFault (slash ∷ with_letters x) e))
found_with_letters x e k at = elim at.here [
  | inl (below, other, adds) ↦
      let y = slash ∷ take k x in
      let taken = take-map letter_for k x in
      let byte : get_or (with_letters x) k 0 ≡ get_or x k 0 = get_or-map letter_for x k 0 0 below
      ∙ letter_for-other (get_or x k 0) other in
      let adds_too = AddsFault-as y (with_letters y) (get_or x k 0) (ends_with_letters y) e adds in
      inl (rw taken at.clean, (omega (arith, length-map x letter_for), rw (taken, byte) adds_too))
  | inr (is, left) ↦
      let whole : take k x ≡ x = take_all k x (omega arith) in
      inr (
        is,
        (
          subst (λ z. IsClean (slash ∷ with_letters z)) whole at.clean,
          LeavesFault-as (slash ∷ x) (with_letters (slash ∷ x)) (ends_with_letters (slash ∷ x)) e left,
        ),
      )
]

pub letters-Lacks : (x : List ℕ) → Lacks star x → with_letters x ≡ x
letters-Lacks [] lacks = refl
letters-Lacks (b ∷ x) lacks = ap (λ c. c ∷ with_letters x) (letter_for-other b lacks.0)
    ∙ ap (λ y. b ∷ y) (letters-Lacks x lacks.1)

pub replaces_one : (before after x : List ℕ) → IsSplit before after x → ReplacesStar x (with_letters x)
replaces_one before after x split = grind (arith, map-append, letters-Lacks)

pub pattern_with_letter : (x : List ℕ) → HasOneStar x → IsName (with_letters x) → IsPattern x
pattern_with_letter x (before, after, split) name =
    record { with_letter = with_letters x; replaces = replaces_one before after x split; name = name }

pub name_without_stars : (x : List ℕ) → Lacks star x → IsName (with_letters x) → IsName x
name_without_stars x lacks name = subst IsName (letters-Lacks x lacks) name

calm_adds_nothing : (y : List ℕ) (p b : ℕ) → EndsWith (p ∷ []) y → IsCalm p b → (e : Error) → ¬ (AddsFault y b e)
calm_adds_nothing y p b last (inl plain) = λ e fault. grind arith
calm_adds_nothing y p b last (inr quiet) = λ e fault.
    slash_adds y e (λ ends. quiet.1 (last_byte y p slash last ends))
    (λ ends. quiet.2
    (last_byte y p 107 last
    (record {
      before = ends.before ++ codes ".loc";
      here = ends.here
          ∙ sym (append_assoc ends.before (codes ".loc") (107 ∷ []));
    })))
    (subst (λ c. AddsFault y c e) quiet.0 fault)

pub calm_scanned : (m : ℕ) (x : List ℕ) (i b : ℕ) (s : Bool) → i + m ≡ b → 0 < i → b ≤ length x → AreCalm x i b
    → IsScanned x i s → IsScanned x b s
calm_scanned zero x i b s there some room calm scanned = let same : i ≡ b =
    omega arith in subst (λ j. IsScanned x j s) same scanned
calm_scanned (suc m) x i b s there some room calm scanned =
    let back : i - 1 + 1 ≡ i = omega (arith, some) in
    let last : EndsWith (get_or x (i - 1) 0 ∷ []) (slash ∷ take i x) =
    record { before = slash ∷ take (i - 1) x; here = rw back at (one_more x (i - 1) (omega arith)) } in
    let none = calm_adds_nothing (slash ∷ take i x) (get_or x (i - 1) 0) (get_or x i 0) last
    (calm i (omega arith) (omega arith)) in
    calm_scanned m x (i + 1) b s (omega arith) (omega arith) room (λ k from to. calm k (omega arith) to)
    (scanned_other x i s (omega arith) none scanned)
