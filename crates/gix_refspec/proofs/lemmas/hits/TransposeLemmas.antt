-- The two directions agree for readings that go both ways, and a test of the sides decides whether one does.
use Rattle.gix_refspec.proofs.Common.{Any as AnyAt, ◌≡◌, ◌⊎◌, inl, inr, ℕ, List, [], ◌∷◌, ◌++◌, codes, Option, None}
use Rattle.gix_refspec.proofs.Common.{Some, map, refl, ap, ◌∙◌, subst, AllByRecursion, RefSpecRef, Lacks, BeginsWith}
use Rattle.gix_refspec.proofs.Common.{star, HasStar, HasSeveralStars, HasOneStar, Reading, IsAccepted, IsPositive}
use Rattle.gix_refspec.proofs.Common.{IsOneStarred, reading_of, SideKind, pattern, full_name, object, partial, HasKind}
use Rattle.gix_refspec.proofs.Common.{filled, Ref, Matches, HasName, Takes, name, AreForwardEnds, AreBackwardEnds}
use Rattle.gix_refspec.proofs.Common.{IsFilled, IsSourceAmong, IsDestinationAmong, GoesBothWays, Transpose, true, Bool}
use Rattle.gix_refspec.proofs.Common.{IsTrue, ◌↔◌, Source, MakesForward, MakesBackward, PairsItem, id, IsPaired}
use Rattle.gix_refspec.proofs.Common.{by_cases, one_kind, matches_as, same_side, Any-all, Any-both, some_at, some_of}
use Rattle.gix_refspec.proofs.Common.{Lacks-ContainsText, accepted_few, accepted_balanced, rules, arith, Ends}
use Rattle.gix_refspec.proofs.lemmas.MadeLemmas.{side_there}
use Rattle.gix_refspec.proofs.lemmas.keep.FilterLemmas.{item_named, name_there}
use Rattle.gix_refspec.proofs.lemmas.keep.PairMadeLemmas.{kept_exactly}
use Rattle.gix_refspec_text.proofs.lemmas.parsing.DecideLemmas.{lacks_or_first}

-- two sides that map alike in both directions: two patterns, or two full names
abbrev AreTwins : List ℕ → List ℕ → Type 0
AreTwins x y = (HasOneStar x × HasOneStar y) ⊎ (HasKind x (full_name x) × HasKind y (full_name y))

pub one_star : (x : List ℕ) → HasStar x → ¬ (HasSeveralStars x) → HasOneStar x
one_star x has few = by_cases (lacks_or_first star x) (λ lacks. absurd (Lacks-ContainsText star x lacks has))
    (λ p. by_cases (lacks_or_first star p.after)
    (λ lacks. (p.before, p.after, record { starred = p.here; first = p.first; last = lacks }))
    (λ next. absurd
    (few (record {
      before = p.before;
      between = next.before;
      after = next.after;
      here = p.here
          ∙ ap (λ (y : List ℕ). p.before ++ (star ∷ y)) next.here;
    }))))

pub starred : (x : List ℕ) → Lacks star x ⊎ HasStar x
starred x = by_cases (lacks_or_first star x) (λ lacks. inl lacks)
    (λ index. inr (record { before = index.before; after = index.after; here = index.here }))

pub both_or_neither : (s d : List ℕ) → ¬ (HasSeveralStars s) → ¬ (HasSeveralStars d) → ¬ (IsOneStarred s d)
    → (HasOneStar s × HasOneStar d) ⊎ (Lacks star s × Lacks star d)
both_or_neither s d few_s few_d balanced = search (rules, one_star, starred)

twins : (x y : List ℕ) → ¬ (HasSeveralStars x) → ¬ (HasSeveralStars y) → ¬ (IsOneStarred x y) → (HasStar x × HasStar y)
    ⊎ (BeginsWith (codes "refs/") x × BeginsWith (codes "refs/") y) → AreTwins x y
twins x y few_x few_y balanced (inl stars) = inl (one_star x stars.0 few_x, one_star y stars.1 few_y)
twins x y few_x few_y balanced (inr below) = by_cases (both_or_neither x y few_x few_y balanced) (λ one. inl one)
    (λ none. inr ((refl, none.0, below.0), (refl, none.1, below.1)))

filled_as : (y m : List ℕ) (kind : SideKind) (word : Option (List ℕ)) → HasKind y kind → IsFilled (Some y) word (Some m)
    → m ≡ filled kind word
filled_as y m kind word has becomes = grind (arith, one_kind)

-- if one of such sides takes a name, the other takes what it becomes, and the first becomes that name
taken_back : (x y m : List ℕ) (r q : Ref) (word : Option (List ℕ)) → AreTwins x y → Matches x r word
    → IsFilled (Some y) word (Some m) → q.name ≡ m → (v : Option (List ℕ)) × Matches y q v
    × IsFilled (Some x) v (Some r.name)
taken_back x y m r q None (inl ((before, after, of_x), of_y)) matches becomes same =
    absurd (matches_as x (pattern before after) r None of_x matches)
taken_back x y m r q (Some w) (inl ((before, after, of_x), (front, back, of_y))) matches becomes same =
    let matched : Matches y q (Some w) =
    record {
      kind = pattern front back;
      of = of_y;
      is = same ∙ filled_as y m (pattern front back)
          (Some w) of_y becomes;
    } in (
      Some w,
      matched,
      (pattern before after, of_x, ap Some (matches_as x (pattern before after) r (Some w) of_x matches)),
    )
taken_back x y m r q word (inr (of_x, of_y)) matches becomes same = (
  None,
  record { kind = full_name y; of = of_y; is = (refl, same ∙ filled_as y m (full_name y) word of_y becomes) },
  (full_name x, of_x, ap Some ((matches_as x (full_name x) r word of_x matches).1)),
)

no_object : (x y bytes : List ℕ) → AreTwins x y → ¬ (HasKind x (object bytes))
no_object x y bytes twin is =
    by_cases twin (λ (one, other). cc (one_kind x (pattern one.0 one.1) (object bytes) one.2 is))
    (λ (full, other). cc (one_kind x (full_name x) (object bytes) full is))

no_partial : (x y n : List ℕ) → AreTwins x y → ¬ (HasKind x (partial n))
no_partial x y n twin is = by_cases twin (λ (one, other). cc (one_kind x (pattern one.0 one.1) (partial n) one.2 is))
    (λ (full, other). cc (one_kind x (full_name x) (partial n) full is))

abbrev IsFine : Reading → Type 0
IsFine r = ∥ IsAccepted r ∥₁ × GoesBothWays r

fine_twins : (r : Reading) (x y : List ℕ) → IsFine r → IsPositive r.mode → r.source ≡ Some x → r.destination ≡ Some y
    → AreTwins x y
fine_twins r x y fine positive source destination =
    twins x y (accepted_few r x fine.0 (inl source)) (accepted_few r y fine.0 (inr destination))
    (accepted_balanced r x y fine.0 source destination) (fine.1 positive x y source destination)

name_among : (n : List ℕ) (items : List Ref) (P : Ref → Type 0) → ((i : Ref) → P i → i.name ≡ n) → AnyAt P items
    → HasName items n
name_among n items P named (k, i, below, at, holds) = subst (HasName items) (named i holds)
    (name_there items i (k, below, at))

far_there : (far : Option (List ℕ)) (word : Option (List ℕ)) (m : List ℕ) → IsFilled far word (Some m) → (y : List ℕ)
    × (far ≡ Some y)
far_there far word m is = search rules

-- what one direction makes of an item, the other makes of what the item becomes
pairs_back : (HasEnds Other : Reading → Ends → Type 0) (T U : List ℕ → Ref → Option (List ℕ) → Type 0) (A B : List Ref)
    (n m : List ℕ) (r : Reading) (makes : PairsItem HasEnds T A n (Some m) r) (y : List ℕ)
    → makes.ends.far ≡ Some y → AreTwins makes.ends.near y → Other r (record { near = y; far = Some makes.ends.near })
    → ((i : Ref) (word : Option (List ℕ)) → T makes.ends.near i word → Matches makes.ends.near i word)
    → ((i : Ref) (word : Option (List ℕ)) → Matches y i word → U y i word) → HasName B m
    → PairsItem Other U B m (Some n) r
pairs_back HasEnds Other T U A B n m r makes y is_y twin has matches takes to =
    let (k, i, below, at, paired) = makes.one in
    let (j, (q, inside, stands), same) = item_named B m to in
    let taken = taken_back makes.ends.near y m i j paired.word twin (matches i paired.word paired.takes)
    (subst (λ (o : Option (List ℕ)). IsFilled o paired.word (Some m)) is_y paired.becomes) same in
    let becomes = subst (λ (z : List ℕ). IsFilled (Some makes.ends.near) taken.0 (Some z)) paired.name taken.2 in
    record {
      ends = record { near = y; far = Some makes.ends.near };
      has = has;
      one = (
        q,
        j,
        inside,
        stands,
        record {
          word = taken.0;
          name = same;
          takes = takes j taken.0 taken.1;
          becomes =
              becomes;
        },
      );
    }

forward_back : (A B : List Ref) (n m : List ℕ) (r : Reading) → IsFine r → HasName B m
    → PairsItem AreForwardEnds (Takes A) A n (Some m) r → PairsItem AreBackwardEnds Matches B m (Some n) r
forward_back A B n m r fine to makes =
    let (k, i, below, at, paired) = makes.one in
    let (y, is_y) = far_there makes.ends.far paired.word m paired.becomes in
    let has : AreBackwardEnds r (record { near = y; far = Some makes.ends.near }) =
    record { positive = makes.has.positive; near = makes.has.far ∙ is_y; far = makes.has.near; both = refl } in
    pairs_back _ _ _ _ A B n m r makes y is_y
    (fine_twins r makes.ends.near y fine makes.has.positive makes.has.near has.near) has
    (λ i word takes. takes.matches) (λ i word matches. matches) to

back_forward : (A B : List Ref) (n m : List ℕ) (r : Reading) → IsFine r → HasName A n
    → PairsItem AreBackwardEnds Matches B m (Some n) r → PairsItem AreForwardEnds (Takes A) A n (Some m) r
back_forward A B n m r fine from makes =
    let (x, is_x) = side_there makes.ends.far makes.has.both in
    let twin = fine_twins r x makes.ends.near fine makes.has.positive (makes.has.far ∙ is_x) makes.has.near in
    let has : AreForwardEnds r (record { near = x; far = Some makes.ends.near }) =
    record {
      positive = makes.has.positive;
      near = makes.has.far ∙ is_x;
      far = makes.has.near;
      no_object =
          λ bytes. no_object x makes.ends.near bytes twin;
    } in
    pairs_back _ _ _ _ B A m n r makes x is_x (search rules) has (λ i word matches. matches)
    (λ i word matches.
    record { matches = matches; first = λ p kind. absurd (no_partial x makes.ends.near p twin kind) }) from

turned : (A B : List Ref) (s : Source) (d : Option (List ℕ)) (r : Reading) → IsFine r → IsDestinationAmong B d
    → MakesForward A s d r → MakesBackward B s d r × IsSourceAmong A s
turned A B (name n) (Some m) r fine to makes = (
  forward_back A B n m r fine to makes,
  name_among n A (IsPaired (Takes A) makes.ends n (Some m))
      (λ i is. is.name) makes.one,
)
turned A B (id bytes) (Some m) r fine to makes =
    let there = far_there r.destination None m makes.becomes in
    absurd (no_object makes.text there.0 bytes (fine_twins r makes.text there.0 fine makes.positive makes.side there.1)
    makes.object)
turned A B s None r fine to makes = absurd to

turned_back : (A B : List Ref) (s : Source) (d : Option (List ℕ)) (r : Reading) → IsFine r → IsSourceAmong A s
    → MakesBackward B s d r → MakesForward A s d r × IsDestinationAmong B d
turned_back A B (name n) (Some m) r fine from makes = (
  back_forward A B n m r fine from makes,
  name_among m B (IsPaired Matches makes.ends m (Some n))
      (λ i is. is.name) makes.one,
)
turned_back A B s d r fine from makes = absurd makes

fine_all : (specs : List RefSpecRef) → AllByRecursion GoesBothWays (map reading_of specs)
    → AllByRecursion IsFine (map reading_of specs)
fine_all [] all = tt
fine_all (s ∷ specs) all = ((s.accepted, all.0), fine_all specs all.1)

pub transpose : (specs : List RefSpecRef) (A B : List Ref) → Transpose (map reading_of specs) A B
transpose specs A B both_ways l m forward backward pair =
    let g = map reading_of specs in
    let fine = fine_all specs both_ways in
    let of_l = (kept_exactly g A).forward l forward pair in
    let of_m = (kept_exactly g B).backward m backward pair in
    let Forward = MakesForward A pair.source pair.destination in
    let Backward = MakesBackward B pair.source pair.destination in (
      (λ (has, to).
          let made = of_l.0 has in
          let both = Any-both Backward (IsSourceAmong A pair.source) g
          (Any-all IsFine Forward _ (λ r of_r makes. turned A B pair.source pair.destination r of_r to makes) g fine
          (some_of Forward g made.0)) in
          (of_m.1 (some_at Backward g both.0, made.1), both.1)),
      (λ (has, from).
          let made = of_m.0 has in
          let both = Any-both Forward (IsDestinationAmong B pair.destination) g
          (Any-all IsFine Backward _
          (λ r of_r makes. turned_back A B pair.source pair.destination r of_r from makes) g fine
          (some_of Backward g made.0)) in
          (of_l.1 (some_at Forward g both.0, made.1), both.1)),
    )

-- ---- a test

pub goes_by_star : (r : Reading) (s : List ℕ) → ∥ IsAccepted r ∥₁ → r.source ≡ Some s → HasStar s
    → IsTrue true ↔ GoesBothWays r
goes_by_star r s accepted source has = (
  (λ _ _ x y is_x is_y.
      let star_x = subst HasStar (same_side r.source s x source is_x) has in
      inl (
        star_x,
        by_cases (starred y)
            (λ lacks. absurd (accepted_balanced r x y accepted is_x is_y (inl (star_x, lacks)))) (λ too. too),
      )),
  (λ _. refl),
)

pub goes_below_refs : (r : Reading) (s d : List ℕ) (told : Bool) → IsPositive r.mode → r.source ≡ Some s
    → r.destination ≡ Some d → Lacks star s
    → IsTrue told ↔ (BeginsWith (codes "refs/") s × BeginsWith (codes "refs/") d) → IsTrue told ↔ GoesBothWays r
goes_below_refs r s d told positive source destination lacks below = (
  (λ so _ x y is_x is_y. inr (
    subst (BeginsWith (codes "refs/")) (same_side r.source s x source is_x) (below.0 so).0,
    subst (BeginsWith (codes "refs/")) (same_side r.destination d y destination is_y) (below.0 so).1,
  )),
  (λ goes. by_cases (goes positive s d source destination) (λ stars. absurd (Lacks-ContainsText star s lacks stars.0))
      (λ both. below.1 both)),
)
