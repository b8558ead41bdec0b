-- Messages, piece by piece.
use Rattle.std.proofs.Common.{◌≡◌, ℕ, ◌+◌, ◌<◌, ◌≤◌, Bor, List, [], ◌∷◌, ◌++◌}
use Rattle.std.proofs.Common.{length, take, get_or, map, codes, sym, refl, ap, subst, ◌∙◌, append_assoc}
use Rattle.std.proofs.Common.{append-nil, take_all}
use Rattle.std.proofs.lemmas.Grind.{flat_map-append}
use Rattle.std.proofs.lemmas.List.{map-append}
use Rattle.refspec_io.specs.Shown.{WritesQuoted}
use Rattle.refspec_io.specs.declared.settings.Setting.{Setting}
use Rattle.refspec_request.specs.Refusals.{AreSpelled, Piece, Writes, about, pieces_of_members, quoted, words}
use Rattle.refspec_request.specs.Remotes.{listed_in, members_of, members_text}
use Rattle.refspec_request.proofs.RemoteLemmas.{members_next}

-- a quoted text between two words
pub Writes-between : (before name after old a b new x y : List ℕ) → a ≡ old ++ x → x ≡ before → WritesQuoted name a b
    → new ≡ b ++ y → y ≡ after
    → Writes (words before ∷ (quoted name ∷ (words after ∷ []))) old new
Writes-between before name after old a b new x y one is_before (shown, is, two) three is_after =
    let all : ((old ++ before) ++ shown) ++ after ≡ old ++ (before ++ (shown ++ (after ++ []))) = simp
    (append_assoc, append-nil) in (
      before ++ (shown ++ (after ++ [])),
      (shown ++ (after ++ []), (shown, after ++ [], is, ([], refl, refl), refl), refl),
      three ∙ (ap (λ z. z ++ y) (two ∙ ap (λ z. z ++ shown) (one ∙ ap (λ z. old ++ z) is_before))
          ∙ (ap (λ z. ((old ++ before) ++ shown) ++ z) is_after ∙ all)),
    )

-- equal pieces
pub Writes-same : (p q : List Piece) (old new : List ℕ) → p ≡ q → Writes p old new → Writes q old new
Writes-same p q old new same writes = subst (λ z. Writes z old new) same writes

-- nothing
pub Writes-none : (old : List ℕ) → Writes [] old old
Writes-none old = ([], refl, sym (append-nil old))

AreSpelled-append : (p q : List Piece) (a b : List ℕ) → AreSpelled p a → AreSpelled q b → AreSpelled (p ++ q) (a ++ b)
AreSpelled-append [] q a b none are = subst (AreSpelled q) (ap (λ z. z ++ b) (sym none)) are
AreSpelled-append (words text ∷ p) q a b (rest, are, is) more =
    (rest ++ b, AreSpelled-append p q rest b are more, ap (λ z. z ++ b) is ∙ append_assoc text rest b)
AreSpelled-append (quoted text ∷ p) q a b (shown, rest, is_quoted, are, is) more = (
  shown,
  rest ++ b,
  is_quoted,
  AreSpelled-append p q rest b are more,
  ap (λ z. z ++ b) is ∙ append_assoc shown rest b,
)

-- pieces, and others behind them
pub Writes-append : (p q : List Piece) (old mid new : List ℕ) → Writes p old mid → Writes q mid new
    → Writes (p ++ q) old new
Writes-append p q old mid new (a, are, first) (b, more, second) =
    (a ++ b, AreSpelled-append p q a b are more, second ∙ (ap (λ z. z ++ b) first ∙ append_assoc old a b))

-- before the first setting
pub first_members : (head : List Piece) (old new : List ℕ) → Writes head old new → Writes (head ++ []) old new
first_members head old new writes = subst (λ p. Writes p old new) (sym (append-nil head)) writes

-- the remotes that one more setting lists, behind the others
pub more_members : (head : List Piece) (group : List ℕ) (xs : List Setting) (i : ℕ) (d : Setting)
    (old mid new text : List ℕ) → i < length xs
    → Writes (head ++ pieces_of_members (members_of group (take i xs))) old mid
    → Writes (pieces_of_members (listed_in text)) mid new → text ≡ members_text group (get_or xs i d)
    → Writes (head ++ pieces_of_members (members_of group (take (i + 1) xs))) old new
more_members head group xs i d old mid new text below so_far more is =
    let before = members_of group (take i xs) in
    let listed = listed_in (members_text group (get_or xs i d)) in
    let all : (head ++ pieces_of_members before) ++ pieces_of_members listed
    ≡ head ++ pieces_of_members (members_of group (take (i + 1) xs)) =
    append_assoc head (pieces_of_members before) (pieces_of_members listed)
    ∙ ap (λ p. head ++ p) (sym (flat_map-append (λ member. about (codes " ") member []) before listed)
    ∙ ap pieces_of_members (sym (members_next group xs i d below))) in
    subst (λ p. Writes p old new) all
    (Writes-append (head ++ pieces_of_members before) (pieces_of_members listed) old mid new so_far
    (subst (λ t. Writes (pieces_of_members (listed_in t)) mid new) is more))

-- the remotes of all settings
pub all_members : (head : List Piece) (group : List ℕ) (xs : List Setting) (i : ℕ) (old new : List ℕ) → length xs ≤ i
    → Writes (head ++ pieces_of_members (members_of group (take i xs))) old new
    → Writes (head ++ pieces_of_members (members_of group xs)) old new
all_members head group xs i old new past writes =
    subst (λ l. Writes (head ++ pieces_of_members (members_of group l)) old new) (take_all i xs past) writes

-- one more remote
pub member_more : (ys : List (Bor (List ℕ))) (x : Bor (List ℕ)) (old mid new : List ℕ)
    → Writes (pieces_of_members (map (λ y. y.now) ys)) old mid → Writes (about (codes " ") x.now []) mid new
    → Writes (pieces_of_members (map (λ y. y.now) (ys ++ x ∷ []))) old new
member_more ys x old mid new so_far more =
    let before = map (λ (y : Bor (List ℕ)). y.now) ys in
    let all : pieces_of_members (map (λ y. y.now) (ys ++ x ∷ []))
    ≡ pieces_of_members before ++ about (codes " ") x.now [] =
    ap pieces_of_members (map-append (λ (y : Bor (List ℕ)). y.now) ys (x ∷ []))
    ∙ flat_map-append (λ member. about (codes " ") member []) before (x.now ∷ []) in
    subst (λ p. Writes p old new) (sym all)
    (Writes-append (pieces_of_members before) (about (codes " ") x.now []) old mid new so_far more)
