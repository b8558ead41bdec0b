-- The components of a text, found by the slashes around them, with a slash before the text for the first one.
use Rattle.gix_refspec_text.proofs.Common.{[], arith, ◌≡◌, ℕ, List, ◌∷◌, ◌++◌, refl, sym, ap, ◌∙◌, inl, inr}
use Rattle.gix_refspec_text.proofs.Common.{append_assoc, AllByRecursion, join_with_byte, cases_eq, append-nil, Lacks}
use Rattle.gix_refspec_text.proofs.Common.{slash, SomeComponent}
use Rattle.gix_refspec_text.proofs.lemmas.lists.AllLemmas.{all_join}
use Rattle.gix_refspec_text.proofs.lemmas.lists.LacksLemmas.{LastIndex, lacks_or_last}

-- what may follow a component: nothing, or a text that begins with a slash
abbrev pub IsEnd : List ℕ → Type 0
IsEnd [] = Unit {0}
IsEnd (b ∷ x) = b ≡ slash

-- the parts, each after a slash
abbrev pub fenced : List (List ℕ) → List ℕ
fenced [] = []
fenced (p ∷ ps) = slash ∷ (p ++ fenced ps)

pub AllByRecursion-parts : {X : Type 0} (P : X → Type 0) (xs : List X) (y : X) (ys : List X)
    → AllByRecursion P (xs ++ (y ∷ ys)) → P y
AllByRecursion-parts P [] y ys every = every.0
AllByRecursion-parts P (x ∷ xs) y ys every = AllByRecursion-parts P xs y ys every.1

pub fenced-append : (ps qs : List (List ℕ)) → fenced (ps ++ qs) ≡ fenced ps ++ fenced qs
fenced-append [] qs = refl
fenced-append (p ∷ ps) qs =
    ap (λ x. slash ∷ x) (ap (λ x. p ++ x) (fenced-append ps qs) ∙ sym (append_assoc p (fenced ps) (fenced qs)))

fenced-join : (p : List ℕ) (ps : List (List ℕ)) → fenced (p ∷ ps) ≡ slash ∷ join_with_byte slash (p ∷ ps)
fenced-join p [] = ap (λ x. slash ∷ x) (append-nil p)
fenced-join p (q ∷ ps) = ap (λ x. slash ∷ (p ++ x)) (fenced-join q ps)

pub fenced-IsEnd : (ps : List (List ℕ)) → IsEnd (fenced ps)
fenced-IsEnd [] = tt
fenced-IsEnd (p ∷ ps) = refl

-- a text split at its slashes: its first component, and the others
abbrev pub Pieces : List ℕ → Type 0
Pieces x = (first : List ℕ) × (others : List (List ℕ)) × (first ++ fenced others ≡ x) × AllByRecursion (Lacks slash)
    (first ∷ others)

pub pieces_of : (x : List ℕ) → Pieces x
pieces_of [] = ([], [], refl, (tt, tt))
pieces_of (b ∷ x) =
    let (first, others, here, (whole, more)) = pieces_of x in
    elim (cases_eq b slash) [
      | inl same ↦ (
        [],
        first ∷ others,
        ap (λ y. slash ∷ y) here ∙ ap (λ c. c ∷ x) (sym same),
        (tt, (whole, more)),
      )
      | inr other ↦ (b ∷ first, others, ap (λ y. b ∷ y) here, ((other, whole), more))
    ]

fence_parts : (x : List ℕ) → IsEnd x → (ps : List (List ℕ)) × AllByRecursion (Lacks slash) ps × (fenced ps ≡ x)
fence_parts [] ends = ([], tt, refl)
fence_parts (b ∷ x) ends = let (first, others, here, whole) =
    pieces_of x in (first ∷ others, whole, ap (λ y. slash ∷ y) here ∙ ap (λ c. c ∷ x) (sym ends))

pub last_slash_after_one : (x : List ℕ) → LastIndex slash (slash ∷ x)
last_slash_after_one x = elim (lacks_or_last slash (slash ∷ x)) [
  | inl lacks ↦ absurd (lacks.0 refl)
  | inr found ↦
      found
]

-- w is in x between two slashes, or between a slash and an end
pub record IsComponent (w x : List ℕ) : Type 0 where
  pub before : List ℕ
  pub after : List ℕ
  pub here : slash ∷ x ≡ before ++ (slash ∷ (w ++ after))
  pub whole : Lacks slash w
  pub ends : IsEnd after

fenced_joined : (ps : List (List ℕ)) (w : List ℕ) (qs : List (List ℕ))
    → fenced (ps ++ (w ∷ qs)) ≡ slash ∷ join_with_byte slash (ps ++ (w ∷ qs))
fenced_joined [] w qs = fenced-join w qs
fenced_joined (p ∷ ps) w qs = fenced-join p (ps ++ (w ∷ qs))

pub SomeComponent-from : (P : List ℕ → Type 0) (w x : List ℕ) → IsComponent w x → P w → SomeComponent P x
SomeComponent-from P w x found fact =
    let front = fence_parts found.before (let here = found.here in grind arith) in
    let back = fence_parts found.after found.ends in
    let parts = front.0 ++ (w ∷ back.0) in
    let same : fenced parts ≡ slash ∷ x = fenced-append front.0 (w ∷ back.0)
    ∙ ap (λ y. y ++ fenced (w ∷ back.0)) front.2 ∙ ap (λ y. found.before ++ (slash ∷ (w ++ y))) back.2
    ∙ sym found.here in
    let whole = all_join (Lacks slash) front.0 (w ∷ back.0) front.1 (found.whole, back.1) in
    record {
      before = front.0;
      component = w;
      after = back.0;
      components =
          record { joined = (let joined = fenced_joined front.0 w back.0 in cc); whole = whole };
      fact = fact;
    }

pub SomeComponent-index : (P : List ℕ → Type 0) (x : List ℕ) (some : SomeComponent P x) → IsComponent some.component x
SomeComponent-index P x some =
    let here = sym (fenced_joined some.before some.component some.after ∙ ap (λ y. slash ∷ y) some.components.joined)
    ∙ fenced-append some.before (some.component ∷ some.after) in
    let whole = AllByRecursion-parts (Lacks slash) some.before some.component some.after some.components.whole in
    record {
      before = fenced some.before;
      after = fenced some.after;
      here = here;
      whole = whole;
      ends =
          fenced-IsEnd some.after;
    }
