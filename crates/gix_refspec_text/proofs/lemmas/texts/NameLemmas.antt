-- The faults that one pass over the bytes finds are the faults of a name.
use Rattle.gix_refspec_text.proofs.Common.{[], same_from_push, ◌≡◌, ◌≢◌, ℕ, List, ◌∷◌, ◌++◌, codes, length, take, drop}
use Rattle.gix_refspec_text.proofs.Common.{get_or, ◌+◌, ◌<◌, ◌≤◌, suc, Option, MatchOption, refl, sym, ap, ◌∙◌, subst}
use Rattle.gix_refspec_text.proofs.Common.{inl, inr, append_assoc, arith, Bool, ◌-◌, nat_eq, Decides, ends_with}
use Rattle.gix_refspec_text.proofs.Common.{ends_is, Decides-eqb, append-nil, ◌⊎◌, Error, Empty, EmptyComponent}
use Rattle.gix_refspec_text.proofs.Common.{StartsWithDot, LockSuffix, EndsWithDot, RepeatedDot, ReflogPortion, Asterisk}
use Rattle.gix_refspec_text.proofs.Common.{InvalidByte, ContainsText, BeginsWith, EndsWith, slash, star, dot, brace}
use Rattle.gix_refspec_text.proofs.Common.{SomeComponent, HasFault, IsName, AddsFault, Added, IsClean, LeavesFault}
use Rattle.gix_refspec_text.proofs.Common.{Finds, drop_of_length-le, take_more}
use Rattle.gix_refspec_text.proofs.lemmas.texts.TextLemmas.{split_at}
use Rattle.gix_refspec_text.proofs.lemmas.texts.ComponentLemmas.{IsEnd, IsComponent, pieces_of, fenced, fenced-IsEnd}
use Rattle.gix_refspec_text.proofs.lemmas.texts.ComponentLemmas.{last_slash_after_one, SomeComponent-from}
use Rattle.gix_refspec_text.proofs.lemmas.texts.ComponentLemmas.{SomeComponent-index}
use Rattle.gix_refspec_text.proofs.lemmas.lists.AllLemmas.{all_join}

no_middle : (p r : List ℕ) (b : ℕ) → [] ≡ p ++ (b ∷ r) → ⊥
no_middle [] r b same = cc
no_middle (c ∷ p) r b same = cc

-- an index of a text with one more byte is its last index, or an index of the text
index_with_one_more : (y p r : List ℕ) (c b : ℕ) → y ++ (c ∷ []) ≡ p ++ (b ∷ r)
    → ((y ≡ p) × (c ≡ b)) ⊎ ((s : List ℕ) × (y ≡ p ++ (b ∷ s)))
index_with_one_more [] [] r c b same = inl (refl, cc)
index_with_one_more (x ∷ y) [] r c b same = inr (y, cc)
index_with_one_more [] (q ∷ p) r c b same = let tails : [] ≡ p ++ (b ∷ r) = cc in absurd (no_middle p r b tails)
index_with_one_more (x ∷ y) (q ∷ p) r c b same =
    elim (index_with_one_more y p r c b (cc)) [
      | inl last ↦ inl ((let fronts = last.0 in cc), last.1)
      | inr index ↦ inr (index.0, (let fronts = index.1 in cc))
    ]

pub last_byte : (y : List ℕ) (c b : ℕ) → EndsWith (c ∷ []) y → EndsWith (b ∷ []) y → c ≡ b
last_byte y c b by_c by_b = (same_from_push by_c.before by_b.before c b (sym by_c.here ∙ by_b.here)).1

pub IsClean-more : (y : List ℕ) (c : ℕ) → IsClean y → ((e : Error) → ¬ (AddsFault y c e)) → IsClean (y ++ (c ∷ []))
IsClean-more y c clean none e added =
    elim (index_with_one_more y added.before added.after c added.byte added.here) [
      | inl last ↦ none e
          (subst (λ z. AddsFault z c e) (sym last.0) (subst (λ b. AddsFault added.before b e) (sym last.1) added.fault))
      | inr index ↦
          clean e (record {
            before = added.before;
            byte = added.byte;
            after = index.0;
            here = index.1;
            fault =
                added.fault;
          })
    ]

pub slash_adds : (y : List ℕ) (e : Error) → ¬ (EndsWith (codes "/") y) → ¬ (EndsWith (codes ".lock") y)
    → ¬ (AddsFault y slash e)
slash_adds y e whole unlocked fault = grind arith

pub IsClean-start : IsClean (slash ∷ [])
IsClean-start = IsClean-more [] slash (λ e added. no_middle added.before added.after added.byte added.here) (λ e.
    slash_adds [] e (λ ends. no_middle ends.before [] 47 ends.here) (λ ends. no_middle ends.before _ 46 ends.here))

-- x ends with w if a slash and x end with w, and w doesn't begin with a slash
after_slash : (x p w : List ℕ) (b : ℕ) → b ≢ slash → slash ∷ x ≡ p ++ (b ∷ w) → EndsWith (b ∷ w) x
after_slash x [] w b other here = absurd (other cc)
after_slash x (c ∷ p) w b other here = record { before = p; here = cc }

empty_component : (x p after : List ℕ) → slash ∷ x ≡ (p ++ (slash ∷ [])) ++ after → IsEnd after
    → SomeComponent (λ w. w ≡ []) x
empty_component x p after here ends =
    SomeComponent-from (λ w. w ≡ []) [] x
    (record { before = p; after = after; here = here ∙ append_assoc p (slash ∷ []) after; whole = tt; ends = ends })
    refl

dotted_component : (x p after : List ℕ) → slash ∷ x ≡ (p ++ (slash ∷ [])) ++ (dot ∷ after)
    → SomeComponent (BeginsWith (codes ".")) x
dotted_component x p after here =
    let (first, others, split, whole) = pieces_of after in
    let there = here ∙ append_assoc p (slash ∷ []) (dot ∷ after) ∙ ap (λ z. p ++ (slash ∷ (dot ∷ z))) (sym split) in
    SomeComponent-from (BeginsWith (codes ".")) (dot ∷ first) x
    (record {
      before = p;
      after = fenced others;
      here = there;
      whole = (omega arith, whole.0);
      ends =
          fenced-IsEnd others;
    }) (record { after = first; here = refl })

locked_component : (x p after : List ℕ) → slash ∷ x ≡ (p ++ codes ".lock") ++ after → IsEnd after
    → SomeComponent (EndsWith (codes ".lock")) x
locked_component x [] after here ends = let first : slash ≡ dot = cc in absurd (omega (arith, first))
locked_component x (c ∷ p) after here ends =
    let (before, w, split, lacks) = last_slash_after_one p in
    let fence : c ∷ p ≡ before ++ (slash ∷ w) = (let first : slash ≡ c = cc in cc) in
    let there : slash ∷ x ≡ before ++ (slash ∷ ((w ++ codes ".lock") ++ after)) = here
    ∙ ap (λ z. (z ++ codes ".lock") ++ after) fence ∙ simp append_assoc in
    let whole = all_join (λ c. c ≢ slash) w (codes ".lock") lacks (omega arith) in
    SomeComponent-from (EndsWith (codes ".lock")) (w ++ codes ".lock") x
    (record { before = before; after = after; here = there; whole = whole; ends = ends })
    (record { before = w; here = refl })

byte_in_text : (x p after : List ℕ) (b c : ℕ) → c ≢ slash → slash ∷ x ≡ p ++ (b ∷ after) → b ≡ c
    → ContainsText (c ∷ []) x
byte_in_text x p after b c other here same =
    let found = after_slash x p after c other (here ∙ ap (λ d. p ++ (d ∷ after)) same) in
    record { before = found.before; after = after; here = found.here }

pair_in_text : (x p after : List ℕ) (a b c : ℕ) → a ≢ slash → slash ∷ x ≡ p ++ (b ∷ after) → EndsWith (a ∷ []) p → b ≡ c
    → ContainsText (a ∷ c ∷ []) x
pair_in_text x p after a b c other here ends same =
    let whole = here ∙ ap (λ d. p ++ (d ∷ after)) same ∙ ap (λ z. z ++ (c ∷ after)) ends.here ∙ append_assoc ends.before
    (a ∷ []) (c ∷ after) in
    let found = after_slash x ends.before (c ∷ after) a other whole in
    record { before = found.before; after = after; here = found.here }

pub HasFault-added : (x : List ℕ) (e : Error) → x ≢ [] → Added (slash ∷ x) e → HasFault x e
HasFault-added x e some added = grind (
  arith,
  empty_component,
  dotted_component,
  locked_component,
  pair_in_text,
  byte_in_text,
)

pub HasFault-left : (x : List ℕ) (e : Error) → x ≢ [] → LeavesFault (slash ∷ x) e → HasFault x e
HasFault-left x EmptyComponent some left = (some, empty_component x left.before [] (left.here ∙ sym (append-nil _)) tt)
HasFault-left x LockSuffix some left = locked_component x left.before [] (left.here ∙ sym (append-nil _)) tt
HasFault-left x EndsWithDot some left = after_slash x left.before [] dot (omega arith) left.here
HasFault-left x _ some left = absurd left

shown_by_end : (y p after : List ℕ) (e : Error) → y ≡ p ++ after → IsEnd after → AddsFault p slash e → LeavesFault p e
    → Added y e ⊎ LeavesFault y e
shown_by_end y p after e here ends adds leaves = grind (arith, append-nil)

pair_added : (x : List ℕ) (a b : ℕ) (e : Error) → ContainsText (a ∷ b ∷ []) x
    → ((p : List ℕ) → EndsWith (a ∷ []) p → AddsFault p b e) → Added (slash ∷ x) e
pair_added x a b e held adds =
    let front = (slash ∷ held.before) ++ (a ∷ []) in
    let here = ap (λ z. slash ∷ z) held.here ∙ sym (append_assoc (slash ∷ held.before) (a ∷ []) (b ∷ held.after)) in
    record {
      before = front;
      byte = b;
      after = held.after;
      here = here;
      fault =
          adds front (record { before = slash ∷ held.before; here = refl });
    }

component_found : (x w : List ℕ) (e : Error) (index : IsComponent w x) → AddsFault (index.before ++ (slash ∷ w)) slash e
    → LeavesFault (index.before ++ (slash ∷ w)) e → Added (slash ∷ x) e ⊎ LeavesFault (slash ∷ x) e
component_found x w e index = shown_by_end (slash ∷ x) (index.before ++ (slash ∷ w)) index.after e
    (index.here ∙ sym (append_assoc index.before (slash ∷ w) index.after)) index.ends

found_fault : (x : List ℕ) (e : Error) → x ≢ [] → HasFault x e → Added (slash ∷ x) e ⊎ LeavesFault (slash ∷ x) e
found_fault x Empty some fault = absurd (some fault)
found_fault x EmptyComponent some fault =
    let index : IsComponent fault.1.component x = SomeComponent-index (λ w. w ≡ []) x fault.1 in
    let ends : EndsWith (codes "/") (index.before ++ (slash ∷ fault.1.component)) =
    record { before = index.before; here = ap (λ w. index.before ++ (slash ∷ w)) fault.1.fact } in
    component_found x fault.1.component EmptyComponent index (refl, ends) ends
found_fault x StartsWithDot some fault =
    let index : IsComponent fault.component x = SomeComponent-index (BeginsWith (codes ".")) x fault in
    let after = fault.fact.after ++ index.after in
    let here = index.here ∙ ap (λ w. index.before ++ (slash ∷ (w ++ index.after))) fault.fact.here
    ∙ sym (append_assoc index.before (slash ∷ []) (dot ∷ after)) in
    inl (record {
      before = index.before ++ (slash ∷ []);
      byte = dot;
      after = after;
      here = here;
      fault =
          (refl, record { before = index.before; here = refl });
    })
found_fault x LockSuffix some fault =
    let index : IsComponent fault.component x = SomeComponent-index (EndsWith (codes ".lock")) x fault in
    let front = index.before ++ (slash ∷ fault.fact.before) in
    let here = ap (λ w. index.before ++ (slash ∷ w)) fault.fact.here
    ∙ sym (append_assoc index.before (slash ∷ fault.fact.before) _) in
    let ends : EndsWith (codes ".lock") (index.before ++ (slash ∷ fault.component)) =
    record { before = front; here = here } in
    component_found x fault.component LockSuffix index (refl, ends) ends
found_fault x EndsWithDot some fault =
    inr (record { before = slash ∷ fault.before; here = ap (λ z. slash ∷ z) fault.here })
found_fault x RepeatedDot some fault = inl (pair_added x dot dot RepeatedDot fault (λ p ends. (refl, ends)))
found_fault x ReflogPortion some fault = inl (pair_added x 64 brace ReflogPortion fault (λ p ends. (refl, ends)))
found_fault x Asterisk some fault =
    inl (record {
      before = slash ∷ fault.before;
      byte = star;
      after = fault.after;
      here =
          ap (λ z. slash ∷ z) fault.here;
      fault = refl;
    })
found_fault x (InvalidByte c) some fault =
    inl (record {
      before = slash ∷ fault.0.before;
      byte = c;
      after = fault.0.after;
      here =
          ap (λ z. slash ∷ z) fault.0.here;
      fault = (refl, fault.1);
    })

pub IsName-from_clean : (x : List ℕ) → x ≢ [] → IsClean (slash ∷ x) → ((e : Error) → ¬ (LeavesFault (slash ∷ x) e))
    → IsName x
IsName-from_clean x some clean none e fault = elim (found_fault x e some fault) [
  | inl added ↦ clean e added
  | inr left ↦
      none e left
]

pub answer_at_end : (x : List ℕ) (fault : Option Error) → x ≢ [] → IsClean (slash ∷ x)
    → Finds fault (LeavesFault (slash ∷ x)) → MatchOption fault (IsName x) (HasFault x)
answer_at_end x fault some clean none = grind (arith, IsName-from_clean, HasFault-left)

pub one_more : (x : List ℕ) (i : ℕ) → i < length x → slash ∷ take (i + 1) x ≡ (slash ∷ take i x) ++ (get_or x i 0 ∷ [])
one_more x i below = ap (λ z. slash ∷ z) (take_more x i 0 below)

pub added_at : (x : List ℕ) (i : ℕ) (e : Error) → i < length x → AddsFault (slash ∷ take i x) (get_or x i 0) e
    → Added (slash ∷ x) e
added_at x i e below fault =
    record {
      before = slash ∷ take i x;
      byte = get_or x i 0;
      after = drop (suc i) x;
      here =
          ap (λ z. slash ∷ z) (split_at x i (get_or x i 0) below refl);
      fault = fault;
    }

pub end_leaves : (y : List ℕ) (e : Error) → ¬ (EndsWith (codes "/") y) → ¬ (EndsWith (codes ".") y)
    → ¬ (EndsWith (codes ".lock") y) → ¬ (LeavesFault y e)
end_leaves y e whole undotted unlocked left = grind arith

-- a test for `.lock` at the end of x decides the same for x with a slash before it
pub locked_after_slash : (x : List ℕ) (tested : Bool) → tested ≡ ends_with nat_eq x (codes ".lock")
    → Decides tested (EndsWith (codes ".lock") (slash ∷ x))
locked_after_slash x tested by_test =
    let ends = ends_is Decides-eqb x (codes ".lock") tested by_test in
    let back = λ (locked : EndsWith (codes ".lock") (slash ∷ x)). let found = after_slash x locked.before
    (codes "lock") dot (omega arith) locked.here in ends.1 found.before found.here in
    (λ yes. record { before = slash ∷ take (length x - 5) x; here = ap (λ z. slash ∷ z) (ends.0 yes) }, back)

pub ends_last : (x : List ℕ) → 1 ≤ length x → EndsWith (get_or x (length x - 1) 0 ∷ []) (slash ∷ x)
ends_last x some =
    let k = length x - 1 in
    let rest : drop (suc k) x ≡ [] = drop_of_length-le x {i = suc k} (omega arith) in
    record {
      before = slash ∷ take k x;
      here = ap (λ y. slash ∷ y) (split_at x k (get_or x k 0) (omega arith) refl
          ∙ ap (λ y. take k x ++ (get_or x k 0 ∷ y)) rest);
    }
