use Rattle.gix_refspec_match.proofs.Common.{List, [], ◌∷◌, ◌≡◌, ℕ, ◌++◌, ◌∙◌, ap, map, take, get_or, rules, Vec}
use Rattle.gix_refspec_match.proofs.Common.{take_more, map_push, Contains-append_left, Contains-push, Contains}
use Rattle.gix_refspec_match.proofs.Common.{all_weaker, all_join, kind_of_side, full_name, partial, SideKind}
use Rattle.gix_refspec_match.proofs.Common.{HasNamesOf, name_bytes, Names, NameRef}
use Rattle.gix_refspec_match.proofs.lemmas.hits.MatcherLemmas.{blank_matcher}
use Rattle.gix_refspec_match.proofs.index.Names.of.Goals as goal

still_named : (old new : Names) → ((x : List ℕ) → Contains (map name_bytes old.full.items) x
    → Contains (map name_bytes new.full.items) x)
    → ((x : List ℕ) → Contains (map name_bytes old.partial.items) x → Contains (map name_bytes new.partial.items) x)
    → (kind : SideKind) → HasNamesOf old kind → HasNamesOf new kind
still_named old new full short (full_name x) named = full x named
still_named old new full short (partial x) named = short x named
still_named old new full short kind named = tt

pushed : (old new : Vec NameRef) (x : NameRef) → new.items ≡ old.items ++ x ∷ []
    → ((y : List ℕ) → Contains (map name_bytes old.items) y → Contains (map name_bytes new.items) y)
    × Contains (map name_bytes new.items) (name_bytes x)
pushed old new x is =
    let all : map name_bytes new.items ≡ map name_bytes old.items ++ name_bytes x ∷ [] = ap (map name_bytes) is
    ∙ map_push name_bytes old.items x in
    ((λ y there. rw all (Contains-append_left _ _ y there)), rw all (Contains-push _ _))

pub loop-matcher-preserved : goal.loop-matcher-preserved
loop-matcher-preserved c =
    let xs = c.deref-matcher-items.result.now in
    let i = c.loop-matcher.matcher-index in
    let old = c.loop-matcher.names in
    let new = c.match-matcher.names in
    let Keep : Vec NameRef → Vec NameRef → Type 0 = λ v w. (x : List ℕ) → Contains (map name_bytes v.items) x
    → Contains (map name_bytes w.items) x in
    let adds : Keep old.full new.full × Keep old.partial new.partial
    × HasNamesOf new (kind_of_side (get_or xs i blank_matcher).needle) = elim c.match-matcher.branch [
      | goal.in-FullName+in_ok-push-in-FullName w ↦
          let (keeps, here) = pushed old.full w.push.new.self _ w.in_ok-push-in-FullName.ensures.items in
          rw (w.in-FullName.is, w.names-is) (keeps, (λ x has. has), search (rules, here))
      | goal.in-Partial+in_ok-push-in-Partial w ↦
          let (keeps, here) = pushed old.partial w.push-in-Partial.new.self _ w.in_ok-push-in-Partial.ensures.items in
          rw (w.in-Partial.is, w.names-is) ((λ x has. has), keeps, search (rules, here))
      | goal.in-Pattern+in_ok-push-in-Pattern w ↦ rw (w.in-Pattern.is, w.names-is) ((λ x has. has), (λ x has. has), tt)
      | goal.in-Object w ↦ rw (w.in-Object.is, w.names-is) ((λ x has. has), (λ x has. has), tt)
    ] in
    rw (← c.deref-matcher-items.ensures.value, take_more xs i blank_matcher c.loop-matcher-test.true)
    (all_join _ (take i xs) (get_or xs i blank_matcher ∷ [])
    (all_weaker _ _ (λ m. still_named old new adds.0 adds.1 (kind_of_side m.needle)) _
    (rw c.deref-matcher-items.ensures.value c.loop-matcher.invariant)) (adds.2, tt))
