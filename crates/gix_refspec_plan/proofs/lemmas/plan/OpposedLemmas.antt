-- An update is in conflict exactly if it conflicts with another one, and no ref is written twice.
use Rattle.gix_refspec_plan.proofs.Common.{option_flatten, option_map, IsSome, rules, ◌≡◌, ◌⊎◌, inl, ◌↔◌, ℕ, ◌<◌, List}
use Rattle.gix_refspec_plan.proofs.Common.{[], Option, None, Some, MatchOption, get_or, length, refl, sym, ◌∙◌, subst}
use Rattle.gix_refspec_plan.proofs.Common.{Contains, slice_get, get_or_default, All-from_recursion}
use Rattle.gix_refspec_plan.proofs.Common.{Contains-append_cases, Contains-append_left, Contains-append_right}
use Rattle.gix_refspec_plan.proofs.Common.{Contains-get_or, recursion_from_All, slice_get_read, Origin, Verdict, Ref}
use Rattle.gix_refspec_plan.proofs.Common.{HasPair, IsSamePair, Mapped, Asked, HasOrigin, HasSecondVerdict, HasVerdict}
use Rattle.gix_refspec_plan.proofs.Common.{IsContested, IsPlan, IsPlanned, IsPlannedBesides, IsSound, IsTakenOver, ap}
use Rattle.gix_refspec_plan.proofs.Common.{AreNested, IsObstructed, IsToBeWritten, DirectoryConflict, Planned, Wish}
use Rattle.gix_refspec_plan.proofs.Common.{ConflictsExactly, DoConflict, All-contains, Written, InConflict, Any-HasPair}
use Rattle.gix_refspec_plan.proofs.Common.{IsOfPair, some_at, some_element, AreMappings, ◌≢◌, arith, ◌+◌, ◌∷◌, ◌++◌}
use Rattle.gix_refspec_plan.proofs.Common.{AllByRecursion, all_join, IsMadeFrom, AreApart, AreWrittenApart}
use Rattle.gix_refspec_plan.proofs.Common.{AreWrittenOnce, WritesOnce}
use Rattle.gix_refspec_plan.proofs.lemmas.plan.JudgeLemmas.{mappings_of, tracked_mappings}
use Rattle.gix_refspec_plan.proofs.lemmas.plan.MadeLemmas.{made_from, made_has, there}

module _ (over l all : List Mapped) (m : Mapped) where
  sound_of : (v : Verdict) → HasSecondVerdict over l all m v → (v ≡ Written)
      ⊎ ((v ≡ InConflict) ⊎ (v ≡ DirectoryConflict)) → IsSound m × ¬ (IsTakenOver over m)
  sound_of v has either = grind arith

  conflict_of : (v : Verdict) → IsSound m → ¬ (IsTakenOver over m) → IsContested l m → HasSecondVerdict over l all m v
      → v ≡ InConflict
  conflict_of v sound free contested has = grind arith

-- a verdict of one list is the same where another list without mappings wins
pub as_second : (l all : List Mapped) (m : Mapped) (v : Verdict) → HasVerdict l all m v → HasSecondVerdict [] l all m v
as_second l all m v is = grind arith

origin_of : (asked : List Asked) (l : List Mapped) (m : Mapped) → AreMappings asked l → Contains l m → (o : Origin)
    × HasOrigin asked m o
origin_of asked l m are has =
    let below : m.spec < length asked = All-contains (λ (x : Mapped). x.spec < length asked) l m
    (All-from_recursion (λ (x : Mapped). x.spec < length asked) l are.fit) has in
    let a = get_or asked m.spec (some_element asked m.spec below) in (
      a.origin,
      (
        a,
        slice_get_read asked (length asked) m.spec a refl below (get_or_default asked m.spec _ a below),
        refl,
      ),
    )

-- the index among all refs, of an index among those that are taken
item_of : (indexes : List ℕ) (j : Option ℕ) → (item : Option ℕ) × MatchOption j (item ≡ None)
    (λ i. slice_get indexes i ≡ item)
item_of indexes j = (option_flatten (option_map (slice_get indexes) j), grind arith)

pub pair_in : (l : List Mapped) (m : Mapped) → HasPair l m → (n : Mapped) × Contains l n × IsSamePair n m
pair_in l m has = let (k, n, below, is, same) = some_at (IsOfPair m) l (Any-HasPair l m has) in
    (n, (k, below, is), same)

sound_pair : (m n : Mapped) → IsSamePair m n → IsSound n → IsSound m
sound_pair m n same sound = grind arith

-- the update by a mapping of l, where the mappings of over win
abbrev IsUpdate : List Mapped → List Mapped → List Mapped → Mapped → Planned → Type 0
IsUpdate over l all m p = (p.source ≡ m.source) × (p.destination ≡ m.destination)
    × HasSecondVerdict over l all m p.verdict

-- each update is by a mapping, and each mapping in conflict has one
pub record AreUpdates (over l all : List Mapped) (updates : List Planned) : Type 0 where
  pub by : (p : Planned) → Contains updates p → (m : Mapped) × Contains l m × IsUpdate over l all m p
  pub of : (m : Mapped) → Contains l m → IsSound m → ¬ (IsTakenOver over m) → IsContested l m → (p : Planned)
      × Contains updates p × IsUpdate over l all m p

module _ (over l all : List Mapped) (updates : List Planned) (are : AreUpdates over l all updates) where
  list_opposed : (p : Planned) → Contains updates p → p.verdict ≡ InConflict → (q : Planned) × Contains updates q
      × DoConflict p q
  list_opposed p has is =
      let (m, inside, (source, destination, verdict)) = are.by p has in
      let (sound, free, (n, also, sound_n, (d, from, to), differ)) = subst (HasSecondVerdict over l all m) is verdict in
      let free_n : ¬ (IsTakenOver over n) = λ (x, has_x, sound_x, (e, n_to, x_to)). free
      (x, has_x, sound_x, (d, from, x_to ∙ sym n_to ∙ to)) in
      let contested : IsContested l n = search (rules, from, to, sound, inside, differ) in
      let (q, has_q, (q_source, q_destination, q_verdict)) = are.of n also sound_n free_n contested in
      let q_is = conflict_of over l all n q.verdict sound_n free_n contested q_verdict in
      search (rules, has_q, q_is, is, destination ∙ from, q_destination ∙ to, differ)

  list_conflict : (p q : Planned) → Contains updates p → Contains updates q → DoConflict p q → p.verdict ≡ InConflict
  list_conflict p q has_p has_q both =
      let (m, in_m, (m_source, m_destination, m_verdict)) = are.by p has_p in
      let (n, in_n, (n_source, n_destination, n_verdict)) = are.by q has_q in
      let (sound, free) = sound_of over l all m p.verdict m_verdict both.one in
      let sound_n = (sound_of over l all n q.verdict n_verdict both.other).0 in
      let contested : IsContested l m = search (
        rules,
        sym m_destination ∙ both.one_to,
        sym n_destination
            ∙ both.other_to,
        both.differ,
      ) in
      conflict_of over l all m p.verdict sound free contested m_verdict

module _ (wish : Wish) (refs : List Ref) (planned : List Planned) (missing : List Origin)
    (plan : IsPlan wish refs planned missing) where
  firsts_are : AreUpdates [] plan.firsts (plan.firsts ++ plan.seconds) plan.before
  firsts_are = record {
    by = λ p has. let (k, m, inside, of_p) = made_from _ 0 plan.firsts plan.before p plan.are_before has in search
        (rules, inside, of_p, as_second);
    of = λ m has sound free contested.
        let (o, from) = origin_of plan.asked plan.firsts m (mappings_of plan.asked refs plan.firsts plan.are_firsts)
        has in
        made_has _ (IsUpdate [] plan.firsts (plan.firsts ++ plan.seconds) m) 0 plan.firsts plan.before m plan.are_before
        has
        (λ k. (
          record {
            source = m.source;
            item = m.item;
            destination = m.destination;
            origin = o;
            verdict =
                InConflict;
          },
          search rules,
        )) (λ k p of_p. search (rules, of_p, as_second));
  }

  seconds_are : AreUpdates plan.firsts plan.seconds (plan.firsts ++ plan.seconds) plan.behind
  seconds_are = record {
    by = λ p has. let (k, m, inside, of_p) = made_from _ 0 plan.seconds plan.behind p plan.are_behind has in search
        (rules, inside, of_p);
    of = λ m has sound free contested.
        let (o, from) = origin_of plan.tracking plan.seconds m
        (tracked_mappings wish refs plan.tracking plan.indexes plan.seconds plan.are_seconds) has in
        let (item, among) = item_of plan.indexes m.item in
        let to : IsSome m.destination = search (rules, contested.3) in
        let unpaired : ¬ (HasPair plan.firsts m) = λ pair. let (x, inside, same) = pair_in plan.firsts m pair in search
        (rules, free, inside, sound_pair x m same sound, same.destination, contested.3) in
        made_has _ (IsUpdate plan.firsts plan.seconds (plan.firsts ++ plan.seconds) m) 0 plan.seconds plan.behind m
        plan.are_behind has
        (λ k. (
          record { source = m.source; item = item; destination = m.destination; origin = o; verdict = InConflict },
          search rules,
        )) (λ k p of_p. search (rules, of_p));
  }

  listed : (p : Planned) → Contains planned p → Contains plan.before p ⊎ Contains plan.behind p
  listed p has = Contains-append_cases plan.before plan.behind p
      (subst (λ (l : List Planned). Contains l p) plan.all has)

  pub opposed : (p : Planned) → Contains planned p → p.verdict ≡ InConflict → (q : Planned) × Contains planned q
      × DoConflict p q
  opposed p has is =
      let firsts = list_opposed [] plan.firsts (plan.firsts ++ plan.seconds) plan.before firsts_are p in
      let seconds = list_opposed plan.firsts plan.seconds (plan.firsts ++ plan.seconds) plan.behind seconds_are p in
      let found : (q : Planned) × Contains (plan.before ++ plan.behind) q × DoConflict p q =
      search (
        rules,
        listed p has,
        Contains-append_left plan.before plan.behind,
        Contains-append_right plan.before plan.behind,
      ) in
      rw plan.all found

  -- what the first list writes, the second one doesn't
  pub never_both : (p q : Planned) → Contains plan.before p → Contains plan.behind q → IsToBeWritten p → IsToBeWritten q
      → (d : List ℕ) → p.destination ≡ Some d → q.destination ≢ Some d
  never_both p q has_p has_q one other d p_to q_to =
      let (m, in_m, (m_source, m_destination, m_verdict)) = firsts_are.by p has_p in
      let (n, in_n, (n_source, n_destination, n_verdict)) = seconds_are.by q has_q in
      search (
        rules,
        sound_of [] plan.firsts (plan.firsts ++ plan.seconds) m p.verdict m_verdict one,
        sound_of plan.firsts plan.seconds (plan.firsts ++ plan.seconds) n q.verdict n_verdict other,
      )

  -- nor is one that is written a directory of the other
  pub clear_both : (p q : Planned) → Contains plan.before p → Contains plan.behind q → p.verdict ≡ Written
      → q.verdict ≡ Written → (d e : List ℕ) → p.destination ≡ Some d → q.destination ≡ Some e → ¬ (AreNested d e)
  clear_both p q has_p has_q p_written q_written d e p_to q_to nests =
      let (m, in_m, (m_source, m_destination, m_verdict)) = firsts_are.by p has_p in
      let (n, in_n, (n_source, n_destination, n_verdict)) = seconds_are.by q has_q in
      let clear = (subst (HasSecondVerdict [] plan.firsts (plan.firsts ++ plan.seconds) m) p_written m_verdict).3 in
      let sound_n =
      (subst (HasSecondVerdict plan.firsts plan.seconds (plan.firsts ++ plan.seconds) n) q_written n_verdict).0 in
      clear (
        n,
        Contains-append_right plan.firsts plan.seconds n in_n,
        sound_n,
        (d, e, sym m_destination ∙ p_to, sym n_destination ∙ q_to, nests),
      )

  pub in_conflict : (p q : Planned) → Contains planned p → Contains planned q → DoConflict p q → p.verdict ≡ InConflict
  in_conflict p q has_p has_q both =
      let firsts = list_conflict [] plan.firsts (plan.firsts ++ plan.seconds) plan.before firsts_are p q in
      let seconds = list_conflict plan.firsts plan.seconds (plan.firsts ++ plan.seconds) plan.behind seconds_are p q in
      search (rules, listed p has_p, listed q has_q, firsts, seconds, never_both p q, never_both q p, both)

pub conflicts_exactly : (wish : Wish) (refs : List Ref) → ConflictsExactly wish refs
conflicts_exactly wish refs planned missing plan =
    recursion_from_All (λ p. (p.verdict ≡ InConflict) ↔ ((q : Planned) × Contains planned q × DoConflict p q)) planned
    (λ k d below.
    let p = get_or planned k d in
    let has = Contains-get_or planned k d below in (
      (λ is. opposed wish refs planned missing plan p has is),
      (λ (q, has_q, both). in_conflict wish refs planned missing plan p q has has_q both),
    ))

-- what is written of a list of mappings is sound, and nothing else of that list has its destination
module _ (all whole : List Mapped) (inside_whole : (n : Mapped) → Contains all n → Contains whole n)
    (R : ℕ → Mapped → Planned → Type 0)
    (told : (k : ℕ) (m : Mapped) (p : Planned) → R k m p → (p.destination ≡ m.destination)
    × (p.verdict ≡ Written → IsSound m × ¬ (IsContested all m) × ¬ (IsObstructed whole m))) where
  each_apart : (j k : ℕ) (m : Mapped) (p : Planned) (l : List Mapped) (ps : List Planned) → R j m p
      → ((n : Mapped) → Contains l n → Contains all n)
      → AllByRecursion (λ n. ¬ (IsSamePair m n)) l → IsMadeFrom R k l ps → AllByRecursion (AreWrittenApart p) ps
  each_apart j k m p l ps of_p inside differ made = recursion_from_All (AreWrittenApart p) ps
      (λ i d below p_written q_written x y p_to q_to.
      let (n_at, n, has, of_q) = made_from R k l ps (get_or ps i d) made (Contains-get_or ps i d below) in
      let apart = All-contains (λ n. ¬ (IsSamePair m n)) l n (All-from_recursion (λ n. ¬ (IsSamePair m n)) l differ)
      has in
      let (m_to, m_is) = told j m p of_p in
      let (n_to, n_is) = told n_at n (get_or ps i d) of_q in
      let m_goes : m.destination ≡ Some x = sym m_to ∙ p_to in
      let n_goes : n.destination ≡ Some y = sym n_to ∙ q_to in
      let (sound, free, clear) = m_is p_written in
      let sound_n = (n_is q_written).0 in
      let n_also : x ≡ y → n.destination ≡ Some x = λ same. n_goes ∙ ap Some (sym same) in (
        (λ same. let n_there = n_also same in search (rules, free, apart, inside n has, sound_n, m_goes, n_there)),
        (λ nests. clear (n, inside_whole n (inside n has), sound_n, (x, y, m_goes, n_goes, nests))),
      ))

  list_once : (k : ℕ) (l : List Mapped) (ps : List Planned) → ((n : Mapped) → Contains l n → Contains all n)
      → AreApart l → IsMadeFrom R k l ps → AreWrittenOnce ps
  list_once k [] ps inside apart none = rw none tt
  list_once k (m ∷ l) ps inside (differ, apart) (made, rest, makes, more, is) =
      let each = λ (p : Planned) (of_p : R k m p). each_apart k (k + 1) m p l rest of_p
      (λ x has. inside x (there m l x has)) differ more in
      rw is (search (rules, makes, list_once (k + 1) l rest (λ x has. inside x (there m l x has)) apart more, each))

once_join : (xs ys : List Planned) → AreWrittenOnce xs → AreWrittenOnce ys
    → ((p q : Planned) → Contains xs p → Contains ys q → AreWrittenApart p q) → AreWrittenOnce (xs ++ ys)
once_join [] ys once_xs once_ys apart = once_ys
once_join (p ∷ xs) ys (later, once_xs) once_ys apart =
    let first = recursion_from_All (AreWrittenApart p) ys (λ k d below. apart p (get_or ys k d) (0, omega arith, refl)
    (Contains-get_or ys k d below)) in (
      all_join (AreWrittenApart p) xs ys later first,
      once_join xs ys once_xs once_ys
          (λ x y has. apart x y (there p xs x has)),
    )

pub writes_once : (wish : Wish) (refs : List Ref) → WritesOnce wish refs
writes_once wish refs planned missing plan = subst AreWrittenOnce (sym plan.all) (once_join plan.before plan.behind
    (list_once plan.firsts (plan.firsts ++ plan.seconds) (Contains-append_left plan.firsts plan.seconds)
    (λ k m p. IsPlanned plan.asked plan.firsts plan.seconds m p)
    (λ k m p of. (
      of.destination,
      λ written. subst (HasVerdict plan.firsts (plan.firsts ++ plan.seconds) m) written
          of.verdict,
    ))
    0 plan.firsts plan.before (λ n has. has) (mappings_of plan.asked refs plan.firsts plan.are_firsts).apart
    plan.are_before)
    (list_once plan.seconds (plan.firsts ++ plan.seconds) (Contains-append_right plan.firsts plan.seconds)
    (λ k m p. IsPlannedBesides plan.tracking plan.indexes plan.firsts plan.seconds m p)
    (λ k m p of. (
      of.destination,
      λ written. let is =
          subst (HasSecondVerdict plan.firsts plan.seconds (plan.firsts ++ plan.seconds) m) written of.verdict in
          (is.0, is.2, is.3),
    ))
    0 plan.seconds plan.behind (λ n has. has)
    (tracked_mappings wish refs plan.tracking plan.indexes plan.seconds plan.are_seconds).apart plan.are_behind)
    (λ p q has_p has_q p_written q_written x y p_to q_to. (
      (λ same. never_both wish refs planned missing plan p q has_p has_q (inl p_written) (inl q_written) x p_to
          (q_to ∙ ap Some (sym same))),
      clear_both wish refs planned missing plan p q has_p has_q p_written q_written x y p_to q_to,
    )))
