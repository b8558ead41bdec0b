-- Which conflicts a plan has, and their report.
use Rattle.std.proofs.Common.{◌≡◌, ◌≢◌, ◌<◌, ◌-◌, ℕ, List, [], ◌∷◌, ◌++◌, None, Some, inl, ap, arith, codes, get_or}
use Rattle.std.proofs.Common.{length, refl, ◌∙◌, subst}
use Rattle.std.specs.declared.cmp.Ordering.TheVariants.{Greater, Less}
use Rattle.std.specs.List.{AllByRecursion, Contains}
use Rattle.std.specs.List.Sorted.{IsStrictlySortedBy}
use Rattle.std.proofs.lemmas.List.Elements.{All-from_recursion}
use Rattle.gix_refspec_plan.specs.declared.Verdict.TheVariants as verdict
use Rattle.gix_refspec.specs.Matching.Mappings.{name}
use Rattle.gix_refspec_plan.specs.Matching.Plan.{Planned}
use Rattle.refspec_io.specs.declared.call.Form.TheVariants as form
use Rattle.refspec_io.specs.declared.call.Limit.TheVariants as limit
use Rattle.refspec_io.specs.Counts.{more_line}
use Rattle.refspec_fetch.specs.declared.origins.SpecTexts.{SpecTexts}
use Rattle.refspec_fetch.specs.Conflicts.{AddsConflictLines, AddsConflicts, AreContests, AreThoseTo, Contest}
use Rattle.refspec_fetch.specs.Conflicts.{conflict_line, goal_of}
use Rattle.refspec_fetch.proofs.facts.UpdateFacts.{by_default}

-- updates to refs/x/b, refs/x/a and refs/x/b
abbrev to : List ℕ → List ℕ → Planned
to destination source = record by_default {
  source = name source;
  destination = Some destination;
  verdict = verdict.InConflict;
}

abbrev b_head : Planned
b_head = to (codes "refs/x/b") (codes "refs/heads/b")

abbrev a_head : Planned
a_head = to (codes "refs/x/a") (codes "HEAD")

abbrev b_tag : Planned
b_tag = to (codes "refs/x/b") (codes "refs/tags/b")

abbrev updates : List Planned
updates = b_head ∷ a_head ∷ b_tag ∷ []

abbrev at_a : Contest
at_a = record { destination = codes "refs/x/a"; updates = a_head ∷ [] }

abbrev at_b : Contest
at_b = record { destination = codes "refs/x/b"; updates = b_head ∷ b_tag ∷ [] }

to_a : AreThoseTo (codes "refs/x/a") updates (a_head ∷ [])
to_a = (None, a_head ∷ [], other, (Some a_head, [], (refl, refl), (None, [], other, refl, refl), refl), refl)
  where
    other : {p : Planned} (q : Planned) → ¬ ((q ≡ p) × (codes "refs/x/b" ≡ codes "refs/x/a"))
    other q made = omega (arith, ap (λ (l : List ℕ). get_or l 7 0) made.1)

to_b : AreThoseTo (codes "refs/x/b") updates (b_head ∷ b_tag ∷ [])
to_b = (
  Some b_head,
  b_tag ∷ [],
  (refl, refl),
  (
    None,
    b_tag ∷ [],
    (λ q made. omega (
      arith,
      ap (λ (l : List ℕ). get_or l 7 0) made.1,
    )),
    (Some b_tag, [], (refl, refl), refl, refl),
    refl,
  ),
  refl,
)

-- of some contests each has an update, and all those to its destination
abbrev IsWhole : List Planned → Contest → Type 0
IsWhole ps c = (c.updates ≢ []) × AreThoseTo c.destination ps c.updates

whole : (ps : List Planned) (cs : List Contest) → AllByRecursion (IsWhole ps) cs → (c : Contest) → Contains cs c
    → IsWhole ps c
whole ps cs each c there = subst (IsWhole ps) there.2 (All-from_recursion (IsWhole ps) cs each there.0 c there.1)

-- some contest is at the destination of an update
abbrev IsAtSome : List Contest → Planned → Type 0
IsAtSome cs p = (c : Contest) × Contains cs c × (c.destination ≡ goal_of p)

at_some : (ps : List Planned) (cs : List Contest) → AllByRecursion (IsAtSome cs) ps → (p : Planned) → Contains ps p
    → IsAtSome cs p
at_some ps cs each p there = subst (IsAtSome cs) there.2 (All-from_recursion (IsAtSome cs) ps each there.0 p there.1)

-- a conflict at each destination, in byte order, with the updates in theirs; and none without updates
pub contests : AreContests updates (at_a ∷ at_b ∷ []) × AreContests [] []
unfolding IsStrictlySortedBy
contests = (
  record {
    order = ((refl, tt), (tt, tt));
    each = whole updates (at_a ∷ at_b ∷ []) (
      ((λ none. omega (arith, ap length none)), to_a),
      (
        (
          (λ none. omega (
            arith,
            ap length none,
          )),
          to_b,
        ),
        tt,
      ),
    );
    all = at_some updates (at_a ∷ at_b ∷ []) (
      (at_b, (1, omega arith, refl), refl),
      (
        (at_a, (0, omega arith, refl), refl),
        (
          (
            at_b,
            (1, omega arith, refl),
            refl,
          ),
          tt,
        ),
      ),
    );
  },
  record { order = tt; each = whole [] [] tt; all = at_some [] [] tt },
)

-- they aren't in another order, none is left out, and none is without an update
pub no_contests : ¬ (AreContests updates (at_b ∷ at_a ∷ [])) × ¬ (AreContests (a_head ∷ []) [])
    × ¬ (AreContests [] (at_a ∷ []))
    × ¬ (AreContests [] (record at_a { updates = [] } ∷ []))
unfolding IsStrictlySortedBy
no_contests = (
  (λ are. let same : Greater ≡ Less = are.order.0.0 in cc),
  (λ are. let there : 0 < 0 = omega (arith, (are.all a_head (0, omega arith, refl)).1.1) in omega (arith, there)),
  (λ are. let each = are.each at_a (0, omega arith, refl) in each.0 each.1),
  λ are. (are.each (record at_a { updates = [] }) (0, omega arith, refl)).0 refl,
)

-- a conflict is reported among the messages, in JSON as an object, and no conflict isn't
abbrev conflict_lines : List ℕ
conflict_lines = codes "conflict: refs/x/a would be written from several refs, so nothing is fetched:\n"
    ++ codes "    HEAD by HEAD (default)\n    Do so.\n"

only_a : AreContests (a_head ∷ []) (at_a ∷ [])
unfolding IsStrictlySortedBy
only_a = record {
  order = (tt, tt);
  each = whole (a_head ∷ []) (at_a ∷ []) (
    (
      (λ none. omega (arith, ap length none)),
      (
        Some a_head,
        [],
        (refl, refl),
        refl,
        refl,
      ),
    ),
    tt,
  );
  all = at_some (a_head ∷ []) (at_a ∷ []) ((at_a, (0, omega arith, refl), refl), tt);
}

pub reported : (texts : SpecTexts)
    → AddsConflicts limit.All form.Lines texts (a_head ∷ []) (codes "x\n") (codes "x\n" ++ (conflict_lines ++ []))
    (codes "r") (codes "r")
    × AddsConflicts limit.All form.Json texts (a_head ∷ []) (codes "x\n") (codes "x\n") (codes "r")
    (codes "r" ++ (conflict_line texts at_a ++ []))
    × AddsConflicts limit.All form.Zeros texts [] (codes "x\n") (codes "x\n") (codes "r") (codes "r")
reported texts = (
  record {
    contests = at_a ∷ [];
    are = only_a;
    messages = (
      conflict_lines,
      (
        conflict_lines,
        [],
        record {
          shown = codes "refs/x/a";
          claims = codes "    HEAD by HEAD (default)\n";
          advice = codes "    Do so.\n";
          destination = inl refl;
          each = (
            codes "    HEAD by HEAD (default)\n",
            [],
            record {
              first = codes "HEAD";
              second = codes "HEAD";
              is_first = inl refl;
              is_second = inl refl;
              is = refl;
            },
            refl,
            refl,
          );
          is = refl;
        },
        refl,
        refl,
      ),
      refl,
    );
    objects = refl;
  },
  record {
    contests = at_a ∷ [];
    are = only_a;
    messages = refl;
    objects = (
      conflict_line texts at_a ++ [],
      (conflict_line texts at_a, [], refl, refl, refl),
      refl,
    );
  },
  record { contests = []; are = contests.1; messages = ([], refl, refl); objects = refl },
)

-- neither is a conflict passed over, nor is anything said without one
pub not_reported : (texts : SpecTexts) (old new : List ℕ)
    → ¬ (AddsConflicts limit.All form.Lines texts (a_head ∷ []) [] [] old new)
    × ¬ (AddsConflicts limit.All form.Lines texts [] [] (codes "x") old new)
not_reported texts old new = (
  (λ adds. lost adds.contests adds.are adds.messages),
  λ adds. added adds.contests adds.are adds.messages,
)
  where
    lost : (cs : List Contest) → AreContests (a_head ∷ []) cs
        → ¬ (AddsConflictLines limit.All form.Lines texts cs [] [])
    lost [] are lines = no_contests.1 are
    lost (c ∷ cs) are (lines, (one, rest, is, more, all), grown) =
        omega (
          arith,
          ap length
              (grown ∙ ap (λ (l : List ℕ). l ++ more_line (codes "conflict: ") (length (c ∷ cs) - length (c ∷ cs)))
              (all ∙ ap (λ (l : List ℕ). l ++ rest) is.is)),
        )

    added : (cs : List Contest) → AreContests [] cs → ¬ (AddsConflictLines limit.All form.Lines texts cs [] (codes "x"))
    added [] are (lines, none, grown) = omega (arith, ap length (grown ∙ ap (λ (l : List ℕ). l ++ []) none))
    added (c ∷ cs) are lines = let each = are.each c (0, omega arith, refl) in each.0 each.1
