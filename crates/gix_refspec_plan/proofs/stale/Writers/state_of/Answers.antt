use Rattle.gix_refspec_plan.proofs.Common.{None, [], refl, Some, sym, ap, ◌∙◌, subst, take_all, bstr_bytes}
use Rattle.gix_refspec_plan.proofs.Common.{HasNameState}
use Rattle.gix_refspec_plan.proofs.lemmas.plan.MadeLemmas.{nothing_in}
use Rattle.gix_refspec_plan.proofs.lemmas.stale.PatternLemmas.{all_among, name_writes, next_excluded, next_fit}
use Rattle.gix_refspec_plan.proofs.lemmas.stale.PatternLemmas.{next_unfit}
use Rattle.gix_refspec_plan.proofs.stale.Writers.state_of.Goals as goal

pub returns-in-Some-Some : goal.returns-in-Some-Some
returns-in-Some-Some c g are =
    let n = bstr_bytes c.args.name in
    let w = c.args.self.now in
    let (r, s, inside, from, excluded) = subst (HasNameState w.exclusions g n)
    (sym c.in-Some-Some.ensures.value ∙ ap Some c.in-Some-Some.field-0-is) (are.are.names n) in (
      s,
      (
        r,
        inside,
        record {
          word = None;
          writes = name_writes r n from.writes;
          source = from.named.source;
          is =
              from.named.is;
          matches = from.named.stands;
        },
      ),
      are.excluded_at s c.in-Some-Some.spec excluded,
    )

pub returns-in-Excluded : goal.returns-in-Excluded
returns-in-Excluded c g are =
    next_excluded g are.accepted c.args.self.now.exclusions c.deref-pattern-items.result.now
    (rw c.deref-pattern-items.ensures.value are.are.patterns) (bstr_bytes c.args.name)
    c.loop-pattern.pattern-index _ c.loop-pattern-test.true are.excluded_at c.in-Excluded.spec
    (rw (c.as_bytes.ensures, c.in-Excluded.is) at c.in_ok-pattern_state.ensures)

pub loop-pattern-init : goal.loop-pattern-init
loop-pattern-init c g are =
    let n = bstr_bytes c.args.name in
    let w = c.args.self.now in
    elim c.match-get.branch [
      | goal.in-None v ↦
          let none = subst (HasNameState w.exclusions g n) (sym v.in-None.ensures.value) (are.are.names n) in
          rw v.state-is (
            (λ r s inside from. absurd (none r inside from.writes)),
            (λ p there. absurd (nothing_in [] p refl there)),
            (none, λ p there. absurd (nothing_in [] p refl there)),
          )
      | goal.in-Some-None v ↦
          let ((r, inside, writes), included) = subst (HasNameState w.exclusions g n)
          (sym v.in-Some-None.ensures.value ∙ ap Some v.in-Some-None.field-0-is) (are.are.names n) in
          rw v.state-is (
            included,
            (λ p there. absurd (nothing_in [] p refl there)),
            (r, None, inside, name_writes r n writes),
          )
    ]

pub loop-pattern-preserved : goal.loop-pattern-preserved
loop-pattern-preserved c g are =
    let n = bstr_bytes c.args.name in
    let es = c.args.self.now.exclusions in
    let ps = c.deref-pattern-items.result.now in
    let i = c.loop-pattern.pattern-index in
    elim c.match-branch-2.branch [
      | goal.in-Unwritable w ↦
          rw w.state-is (next_unfit g are.accepted es ps (rw c.deref-pattern-items.ensures.value are.are.patterns) n i _
          c.loop-pattern-test.true c.loop-pattern.state (c.loop-pattern.invariant g are)
          (rw (c.as_bytes.ensures, w.in-Unwritable.is) at c.in_ok-pattern_state.ensures))
      | goal.in-Included w ↦
          rw w.state-is (next_fit g are.accepted es ps (rw c.deref-pattern-items.ensures.value are.are.patterns) n i _
          c.loop-pattern-test.true c.loop-pattern.state (c.loop-pattern.invariant g are)
          (rw (c.as_bytes.ensures, w.in-Included.is) at c.in_ok-pattern_state.ensures))
    ]

pub returns : goal.returns
returns c g are =
    let w = c.args.self.now in
    all_among g are.accepted w.exclusions w.patterns.items are.are.patterns (bstr_bytes c.args.name) are.excluded
    c.loop-pattern.state
    (rw (take_all _ _ c.loop-pattern-test.false, c.deref-pattern-items.ensures.value) at
    (c.loop-pattern.invariant g are))
