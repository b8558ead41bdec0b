-- A pattern may match a full name if what is before its star begins one.
use Rattle.std.proofs.Common.{◌≡◌, ◌∙◌, ◌++◌, Bool, MatchBool, List, ℕ, ap, codes, drop, false, inl, inr, length, refl}
use Rattle.std.proofs.Common.{subst, sym, true}
use Rattle.std.proofs.lemmas.Bool.{false≢true}
use Rattle.std.proofs.lemmas.Bool.Decides.{Decides-eqb}
use Rattle.std.proofs.lemmas.Slice.Eq.{slice_eq-Decides, starts_is}
use Rattle.gix_refspec_text.specs.Texts.Bytes.{head, star}
use Rattle.gix_refspec_text.specs.Texts.Words.{Lacks}
use Rattle.gix_refspec_text.proofs.lemmas.lists.LacksLemmas.{Lacks-here, first_once}
use Rattle.refspec_commands.specs.Warned.{MayBeFull}
use Rattle.refspec_commands.proofs.WarnedLemmas.{not_full}
use Rattle.refspec_commands.proofs.warnings.idle.may_be_full.Goals as goal

pub returns-in-None : goal.returns-in-None
returns-in-None c =
    let side = c.args.side.now in
    not_full side
    (λ is. false≢true (sym c.if-eq.false ∙ (slice_eq-Decides Decides-eqb side c.as_slice.result.now c.eq.result
    c.eq.ensures).1 (is ∙ sym c.as_slice.ensures)))
    (λ begins. false≢true (sym c.if-starts_with.false ∙ (starts_is Decides-eqb side (codes "refs/") c.starts_with.result
    c.starts_with.ensures.value).1 begins.after begins.here))
    (λ before after is lacks begins. Lacks-here star before after (subst (Lacks star) is c.in-None.ensures))

pub returns-then-starts_with-2 : goal.returns-then-starts_with-2
returns-then-starts_with-2 c =
    let side = c.args.side.now in
    let before = c.in-Some.before.now in
    subst (λ (b : Bool). MatchBool b (MayBeFull side) (¬ (MayBeFull side))) (sym c.if-starts_with-2.true) (inr (inr (
      before,
      c.in-Some.field-0-1.now,
      c.in-Some.ensures.0,
      c.in-Some.ensures.1,
      inl (record {
        after = drop (length before) (codes "refs/");
        here = (starts_is Decides-eqb (codes "refs/") before c.starts_with-in-Some.result
            c.starts_with-in-Some.ensures.value).0 c.if-starts_with-2.true;
      }),
    )))

pub returns-else-starts_with-2 : goal.returns-else-starts_with-2
returns-else-starts_with-2 c = by c.starts_with-else-starts_with-2.result refl
  where
    side : List ℕ
    side = c.args.side.now

    start : List ℕ
    start = c.in-Some.before.now

    by : (b : Bool) → c.starts_with-else-starts_with-2.result ≡ b → MatchBool b (MayBeFull side) (¬ (MayBeFull side))
    by true is = inr (inr (
      start,
      c.in-Some.field-0-1.now,
      c.in-Some.ensures.0,
      c.in-Some.ensures.1,
      inr (record {
        after = drop (length start) head;
        here = (starts_is Decides-eqb head start c.starts_with-else-starts_with-2.result
            c.starts_with-else-starts_with-2.ensures.value).0 is;
      }),
    ))
    by false is = not_full side (λ same. false≢true (sym c.if-eq.false ∙ (slice_eq-Decides Decides-eqb side
        c.as_slice.result.now c.eq.result c.eq.ensures).1 (same ∙ sym c.as_slice.ensures)))
        (λ begins. false≢true
        (sym c.if-starts_with.false ∙ (starts_is Decides-eqb side (codes "refs/") c.starts_with.result
        c.starts_with.ensures.value).1 begins.after begins.here))
        (λ before after whole lacks begins.
        let same : before ≡ start =
        (first_once star before start after c.in-Some.field-0-1.now lacks c.in-Some.ensures.1
        (sym whole ∙ c.in-Some.ensures.0)).0 in
        elim begins [
          | inl b ↦ false≢true (sym c.if-starts_with-2.false ∙ (starts_is Decides-eqb (codes "refs/") start
              c.starts_with-in-Some.result c.starts_with-in-Some.ensures.value).1 b.after
              (b.here ∙ ap (λ p. p ++ b.after) same))
          | inr b ↦ false≢true (sym is ∙ (starts_is Decides-eqb head start c.starts_with-else-starts_with-2.result
              c.starts_with-else-starts_with-2.ensures.value).1 b.after (b.here ∙ ap (λ p. p ++ b.after) same))
        ])
