-- The destination is looked up among those that win, among those of the same list, and among those that are directories
-- of others.
use Rattle.gix_refspec_plan.proofs.Common.{◌≡◌, ◌↔◌, Bool, subst, IsContested, IsNestedAmong, IsSound, IsTakenOver}
use Rattle.gix_refspec_plan.proofs.Common.{IsTrue, Some, option_map, unwrap_or, sym, ap, ◌∙◌, false, true, mapped_of}
use Rattle.gix_refspec_plan.proofs.Common.{name_bytes, rules, false≢true}
use Rattle.gix_refspec_plan.proofs.lemmas.plan.JudgeLemmas.{contested_told, count_at, obstructed_told, taken_told}
use Rattle.gix_refspec_plan.proofs.verdicts.verdict_on.Goals as goal

pub returns-then-contains_key : goal.returns-then-contains_key
returns-then-contains_key c firsts l all of_firsts of_l of_all apart has inside =
    let goes : option_map name_bytes c.args.mapping.now.rhs ≡ Some c.as_bytes-destination.result.now =
    ap (option_map name_bytes) c.in-Some-rhs.is
    ∙ ap Some (sym (c.as_bytes-destination.ensures ∙ c.as_bstr.ensures)) in (
      c.in_default.ensures,
      (taken_told (mapped_of c.args.mapping.now) _ goes firsts _ (of_firsts _)).0
          (sym c.contains_key.ensures ∙ c.if-contains_key.true),
    )

pub returns-then-unwrap_or : goal.returns-then-unwrap_or
returns-then-unwrap_or c firsts l all of_firsts of_l of_all apart has inside =
    let m = mapped_of c.args.mapping.now in
    let d = c.as_bytes-destination.result.now in
    let goes : option_map name_bytes c.args.mapping.now.rhs ≡ Some d = ap (option_map name_bytes) c.in-Some-rhs.is
    ∙ ap Some (sym (c.as_bytes-destination.ensures ∙ c.as_bstr.ensures)) in
    let told : unwrap_or (count_at c.args.counts.now d) false ≡ true = cc in
    search (
      rules,
      taken_told m d goes firsts _ (of_firsts d),
      contested_told m d goes l apart c.in_default.ensures has,
      of_l d,
      false≢true,
    )

pub returns-then-contains_key-2 : goal.returns-then-contains_key-2
returns-then-contains_key-2 c firsts l all of_firsts of_l of_all apart has inside =
    let m = mapped_of c.args.mapping.now in
    let d = c.as_bytes-destination.result.now in
    let goes : option_map name_bytes c.args.mapping.now.rhs ≡ Some d = ap (option_map name_bytes) c.in-Some-rhs.is
    ∙ ap Some (sym (c.as_bytes-destination.ensures ∙ c.as_bstr.ensures)) in
    let told : unwrap_or (count_at c.args.counts.now d) false ≡ false = cc in
    let free : IsSound m × ¬ (IsTakenOver firsts m) × ¬ (IsContested l m) =
    search (
      rules,
      taken_told m d goes firsts _ (of_firsts d),
      contested_told m d goes l apart c.in_default.ensures
          has,
      of_l d,
      false≢true,
    ) in
    let looked : IsTrue c.contains_key-2.result ↔ IsNestedAmong all d =
    subst (λ (b : Bool). IsTrue b ↔ IsNestedAmong all d) (sym c.contains_key-2.ensures) (of_all d) in (
      free.0,
      free.1,
      free.2,
      (obstructed_told all m d c.contains_key-2.result looked c.in_default.ensures inside goes).0
          c.if-contains_key-2.true,
    )

pub returns : goal.returns
returns c firsts l all of_firsts of_l of_all apart has inside =
    let m = mapped_of c.args.mapping.now in
    let d = c.as_bytes-destination.result.now in
    let goes : option_map name_bytes c.args.mapping.now.rhs ≡ Some d = ap (option_map name_bytes) c.in-Some-rhs.is
    ∙ ap Some (sym (c.as_bytes-destination.ensures ∙ c.as_bstr.ensures)) in
    let told : unwrap_or (count_at c.args.counts.now d) false ≡ false = cc in
    let free : IsSound m × ¬ (IsTakenOver firsts m) × ¬ (IsContested l m) =
    search (
      rules,
      taken_told m d goes firsts _ (of_firsts d),
      contested_told m d goes l apart c.in_default.ensures
          has,
      of_l d,
      false≢true,
    ) in
    let looked : IsTrue c.contains_key-2.result ↔ IsNestedAmong all d =
    subst (λ (b : Bool). IsTrue b ↔ IsNestedAmong all d) (sym c.contains_key-2.ensures) (of_all d) in (
      free.0,
      free.1,
      free.2,
      λ obstructed. false≢true
          (sym c.if-contains_key-2.false
          ∙ (obstructed_told all m d c.contains_key-2.result looked c.in_default.ensures inside goes).1 obstructed),
    )
