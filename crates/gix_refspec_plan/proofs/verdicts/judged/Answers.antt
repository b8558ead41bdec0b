-- The lists are joined, to find which pairs of the second one are in the first, and which destinations are nested, and
-- split again.
use Rattle.gix_refspec_plan.proofs.Common.{append-nil, ◌++◌, ◌≡◌, [], List, length, length-map, map, map-append, refl}
use Rattle.gix_refspec_plan.proofs.Common.{sym, ◌∙◌, ap, subst, arith, eqb-true, nil_from_length, Mapping, mapped_of}
use Rattle.gix_refspec_plan.proofs.Common.{ok_weaker, AreFirst, AreVerdicts, TellNested, asked_of, planned_of}
use Rattle.gix_refspec_plan.proofs.lemmas.plan.JudgeLemmas.{judged_of, flag_known, split_again}
use Rattle.gix_refspec_plan.proofs.lemmas.plan.NameLemmas.{zip_long}
use Rattle.gix_refspec_plan.proofs.verdicts.judged.Goals as goal

pub first_updates-requires-clause-verdicts : goal.first_updates-requires-clause-verdicts
first_updates-requires-clause-verdicts c =
    omega (
      arith,
      zip_long _ _ _ c.in_ok-verdicts.ensures,
      length-map c.as_slice.result.now mapped_of,
      ap length c.as_slice.ensures.value,
      ap length c.as_slice-then-is_empty.ensures.value,
    )

pub returns-then-is_empty : goal.returns-then-is_empty
returns-then-is_empty c =
    let seconds = c.args.tracked.mappings in
    let none : seconds.items ≡ [] = nil_from_length seconds.items
    (let empty = eqb-true _ _ (sym c.is_empty.ensures ∙ c.if-is_empty.true) in omega
    (arith, empty, seconds.ok.0, seconds.ok.1)) in
    let told : AreVerdicts (map mapped_of c.args.firsts.items) [] c.as_slice-then-is_empty.result.now =
    rw c.as_slice-then-is_empty.ensures.value (rw c.as_slice.ensures.value at c.in_ok-verdicts.ensures) in
    ok_weaker c.first_updates.result _ _
    (λ updates first. rw none
    (record { before = _; behind = []; are_before = first; are_behind = refl; all = sym (append-nil _) }))
    (c.first_updates.ensures [] told)

pub second_updates-requires-clause-repeated : goal.second_updates-requires-clause-repeated
second_updates-requires-clause-repeated c =
    let xs = c.args.firsts.items in
    let ys = c.args.tracked.mappings.items in
    let whole : c.as_slice-3.result.now ≡ xs ++ ys = c.as_slice-3.ensures.value ∙ c.in_ok-append.ensures.items in
    let at : c.len-firsts_len.result ≡ length xs = omega (
      arith,
      c.len-firsts_len.ensures,
      c.args.firsts.ok.0,
      c.args.firsts.ok.1,
    ) in
    let (front, back) = split_again xs ys c.as_slice-3.result.now _ _ _ whole at c.split_at.ensures.front
    c.split_at.ensures.back in
    rw (front, back, c.as_slice-7.ensures.value)
    (flag_known xs ys _ c.requires.seconds.apart
    (rw (c.as_slice-2.ensures.value, c.in_ok-append.ensures.items) at c.in_ok-repeated.ensures.ok))

pub second_updates-requires-clause-nested : goal.second_updates-requires-clause-nested
second_updates-requires-clause-nested c =
    let xs = c.args.firsts.items in
    let ys = c.args.tracked.mappings.items in
    let whole : c.as_slice-3.result.now ≡ xs ++ ys = c.as_slice-3.ensures.value ∙ c.in_ok-append.ensures.items in
    let at : c.len-firsts_len.result ≡ length xs = omega (
      arith,
      c.len-firsts_len.ensures,
      c.args.firsts.ok.0,
      c.args.firsts.ok.1,
    ) in
    let (front, back) = split_again xs ys c.as_slice-3.result.now _ _ _ whole at c.split_at.ensures.front
    c.split_at.ensures.back in
    let told : TellNested (map mapped_of xs ++ map mapped_of ys) c.in_ok-nested.nested =
    rw (c.as_slice-4.ensures.value, c.in_ok-append.ensures.items, map-append mapped_of xs ys) at
    c.in_ok-nested.ensures in
    rw (front, back) told

pub first_updates-requires-2-clause-mappings : goal.first_updates-requires-2-clause-mappings
first_updates-requires-2-clause-mappings c =
    let xs = c.args.firsts.items in
    let at : c.len-firsts_len.result ≡ length xs = omega (
      arith,
      c.len-firsts_len.ensures,
      c.args.firsts.ok.0,
      c.args.firsts.ok.1,
    ) in
    let back : c.truncate.new.self.items ≡ xs =
    (split_again xs c.args.tracked.mappings.items _ _ _ _ c.in_ok-append.ensures.items at c.truncate.ensures.items
    refl).0 in
    rw back c.requires.firsts

pub first_updates-requires-2-clause-verdicts : goal.first_updates-requires-2-clause-verdicts
first_updates-requires-2-clause-verdicts c =
    let xs = c.args.firsts.items in
    let ys = c.args.tracked.mappings.items in
    let whole : c.as_slice-3.result.now ≡ xs ++ ys = c.as_slice-3.ensures.value ∙ c.in_ok-append.ensures.items in
    let at : c.len-firsts_len.result ≡ length xs = omega (
      arith,
      c.len-firsts_len.ensures,
      c.args.firsts.ok.0,
      c.args.firsts.ok.1,
    ) in
    let back : c.truncate.new.self.items ≡ xs =
    (split_again xs ys _ _ _ _ c.in_ok-append.ensures.items at c.truncate.ensures.items refl).0 in
    let front = (split_again xs ys c.as_slice-3.result.now _ _ _ whole at c.split_at.ensures.front
    c.split_at.ensures.back).0 in
    let told : TellNested (map mapped_of xs ++ map mapped_of ys) c.in_ok-nested.nested =
    rw (c.as_slice-4.ensures.value, c.in_ok-append.ensures.items, map-append mapped_of xs ys) at
    c.in_ok-nested.ensures in
    let verdicts : AreVerdicts (map mapped_of xs) (map mapped_of ys) c.in_ok-verdicts-2.verdicts.items =
    rw front at (c.in_ok-verdicts-2.ensures (map mapped_of ys) (rw front told)) in
    omega (
      arith,
      zip_long _ _ _ verdicts,
      length-map xs mapped_of,
      ap length back,
      ap length c.as_slice-8.ensures.value,
    )

pub returns : goal.returns
returns c =
    let xs = c.args.firsts.items in
    let ys = c.args.tracked.mappings.items in
    let at : c.len-firsts_len.result ≡ length xs = omega (
      arith,
      c.len-firsts_len.ensures,
      c.args.firsts.ok.0,
      c.args.firsts.ok.1,
    ) in
    let back : c.truncate.new.self.items ≡ xs =
    (split_again xs ys _ _ _ _ c.in_ok-append.ensures.items at c.truncate.ensures.items refl).0 in
    let whole : c.as_slice-3.result.now ≡ xs ++ ys = c.as_slice-3.ensures.value ∙ c.in_ok-append.ensures.items in
    let (front, rest) = split_again xs ys c.as_slice-3.result.now _ _ _ whole at c.split_at.ensures.front
    c.split_at.ensures.back in
    let told : TellNested (map mapped_of xs ++ map mapped_of ys) c.in_ok-nested.nested =
    rw (c.as_slice-4.ensures.value, c.in_ok-append.ensures.items, map-append mapped_of xs ys) at
    c.in_ok-nested.ensures in
    let verdicts : AreVerdicts (map mapped_of xs) (map mapped_of ys) c.in_ok-verdicts-2.verdicts.items =
    rw front at (c.in_ok-verdicts-2.ensures (map mapped_of ys) (rw front told)) in
    let first = subst (λ (l : List Mapping). AreFirst (map asked_of c.args.asked.now) (map mapped_of l)
    (map mapped_of ys) (map planned_of c.in_ok-updates.updates.items)) back
    (c.in_ok-updates.ensures (map mapped_of ys) (rw (back, c.as_slice-8.ensures.value) verdicts)) in
    judged_of _ _ _ xs ys _ _ c.in_ok-updates.updates.items c.in_ok-besides.besides.items _ (front, rest) first
    (rw (c.as_slice-5.ensures.value, c.as_slice-6.ensures.value) at c.in_ok-besides.ensures)
    c.in_ok-append-2.ensures.items
