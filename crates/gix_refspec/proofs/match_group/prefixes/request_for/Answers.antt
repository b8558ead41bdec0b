-- Nothing for an empty list, and the list if it can be sent.
use Rattle.gix_refspec.proofs.Common.{[], ap, arith, bstring_bytes, eqb-true, false≢true, length, map, nil_from_length}
use Rattle.gix_refspec.proofs.Common.{refl, sym, ℕ, ◌==◌, ◌≡◌, ◌∙◌}
use Rattle.std.specs.Vec.{vec_len}
use Rattle.gix_refspec.proofs.match_group.prefixes.request_for.Goals as goal

pub returns-then-is_empty : goal.returns-then-is_empty
returns-then-is_empty c =
    let list = c.args.list in
    let empty = eqb-true _ _ (sym c.is_empty.ensures ∙ c.if-is_empty.true) in
    ap (map bstring_bytes) (nil_from_length list.items (omega (arith, empty, list.ok.0, list.ok.1)))

pub returns-then-can_be_sent : goal.returns-then-can_be_sent
returns-then-can_be_sent c = (
  refl,
  (λ none.
      let list = c.args.list in
      let empty : vec_len list ≡ 0 = omega (arith, ap length none, list.ok.0, list.ok.1) in
      false≢true (sym c.if-is_empty.false ∙ c.is_empty.ensures ∙ ap (λ (n : ℕ). n == 0) empty)),
  rw c.as_slice.ensures.value at (rw c.if-can_be_sent.true at c.can_be_sent.ensures),
)

pub returns : goal.returns
returns c = rw c.as_slice.ensures.value at (rw c.if-can_be_sent.false at c.can_be_sent.ensures)
