-- the index of a key that doesn't begin its run becomes that of the first one
use Rattle.gix_refspec_match.proofs.Common.{rules, arith, [], ◌≡◌, sym, ◌∙◌, nil_from_length}
use Rattle.gix_refspec_match.proofs.lemmas.duplicates.HashKeyLemmas.{all_first, run_begins, run_goes_on}
use Rattle.gix_refspec_match.proofs.duplicates.firsts_by_key.Goals as goal

pub loop-at-preserved-then-upper_bits : goal.loop-at-preserved-then-upper_bits
loop-at-preserved-then-upper_bits c = search (
  rules,
  run_begins,
  c.loop-at.invariant,
  c.if-upper_bits.true,
  c.upper_bits.ensures,
  c.upper_bits-in-loop-at.ensures,
)

pub loop-at-preserved : goal.loop-at-preserved
loop-at-preserved c =
    let same = sym c.upper_bits.ensures ∙ c.if-upper_bits.false ∙ c.upper_bits-in-loop-at.ensures in
    rw (c.lower_bits.ensures, c.lower_bits-in-loop-at.ensures) (elim c.if-is_empty.branch [
      | goal.then-is_empty+in_ok-firsts w ↦
          let none : c.loop-at.firsts.items ≡ [] =
          nil_from_length _ (grind (arith, c.is_empty.ensures, w.if-is_empty.true)) in
          rw w.firsts-is (run_goes_on (all_first c.loop-at.invariant none w.in_ok-firsts.ensures) c.requires.rises
          c.requires.inside w.in_ok-firsts.ensures.size c.loop-at-test.true same)
      | goal.else-is_empty w ↦
          rw w.firsts-is (run_goes_on c.loop-at.invariant c.requires.rises c.requires.inside
          (grind (arith, c.is_empty.ensures, w.if-is_empty.false, c.loop-at.invariant.size)) c.loop-at-test.true
          same)
    ])

pub returns : goal.returns
returns c = let are = c.loop-at.invariant in record {
  size = are.size;
  back = are.back;
  found =
      λ i k second. are.found i (omega (arith, second.inside)) k second;
}
