use Rattle.gix_refspec_plan.proofs.Common.{[], ℕ, List, ap, subst, lookup, bytes_eq, BStr, bstr_bytes, nil_from_length}
use Rattle.gix_refspec_plan.proofs.Common.{HasNameState, state_for, option_map, map, refl, sym, take, take_all, arith}
use Rattle.gix_refspec_plan.proofs.Common.{bstring_bytes, length-map, reading_of, IsWrittenBy}
use Rattle.gix_refspec_plan.proofs.lemmas.plan.NameLemmas.{zip_long, zip_mapped_at}
use Rattle.gix_refspec_plan.proofs.lemmas.plan.MadeLemmas.{nothing_in}
use Rattle.gix_refspec_plan.proofs.lemmas.stale.{StateLemmas.all_accepted, PatternLemmas.writers_next}
use Rattle.gix_refspec_text.proofs.lemmas.lists.MapLemmas.{map_next}
use Rattle.gix_refspec_plan.proofs.stale.Writers.of.Goals as goal

pub loop-index-init : goal.loop-index-init
loop-index-init c =
    let unnamed : (n : List ℕ) → HasNameState c.in_ok-of.field-0 [] n (state_for c.new.result n) = λ n.
    subst (HasNameState c.in_ok-of.field-0 [] n)
    (sym (ap (lookup (λ (k : BStr). bytes_eq n (bstr_bytes k)))
    (nil_from_length c.new.result.entries c.new.ensures.len))) (λ r there writes. nothing_in [] r refl there) in (
      c.in_ok-of.ensures.names,
      c.in_ok-of.ensures.indexes,
      record { exclusions = refl; names = unnamed; patterns = c.new-2.ensures.items },
    )

pub bounds-names-index : goal.bounds-names-index
bounds-names-index c = omega (
  arith,
  zip_long IsWrittenBy _ _ c.requires,
  length-map c.args.specs.now reading_of,
  length-map c.args.names.now (option_map bstring_bytes),
  c.loop-index-test.true,
)

pub loop-index-preserved : goal.loop-index-preserved
loop-index-preserved c =
    let specs = c.args.specs.now in
    let i = c.loop-index.index in
    let s = c.index-specs-index.result in
    let n = c.index-names-index.result in
    let written = zip_mapped_at IsWrittenBy reading_of (option_map bstring_bytes) specs c.args.names.now i s n
    c.requires c.loop-index-test.true c.index-specs-index.is c.index-names-index.is in
    rw (map_next reading_of specs i s c.loop-index-test.true c.index-specs-index.is) (elim c.match-names-index.branch [
      | goal.in-Some+in_ok-add_name-in-Some w ↦
          rw w.writers-is (writers_next (map reading_of specs) (map reading_of (take i specs)) _ c.loop-index.writers
          w.add_name.new.self c.loop-index.invariant
          (w.in_ok-add_name-in-Some.ensures (map reading_of (take i specs)) c.loop-index.writers.exclusions
          (rw (w.in-Some.is, sym w.as_bstr.ensures) at written)))
      | goal.in-None+in_ok-add_pattern-in-None w ↦
          rw w.writers-is (writers_next (map reading_of specs) (map reading_of (take i specs)) _ c.loop-index.writers
          w.add_pattern.new.self c.loop-index.invariant
          (w.in_ok-add_pattern-in-None.ensures (map reading_of (take i specs)) c.loop-index.writers.exclusions
          (rw w.in-None.is at written)))
    ])

pub returns : goal.returns
returns c =
    let (of, at, are) = rw (take_all c.loop-index.index c.args.specs.now (omega arith)) at c.loop-index.invariant in
    record { accepted = all_accepted c.args.specs.now; excluded = of; excluded_at = at; are = are }
