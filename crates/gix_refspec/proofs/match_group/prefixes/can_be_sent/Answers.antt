-- The list is short enough, and so is each ref prefix.
use Rattle.gix_refspec.proofs.Common.{ap, arith, bstring_bytes, codes, each_mapped, length, length-map, one_more_mapped}
use Rattle.gix_refspec.proofs.Common.{refl, take_all, ◌+◌, ◌≡◌, ◌≤◌}
use Rattle.gix_refspec.proofs.match_group.prefixes.can_be_sent.Goals as goal

pub returns-then-list-gt-MOST_PREFIXES : goal.returns-then-list-gt-MOST_PREFIXES
returns-then-list-gt-MOST_PREFIXES c = λ sent. omega (
  arith,
  sent.few,
  length-map c.args.list.now bstring_bytes,
)

pub returns-then-as_bytes-gt-LONGEST_PREFIX : goal.returns-then-as_bytes-gt-LONGEST_PREFIX
returns-then-as_bytes-gt-LONGEST_PREFIX c = λ sent.
    let keyword : length (codes "ref-prefix ") ≡ 11 = refl in
    let short = each_mapped bstring_bytes (λ p. length (codes "ref-prefix ") + length p ≤ 65516) c.args.list.now
    c.loop-prefix.prefix-index c.prefix-item.result sent.short c.loop-prefix-test.true c.prefix-item.is in
    omega (arith, keyword, short, ap length c.as_bytes.ensures)

pub loop-prefix-preserved : goal.loop-prefix-preserved
loop-prefix-preserved c =
    let keyword : length (codes "ref-prefix ") ≡ 11 = refl in
    one_more_mapped bstring_bytes (λ p. length (codes "ref-prefix ") + length p ≤ 65516) c.args.list.now
    c.loop-prefix.prefix-index c.prefix-item.result c.loop-prefix.invariant c.loop-prefix-test.true c.prefix-item.is
    (omega (arith, keyword, ap length c.as_bytes.ensures))

pub returns : goal.returns
returns c = record {
  few = omega (arith, length-map c.args.list.now bstring_bytes);
  short = rw (take_all c.loop-prefix.prefix-index c.args.list.now c.loop-prefix-test.false) at c.loop-prefix.invariant;
}
