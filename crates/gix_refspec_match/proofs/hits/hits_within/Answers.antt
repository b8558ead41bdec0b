-- The index has the names of each matcher, whose hits are behind those of the others.
use Rattle.gix_refspec_match.proofs.Common.{rules, All-from_recursion}
use Rattle.gix_refspec_match.proofs.lemmas.index.PlacedLemmas.{found_next, named_listed}
use Rattle.gix_refspec_match.proofs.hits.hits_within.Goals as goal

pub add_hits-requires : goal.add_hits-requires
add_hits-requires c = search (
  rules,
  named_listed,
  All-from_recursion,
  c.deref-matcher-items.ensures.value,
  c.in_ok-names.ensures,
  c.in_ok-index.ensures,
  c.loop-matcher_index-test.true,
)

pub loop-matcher_index-preserved : goal.loop-matcher_index-preserved
loop-matcher_index-preserved c = search (
  rules,
  found_next,
  c.deref-matcher-items.ensures.value,
  c.loop-matcher_index-test.true,
  c.if-not-is_within.false,
  c.in_ok-is_within.ensures,
  c.loop-matcher_index.invariant,
)
