use Rattle.gix_refspec_remote.proofs.Common.{arith, bstr_bytes, map, reading_of, AsksForExcluded}
use Rattle.gix_refspec_remote.proofs.lemmas.IndexLemmas.{none_all, none_more, read_at}
use Rattle.gix_refspec_remote.proofs.lemmas.UpstreamLemmas.{excluded_here, included_next}
use Rattle.gix_refspec_remote.proofs.upstreams.excluded_in.Goals as goal

pub returns-in-Some : goal.returns-in-Some
returns-in-Some c =
    let specs = c.args.specs.now in
    let i = c.loop-spec_index.spec_index in
    let spec = c.index-specs-spec_index.result in
    let both = excluded_here (map reading_of specs) c.in_ok-exclusions.exclusions c.in_ok-exclusions.ensures.names
    c.in_ok-exclusions.ensures.indexes (bstr_bytes c.args.merge) i c.in-Some.excluded_by (reading_of spec)
    (read_at specs i spec c.loop-spec_index-test.true c.index-specs-spec_index.is)
    (rw c.in-Some.is at c.in_ok-excluded_by.ensures) in
    ((both.0, c.loop-spec_index.invariant), both.1)

pub loop-spec_index-preserved : goal.loop-spec_index-preserved
loop-spec_index-preserved c =
    let specs = c.args.specs.now in
    let i = c.loop-spec_index.spec_index in
    let spec = c.index-specs-spec_index.result in
    none_more (AsksForExcluded (map reading_of specs) (bstr_bytes c.args.merge)) (map reading_of specs) i
    (reading_of spec)
    (read_at specs i spec c.loop-spec_index-test.true c.index-specs-spec_index.is)
    (included_next (map reading_of specs) c.in_ok-exclusions.exclusions c.in_ok-exclusions.ensures.names
    c.in_ok-exclusions.ensures.indexes (bstr_bytes c.args.merge) (reading_of spec)
    (rw c.in_default.is at c.in_ok-excluded_by.ensures)) c.loop-spec_index.invariant

pub returns : goal.returns
returns c = none_all (AsksForExcluded (map reading_of c.args.specs.now) (bstr_bytes c.args.merge)) c.args.specs.now
    c.loop-spec_index.spec_index (omega arith) c.loop-spec_index.invariant
