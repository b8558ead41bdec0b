use Rattle.gix_refspec_remote.proofs.Common.{arith, bstr_bytes, false≢true, map, reading_of, Fetches}
use Rattle.gix_refspec_remote.proofs.lemmas.IndexLemmas.{none_all, none_more, read_at}
use Rattle.gix_refspec_remote.proofs.upstreams.untracked_in.Goals as goal

pub loop-spec_index-preserved : goal.loop-spec_index-preserved
loop-spec_index-preserved c =
    let specs = c.args.specs.now in
    let i = c.loop-spec_index.spec_index in
    let spec = c.index-specs-spec_index.result in
    none_more (Fetches (bstr_bytes c.args.merge)) (map reading_of specs) i (reading_of spec)
    (read_at specs i spec c.loop-spec_index-test.true c.index-specs-spec_index.is)
    (λ fetches. false≢true (c.if-fetches.ensures.1 fetches)) c.loop-spec_index.invariant

pub returns : goal.returns
returns c = none_all (Fetches (bstr_bytes c.args.merge)) c.args.specs.now c.loop-spec_index.spec_index (omega arith)
    c.loop-spec_index.invariant
