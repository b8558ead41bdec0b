use Rattle.gix_refspec_remote.proofs.Common.{refl, false≢true, bstr_bytes, reading_of}
use Rattle.gix_refspec_remote.proofs.lemmas.UpstreamLemmas.{named_excluded, nothing_excluded, turned_excluded}
use Rattle.gix_refspec_remote.proofs.upstreams.excluded_by.Goals as goal

pub returns-then-names : goal.returns-then-names
returns-then-names c = named_excluded c.args.exclusions.now (bstr_bytes c.args.merge) (reading_of c.args.spec.now)
    (c.if-names.ensures.0 refl) c.spec_of.result (rw c.as_bytes.ensures at c.spec_of.ensures)

pub returns-in-None : goal.returns-in-None
returns-in-None c = nothing_excluded c.args.exclusions.now (bstr_bytes c.args.merge) (reading_of c.args.spec.now)
    (λ names. false≢true (c.if-names.ensures.1 names)) (rw c.in-None.is at c.in_ok-turned.ensures)

pub returns-in-Some : goal.returns-in-Some
returns-in-Some c = turned_excluded c.args.exclusions.now (bstr_bytes c.args.merge) _ (reading_of c.args.spec.now)
    (λ names. false≢true (c.if-names.ensures.1 names)) (rw c.in-Some.is at c.in_ok-turned.ensures) c.spec_of-by.result
    (rw (c.as_bytes-asked.ensures, c.as_bstr.ensures) at c.spec_of-by.ensures)
