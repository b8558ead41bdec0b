use Rattle.gix_refspec_lint.proofs.lemmas.OneSpecLemmas.{tells_excluding}

pub returns-in-FullName : Rattle.gix_refspec_lint.proofs.group.Group.excluding.Goals.returns-in-FullName
returns-in-FullName c g is =
    rw c.in-FullName.is (tells_excluding g c.args.self.now.exclusions _ c.spec_of.result is.excluded is.excluded_at
    (rw (c.as_bytes.ensures, c.as_bstr.ensures) at c.spec_of.ensures))
