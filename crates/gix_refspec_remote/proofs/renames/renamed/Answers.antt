use Rattle.gix_refspec_remote.proofs.Common.{◌++◌, ◌∙◌, ap, bstr_bytes, bstring_bytes, codes}
use Rattle.gix_refspec_remote.proofs.lemmas.RenameLemmas.{contained_nowhere, renamed_is}
use Rattle.gix_refspec_remote.proofs.renames.renamed.Goals as goal

pub returns-in-None : goal.returns-in-None
returns-in-None c =
    rw (
      c.as_bytes-value.ensures,
      c.as_bytes-found.ensures,
      c.as_bstr.ensures,
      c.in_ok-found.ensures,
      c.as_bytes.ensures,
    )
    at (contained_nowhere c.as_bytes-value.result.now c.as_bytes-found.result.now c.in-None.ensures)

pub returns : goal.returns
returns c =
    let found = c.as_bytes-found.ensures ∙ c.as_bstr.ensures ∙ c.in_ok-found.ensures
    ∙ ap (λ y. codes ":refs/remotes/" ++ (y ++ codes "/")) c.as_bytes.ensures in
    let put = c.as_bytes-in-Some.ensures ∙ c.as_bstr-in-Some.ensures ∙ c.in_ok-put.ensures
    ∙ ap (λ y. codes ":refs/remotes/" ++ (y ++ codes "/")) c.as_bytes-2.ensures in
    renamed_is (bstr_bytes c.args.value) (bstr_bytes c.args.old) (bstr_bytes c.args.new)
    (bstring_bytes c.in_ok-text-in-Some.text) c.as_bytes-value.result.now c.as_bytes-found.result.now
    c.as_bytes-in-Some.result.now c.in-Some.index c.as_bytes-value.ensures found put c.in-Some.ensures.0
    c.in-Some.ensures.1 c.in_ok-text-in-Some.ensures
