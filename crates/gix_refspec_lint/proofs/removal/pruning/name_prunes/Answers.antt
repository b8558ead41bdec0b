use Rattle.gix_refspec_lint.proofs.Common.{option_map, sym, ap, ◌∙◌, map, bstr_bytes, reading_of, start_of, IfOk-weaker}
use Rattle.gix_refspec_lint.proofs.lemmas.RemovalLemmas.{told_else}
use Rattle.gix_refspec_lint.proofs.lemmas.StaleLemmas.{missing_never, none_written, plain_same}
use Rattle.gix_refspec_lint.specs.Private.Removals.{all_of, rest_of}
use Rattle.gix_refspec_lint.proofs.removal.pruning.name_prunes.Goals as goal

pub returns-in_default : goal.returns-in_default
returns-in_default c r are done positive =
    none_written (all_of c.args.lists.now) (rest_of c.args.lists.now) r are.values positive
    (missing_never r (reading_of c.args.spec.now) done
    (sym c.destination.ensures ∙ ap (option_map bstr_bytes) c.in_default.is))

pub returns : goal.returns
returns c r are done positive =
    let has = sym c.destination.ensures ∙ ap (option_map bstr_bytes) c.in-Some.is in
    IfOk-weaker c.differs_at.result _ _
    (λ does. told_else _ _ _ does (plain_same (all_of c.args.lists.now) (rest_of c.args.lists.now) r
    (reading_of c.args.spec.now) are.values positive done c.requires (bstr_bytes c.in-Some.destination) has
    (map start_of c.in_ok-sources.sources.items) c.in_ok-sources.ensures))
    (rw (c.as_bytes.ensures, c.as_slice.ensures.value) at c.differs_at.ensures)
