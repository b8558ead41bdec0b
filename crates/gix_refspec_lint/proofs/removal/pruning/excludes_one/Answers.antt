use Rattle.gix_refspec_lint.proofs.Common.{option_map, sym, ap, ◌∙◌, bstr_bytes, IfOk-weaker}
use Rattle.gix_refspec_lint.proofs.lemmas.{ExcludedLemmas.one_without, RemovalLemmas.told_else}
use Rattle.gix_refspec_lint.proofs.removal.pruning.excludes_one.Goals as goal

pub returns : goal.returns
returns c r are done q writes =
    let has = sym c.source.ensures ∙ ap (option_map bstr_bytes) c.in-Some.is in
    IfOk-weaker c.differs_from.result _ _
    (λ does. told_else _ _ _ does (one_without c.args.lists.now r are (sym done.mode ∙ c.requires.negative) q _ _ _
    _ writes (bstr_bytes c.in-Some.excluded) (sym done.source ∙ has)
    (λ before after. c.requires.plain (bstr_bytes c.in-Some.excluded) before after has)))
    (rw c.as_bytes.ensures at c.differs_from.ensures)
