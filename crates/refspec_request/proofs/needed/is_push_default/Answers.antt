use Rattle.std.proofs.Common.{◌∙◌, ap, bytes_eq, codes}
use Rattle.refspec_request.proofs.SettingLemmas.{same_bytes}
use Rattle.refspec_request.proofs.needed.is_push_default.Goals as goal

pub returns : goal.returns
returns c = same_bytes c.args.key.now (codes "remote.pushdefault") c.eq.result
    (c.eq.ensures ∙ ap (λ z. bytes_eq c.args.key.now z) c.as_slice.ensures)
