-- The bytes of the name are compared.
use Rattle.std.proofs.Common.{◌∙◌, ap, bytes_eq}
use Rattle.refspec_request.proofs.SettingLemmas.{same_bytes}
use Rattle.refspec_request.proofs.remotes.has_name.Goals as goal

pub returns : goal.returns
returns c = same_bytes c.args.file.now.name.items c.args.name.now c.eq.result
    (c.eq.ensures ∙ ap (λ bytes. bytes_eq bytes c.args.name.now) c.as_slice.ensures.value)
