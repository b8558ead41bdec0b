-- The variable of the key is compared.
use Rattle.std.proofs.Common.{◌≡◌, ◌∙◌, ap, bytes_eq, codes}
use Rattle.refspec_request.proofs.SettingLemmas.{key_where, same_bytes}
use Rattle.refspec_request.proofs.remotes.is_instead_of.Goals as goal

pub returns-in-Some : goal.returns-in-Some
returns-in-Some c = key_where (codes "url") c.args.key.now c.in-Some.field-0-0.now c.in-Some.variable.now
    (λ base variable. variable ≡ codes "insteadof") c.eq.result c.in-Some.ensures
    (same_bytes c.in-Some.variable.now (codes "insteadof") c.eq.result
    (c.eq.ensures ∙ ap (λ z. bytes_eq c.in-Some.variable.now z) c.as_slice.ensures))
