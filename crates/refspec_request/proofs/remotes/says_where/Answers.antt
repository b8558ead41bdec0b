-- The name of the key is compared, and its variable tested.
use Rattle.std.proofs.Common.{◌≡◌, ◌⊎◌, ◌∙◌, codes, sym}
use Rattle.std.proofs.lemmas.Bool.{false≢true}
use Rattle.refspec_request.proofs.SettingLemmas.{key_where, same_bytes}
use Rattle.refspec_request.proofs.remotes.says_where.Goals as goal

pub returns-then-eq : goal.returns-then-eq
returns-then-eq c =
    key_where (codes "remote") c.args.setting.now.key.now c.in-Some.other.now c.in-Some.variable.now
    (λ other variable. (other ≡ c.args.name.now) × ((variable ≡ codes "url") ⊎ (variable ≡ codes "vcs")))
    c.is_location.result c.in-Some.ensures (
      (λ so. (
        (same_bytes c.in-Some.other.now c.args.name.now c.eq.result c.eq.ensures).0 c.if-eq.true,
        c.is_location.ensures.0 so,
      )),
      λ both. c.is_location.ensures.1 both.1,
    )

pub returns-else-eq : goal.returns-else-eq
returns-else-eq c =
    key_where (codes "remote") c.args.setting.now.key.now c.in-Some.other.now c.in-Some.variable.now
    (λ other variable. (other ≡ c.args.name.now) × ((variable ≡ codes "url") ⊎ (variable ≡ codes "vcs")))
    c.eq.result c.in-Some.ensures (
      (λ so. absurd (false≢true (sym c.if-eq.false ∙ so))),
      λ both. (same_bytes c.in-Some.other.now c.args.name.now c.eq.result c.eq.ensures).1 both.0,
    )
