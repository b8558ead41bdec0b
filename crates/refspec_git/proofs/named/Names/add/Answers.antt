-- The set tells whether the name is new.
use Rattle.std.proofs.Common.{◌≡◌, ◌∙◌, sym, not, true, false, Bool, refl}
use Rattle.std.proofs.lemmas.Bool.{false≢true}
use Rattle.refspec_git.proofs.NamedLemmas.{AreSeen-new, AreSeen-same}
use Rattle.refspec_git.proofs.named.Names.add.Goals as goal

-- what is not false is true, and the other way round
was_false : (b r : Bool) → r ≡ not b → r ≡ true → b ≡ false
was_false true r same it = absurd (false≢true (sym same ∙ it))
was_false false r same it = refl

was_true : (b r : Bool) → r ≡ not b → r ≡ false → b ≡ true
was_true true r same it = refl
was_true false r same it = absurd (false≢true (sym it ∙ same))

pub returns-in_ok-push : goal.returns-in_ok-push
returns-in_ok-push c = λ all seen. AreSeen-new all _ _ c.args.name c.in_ok-from_slice.field-0
    (c.in_ok-from_slice.ensures.items ∙ c.as_slice.ensures.value)
    c.in_ok-insert.ensures.updates (was_false _ c.in_ok-insert.field-0 c.in_ok-insert.ensures.added c.if-branch.true)
    c.in_ok-push.ensures.items seen

pub returns-else-branch : goal.returns-else-branch
returns-else-branch c = λ all seen. AreSeen-same all _ _ c.args.name c.in_ok-from_slice.field-0
    (c.in_ok-from_slice.ensures.items ∙ c.as_slice.ensures.value)
    c.in_ok-insert.ensures.updates (was_true _ c.in_ok-insert.field-0 c.in_ok-insert.ensures.added c.if-branch.false)
    refl seen
