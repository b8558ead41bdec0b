-- The remote is configured, and has values.
use Rattle.std.proofs.Common.{◌∙◌, ◌++◌, ◌∷◌, [], List, ap, refl, subst, sym}
use Rattle.refspec_io.specs.declared.settings.Setting.{Setting}
use Rattle.refspec_git.specs.Tracking.{IsRemoteWith}
use Rattle.refspec_git.proofs.remotes.remote_named.Goals as goal

pub returns-clause-ok : goal.returns-clause-ok
returns-clause-ok c = record {
  remote = c.in_ok-remote_with.field-0;
  one = c.in_ok-push.ensures.items ∙ ap (λ l. l ++ c.in_ok-remote_with.field-0 ∷ []) c.in_ok-remotes.ensures.items;
  new = c.in_default.ensures;
  configured = c.if-not-is_configured.ensures.0 refl;
  some = λ none. (rw c.if-not-has_some.false at c.has_some.ensures)
      (c.as_slice.ensures.value ∙ (c.in_ok-values.ensures ∙ none));
  is = subst (λ (l : List Setting). IsRemoteWith c.args.name l c.in_ok-remote_with.field-0)
      (c.as_slice-2.ensures.value ∙ c.in_ok-values.ensures) c.in_ok-remote_with.ensures;
}

pub returns-then-not-has_some-clause-refused : goal.returns-then-not-has_some-clause-refused
returns-then-not-has_some-clause-refused c = (
  refl,
  c.in_default.ensures,
  c.if-not-is_configured.ensures.0 refl,
  sym (c.as_slice.ensures.value ∙ c.in_ok-values.ensures) ∙ (rw c.if-not-has_some.true at c.has_some.ensures),
)
