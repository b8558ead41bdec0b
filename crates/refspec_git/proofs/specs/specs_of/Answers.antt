-- The specs in the arguments, or what prunes tags, beside the fetch values.
use Rattle.std.proofs.Common.{◌∙◌, ◌++◌, ◌∷◌, Bor, Global, List, None, Some, String, [], ap, inl, inr, map, refl}
use Rattle.std.proofs.Common.{subst, sym, ℕ}
use Rattle.std.proofs.lemmas.Bool.{eqb-false, eqb-true, false≢true}
use Rattle.std.proofs.lemmas.List.{map-append}
use Rattle.gix_refspec_text.specs.declared.parsing.Operation.TheVariants as operation
use Rattle.refspec_io.specs.Texts.{given_of}
use Rattle.refspec_git.specs.Configured.{fetch_texts}
use Rattle.refspec_git.specs.Texts.{value_at}
use Rattle.refspec_git.specs.Wanted.{AreSpecs}
use Rattle.refspec_git.proofs.WantedLemmas.{made_some, none_in, some_in, wanted_alone, wanted_named}
use Rattle.refspec_git.proofs.specs.specs_of.Goals as goal
use Rattle.refspec_git.proofs.specs.specs_of.Goals.{else-is_empty, then-is_empty+in_ok-setting+in_default}
use Rattle.refspec_git.proofs.specs.specs_of.Goals.{then-is_empty+in_ok-setting+in-Some+then-is_configured+in_ok-push}

abbrev bytes_of : String Global → List ℕ
bytes_of t = t.bytes.items

pub returns-clause-ok : goal.returns-clause-ok
returns-clause-ok c =
    let r = c.args.repository.now in
    let remote = c.args.choice.now.remote.now in
    let named = c.in_ok-given.given in
    record {
      named = map bytes_of named.items;
      given = subst (λ (l : List (Bor (List ℕ))). AreSpecs (map (λ a. a.now) l) (map bytes_of named.items))
          c.as_slice.ensures.value c.in_ok-given.ensures.ok;
      wanted = elim c.if-is_empty.branch [
        | then-is_empty+in_ok-setting+in-Some+then-is_configured+in_ok-push w ↦
            let none = none_in named (eqb-true _ _ (sym c.is_empty.ensures ∙ w.if-is_empty.true)) in
            let s = w.in-Some.setting in
            wanted_alone r remote _ _ _ (Some s) (ap (map bytes_of) none) (rw w.in-Some.is at w.in_ok-setting.ensures)
            (inl (
              w.if-is_configured.ensures.0 refl,
              ap (λ v. map bytes_of v.items) w.given-is ∙ ap (map bytes_of) none,
              ap (λ v. map given_of v.items) w.configured-is ∙ (ap (map given_of) w.in_ok-push.ensures.items
                  ∙ (map-append given_of c.in_ok-configured.configured.items (w.value.result ∷ [])
                  ∙ (ap (λ l. l ++ given_of w.value.result ∷ []) c.in_ok-configured.ensures
                  ∙ ap (λ t. fetch_texts r.settings.now remote ++ t ∷ [])
                  (w.value.ensures ∙ ap (value_at s operation.Fetch) w.as_bytes.ensures.value)))),
            ))
        | goal.then-is_empty+in_ok-setting+in-Some+else-is_configured+in_ok-from_str+in_ok-push-2 w ↦
            let none = none_in named (eqb-true _ _ (sym c.is_empty.ensures ∙ w.if-is_empty.true)) in
            wanted_alone r remote _ _ _ (Some w.in-Some.setting) (ap (map bytes_of) none)
            (rw w.in-Some.is at w.in_ok-setting.ensures) (inr (
              (λ is. false≢true (w.if-is_configured.ensures.1 is)),
              ap (λ v. map bytes_of v.items) w.given-is ∙ (ap (map bytes_of) w.in_ok-push-2.ensures.items
                  ∙ (map-append bytes_of named.items (w.in_ok-from_str.field-0 ∷ [])
                  ∙ (ap (λ l. l ++ bytes_of w.in_ok-from_str.field-0 ∷ []) (ap (map bytes_of) none)
                  ∙ ap (λ t. t ∷ []) w.in_ok-from_str.ensures.ok))),
              ap (λ v. map given_of v.items) w.configured-is ∙ c.in_ok-configured.ensures,
            ))
        | then-is_empty+in_ok-setting+in_default w ↦
            let none = none_in named (eqb-true _ _ (sym c.is_empty.ensures ∙ w.if-is_empty.true)) in
            wanted_alone r remote _ _ _ None (ap (map bytes_of) none) (rw w.in_default.is at w.in_ok-setting.ensures) (
              ap (λ v. map bytes_of v.items) w.given-is ∙ ap (map bytes_of) none,
              ap (λ v. map given_of v.items) w.configured-is ∙ c.in_ok-configured.ensures,
            )
        | else-is_empty w ↦
            let long = some_in named (eqb-false _ _ (sym c.is_empty.ensures ∙ w.if-is_empty.false)) in
            wanted_named r remote (map bytes_of named.items) _ _ (made_some bytes_of named.items long)
            (ap (λ v. map bytes_of v.items) w.given-is)
            (ap (λ v. map given_of v.items) w.configured-is ∙ c.in_ok-configured.ensures)
      ];
      merges = c.in_ok-merges_of.ensures;
      tags = c.in_ok-tags_of.ensures;
    }
