-- The configured specs go, or those of `--refmap` take their place, or they stay.
use Rattle.std.proofs.Common.{◌∙◌, Bor, Global, List, String, ap, map, sym, ℕ}
use Rattle.std.proofs.lemmas.Bool.{eqb-false, eqb-true}
use Rattle.refspec_io.specs.Texts.{given_of}
use Rattle.refspec_git.specs.Wanted.{refmap_text}
use Rattle.refspec_git.proofs.WantedLemmas.{is_none, is_some, made_some, none_in, some_in, texts_alone, texts_kept}
use Rattle.refspec_git.proofs.WantedLemmas.{none_given, other_command, texts_of_refmap}
use Rattle.refspec_git.proofs.specs.mapping_specs.Goals as goal
use Rattle.refspec_git.proofs.specs.mapping_specs.Goals.{else-is_stale+else-not-is_empty-3}
use Rattle.refspec_git.proofs.specs.mapping_specs.Goals.{then-is_stale+then-not-is_empty-2}
use Rattle.refspec_git.proofs.specs.mapping_specs.Goals.{else-is_stale+then-not-is_empty-3+in_ok-specs-2}
use Rattle.refspec_git.proofs.specs.mapping_specs.Goals.{else-is_stale-via-else-is_stale}
use Rattle.refspec_git.proofs.specs.mapping_specs.Goals.{else-is_stale-via-then-is_stale+else-not-is_empty-2}

abbrev now : Bor (List ℕ) → List ℕ
now text = text.now

abbrev bytes_of : String Global → List ℕ
bytes_of t = t.bytes.items

pub returns-clause-ok : goal.returns-clause-ok
returns-clause-ok c =
    let all = c.in_ok-specs.specs in
    let request = c.args.request.now in
    let command = request.command in
    let given = map bytes_of all.given.items in
    let refmap = map now request.refmap.items in
    let configured = map given_of all.configured.items in
    elim c.if-is_stale.branch [
      | then-is_stale+then-not-is_empty-2 w ↦ record {
        all = all;
        are = c.in_ok-specs.ensures.ok;
        given = ap (λ s. s.given) w.specs-is;
        merges = ap (λ s. s.merges) w.specs-is;
        tags = ap (λ s. s.tags) w.specs-is;
        configured = ap (λ s. map given_of s.configured.items) w.specs-is ∙ (ap (map given_of) w.clear.ensures.items
            ∙ texts_alone command given refmap configured (sym c.is_stale.ensures ∙ w.if-is_stale.true)
            (is_some given (made_some bytes_of all.given.items (some_in all.given
            (eqb-false _ _ (sym w.is_empty-then-is_stale.ensures ∙ w.if-not-is_empty-2.true))))));
      }
      | else-is_stale+then-not-is_empty-3+in_ok-specs-2 w ↦ record {
        all = all;
        are = c.in_ok-specs.ensures.ok;
        given = ap (λ s. s.given) w.specs-is;
        merges = ap (λ s. s.merges) w.specs-is;
        tags = ap (λ s. s.tags) w.specs-is;
        configured = ap (λ s. map given_of s.configured.items) w.specs-is ∙ (w.in_ok-specs-2.ensures
            ∙ (ap (λ l. map refmap_text (map now l)) w.as_slice.ensures.value
            ∙ texts_of_refmap command given refmap configured (elim w.else-is_stale.branch [
              | else-is_stale-via-then-is_stale+else-not-is_empty-2 o ↦
                  none_given command given refmap configured (ap (map bytes_of) (none_in all.given
                  (eqb-true _ _ (sym o.is_empty-then-is_stale.ensures ∙ o.if-not-is_empty-2.false))))
              | else-is_stale-via-else-is_stale o ↦
                  other_command command given refmap configured (sym c.is_stale.ensures ∙ o.if-is_stale.false)
            ])
            (is_some refmap (made_some now request.refmap.items (some_in request.refmap
            (eqb-false _ _ (sym w.is_empty-else-is_stale.ensures ∙ w.if-not-is_empty-3.true)))))));
      }
      | else-is_stale+else-not-is_empty-3 w ↦ record {
        all = all;
        are = c.in_ok-specs.ensures.ok;
        given = ap (λ s. s.given) w.specs-is;
        merges = ap (λ s. s.merges) w.specs-is;
        tags = ap (λ s. s.tags) w.specs-is;
        configured = ap (λ s. map given_of s.configured.items) w.specs-is
            ∙ texts_kept command given refmap configured (elim w.else-is_stale.branch [
              | else-is_stale-via-then-is_stale+else-not-is_empty-2 o ↦
                  none_given command given refmap configured (ap (map bytes_of) (none_in all.given
                  (eqb-true _ _ (sym o.is_empty-then-is_stale.ensures ∙ o.if-not-is_empty-2.false))))
              | else-is_stale-via-else-is_stale o ↦
                  other_command command given refmap configured (sym c.is_stale.ensures ∙ o.if-is_stale.false)
            ])
            (is_none refmap (ap (map now) (none_in request.refmap
            (eqb-true _ _ (sym w.is_empty-else-is_stale.ensures ∙ w.if-not-is_empty-3.false)))));
      }
    ]
