-- The sources by the kind of the side, of which an accepted spec has one.
use Rattle.gix_refspec_lint.proofs.Common.{◌≡◌, Some, inl, map, map-id, option_map, sym, ap, ◌∙◌, rules}
use Rattle.gix_refspec_lint.proofs.Common.{YieldsList-from_vec, YieldsList-end, bstr_bytes, bstring_bytes, HasKind}
use Rattle.gix_refspec_lint.proofs.Common.{reading_of, accepted_few, name, start_of}
use Rattle.gix_refspec_lint.proofs.lemmas.{RemovalLemmas.{AreNamedAs, named_there}, SourceLemmas.only_pushed}
use Rattle.gix_refspec_text.specs.Private.SideViews.{kind_of_side}
use Rattle.gix_refspec_lint.proofs.removal.pruning.sources_named.Goals.{in-Pattern, in-Object}
use Rattle.gix_refspec_lint.proofs.removal.pruning.sources_named.Goals.{in-FullName+in_ok-from_slice-in-FullName+in_ok-push-in-FullName}
use Rattle.gix_refspec_lint.proofs.removal.pruning.sources_named.Goals.{in-Partial+in_ok-candidate-items-in-Partial+in-None}
use Rattle.gix_refspec_lint.proofs.removal.pruning.sources_named.Goals as goal

pub kind_of-requires : goal.kind_of-requires
kind_of-requires c =
    rw c.as_bytes.ensures
    (accepted_few _ _ c.args.spec.now.accepted (inl (sym c.source.ensures ∙ ap (option_map bstr_bytes) c.in-Some.is)))

pub returns : goal.returns
returns c s named =
    let x = bstr_bytes c.in-Some.side in
    let source : option_map bstr_bytes c.args.spec.now.src ≡ Some x = sym c.source.ensures
    ∙ ap (option_map bstr_bytes) c.in-Some.is in
    let of : HasKind x (kind_of_side c.kind_of.result) = rw c.as_bytes.ensures at c.kind_of.ensures in
    let are : AreNamedAs x (kind_of_side c.kind_of.result) (map start_of c.match-kind_of.sources.items) =
    elim c.match-kind_of.branch [
      | in-Pattern w ↦ rw w.in-Pattern.is tt
      | in-Object w ↦ rw w.in-Object.is tt
      | in-FullName+in_ok-from_slice-in-FullName+in_ok-push-in-FullName w ↦ rw (w.in-FullName.is, w.sources-is)
          (only_pushed _ _ _ (name x) c.new-sources.ensures.items w.in_ok-push-in-FullName.ensures.items
          (w.source_named.ensures ∙ ap name w.in_ok-from_slice-in-FullName.ensures))
      | in-Partial+in_ok-candidate-items-in-Partial+in-None w ↦ rw (w.in-Partial.is, w.sources-is)
          (let end = YieldsList-end
          (YieldsList-from_vec {s = w.into_iter-candidate-iterator.result}
          w.in_ok-candidate-items-in-Partial.candidate-items.items (search rules) (search rules))
          w.loop-candidate.yielded w.loop-candidate.candidate-iterator w.loop-candidate.yielded_by w.next.result
          w.next.new.self w.in-None.is w.next.ensures.steps in
          w.loop-candidate.invariant ∙ ap (λ l. map name (map bstring_bytes l)) (sym (map-id w.loop-candidate.yielded)
          ∙ end.0) ∙ ap (map name) w.in_ok-candidate-items-in-Partial.ensures)
    ] in
    named_there (reading_of c.args.spec.now) x source (kind_of_side c.kind_of.result) of
    (map start_of c.match-kind_of.sources.items) are s named
