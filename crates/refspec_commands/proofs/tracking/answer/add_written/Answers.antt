-- A mapping with a destination adds its name.
use Rattle.std.proofs.Common.{◌++◌, ◌∷◌, [], map, take, take_all, sym, subst, ap, ◌∙◌, List, Bor, ℕ, BTreeSet, Some}
use Rattle.std.proofs.lemmas.List.{append-nil}
use Rattle.std.specs.Option.{option_map}
use Rattle.gix_refspec.specs.Views.Group.{mapped_of, name_bytes}
use Rattle.gix_refspec_match.specs.declared.types.Mapping.{Mapping}
use Rattle.refspec_commands.specs.Track.{AreWritten}
use Rattle.refspec_commands.proofs.TrackLemmas.{AreWritten-more, AreWritten-next, AreWritten-none}
use Rattle.refspec_commands.proofs.tracking.answer.add_written.Goals.{in-Some+in_ok-insert, in_default}
use Rattle.refspec_commands.proofs.tracking.answer.add_written.Goals as goal

pub loop-mapping-init : goal.loop-mapping-init
loop-mapping-init c = λ before is. subst (AreWritten c.args.written.now) (sym (append-nil before)) is

pub loop-mapping-preserved : goal.loop-mapping-preserved
loop-mapping-preserved c = λ before is.
    let so_far = before ++ map mapped_of (take c.loop-mapping.mapping-index c.args.mappings.now) in
    AreWritten-next c.match-mapping.written before c.args.mappings.now c.loop-mapping.mapping-index
    c.mapping-item.result c.loop-mapping-test.true c.mapping-item.is (elim c.match-mapping.branch [
      | in-Some+in_ok-insert w ↦ subst (λ (s : BTreeSet (Bor (List ℕ))). AreWritten s (so_far ++ mapped_of
          c.mapping-item.result ∷ [])) (sym w.written-is)
          (AreWritten-more c.loop-mapping.written w.insert.new.self w.as_bytes.result so_far (mapped_of
          c.mapping-item.result) w.in_ok-insert.ensures.updates (ap (option_map name_bytes) w.in-Some.is ∙ ap Some
          (sym (w.as_bytes.ensures ∙ w.as_bstr.ensures))) (c.loop-mapping.invariant before is))
      | in_default w ↦ subst (λ (s : BTreeSet (Bor (List ℕ))). AreWritten s (so_far ++ mapped_of c.mapping-item.result ∷
          [])) (sym w.written-is)
          (AreWritten-none c.loop-mapping.written so_far (mapped_of c.mapping-item.result) (ap (option_map name_bytes)
          w.in_default.is) (c.loop-mapping.invariant before is))
    ])

pub returns : goal.returns
returns c = λ before is. subst (λ (l : List Mapping). AreWritten c.loop-mapping.written (before ++ map mapped_of l))
    (take_all c.loop-mapping.mapping-index c.args.mappings.now c.loop-mapping-test.false) (c.loop-mapping.invariant
    before is)
