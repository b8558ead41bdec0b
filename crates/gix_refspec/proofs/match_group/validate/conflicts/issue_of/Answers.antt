use Rattle.gix_refspec.proofs.Common.{◌≡◌, get_or, ◌∙◌, arith, rules, bstring_bytes, map-append, take_all}
use Rattle.gix_refspec.proofs.Common.{All-from_recursion, Update, start_of, [], ◌∷◌}
use Rattle.gix_refspec.proofs.lemmas.validate.ConflictLemmas.{conflict_from_conflicting, copied_source}
use Rattle.gix_refspec.proofs.lemmas.validate.ConflictLemmas.{conflicting_fits, spec_fits, text_at, told_more}
use Rattle.gix_refspec.proofs.lemmas.validate.UpdateLemmas.{past_end}
use Rattle.gix_refspec.proofs.match_group.validate.conflicts.issue_of.Goals as goal

pub bounds-mappings-update : goal.bounds-mappings-update
bounds-mappings-update c = conflicting_fits c.args.mappings.now c.args.run.now c.loop-update.update-index past_end
    c.requires.conflicting c.loop-update-test.true

pub offset_bounds-mappings-update : goal.offset_bounds-mappings-update
offset_bounds-mappings-update c = let below = bounds-mappings-update c in search rules

pub bounds-specs-mapping : goal.bounds-specs-mapping
bounds-specs-mapping c = search (rules, conflicting_fits, spec_fits)

pub offset_bounds-specs-mapping : goal.offset_bounds-specs-mapping
offset_bounds-specs-mapping c = let below = bounds-specs-mapping c in search rules

pub loop-update-preserved : goal.loop-update-preserved
loop-update-preserved c =
    let ms = c.args.mappings.now in
    let run = c.args.run.now in
    let i = c.loop-update.update-index in
    let m = c.index-mappings-update.result in
    let fits = conflicting_fits ms run i past_end c.requires.conflicting c.loop-update-test.true in
    let source = c.in_ok-into_owned.field-0 in
    let text = c.in_ok-to_bstring.field-0 in
    let told = told_more _ ms run i past_end m (start_of source) (bstring_bytes text) _ _ c.loop-update-test.true fits
    c.index-mappings-update.is
    (c.in_ok-into_owned.ensures.keeps ∙ copied_source m.lhs c.in_ok-clone.field-0 c.in_ok-clone.ensures.keeps)
    (text_at c.args.specs.now m.spec_index c.index-specs-mapping.result (bstring_bytes text)
    (spec_fits c.args.specs.now ms (get_or run i past_end).index m c.requires.fits fits c.index-mappings-update.is)
    c.index-specs-mapping.is c.in_ok-to_bstring.ensures)
    c.loop-update.invariant in
    rw (
      c.in_ok-push.ensures.items,
      c.in_ok-push-2.ensures.items,
      map-append start_of c.loop-update.sources.items
          (source ∷ []),
      map-append bstring_bytes c.loop-update.texts.items (text ∷ []),
    ) told

pub returns : goal.returns
returns c =
    let run = c.args.run.now in
    let conflicting = c.requires.conflicting in
    let first : (get_or run 0 past_end).destination.now ≡ conflicting.destination =
    All-from_recursion (λ (x : Update). x.destination.now ≡ conflicting.destination) run conflicting.same 0 past_end
    (omega (arith, conflicting.several)) in
    conflict_from_conflicting _ _ run _ _ _ conflicting
    (rw (take_all c.loop-update.update-index run (omega arith)) at c.loop-update.invariant)
    (c.in_ok-from_slice.ensures ∙ c.new.ensures ∙ first)
