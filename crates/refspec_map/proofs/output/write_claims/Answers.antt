-- At the end all claims were appended.
use Rattle.std.proofs.Common.{◌≡◌, ◌++◌, flat_map, map, refl, ap, ◌∙◌, None, Some}
use Rattle.std.specs.List.{zip}
use Rattle.std.specs.Iterator.Adapters.{zip_first, zip_second}
use Rattle.std.specs.Slice.Iter.{iter_rest}
use Rattle.std.proofs.lemmas.Fn.{fronts}
use Rattle.std.proofs.lemmas.Iterator.{zips}
use Rattle.std.proofs.lemmas.Slice.Zip.{Zip-more, either_empty_from_Zip}
use Rattle.bstr.specs.Owned.{bstring_bytes}
use Rattle.gix_refspec.specs.Views.Group.{start_of}
use Rattle.refspec_map.specs.Plan.{claim_text}
use Rattle.refspec_map.proofs.PlanLemmas.{claims_of}
use Rattle.refspec_map.proofs.output.write_claims.Goals as goal

pub returns : goal.returns
returns c =
    let ended = either_empty_from_Zip c.loop-source.source-iterator c.next.new.self None refl c.in-None.ensures.steps in
    let pairs = claims_of (zips fronts fronts) (λ z. iter_rest (zip_first z)) (λ z. iter_rest (zip_second z))
    (λ s t p step. Zip-more s t (Some p) p refl step) c.loop-source.yielded c.into_iter-source-iterator.result
    c.loop-source.source-iterator c.loop-source.yielded_by ended in
    let first = ap (λ z. iter_rest (zip_first z)) c.into_iter-source-iterator.ensures.into_iter_gives
    ∙ ap iter_rest c.zip-source-items.ensures.first ∙ c.iter.ensures.rest in
    let specs : iter_rest (zip_second c.zip-source-items.result) ≡ c.args.specs.now =
    c.zip-source-items.ensures.second.0 in
    let second = ap (λ z. iter_rest (zip_second z)) c.into_iter-source-iterator.ensures.into_iter_gives ∙ specs in
    c.loop-source.invariant ∙ ap (λ l. c.args.output.now.items ++ flat_map claim_text l)
    (pairs ∙ (λ i. zip (map start_of (first i)) (map bstring_bytes (second i))))
