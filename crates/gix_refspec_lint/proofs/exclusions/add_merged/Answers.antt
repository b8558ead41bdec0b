use Rattle.gix_refspec_lint.proofs.Common.{◌≡◌, ◌++◌, ◌∷◌, [], candidates, map, map-append, map-id, sym, ap, ◌∙◌, rules}
use Rattle.gix_refspec_lint.proofs.Common.{YieldsList-end, YieldsList-from_vec, bstring_bytes, start_of}
use Rattle.gix_refspec_lint.proofs.lemmas.MergedLemmas.{adds_next, merged_of}
use Rattle.gix_refspec_lint.proofs.exclusions.add_merged.Goals as goal

pub loop-name-preserved : goal.loop-name-preserved
loop-name-preserved c =
    let now = c.loop-name.merged.items in
    rw (map-append bstring_bytes c.loop-name.yielded (c.in-Some.name ∷ []))
    (adds_next (map bstring_bytes c.loop-name.yielded) (bstring_bytes c.in-Some.name) _ (map start_of now) _
    (ap (map start_of) c.in_ok-push.ensures.items ∙ map-append start_of now _ ∙ ap
    (λ s. map start_of now ++ s ∷ []) c.source_named.ensures) c.loop-name.invariant)

pub returns : goal.returns
returns c =
    let names = c.in_ok-name-items.name-items.items in
    let end = YieldsList-end (YieldsList-from_vec {s = c.into_iter-name-iterator.result} names (search rules)
    (search rules))
    c.loop-name.yielded c.loop-name.name-iterator c.loop-name.yielded_by c.next.result c.next.new.self c.in-None.is
    c.next.ensures.steps in
    let whole : c.loop-name.yielded ≡ names = sym (map-id c.loop-name.yielded) ∙ end.0 in
    merged_of c.args.value.now _ _ _ _
    (c.in_ok-candidates.ensures ∙ ap candidates c.merged_text.ensures) c.in_ok-name-items.ensures
    (rw whole at c.loop-name.invariant)
