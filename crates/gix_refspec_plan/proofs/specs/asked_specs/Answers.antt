-- The given specs, or those without any, and behind them all tags.
use Rattle.gix_refspec_plan.proofs.Common.{◌≡◌, ◌++◌, List, map, refl, sym, append-nil, ref_of, AllTags, asked_of}
use Rattle.gix_refspec_plan.proofs.Common.{wish_of, reading_of, AreAsked, Asked, tags_asked}
use Rattle.gix_refspec_plan.proofs.lemmas.plan.SpecLemmas.{none_mapped, one_more, some_mapped}
use Rattle.gix_refspec_plan.proofs.specs.asked_specs.Goals as goal

pub returns : goal.returns
returns c =
    let given = c.args.wish.now.given.now in
    let asked = c.if-not-is_empty.asked.items in
    let followed : (all : List Asked) → all ≡ map asked_of asked ++ tags_asked c.args.wish.now.tags
    → AreAsked (wish_of c.args.wish.now) (map ref_of c.args.items.now) all = elim c.if-not-is_empty.branch [
      | goal.then-not-is_empty+in_ok-asked w ↦
          rw w.asked-is
          (λ all is. AreAsked.by_call _ (some_mapped reading_of given _ c.is_empty.ensures w.if-not-is_empty.true)
          w.in_ok-asked.ensures is)
      | goal.else-not-is_empty+in_ok-asked-2 w ↦
          rw w.asked-is
          (λ all is. AreAsked.without _ (none_mapped reading_of given _ c.is_empty.ensures w.if-not-is_empty.false)
          w.in_ok-asked-2.ensures is)
    ] in
    elim c.if-wish.branch [
      | goal.then-wish+in_ok-push w ↦
          rw w.asked-is
          (followed _ (rw w.if-wish.true
          (one_more asked _ _ _ AllTags w.fetch_of_all_tags.ensures refl w.in_ok-push.ensures.items)))
      | goal.else-wish w ↦ rw w.asked-is (followed _ (rw w.if-wish.false (sym (append-nil (map asked_of asked)))))
    ]
