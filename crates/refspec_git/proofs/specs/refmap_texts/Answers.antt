-- Each spec is one text more.
use Rattle.std.proofs.Common.{◌∙◌, Bor, List, [], ◌∷◌, ◌++◌, ap, map, sym, take, take_all, ℕ}
use Rattle.std.proofs.lemmas.List.{map-append, map_more}
use Rattle.refspec_io.specs.Texts.{given_of}
use Rattle.refspec_git.specs.Wanted.{refmap_text}
use Rattle.refspec_git.proofs.specs.refmap_texts.Goals as goal

abbrev now : Bor (List ℕ) → List ℕ
now text = text.now

pub loop-spec-preserved : goal.loop-spec-preserved
loop-spec-preserved c =
    let refmap = c.args.refmap.now in
    let i = c.loop-spec.spec-index in
    let so_far = map now (take i refmap) in
    ap (map given_of) c.in_ok-push.ensures.items
    ∙ (map-append given_of c.loop-spec.texts.items (c.value.result ∷ [])
    ∙ (ap (λ l. l ++ given_of c.value.result ∷ []) c.loop-spec.invariant
    ∙ (ap (λ t. map refmap_text so_far ++ t ∷ []) c.value.ensures
    ∙ (sym (map-append refmap_text so_far (_ ∷ []))
    ∙ sym (ap (map refmap_text) (map_more now refmap i _ c.loop-spec-test.true))))))

pub returns : goal.returns
returns c = c.loop-spec.invariant ∙ ap (λ l. map refmap_text (map now l))
    (take_all c.loop-spec.spec-index c.args.refmap.now c.loop-spec-test.false)
