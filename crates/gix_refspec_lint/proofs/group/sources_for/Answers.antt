-- A pattern has one source by the word, and any other spec those of its only destination.
use Rattle.gix_refspec_lint.proofs.Common.{arith, ◌≡◌, Some, inl, inr, option_map, sym, ap, ◌∙◌, pointwise_decides}
use Rattle.gix_refspec_lint.proofs.Common.{false≢true, Decides-eqb, IfOk-weaker, bstr_bytes, star, Lacks, reading_of}
use Rattle.gix_refspec_lint.proofs.Common.{accepted_few, name, parts_split, same_Some, ℕ, List, Bor, ◌++◌, ◌∷◌, Reading}
use Rattle.gix_refspec_lint.proofs.Common.{IsAccepted, IsSplit}
use Rattle.gix_refspec_lint.proofs.group.sources_for.Goals.{in-Some-2+in_ok-push, in_default-2}
use Rattle.gix_refspec_lint.proofs.lemmas.PatternLemmas.{maps_pattern}
use Rattle.gix_refspec_lint.proofs.lemmas.SourceLemmas.{only_pushed, pattern_there, plain_made, source_unsplit}
use Rattle.gix_refspec_lint.proofs.group.sources_for.Goals as goal

split_as : (r : Reading) (e : List ℕ) (far : Bor (List ℕ) × Bor (List ℕ)) → ∥ IsAccepted r ∥₁ → r.destination ≡ Some e
    → (e ≡ far.0.now ++ (star ∷ far.1.now)) × Lacks star far.0.now
    → IsSplit far.0.now far.1.now e
split_as r e far accepted has split =
    let (y, is, of) = parts_split e (Some far) (accepted_few r e accepted (inr has)) split in rw
    (same_Some _ _ (sym is)) at of

pub returns-then-ne : goal.returns-then-ne
returns-then-ne c r done refs s makes = grind (arith, plain_made, false≢true, pointwise_decides, Decides-eqb)

pub returns-in_default-split_at_first_star : goal.returns-in_default-split_at_first_star
returns-in_default-split_at_first_star c r done =
    IfOk-weaker c.named_sources.result _ _
    (λ sources there refs s makes. there refs s (Some c.args.destination.now) makes)
    (c.named_sources.ensures (source_unsplit (reading_of c.args.spec.now) _ c.args.spec.now.accepted
    (sym c.destination.ensures ∙ ap (option_map bstr_bytes) c.in-Some.is)
    (rw c.as_bytes.ensures at c.in_default-split_at_first_star.ensures)))

pub parts_of-requires : goal.parts_of-requires
parts_of-requires c x is = accepted_few (reading_of c.args.spec.now) x c.args.spec.now.accepted
    (inl (sym c.source.ensures ∙ is))

pub returns-in_default-parts_of : goal.returns-in_default-parts_of
returns-in_default-parts_of c r done refs s makes =
    let has = sym c.destination.ensures ∙ ap (option_map bstr_bytes) c.in-Some.is in
    let split = split_as (reading_of c.args.spec.now) _ c.in-Some-split_at_first_star.far c.args.spec.now.accepted has
    (rw c.as_bytes.ensures at c.in-Some-split_at_first_star.ensures) in
    let m = maps_pattern _ c.args.spec.now.accepted _ _ _ has split refs s c.args.destination.now makes in
    absurd ((rw c.source.ensures at c.in_default-parts_of.ensures) m.side.text m.before m.after m.side.has m.side.split)

pub returns : goal.returns
returns c r done refs s makes =
    let has = sym c.destination.ensures ∙ ap (option_map bstr_bytes) c.in-Some.is in
    let split = split_as (reading_of c.args.spec.now) _ c.in-Some-split_at_first_star.far c.args.spec.now.accepted has
    (rw c.as_bytes.ensures at c.in-Some-split_at_first_star.ensures) in
    let (x, is, of) = c.in-Some-parts_of.ensures in
    elim c.match-branch-2.branch [
      | in-Some-2+in_ok-push w ↦
          let (word, fits, made) = rw w.in-Some-2.is at c.in_ok-name.ensures in
          rw (
            w.sources-is,
            only_pushed _ _ _ _ c.new-sources.ensures.items w.in_ok-push.ensures.items
                (w.source_named.ensures ∙ ap name made),
          ) (
            0,
            omega arith,
            sym (pattern_there _ c.args.spec.now.accepted _ _ _ has split _ _
                (record { text = x; has = sym c.source.ensures ∙ is; split = of }) c.args.destination.now word fits refs
                s makes),
          )
      | in_default-2 w ↦
          let m = maps_pattern _ c.args.spec.now.accepted _ _ _ has split refs s c.args.destination.now makes in
          absurd ((rw w.in_default-2.is at c.in_ok-name.ensures) m.word m.fits)
    ]
