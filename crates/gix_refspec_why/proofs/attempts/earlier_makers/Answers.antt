use Rattle.gix_refspec_why.proofs.Common.{◌+◌, ◌++◌, ◌∷◌, [], ◌∙◌, None, ap, arith, take, sym, subst, length-take-le}
use Rattle.gix_refspec_why.proofs.Common.{option_map, AreMakersOf, AttemptsTo, FindsEarlierIn, FirstOf}
use Rattle.gix_refspec_why.proofs.lemmas.NameLemmas.{attempts_once, earlier_more, makers_next, makers_same}
use Rattle.gix_refspec_why.proofs.attempts.earlier_makers.Goals as goal

pub loop-index-preserved : goal.loop-index-preserved
loop-index-preserved c =
    let xs = c.args.attempts.now in
    let i = c.loop-index.index in
    let a = c.index-attempts-index.result in
    let below = c.loop-index-test.true in
    let is = c.index-attempts-index.is in
    let old = c.loop-index.earlier.items in
    elim c.match-attempt.branch [
      | goal.in-Stops w ↦ (
        subst (AreMakersOf (take (i + 1) xs)) (sym w.makers-is)
            (makers_next xs i a c.loop-index.makers below is
            (makers_same (take i xs) a c.loop-index.makers c.loop-index.invariant.0
            (λ d to. absurd (subst (AttemptsTo d) w.in-Stops.is to)))),
        subst (FindsEarlierIn xs (take (i + 1) xs))
            (sym (c.in_ok-push.ensures.items ∙ ap (λ found. old ++ found ∷ []) w.push-is))
            (earlier_more xs i a None old below is c.loop-index.invariant.1
            (λ d to. absurd (subst (AttemptsTo d) w.in-Stops.is to))),
      )
      | goal.in-Maps+in_ok-note-in-Maps w ↦
          let d = option_map (λ d. d.now) w.destination_of.result in
          let found = w.in_ok-note-in-Maps.field-0 in
          let to : AttemptsTo d a = subst (AttemptsTo d) (sym w.in-Maps.is) (sym w.destination_of.ensures) in (
            subst (AreMakersOf (take (i + 1) xs)) (sym w.makers-is)
                (makers_next xs i a w.note.new.self below is
                (w.in_ok-note-in-Maps.ensures.noted (take i xs) a c.loop-index.invariant.0
                (sym (length-take-le i xs (omega (arith, below)))) to)),
            subst (FindsEarlierIn xs (take (i + 1) xs))
                (sym (c.in_ok-push.ensures.items ∙ ap (λ found. old ++ found ∷ []) w.push-is))
                (earlier_more xs i a found old below is c.loop-index.invariant.1
                (λ e also. subst (λ e. FirstOf (AttemptsTo e) (take i xs) found) (attempts_once a d e to also)
                (w.in_ok-note-in-Maps.ensures.found (take i xs) c.loop-index.invariant.0))),
          )
    ]
