use Rattle.gix_refspec_plan.proofs.Common.{◌≡◌, map, take, reading_of, asked_of}

abbrev pub invariant-loop-one : Rattle.gix_refspec_plan.proofs.mapped.specs_in.Given.invariant-loop-one
invariant-loop-one l = map reading_of l.specs.items ≡ map (λ a. a.reading) (map asked_of (take l.one-index l.asked))
