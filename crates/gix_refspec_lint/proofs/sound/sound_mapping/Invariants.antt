use Rattle.gix_refspec_lint.proofs.Common.{◌≡◌, map, AllByRecursion, mapped_of, start_of, IsSound}

abbrev pub invariant-loop-mapping : Rattle.gix_refspec_lint.proofs.sound.sound_mapping.Given.invariant-loop-mapping
invariant-loop-mapping l = AllByRecursion (λ m. m.source ≡ start_of l.source → ¬ (IsSound m)) (map mapped_of l.yielded)
