-- What the library makes of the fetch, or nothing.
use Rattle.std.proofs.Common.{inl, inr, refl, ◌∙◌}
use Rattle.gix_refspec.specs.Views.Spec.{reading_of}
use Rattle.gix_refspec_c.proofs.prefetching.in_place_of.Goals as goal

pub returns-in-Ok-Some-clause-ok : goal.returns-in-Ok-Some-clause-ok
returns-in-Ok-Some-clause-ok c = record {
  reading = reading_of c.in-Ok.spec;
  reads = c.in-Ok.ensures.ok;
  is = inl (rw c.in-Ok-Some.field-0-is at c.in-Ok-Some.ensures);
}

pub returns-in-Ok-None-clause-ok : goal.returns-in-Ok-None-clause-ok
returns-in-Ok-None-clause-ok c = record {
  reading = reading_of c.in-Ok.spec;
  reads = c.in-Ok.ensures.ok;
  is = inr (rw c.in-Ok-None.field-0-is at c.in-Ok-None.ensures, c.new-in-Ok-None.ensures ∙ c.new.ensures.items);
}

pub returns-in-Err-prefetched-clause-err : goal.returns-in-Err-prefetched-clause-err
returns-in-Err-prefetched-clause-err c = (λ same. cc, inr (refl, (reading_of c.in-Ok.spec, c.in-Ok.ensures.ok)))
