use Rattle.gix_refspec_why.proofs.Common.{map}
use Rattle.gix_refspec_why.proofs.rivals.Rivals.of.Goals as goal

pub returns : goal.returns
returns c = record {
  all = c.in_ok-first_rivals.ensures;
  others = c.in_ok-first_rivals-2.ensures;
  names = map (λ name. name.now) c.in_ok-valid_destinations.field-0.items;
  are_names = c.in_ok-valid_destinations.ensures;
  nested = c.in_ok-nested_names.ensures;
}
