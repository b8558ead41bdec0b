-- What is found as plain data, for contracts.
use Rattle.std.specs.Prelude.{map, option_map}
use Rattle.bstr.specs.Owned.{bstring_bytes}
use Rattle.gix_refspec_diff.specs.declared.PairExample.{PairExample as Found}
use Rattle.gix_refspec_match.specs.Views.Mapping.{start_of}
use Rattle.gix_refspec_diff.specs.Matching.Difference.{PairExample}

-- an example of a pair
abbrev pub pair_example_of : Found → PairExample
pair_example_of e = record {
  spec = e.spec_index;
  source = start_of e.source;
  destination = option_map bstring_bytes e.destination;
  beside = map bstring_bytes e.beside.items;
}
