-- What a linter finds as plain data, for contracts.
use Rattle.std.specs.Prelude.{map}
use Rattle.bstr.specs.BStr.{bstr_bytes}
use Rattle.bstr.specs.Owned.{bstring_bytes}
use Rattle.gix_refspec_lint.specs.declared.Configured.{Configured}
use Rattle.gix_refspec_lint.specs.declared.IdleSpec.{IdleSpec}
use Rattle.gix_refspec_lint.specs.declared.PossibleConflict.{PossibleConflict}
use Rattle.gix_refspec_lint.specs.declared.PossibleDirectoryConflict.{PossibleDirectoryConflict}
use Rattle.gix_refspec_text.specs.Views.Spec.{reading_of}
use Rattle.gix_refspec_match.specs.Views.Mapping.{start_of}
use Rattle.gix_refspec_lint.specs.Matching.Lint.{Configuration, Example, Nesting, Unused}

-- what a remote's configuration asks for
abbrev pub configuration_of : Configured → Configuration
configuration_of c = record {
  values = map reading_of c.values.now;
  merges = map bstr_bytes c.merges.now;
  tags =
      c.tags;
}

-- an example of a conflict
abbrev pub example_of : PossibleConflict → Example
example_of c = record {
  first = c.first_spec;
  second = c.second_spec;
  one = start_of c.first_source;
  other =
      start_of c.second_source;
  destination = bstring_bytes c.destination;
}

-- an example of a directory conflict
abbrev pub nesting_of : PossibleDirectoryConflict → Nesting
nesting_of c = record {
  upper = c.upper_spec;
  lower = c.lower_spec;
  one = start_of c.upper_source;
  other = start_of c.lower_source;
  directory = bstring_bytes c.directory;
  nested = bstring_bytes c.nested;
}

-- an idle spec
abbrev pub unused_of : IdleSpec → Unused
unused_of i = record { spec = i.spec_index; reason = i.reason; required = i.is_required }
