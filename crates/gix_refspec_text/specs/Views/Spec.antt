-- Refspecs as contracts see them.
use Rattle.std.specs.Prelude.{ℕ, List, option_map}
use Rattle.bstr.specs.BStr.{bstr_bytes}
use Rattle.bstr.specs.Owned.{bstring_bytes}
use Rattle.gix_refspec_text.specs.declared.spec.RefSpecRef.{RefSpecRef}
use Rattle.gix_refspec_text.specs.declared.spec.RefSpec.{RefSpec}
use Rattle.gix_refspec_text.specs.Specs.Reading.{Reading}
use Rattle.gix_refspec_text.specs.Specs.Meaning.{meaning_of}
use Rattle.gix_refspec_text.specs.Specs.Order.{keys}
use Rattle.gix_refspec_text.specs.Views.Instruction.{mode_of}

-- the reading of a spec: its fields, with the sides as bytes
abbrev pub reading_of : RefSpecRef → Reading
reading_of s = record {
  operation = s.op;
  mode = mode_of s.mode;
  source = option_map bstr_bytes s.src;
  destination =
      option_map bstr_bytes s.dst;
}

-- the key by which specs compare
abbrev pub key_of_spec : RefSpecRef → List (List ℕ)
key_of_spec s = keys (meaning_of (reading_of s))

-- the reading of an owned spec
abbrev pub owned_reading_of : RefSpec → Reading
owned_reading_of s = record {
  operation = s.op;
  mode = mode_of s.mode;
  source = option_map bstring_bytes s.src;
  destination = option_map bstring_bytes s.dst;
}

-- the key by which owned specs compare
abbrev pub key_of_owned : RefSpec → List (List ℕ)
key_of_owned s = keys (meaning_of (owned_reading_of s))
