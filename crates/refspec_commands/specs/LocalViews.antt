-- What a spec has to do with a local ref, as plain data, for contracts of private functions.
use Rattle.std.specs.Prelude.{option_map}
use Rattle.refspec_commands.specs.declared.fates.role_report.Part.{Part as DeclaredPart}
use Rattle.refspec_commands.specs.Locals.{Part}

abbrev pub part_of : DeclaredPart → Part
part_of p = record { text = p.text.now; source = option_map (λ s. s.now) p.source; word = p.word.now }
