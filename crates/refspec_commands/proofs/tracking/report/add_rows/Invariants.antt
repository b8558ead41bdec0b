-- the rows of the mappings so far were added
use Rattle.std.proofs.Common.{◌≡◌, ◌++◌, map, option_map, take}
use Rattle.bstr.specs.Owned.{bstring_bytes}
use Rattle.gix_refspec.specs.Views.Group.{mapped_of}
use Rattle.refspec_commands.specs.Answer.{row_with}
use Rattle.refspec_commands.specs.Rows.{shown_row}
use Rattle.refspec_commands.proofs.tracking.report.add_rows.Given as goal

abbrev pub invariant-loop-mapping : goal.invariant-loop-mapping
invariant-loop-mapping l =
    map shown_row l.rows.items ≡ map shown_row l.fn.rows.items ++ map (λ m. row_with
    (option_map (λ n. n.now) l.remote.name) (map bstring_bytes l.remote.texts.items) (mapped_of m)) (take
    l.mapping-index l.remote.mappings.items)
