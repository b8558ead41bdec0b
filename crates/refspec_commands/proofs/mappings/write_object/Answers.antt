-- There is an object of a mapping with a remote, and one without.
use Rattle.refspec_io.proofs.ShownLemmas.{on_ok}
use Rattle.refspec_commands.proofs.RowsLemmas.{alone_object, remote_line_object}
use Rattle.refspec_commands.proofs.mappings.write_object.Goals as goal

pub returns-in-None : goal.returns-in-None
returns-in-None c = on_ok c.write_mapping_object.result _ _ c.write_mapping_object.ensures (alone_object c.args.row.now
    c.args.out.now.items c.write_mapping_object.new.out.items c.in-None.is)

pub returns-in-Some : goal.returns-in-Some
returns-in-Some c = on_ok c.write_remote_object.result _ _ c.write_remote_object.ensures (remote_line_object
    c.args.row.now _ c.args.out.now.items c.write_remote_object.new.out.items c.in-Some.is)
