-- Names and their number are behind the first line.
use Rattle.refspec_io.proofs.ShownLemmas.{on_ok}
use Rattle.refspec_fetch.proofs.MissingLemmas.{WritesMissing-then}
use Rattle.refspec_fetch.proofs.missing.write_lines.Goals as goal

pub returns : goal.returns
returns c = on_ok c.write_more.result _ _ c.write_more.ensures
    (λ more. WritesMissing-then c.args.missing.now.text.now c.args.missing.now.origin c.args.out.now.items
    c.write_names.new.out.items
    c.write_more.new.out.items
    (WritesMissing-then c.args.missing.now.text.now c.args.missing.now.origin c.args.out.now.items
    c.write_first_line.new.out.items
    c.write_names.new.out.items c.in_ok-write_first_line.ensures c.in_ok-write_names.ensures) (_, more))
