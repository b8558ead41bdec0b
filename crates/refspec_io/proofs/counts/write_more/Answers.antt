-- The line says what there is, how many, and how to see them.
use Rattle.std.proofs.Common.{◌++◌, ap, ◌∙◌}
use Rattle.refspec_io.proofs.CountLemmas.{more_line-some}
use Rattle.refspec_io.proofs.counts.write_more.Goals as goal

pub returns : goal.returns
returns c = more_line-some c.args.what.now c.args.count c.args.out.now.items c.extend_from_slice.new.self.items
    c.write_number.new.out.items c.extend_from_slice-2.new.self.items c.if-count-eq0.false
    (c.in_ok-extend_from_slice.ensures.items ∙ ap (λ x. c.args.out.now.items ++ x) c.as_bytes.ensures.value)
    c.in_ok-write_number.ensures c.in_ok-extend_from_slice-2.ensures.items
