-- The heading, if needed, a margin and the line.
use Rattle.std.proofs.Common.{ℕ, Vec, Global, subst, sym}
use Rattle.gix_refspec_plan.specs.Views.Plan.{planned_of}
use Rattle.refspec_io.proofs.ShownLemmas.{on_ok}
use Rattle.refspec_fetch.proofs.GroupLemmas.{WritesBelow-of, WritesHead, WritesHead-none, WritesHead-some}
use Rattle.refspec_fetch.proofs.groups.write_below.Goals.{then-not-has_origin+in_ok-write_heading, else-not-has_origin}
use Rattle.refspec_fetch.proofs.groups.write_below.Goals as goal

pub returns : goal.returns
returns c =
    let texts = c.args.table.now.texts.now in
    let p = planned_of c.args.update.now in
    let before = c.args.before in
    let old = c.args.out.now.items in
    let head : WritesHead texts before p old c.if-not-has_origin.out.items = elim c.if-not-has_origin.branch [
      | then-not-has_origin+in_ok-write_heading w ↦ subst (λ (v : Vec ℕ Global). WritesHead texts before p old v.items)
          (sym w.out-is) (WritesHead-some texts before p w.text_of-text.result.now old w.write_heading.new.out.items
          w.if-not-has_origin.ensures w.text_of-text.ensures w.in_ok-write_heading.ensures)
      | else-not-has_origin w ↦ subst (λ (v : Vec ℕ Global). WritesHead texts before p old v.items) (sym w.out-is)
          (WritesHead-none texts before p old w.if-not-has_origin.ensures)
    ] in
    on_ok c.write_short.result _ _ c.write_short.ensures
    (WritesBelow-of texts before p old c.if-not-has_origin.out.items c.extend_from_slice.new.self.items
    c.write_short.new.out.items head c.in_ok-extend_from_slice.ensures.items)
