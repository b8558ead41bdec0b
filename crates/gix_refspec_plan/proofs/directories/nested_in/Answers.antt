-- A name is in the directory of `upper`, or it is the next `upper`.
use Rattle.std.proofs.Common.{[], List, Bor, ℕ, ◌<◌, ◌≤◌, ◌∙◌, arith, get_or, length, sym, take_all}
use Rattle.std.proofs.lemmas.{Bool.false≢true, List.get_or_default}
use Rattle.gix_refspec_plan.proofs.lemmas.plan.DirectoryLemmas.{first_upper, none_told, passed_inside, passed_outside}
use Rattle.gix_refspec_plan.proofs.directories.nested_in.Goals as goal

pub loop-at-init : goal.loop-at-init
loop-at-init c =
    record {
      below = omega arith;
      told = none_told c.args.names.now c.new-nested.result c.new-nested.ensures.empty;
      passed = λ fits e. first_upper c.args.names.now e fits;
    }

pub loop-at-preserved : goal.loop-at-preserved
loop-at-preserved c =
    let names = c.args.names.now in
    let at = c.loop-at.at in
    let upper = c.loop-at.upper in
    let nowhere : Bor (List ℕ) = record { ref_ptr = (0, 0); now = [] } in
    let top = get_or names upper nowhere in
    let name = get_or names at nowhere in
    let above : upper < length names = omega (arith, c.loop-at.invariant.below, c.loop-at-test.true) in
    let is_top = get_or_default names upper nowhere top above in
    let is_name = get_or_default names at nowhere name c.loop-at-test.true in
    elim c.if-is_directory_of.branch [
      | goal.then-is_directory_of+in_ok-insert+in_ok-insert-2 w ↦ rw (w.nested-is, w.upper-is)
          (passed_inside names at upper c.loop-at.nested c.requires c.loop-at.invariant top name c.loop-at-test.true
          is_top is_name w.insert.new.self w.insert-then-is_directory_of.new.self
          (c.is_directory_of.ensures.0 w.if-is_directory_of.true) w.in_ok-insert.ensures.updates
          w.in_ok-insert-2.ensures.updates)
      | goal.else-is_directory_of w ↦ rw (w.nested-is, w.upper-is)
          (passed_outside names at upper c.loop-at.nested c.requires c.loop-at.invariant top name c.loop-at-test.true
          is_top is_name
          (λ inside. false≢true (sym w.if-is_directory_of.false ∙ c.is_directory_of.ensures.1 inside)))
    ]

pub returns : goal.returns
returns c =
    let over : length c.args.names.now ≤ c.loop-at.at = omega arith in
    rw (take_all c.loop-at.at c.args.names.now over) at c.loop-at.invariant.told
