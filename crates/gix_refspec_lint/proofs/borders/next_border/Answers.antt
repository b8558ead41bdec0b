-- A border of the next byte's front goes on with that byte.
use Rattle.gix_refspec_lint.proofs.Common.{arith, inl, inr, ◌-◌, cases_eq, cases_lt}
use Rattle.gix_refspec_lint.proofs.lemmas.BorderLemmas.{border_in, shortened}
use Rattle.gix_refspec_lint.proofs.borders.next_border.Goals as goal

pub loop-border-init : goal.loop-border-init
loop-border-init c =
    let is = c.requires.known c.args.len c.requires.some (omega arith) in
    record {
      border = is.is_border;
      above = λ d l at. is.longest (d - 1) (omega arith)
          (shortened _ c.args.len d (omega arith) at).0;
    }

pub loop-border-preserved : goal.loop-border-preserved
loop-border-preserved c =
    let b = c.loop-border.border in
    let old = c.loop-border.invariant in
    let is = c.requires.known b (omega arith) (omega (arith, old.border.shorter)) in
    record {
      border = (border_in _ old.border is.is_border.shorter).0 is.is_border;
      above = λ d l other. let (at, goes) = shortened _ c.args.len d (omega arith) other in elim (cases_lt (d - 1) b) [
        | inl below ↦ is.longest (d - 1) (omega arith) ((border_in _ old.border below).1 at)
        | inr from ↦ grind (arith, old.above d, c.loop-border-test.true, goes)
      ];
    }

pub returns-then-border-eq0 : goal.returns-then-border-eq0
returns-then-border-eq0 c = record {
  is_border = record { shorter = omega arith; repeats = λ i l. absurd (omega (arith, l)) };
  longest = λ d l found. grind (
    arith,
    shortened _ c.args.len d l found,
    c.loop-border.invariant.above d,
    c.loop-border-test.true,
  );
}

pub returns : goal.returns
returns c =
    let border = c.loop-border.invariant.border in
    record {
      is_border = record {
        shorter = omega (arith, border.shorter);
        repeats =
            λ i l. grind (arith, border.repeats i, cases_eq i c.loop-border.border, border.shorter);
      };
      longest = c.loop-border.invariant.above;
    }
