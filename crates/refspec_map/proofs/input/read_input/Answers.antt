-- Each read takes some more bytes, or finds the end.
use Rattle.std.proofs.Common.{◌<◌, ℕ, List, ◌++◌, length, ap, sym, subst, lit≤, length-append, arith}
use Rattle.std.proofs.lemmas.Result.{err_from_is_err_and}
use Rattle.std.specs.Io.KnownBytes.{Consumes}
use Rattle.refspec_map.proofs.InputLemmas.{explained, kept_room, ends}
use Rattle.refspec_map.proofs.input.read_input.Goals as goal
use Rattle.std.proofs.KnownBytes.{Consumes-trans, Consumes-nil}

pub loop-input-init : goal.loop-input-init
loop-input-init g c =
    let empty = c.in-Ok-with_capacity.ensures.items in
    record {
      taken = subst (λ (x : List ℕ). Consumes (g.R.Read.remaining c.args.reader.now)
          (g.R.Read.remaining c.args.reader.now) x) (sym empty) (Consumes-nil (g.R.Read.remaining c.args.reader.now));
      within = rw empty (lit≤ tt);
      room = omega (arith, c.in-Ok.ensures.len, c.in-Ok.buffer.ok.0);
    }

pub returns-in_err-read_some-clause-err : goal.returns-in_err-read_some-clause-err
returns-in_err-read_some-clause-err g c =
    let p = err_from_is_err_and c.from_residual.result c.from_residual.ensures.1 in
    rw (p.1, p.2) (explained _ _ c.in_err-read_some.field-0.0 c.in_err-read_some.ensures.err)

pub returns-then-len-gt-INPUT_LIMIT-clause-err : goal.returns-then-len-gt-INPUT_LIMIT-clause-err
returns-then-len-gt-INPUT_LIMIT-clause-err g c =
    let some = c.in_ok-read_some.ensures.ok in
    let taken = Consumes-trans (g.R.Read.remaining c.args.reader.now) _ _ c.loop-input.input.items some.came
    c.loop-input.invariant.taken some.taken in (
      c.loop-input.input.items ++ some.came,
      taken,
      subst (λ (x : List ℕ). 1048576 < length x) some.append
          (omega (arith, c.if-len-gt-INPUT_LIMIT.true, c.len.ensures, c.read_some.new.input.ok.0)),
    )

pub loop-input-preserved : goal.loop-input-preserved
loop-input-preserved g c =
    let some = c.in_ok-read_some.ensures.ok in
    let taken = Consumes-trans (g.R.Read.remaining c.args.reader.now) _ _ c.loop-input.input.items some.came
    c.loop-input.invariant.taken some.taken in
    record {
      taken = subst (λ (x : List ℕ). Consumes (g.R.Read.remaining c.args.reader.now)
          (g.R.Read.remaining c.read_some.new.reader) x) (sym some.append) taken;
      within = omega (arith, c.if-len-gt-INPUT_LIMIT.false, c.len.ensures, c.read_some.new.input.ok.0);
      room = kept_room c.loop-input.buffer.len c.read_some.new.buffer c.loop-input.buffer.items
          (omega (arith, c.read_some.auto.buffer, c.as_mut_slice.ensures.len, c.loop-input.buffer.ok.0))
          (omega (arith, c.loop-input.invariant.room, c.loop-input.buffer.ok.0));
    }

pub returns-clause-ok : goal.returns-clause-ok
returns-clause-ok g c =
    let some = c.in_ok-read_some.ensures.ok in
    let at_end = ends _ _ c.in_ok-read_some.field-0 c.if-branch.false some.tells in
    let taken = Consumes-trans (g.R.Read.remaining c.args.reader.now) _ _ c.loop-input.input.items some.came
    c.loop-input.invariant.taken some.taken in
    record {
      taken = subst (λ (x : List ℕ). Consumes (g.R.Read.remaining c.args.reader.now)
          (g.R.Read.remaining c.read_some.new.reader) x) (sym some.append) taken;
      ended = at_end.1;
      within = omega (
        arith,
        c.loop-input.invariant.within,
        ap length some.append,
        length-append c.loop-input.input.items some.came,
        ap length at_end.0,
      );
    }
