-- The bytes appended to an empty vector are its contents.
use Rattle.std.proofs.Common.{ℕ, List, length, drop, subst}
use Rattle.std.specs.Io.KnownBytes.{Consumes}
use Rattle.refspec_io.proofs.input.read_input.Goals as goal

pub returns-in-Ok-clause-ok : goal.returns-in-Ok-clause-ok
returns-in-Ok-clause-ok g c = record {
  taken = subst (λ (x : List ℕ). Consumes (g.R.Read.remaining c.args.reader.now)
      (g.R.Read.remaining c.read_to_end.new.self) (drop (length x) c.read_to_end.new.buf.items))
      c.new-input.ensures.items c.read_to_end.ensures.none_lost;
  ended = c.in-Ok.ensures.end;
}
