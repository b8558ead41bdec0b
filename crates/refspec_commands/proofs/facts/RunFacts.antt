-- What a run does to its reader and its writers.
use Rattle.std.proofs.Common.{true, false, [], Some, codes, length, refl, ap, arith}
use Rattle.std.proofs.lemmas.Bool.{false≢true}
use Rattle.refspec_io.specs.declared.fault.Fault.TheVariants as fault
use Rattle.refspec_commands.specs.Run.{Leaves, ReadsWhole}

-- if the input is read, its reader is at its end; else everything may be left
pub reads : ReadsWhole true (Some (codes "a\n")) (Some []) × ReadsWhole false (Some (codes "a\n")) (Some (codes "a\n"))
reads = ((λ same. (codes "a\n", record { taken = refl; ended = refl })), λ same. absurd (false≢true same))

pub leaves_no_byte : ¬ (ReadsWhole true (Some (codes "a\n")) (Some (codes "\n")))
    × ¬ (ReadsWhole true (Some (codes "a\n")) (Some (codes "a\n")))
leaves_no_byte = (
  (λ whole. omega (arith, ap length (whole refl).1.ended)),
  λ whole. omega (arith, ap length (whole refl).1.ended),
)

-- a writer that failed may have written a part; if the reader or memory failed, nothing was written
pub leaves : Leaves (Some []) (Some (codes "a")) fault.Write × Leaves (Some (codes "a")) (Some (codes "a")) fault.Read
    × Leaves (Some []) (Some []) fault.Memory
leaves = (tt, refl, refl)

pub writes_nothing : ¬ (Leaves (Some []) (Some (codes "a")) fault.Read)
    × ¬ (Leaves (Some []) (Some (codes "a")) fault.Memory) × ¬ (Leaves (Some (codes "a")) (Some []) fault.Memory)
writes_nothing = (
  (λ kept. omega (arith, ap length kept)),
  (λ kept. omega (arith, ap length kept)),
  λ kept. omega (arith, ap length kept),
)
