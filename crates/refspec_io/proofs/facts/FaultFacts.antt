-- The kinds of faults.
use Rattle.refspec_io.specs.declared.fault.Fault.TheVariants as fault
use Rattle.refspec_io.specs.Fault.{IsMemory, IsReadOrMemory, IsWrite}

-- of these three faults only memory satisfies two definitions
pub faults : IsMemory fault.Memory × IsReadOrMemory fault.Memory × IsReadOrMemory fault.Read × IsWrite fault.Write
faults = (tt, tt, tt, tt)

pub no_other_faults : ¬ (IsMemory fault.Read) × ¬ (IsMemory fault.Write) × ¬ (IsReadOrMemory fault.Write)
    × ¬ (IsWrite fault.Read) × ¬ (IsWrite fault.Memory)
no_other_faults = ((λ is. is), (λ is. is), (λ is. is), (λ is. is), λ is. is)
