-- The table of classes is compared with the classes of the bytes by computing, for each of the 256 bytes.
use Rattle.gix_refspec_text.proofs.Common.{same_true, true, slice_index_or, refl, agree_below_at, class_at, sameb}
use Rattle.gix_refspec_text.proofs.Common.{arith}
use Rattle.gix_refspec_text.specs.declared.name.class.TheConstants.{CLASSES}
use Rattle.gix_refspec_text.specs.declared.name.class.Class.TheVariants.{Plain}
use Rattle.gix_refspec_text.specs.contracts.name.class.Class.{the_type as the_class}
use Rattle.gix_refspec_text.proofs.name.class.class_of.Goals as goal

pub returns : goal.returns
returns c = same_true the_class tt _ _
    (agree_below_at (λ k. sameb the_class (slice_index_or CLASSES k Plain) (class_at k)) (λ _. true) 256 c.args.byte
    refl (omega arith))
