-- The parts of an instruction give that instruction back, and so its canonical text.
use Rattle.std.proofs.Common.{◌≡◌, true, false, refl}
use Rattle.gix_refspec.specs.Specs.Meaning.{Meaning, push_all_matching, push_delete, push_matching, push_exclude}
use Rattle.gix_refspec.specs.Specs.Meaning.{fetch_only, fetch_exclude, fetch_and_update}
use Rattle.gix_refspec_c.specs.declared.printing.Kind.{Kind}
use Rattle.gix_refspec_c.specs.declared.printing.Kind.TheVariants as kind
use Rattle.gix_refspec_c.specs.Printing.{kind_code, meaning_with}
use Rattle.gix_refspec_c.specs.Single.{parts_of}

-- the instruction of some kind with the parts that gix_refspec_parts tells is the one whose parts they are
pub parts_print : (m : Meaning) → (k : Kind) × (kind_code k ≡ (parts_of m).kind) × (meaning_with k (parts_of m) ≡ m)
parts_print (push_all_matching true) = (kind.PushAllMatching, refl, refl)
parts_print (push_all_matching false) = (kind.PushAllMatching, refl, refl)
parts_print (push_delete d) = (kind.PushDelete, refl, refl)
parts_print (push_matching s d true) = (kind.PushMatching, refl, refl)
parts_print (push_matching s d false) = (kind.PushMatching, refl, refl)
parts_print (push_exclude s) = (kind.PushExclude, refl, refl)
parts_print (fetch_only s) = (kind.FetchOnly, refl, refl)
parts_print (fetch_exclude s) = (kind.FetchExclude, refl, refl)
parts_print (fetch_and_update s d true) = (kind.FetchAndUpdate, refl, refl)
parts_print (fetch_and_update s d false) = (kind.FetchAndUpdate, refl, refl)
