-- Specs, and refs with their ids, that are read one after another.
use Rattle.std.proofs.Common.{◌≡◌, ◌⊎◌, inl, inr, ℕ, ◌<◌, List, map, length, take, get_or, sym, subst, arith}
use Rattle.std.specs.List.{AllZip}
use Rattle.std.proofs.lemmas.List.{get_or-map, length-map}
use Rattle.gix_refspec_text.specs.declared.spec.RefSpecRef.{RefSpecRef}
use Rattle.gix_refspec.specs.Specs.Reading.{Reading}
use Rattle.gix_refspec.specs.Matching.Match.{Ref}
use Rattle.gix_refspec.specs.Views.Spec.{reading_of}
use Rattle.gix_refspec_c.specs.declared.failure.Failure.{Failure}
use Rattle.gix_refspec_c.specs.declared.failure.Failure.TheVariants as failure
use Rattle.gix_refspec_c.specs.declared.matching.Direction.{Direction}
use Rattle.gix_refspec_c.specs.declared.refs.SpecIn.{SpecIn}
use Rattle.gix_refspec_c.specs.declared.refs.RefIn.{RefIn}
use Rattle.gix_refspec_c.specs.Mapping.{Entry}
use Rattle.gix_refspec_c.specs.Matching.{Lists}
use Rattle.gix_refspec_c.specs.Refs.{AreInput, AreMatchedRefs, AreUnmatchedRefs, out_of_memory, bad_id, HasBadId}
use Rattle.gix_refspec_c.specs.Refs.{IsBadSpec, IsFirstBadSpec, ReadsAs, RefText, SomeBadId, SpecText, no_ref_text}
use Rattle.gix_refspec_c.specs.Refs.{no_spec_text, ref_text, spec_text}

-- the first spec that isn't read
pub spec_unread : (specs : List SpecIn) (k : ℕ) (d : SpecIn) (old : List RefSpecRef) (f : Failure) → k < length specs
    → IsBadSpec (spec_text (get_or specs k d)) f → AllZip ReadsAs (take k (map spec_text specs)) (map reading_of old)
    → IsFirstBadSpec (map spec_text specs) f
spec_unread specs k d old f below why so_far = record {
  index = k;
  within = omega (arith, length-map specs spec_text, below);
  before = map reading_of old;
  read = so_far;
  why = subst (λ (s : SpecText). IsBadSpec s f) (sym (get_or-map spec_text specs k d no_spec_text below)) why;
}

-- a ref with digits that spell no id
pub ref_unread : (refs : List RefIn) (k : ℕ) (d : RefIn) → k < length refs → HasBadId (ref_text (get_or refs k d))
    → SomeBadId (map ref_text refs)
ref_unread refs k d below bad = record {
  index = k;
  within = omega (arith, length-map refs ref_text, below);
  bad = subst (λ (t : RefText). HasBadId t) (sym (get_or-map ref_text refs k d no_ref_text below)) bad;
}

-- why the ids of refs aren't read
pub refs_unread : (d : Direction) (specs : List SpecText) (texts : List RefText) (f : Failure) (group : List Reading)
    → AllZip ReadsAs specs group → (f ≡ failure.NoMemory) ⊎ ((f ≡ failure.InvalidId) × SomeBadId texts)
    → AreUnmatchedRefs d specs texts f
refs_unread d specs texts f group read (inl memory) = out_of_memory memory
refs_unread d specs texts f group read (inr bad) = bad_id group read bad.0 bad.1

-- what a group keeps over refs is what is matched
pub matched_refs : (d : Direction) (specs : List SpecText) (texts : List RefText) (group : List Reading)
    (refs : List Ref) (es : List Entry) → AreInput d specs texts group refs → Lists d group refs es
    → AreMatchedRefs d specs texts es
matched_refs d specs texts group refs es input lists = record {
  group = group;
  read = input.read;
  refs = refs;
  are_refs = input.are_refs;
  targets = input.targets;
  kept = lists.kept;
  keeps = lists.keeps;
  are = lists.are;
}
