-- Groups of fetches.
use Rattle.std.proofs.Common.{◌≡◌, true, List, filter, map, refl}
use Rattle.std.proofs.lemmas.Bool.{false≢true}
use Rattle.std.proofs.lemmas.List.Elements.{All-map, All-weaker, filter_passes, recursion_from_All}
use Rattle.gix_refspec_text.specs.declared.parsing.Operation.{Operation}
use Rattle.gix_refspec_text.specs.declared.parsing.Operation.TheVariants.{Push, Fetch}
use Rattle.gix_refspec_text.specs.declared.spec.RefSpecRef.{RefSpecRef}
use Rattle.gix_refspec.specs.Views.Spec.{reading_of}
use Rattle.gix_refspec.specs.Views.Group.{is_for, is_same_operation}
use Rattle.gix_refspec.specs.Laws.Matching.{AreFetches}
use Rattle.gix_refspec_uses.specs.Planned.{fetch_readings}

-- the fetches among specs are fetches
fetch_alone : (op : Operation) → is_same_operation Fetch op ≡ true → op ≡ Fetch
fetch_alone Push passes = absurd (false≢true passes)
fetch_alone Fetch passes = refl

pub are_fetches : (specs : List RefSpecRef) → AreFetches (fetch_readings specs)
are_fetches specs =
    let fetches = filter (is_for Fetch) specs in
    let each = All-weaker (λ s. is_for Fetch s ≡ true) (λ s. (reading_of s).operation ≡ Fetch)
    (λ s passes. fetch_alone (reading_of s).operation passes) fetches (filter_passes (is_for Fetch) specs) in
    recursion_from_All (λ r. r.operation ≡ Fetch) (map reading_of fetches)
    (All-map (λ r. r.operation ≡ Fetch) reading_of fetches each)
