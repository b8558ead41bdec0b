-- Numbers that rise, and mappings with the same pair.
use Rattle.gix_refspec_match.proofs.Common.{List, ℕ, arith, ◌≢◌, ◌<◌, length, get_or, some_element, IsPermutation}
use Rattle.gix_refspec_match.proofs.Common.{Rises, Mapping}
use Rattle.gix_refspec_match.proofs.lemmas.duplicates.OrderedLemmas.{apart_permuted}

pub apart_places : (xs ys : List ℕ) → IsPermutation xs ys → Rises xs → (i j d : ℕ) → i < j → j < length ys
    → get_or ys i d ≢ get_or ys j d
apart_places xs ys moved rises = apart_permuted (λ x. x) xs ys moved (λ i j d before below same. let rise =
    rises i j d before below in omega (arith, rise, same))

pub some_mapping : (ms : List Mapping) (k : ℕ) → k < length ms → Mapping
some_mapping ms k below = some_element ms k below
