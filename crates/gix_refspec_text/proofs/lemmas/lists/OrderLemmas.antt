-- Lists of bytes in their order.
use Rattle.gix_refspec_text.proofs.Common.{◌≡◌, ℕ, List, nat_cmp, Less, slice_cmp, nat_list_cmp_total}
use Rattle.std.proofs.lemmas.Cmp.{tied_itself}

pub not_below_itself : (x : List ℕ) → slice_cmp nat_cmp x x ≡ Less → ⊥
not_below_itself x less = let tied = tied_itself nat_list_cmp_total x in cc
