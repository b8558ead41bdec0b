-- The sides of each reading that some text has.
use Rattle.gix_refspec_text.proofs.Common.{unwrap_or, [], Shape, Plain, Pattern, HasShape, IfSome, side_of, Mode, arith}
use Rattle.gix_refspec_text.proofs.Common.{◌≡◌, ◌⊎◌, ℕ, List, Option, Some, subst, ∥∥₁_elim, Operation, HasSeveralStars}
use Rattle.gix_refspec_text.proofs.Common.{star, Reading, named_by, Reads, IsAccepted, IsOneStarred}
use Rattle.gix_refspec_text.proofs.lemmas.parsing.ReadsLemmas.{source_of, AreFine, fine_parts}
use Rattle.gix_refspec_text.proofs.lemmas.texts.TextLemmas.{Lacks-ContainsText}
use Rattle.gix_refspec_text.proofs.lemmas.parsing.ReasonLemmas.{sides_balanced}
use Rattle.gix_refspec_text.proofs.lemmas.parsing.SideLemmas.{checked_starred, empty_no_pattern, HasStar-stars}
use Rattle.gix_refspec_text.proofs.lemmas.parsing.SideLemmas.{HasSeveralStars-replaced}
use Rattle.gix_refspec_text.proofs.lemmas.specs.FormsBackLemmas.{named_pattern}

shape_few : (x : List ℕ) (k : Shape) → HasShape x k → ¬ (HasSeveralStars x)
shape_few x Plain lacks stars = Lacks-ContainsText star x lacks (HasStar-stars x stars)
shape_few x Pattern pattern stars = HasSeveralStars-replaced x pattern.with_letter pattern.replaces stars

named_shape : (s : List ℕ) (k : Shape) → HasShape s k → HasShape (named_by s) k
named_shape s k shape = grind (arith, named_pattern)

source_shape : (op : Operation) (s : List ℕ) (k : Shape) → HasShape s k → IfSome (source_of op s) (λ x. HasShape x k)
source_shape op s k shape = grind (arith, empty_no_pattern, named_shape)

-- the sides of a reading have one shape
fine_shape : (op : Operation) (m : Mode) (s : List ℕ) (d : Option (List ℕ)) → AreFine op m s d → (k : Shape)
    × IfSome (source_of op s) (λ x. HasShape x k) × IfSome (side_of (unwrap_or d [])) (λ x. HasShape x k)
fine_shape op m s d h = grind (arith, source_shape, checked_starred)

reads_shape : (op : Operation) (text : List ℕ) (r : Reading) → Reads op text r → (k : Shape)
    × IfSome r.source (λ x. HasShape x k) × IfSome r.destination (λ x. HasShape x k)
reads_shape op text r reads = let (m, s, d, parts, fine, is) = fine_parts op text r reads in rw is
    (fine_shape op m s d fine)

pub accepted_few : (r : Reading) (x : List ℕ) → ∥ IsAccepted r ∥₁ → (r.source ≡ Some x) ⊎ (r.destination ≡ Some x)
    → ¬ (HasSeveralStars x)
accepted_few r x accepted side = ∥∥₁_elim accepted (hlevel []) (λ by. let (k, source, destination) =
    reads_shape r.operation by.0 r by.1 in grind (arith, shape_few))

pub accepted_balanced : (r : Reading) (s d : List ℕ) → ∥ IsAccepted r ∥₁ → r.source ≡ Some s → r.destination ≡ Some d
    → ¬ (IsOneStarred s d)
accepted_balanced r s d accepted source destination = ∥∥₁_elim accepted (hlevel []) (λ by.
    let (k, a, b) = reads_shape r.operation by.0 r by.1 in
    sides_balanced s d k (subst (λ (o : Option (List ℕ)). IfSome o (λ x. HasShape x k)) source a)
    (subst (λ (o : Option (List ℕ)). IfSome o (λ x. HasShape x k)) destination b))
