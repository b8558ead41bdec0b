-- A reading with another destination.
use Rattle.gix_refspec_text.proofs.Common.{None, [], inl, inr, ℕ, List, ◌∷◌, Some, IfSome, IsSome, refl, sym, subst}
use Rattle.gix_refspec_text.proofs.Common.{Operation, Lacks, IsName, star, colon, Mode, Normal, Reading}
use Rattle.gix_refspec_text.proofs.Common.{with_destination, named_by, AreParts, IsAccepted, IsPositive, Reads, fetches}
use Rattle.gix_refspec_text.proofs.Common.{updates, ◌≡◌, codes, arith, HasCheckedShape, Plain, Pattern, with_colon}
use Rattle.gix_refspec_text.proofs.Common.{Option, unwrap_or, side_of, sign, ◌++◌, fetched_alone, all_tags, IsUnsigned}
use Rattle.gix_refspec_text.proofs.lemmas.texts.TextLemmas.{Lacks-ContainsText}
use Rattle.gix_refspec_text.proofs.lemmas.texts.HeadLemmas.{Lacks-colon_name}
use Rattle.gix_refspec_text.proofs.lemmas.parsing.SideLemmas.{HasStar-pattern, empty_no_pattern}
use Rattle.gix_refspec_text.proofs.lemmas.specs.FormsBackLemmas.{is_forced}
use Rattle.gix_refspec_text.proofs.lemmas.parsing.ReadsLemmas.{AreFine, fine_fetch, fine_alone, fine_push}
use Rattle.gix_refspec_text.proofs.lemmas.parsing.ReadsLemmas.{fine_negative, fine_parts, side_of-full, fine_reads}
use Rattle.gix_refspec_text.proofs.lemmas.parsing.ReadsLemmas.{checked_name, name_not_empty}
use Rattle.gix_refspec_text.proofs.facts.ManualFacts.{parts, IsPattern-tested}

starred_destination : (x : List ℕ) → IfSome (side_of x) (Lacks star) → HasCheckedShape x Pattern → ⊥
starred_destination [] lacks pattern = empty_no_pattern pattern
starred_destination (b ∷ x) lacks pattern = Lacks-ContainsText star (b ∷ x) lacks (HasStar-pattern (b ∷ x) pattern)

-- parts with a destination without a star stay valid with a name in its place
new_fine : (op : Operation) (m : Mode) (s : List ℕ) (d : Option (List ℕ)) (new : List ℕ) → AreFine op m s d
    → IsSome (side_of (unwrap_or d [])) → IfSome (side_of (unwrap_or d [])) (Lacks star) → IsName new
    → AreFine op m s (Some new) × IsPositive m
new_fine op m s d new (fine_fetch Plain fetch pos a b) some lacks name =
    (fine_fetch Plain fetch pos a (checked_name new name), pos)
new_fine op m s d new (fine_fetch Pattern fetch pos a b) some lacks name =
    absurd (starred_destination (unwrap_or d []) lacks b)
new_fine op m s d new (fine_alone k push pos none full a) some lacks name = let nothing = rw none at some in absurd (cc)
new_fine op m s d new (fine_push Plain t push pos is somewhere a b) some lacks name =
    (fine_push Plain new push pos refl (λ _ empty. name_not_empty new name empty) a (checked_name new name), pos)
new_fine op m s d new (fine_push Pattern t push pos is somewhere a b) some lacks name =
    absurd (starred_destination t (rw is at lacks) b)
new_fine op m s d new (fine_negative k minus none full a hash) some lacks name = let nothing = rw none at some in absurd
    (cc)

unsigned_aimed : (s new : List ℕ) (d : Option (List ℕ)) → IsUnsigned (with_colon s d)
    → IsUnsigned (with_colon s (Some new))
unsigned_aimed [] new d unsigned = omega arith
unsigned_aimed (b ∷ s) new None unsigned = unsigned
unsigned_aimed (b ∷ s) new (Some e) unsigned = unsigned

new_parts : (m : Mode) (s : List ℕ) (d : Option (List ℕ)) (new text : List ℕ) → IsPositive m → AreParts m s d text
    → Lacks colon new → AreParts m s (Some new) (sign (is_forced m) ++ (s ++ (colon ∷ new)))
new_parts m s d new text pos parts lacks = grind (arith, unsigned_aimed)

pub replaced_read : (op : Operation) (text : List ℕ) (r : Reading) (new : List ℕ) → IsSome r.destination
    → IfSome r.destination (Lacks star) → IsName new → Reads op text r → IsAccepted (with_destination r new)
replaced_read op text r new some lacks name reads =
    let (m, s, d, parts, fine, is) = fine_parts op text r reads in
    let (still, positive) = new_fine op m s d new fine (rw is at some) (rw is at lacks) name in
    let again = fine_reads op m s (Some new) _ still
    (new_parts m s d new text positive parts (Lacks-colon_name new name)) in
    subst (λ (q : Reading). IsAccepted (with_destination q new)) (sym is)
    (_, rw (side_of-full new (name_not_empty new name)) at again)

pub read_alone : (n : List ℕ) → IsName n → IsUnsigned n → named_by n ≡ n → IsAccepted (fetched_alone n)
read_alone n name unsigned same =
    let fetched = fetches Normal n refl tt (inl (record { signed = (refl, unsigned); last = Lacks-colon_name n name }))
    name (subst (λ (x : List ℕ). fetched_alone n ≡ fetched_alone x) (sym same) refl) in
    (n, fetched)

pub all_tags_accepted : IsAccepted all_tags
all_tags_accepted =
    let tags = IsPattern-tested (codes "refs/tags/") [] refl refl refl in (
      _,
      updates Normal (codes "refs/tags/*") (codes "refs/tags/*") refl tt
          (parts Normal (codes "refs/tags/*") (Some (codes "refs/tags/*")) refl refl) (inr (tags, tags)) refl,
    )
