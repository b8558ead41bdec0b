-- Both sides of an accepted reading have a star or neither has, and kind, word and id are unique.
use Rattle.gix_refspec.proofs.Common.{inl, inr, Reading, IsAccepted, by_cases, one_kind, IsIdText-unique, one_word}
use Rattle.gix_refspec.proofs.Common.{accepted_few, accepted_balanced, no_component, all_join, ◌≡◌, ◌≢◌, ◌⊎◌, ℕ, true}
use Rattle.gix_refspec.proofs.Common.{false, ◌==◌, List, [], ◌∷◌, ◌++◌, codes, refl, sym, ap, ◌∙◌, subst, append_assoc}
use Rattle.gix_refspec.proofs.Common.{arith, AllByRecursion, join_with_byte, list_all, list_any, slice_split, and_parts}
use Rattle.gix_refspec.proofs.Common.{false≢true, or_left, or_parts, true≢false, Empty, EmptyComponent, StartsWithDot}
use Rattle.gix_refspec.proofs.Common.{LockSuffix, EndsWithDot, RepeatedDot, ReflogPortion, Asterisk, InvalidByte, at}
use Rattle.gix_refspec.proofs.Common.{brace, dot, slash, star, BeginsWith, EndsWith, is_refused_byte, HasFault}
use Rattle.gix_refspec.proofs.Common.{SomeComponent, is_plain_component, is_plain_name, is_special_byte, PlainNames}
use Rattle.gix_refspec.proofs.Common.{not-true}
use Rattle.gix_refspec.proofs.lemmas.hits.TransposeLemmas.{both_or_neither, one_star, starred}
use Rattle.gix_refspec_text.proofs.lemmas.texts.ComponentLemmas.{AllByRecursion-parts}
use Rattle.gix_refspec_text.specs.{Laws.Sides.{SidesAgree, OneOfEach}, declared.name.Error.{Error}}
use Rattle.std.proofs.lemmas.List.Splits.{join_with_byte-slice_split}

pub sides_agree : (r : Reading) → ∥ IsAccepted r ∥₁ → SidesAgree r
sides_agree r accepted = record {
  each = λ x side. by_cases (starred x) (λ lacks. inr lacks)
      (λ has. inl (one_star x has (accepted_few r x accepted side)));
  both = λ s d source destination. both_or_neither s d (accepted_few r s accepted (inl source))
      (accepted_few r d accepted (inr destination)) (accepted_balanced r s d accepted source destination);
}

pub one_of_each : OneOfEach
one_of_each = record { kind = one_kind; word = one_word; id = IsIdText-unique }

-- ---- texts of plain components have no fault: each fault is an empty component or has a special byte other than a
-- slash

abbrev Fine : ℕ → Type 0
Fine b = (b ≡ slash) ⊎ (is_special_byte b ≡ false)

fine_bytes : (w : List ℕ) → list_any is_special_byte w ≡ false → AllByRecursion Fine w
fine_bytes [] none = tt
fine_bytes (b ∷ w) none = let parts = or_parts (is_special_byte b) (list_any is_special_byte w) none in
    (inr parts.0, fine_bytes w parts.1)

none_special : (w : List ℕ) → is_plain_component w ≡ true → AllByRecursion Fine w
none_special w plain = grind (arith, false≢true, fine_bytes, is_special_byte, not-true)

-- no byte of plain components joined by slashes is special, except for the slashes
joined_fine : (parts : List (List ℕ)) → list_all is_plain_component parts ≡ true
    → AllByRecursion Fine (join_with_byte slash parts)
joined_fine [] plain = tt
joined_fine (w ∷ []) plain = none_special w (and_parts (is_plain_component w) true plain).0
joined_fine (w ∷ v ∷ parts) plain =
    let each = and_parts (is_plain_component w) (list_all is_plain_component (v ∷ parts)) plain in
    all_join Fine w (slash ∷ join_with_byte slash (v ∷ parts)) (none_special w each.0)
    (inl refl, joined_fine (v ∷ parts) each.1)

not_there : (b : ℕ) (before after x : List ℕ) → b ≢ slash → is_special_byte b ≡ true → AllByRecursion Fine x
    → x ≡ before ++ (b ∷ after) → ⊥
not_there b before after x other special fine here = grind (arith, AllByRecursion-parts, true≢false)

no_dot : (before after x : List ℕ) → AllByRecursion Fine x → ¬ (x ≡ before ++ (dot ∷ after))
no_dot before after x fine here = not_there dot before after x (λ e. omega (arith, e)) refl fine here

-- what holds of no plain component holds of no component of a plain name
no_such : (P : List ℕ → Type 0) (x : List ℕ) → ((w : List ℕ) → is_plain_component w ≡ true → ¬ (P w))
    → is_plain_name x ≡ true → ¬ (SomeComponent P x)
no_such P x unless plain = no_component P x (each (slice_split (λ b. b == slash) x) plain)
  where
    each : (parts : List (List ℕ)) → list_all is_plain_component parts ≡ true → AllByRecursion (λ w. ¬ (P w)) parts
    each [] all = tt
    each (w ∷ parts) all = let both = and_parts (is_plain_component w) (list_all is_plain_component parts) all in
        (unless w both.0, each parts both.1)

faultless : (x : List ℕ) → is_plain_name x ≡ true → AllByRecursion Fine x → (e : Error) → ¬ (HasFault x e)
faultless x plain fine Empty fault = false≢true (ap is_plain_name (sym fault) ∙ plain)
faultless x plain fine EmptyComponent fault =
    no_such (λ w. w ≡ []) x (λ w each empty. false≢true (ap is_plain_component (sym empty) ∙ each)) plain fault.1
faultless x plain fine StartsWithDot fault = no_such (BeginsWith (codes ".")) x
    (λ w each begins. no_dot [] begins.after w (none_special w each) begins.here) plain fault
faultless x plain fine LockSuffix fault = no_such (EndsWith (codes ".lock")) x
    (λ w each ends. no_dot ends.before (codes "lock") w (none_special w each) ends.here) plain fault
faultless x plain fine EndsWithDot fault = no_dot fault.before [] x fine fault.here
faultless x plain fine RepeatedDot fault = no_dot fault.before (dot ∷ fault.after) x fine fault.here
faultless x plain fine ReflogPortion fault =
    not_there brace (fault.before ++ at ∷ []) fault.after x (λ e. omega (arith, e)) refl fine
    (fault.here ∙ sym (append_assoc fault.before (at ∷ []) (brace ∷ fault.after)))
faultless x plain fine Asterisk fault = not_there star fault.before fault.after x (λ e. omega (arith, e)) refl fine
    fault.here
faultless x plain fine (InvalidByte b) fault =
    not_there b fault.0.before fault.0.after x (λ same. false≢true (ap is_refused_byte (sym same) ∙ fault.1))
    (or_left (is_refused_byte b) (list_any (λ c. b == c) (codes "*/.{")) fault.1) fine fault.0.here

pub plain_names : PlainNames
plain_names x plain =
    faultless x plain (subst (AllByRecursion Fine) (join_with_byte-slice_split slash x)
    (joined_fine (slice_split (λ b. b == slash) x) plain))
