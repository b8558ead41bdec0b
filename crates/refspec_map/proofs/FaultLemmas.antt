-- An input whose lines all add an entry has no bad line.
use Rattle.std.proofs.Common.{◌≡◌, ◌≢◌, ◌⊎◌, inl, inr, ℕ, Bool, List, [], ◌∷◌, ◌++◌, codes, get_or, sym, ap, ◌∙◌, subst}
use Rattle.std.proofs.Common.{arith}
use Rattle.std.specs.List.{AllZip}
use Rattle.std.proofs.lemmas.List.{append_cancel_left}
use Rattle.gix_refspec_text.specs.declared.parsing.Operation.TheVariants.{Fetch}
use Rattle.gix_refspec.specs.Texts.Words.{Lacks}
use Rattle.gix_refspec.specs.Specs.Grammar.{Reads}
use Rattle.gix_refspec.specs.Matching.Match.{Ref}
use Rattle.refspec_map.specs.declared.command.Command.{Command}
use Rattle.refspec_map.specs.declared.command.Command.TheVariants as command
use Rattle.refspec_map.specs.declared.fault.Fault.{Fault}
use Rattle.refspec_map.specs.declared.fault.Fault.TheVariants as fault
use Rattle.refspec_map.specs.Input.{newline, AreLines}
use Rattle.refspec_map.specs.Line.{Entry, reading, ref, spec, item, Says, Gives, IsFaultOf, IsFirstFault}
use Rattle.refspec_map.specs.Run.{IsBad, IsOutput}
use Rattle.refspec_map.proofs.OutputLemmas.{no_lines}
use Rattle.gix_refspec_text.proofs.lemmas.lists.LacksLemmas.{Lacks-here, first_once}
use Rattle.gix_refspec_text.specs.declared.parsing.Error.{Error as RefspecError}
use Rattle.gix_refspec_text.specs.declared.parsing.Error.TheVariants as refspec_error
use Rattle.gix_refspec_text.specs.Specs.Explained.{reason_name}
use Rattle.gix_refspec.specs.Specs.Refusal.{Refusal}
use Rattle.gix_refspec.specs.Views.Instruction.{IsShownAs}
use Rattle.refspec_map.specs.Fault.{name_of}

same_lines : (x y : List ℕ) (xs ys : List (List ℕ)) (input : List ℕ) → Lacks newline x → Lacks newline y
    → ((rest : List ℕ) × (input ≡ x ++ (newline ∷ rest)) × AreLines xs rest) ⊎ ((x ≢ []) × (xs ≡ []) × (input ≡ x))
    → ((rest : List ℕ) × (input ≡ y ++ (newline ∷ rest)) × AreLines ys rest) ⊎ ((y ≢ []) × (ys ≡ []) × (input ≡ y))
    → ((rest : List ℕ) → AreLines xs rest → AreLines ys rest → xs ≡ ys) → x ∷ xs ≡ y ∷ ys
same_lines x y xs ys input in_x in_y (inl a) (inl b) later =
    let same = first_once newline x y a.0 b.0 in_x in_y (sym a.1 ∙ b.1) in
    ap (λ h. h ∷ xs) same.0 ∙ ap (λ t. y ∷ t) (later a.0 a.2 (subst (AreLines ys) (sym same.1) b.2))
same_lines x y xs ys input in_x in_y (inl a) (inr b) later =
    absurd (Lacks-here newline x a.0 (subst (Lacks newline) (sym b.2 ∙ a.1) in_y))
same_lines x y xs ys input in_x in_y (inr a) (inl b) later =
    absurd (Lacks-here newline y b.0 (subst (Lacks newline) (sym a.2 ∙ b.1) in_x))
same_lines x y xs ys input in_x in_y (inr a) (inr b) later = ap (λ h. h ∷ xs) (sym a.2 ∙ b.2)
    ∙ ap (λ t. y ∷ t) (a.1 ∙ sym b.1)

-- an input is split into lines in one way
AreLines-once : (xs ys : List (List ℕ)) (input : List ℕ) → AreLines xs input → AreLines ys input → xs ≡ ys
AreLines-once [] ys input a b = sym (no_lines ys (subst (AreLines ys) a b))
AreLines-once (x ∷ xs) [] input a b = no_lines (x ∷ xs) (subst (AreLines (x ∷ xs)) b a)
AreLines-once (x ∷ xs) (y ∷ ys) input a b = same_lines x y xs ys input a.0 b.0 a.1 b.1
    (λ rest p q. AreLines-once xs ys rest p q)

-- a line in the list adds an entry
given_at : (before : List (List ℕ)) (line : List ℕ) (after : List (List ℕ)) (entries : List Entry)
    → AllZip Gives (before ++ (line ∷ after)) entries → (e : Entry) × Gives line e
given_at [] line after [] given = absurd given
given_at [] line after (e ∷ entries) given = (e, given.0)
given_at (b ∷ before) line after [] given = absurd given
given_at (b ∷ before) line after (e ∷ entries) given = given_at before line after entries given.1

-- a line of a ref isn't the line of a spec
no_spec : (line text : List ℕ) (r : Ref) → Says line (spec text) → Says line (item r) → ⊥
no_spec line text r says (inl is) = omega (arith, ap (λ l. get_or l 0 0) (sym says ∙ is.here))
no_spec line text r says (inr is) = omega (arith, ap (λ l. get_or l 0 0) (sym says ∙ is.here))

-- a line that adds an entry has no fault
pub no_fault : (line : List ℕ) (e : Entry) (n : ℕ) (f : Fault) → Gives line e → IsFaultOf n line f → ⊥
no_fault line (reading r) n (fault.Line m) given bad = bad.1 (spec given.0) given.1
no_fault line (ref r) n (fault.Line m) given bad = bad.1 (item r) given
no_fault line (reading r) n (fault.Spec m error) given bad =
    let same : given.0 ≡ bad.0 = append_cancel_left (codes "spec ") given.0 bad.0 (sym given.1 ∙ bad.2) in
    bad.3.2.unread r (subst (λ t. Reads Fetch t r) same given.2)
no_fault line (ref r) n (fault.Spec m error) given bad = no_spec line bad.0 r bad.2 given
no_fault line e n fault.TooLong given bad = absurd bad
no_fault line e n fault.Read given bad = absurd bad
no_fault line e n fault.Memory given bad = absurd bad
no_fault line e n fault.Write given bad = absurd bad

no_first_fault : (lines : List (List ℕ)) (entries : List Entry) (input : List ℕ) → AreLines lines input
    → AllZip Gives lines entries → (f : Fault) → ¬ (IsFirstFault input f)
no_first_fault lines entries input split given f bad =
    let same = AreLines-once lines (bad.2.before ++ (bad.1 ∷ bad.2.after)) input split bad.2.split in
    let at = given_at bad.2.before bad.1 bad.2.after entries
    (subst (λ (ls : List (List ℕ)). AllZip Gives ls entries) same given) in
    no_fault bad.1 at.0 bad.0 f at.1 bad.3

-- an input with an output has no bad line
pub no_bad_line : (c : Command) (input output : List ℕ) (refusal : Bool) → IsOutput c input output refusal → (f : Fault)
    → ¬ (IsBad c input f)
no_bad_line command.CanonFetch input output refusal is f bad = bad
no_bad_line command.CanonPush input output refusal is f bad = bad
no_bad_line command.Lhs input output refusal is f bad = no_first_fault is.lines is.entries input is.split is.given f bad
no_bad_line command.Rhs input output refusal is f bad = no_first_fault is.lines is.entries input is.split is.given f bad
no_bad_line command.Plan input output refusal is f bad = no_first_fault is.lines is.entries input is.split is.given f
    bad

-- the name of a reason is that of the refusal that it shows
pub reason_shown : (e : RefspecError) (f : Refusal) → IsShownAs e f → reason_name e ≡ name_of f
reason_shown refspec_error.Empty f is = sym (ap name_of is)
reason_shown refspec_error.NegativeWithDestination f is = sym (ap name_of is)
reason_shown refspec_error.NegativeEmpty f is = sym (ap name_of is)
reason_shown refspec_error.NegativeObjectHash f is = sym (ap name_of is)
reason_shown refspec_error.PushToEmpty f is = sym (ap name_of is)
reason_shown refspec_error.PatternUnbalanced f is = sym (ap name_of is)
reason_shown (refspec_error.PatternUnsupported pattern) f is = sym (ap name_of is)
reason_shown (refspec_error.ReferenceName fault) f is = sym (ap name_of is)
reason_shown refspec_error.NegativePartialName f is = absurd is
reason_shown refspec_error.NegativeGlobPattern f is = absurd is
reason_shown refspec_error.InvalidFetchDestination f is = absurd is
reason_shown refspec_error.Memory f is = absurd is
