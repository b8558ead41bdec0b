-- A text is refused for only one reason, apart from which fault of a name it holds.
use Rattle.gix_refspec_text.proofs.Common.{arith, ◌⊎◌, inl, ℕ, List, Option, sym, ◌∙◌, Operation, star, Mode, Refusal}
use Rattle.gix_refspec_text.proofs.Common.{PatternUnsupported, ReferenceName, IsBadName, IsBadPattern, IsBadSourceFor}
use Rattle.gix_refspec_text.proofs.Common.{HasBadDestination, OrElse, IsFirstReason, IsSameReason, OneRefusal}
use Rattle.gix_refspec_text.proofs.Common.{same_Some}
use Rattle.gix_refspec_text.proofs.lemmas.texts.TextLemmas.{Lacks-ContainsText}
use Rattle.gix_refspec_text.proofs.lemmas.parsing.SideLemmas.{HasStar-bad, HasSeveralStars-replaced}
use Rattle.gix_refspec_text.proofs.lemmas.parsing.PartsLemmas.{parts_once}

abbrev Agree : (Refusal → Type 0) → Type 0
Agree P = (e f : Refusal) → P e → P f → IsSameReason e f

Agree-or : {P Q : Refusal → Type 0} → Agree P → Agree Q → Agree (OrElse P Q)
Agree-or p q e f h k = grind (arith, p e f, q e f)

Agree-pattern : (x : List ℕ) → Agree (IsBadPattern x)
Agree-pattern x (PatternUnsupported p) (ReferenceName g) a b = absurd (HasSeveralStars-replaced x b.0 b.1 a.0)
Agree-pattern x (ReferenceName f) (PatternUnsupported q) a b = absurd (HasSeveralStars-replaced x a.0 a.1 b.0)
Agree-pattern x e f a b = grind arith

Agree-name : (x : List ℕ) → Agree (IsBadName x)
Agree-name x h f a b = grind arith

name_no_pattern : (x : List ℕ) (e f : Refusal) → IsBadName x e → IsBadPattern x f → ⊥
name_no_pattern x e f name pattern = Lacks-ContainsText star x (grind arith) (HasStar-bad x f pattern)

Agree-side : (x : List ℕ) → Agree (λ e. IsBadName x e ⊎ IsBadPattern x e)
Agree-side x e f h h2 = grind (arith, Agree-name, name_no_pattern, Agree-pattern)

Agree-source : (op : Operation) (d : Option (List ℕ)) (s : List ℕ) → Agree (IsBadSourceFor op d s)
Agree-source op d s = grind (arith, Agree-side, Agree-pattern)

Agree-destination : (d : Option (List ℕ)) → Agree (HasBadDestination d)
Agree-destination d e f a b = grind (arith, same_Some, Agree-side)

pub Agree-first : (op : Operation) (mode : Mode) (s : List ℕ) (d : Option (List ℕ)) → Agree (IsFirstReason op mode s d)
Agree-first op mode s d =
    Agree-or (λ e f a b. inl (a.refusal ∙ sym b.refusal))
    (Agree-or (λ e f a b. inl (a.refusal ∙ sym b.refusal)) (Agree-or (λ e f a b. inl (a.refusal ∙ sym b.refusal))
    (Agree-or (λ e f a b. Agree-source op d s e f a.refusal b.refusal)
    (Agree-or (Agree-destination d) (Agree-or (λ e f a b. inl (a.refusal ∙ sym b.refusal))
    (Agree-or (λ e f a b. inl (a.refusal ∙ sym b.refusal)) (λ e f a b. inl (a.refusal ∙ sym b.refusal))))))))

pub one_refusal : (op : Operation) (text : List ℕ) → OneRefusal op text
one_refusal op text e f a b =
    let same = parts_once b.mode a.mode b.source a.source b.destination a.destination text b.parts a.parts in
    Agree-first op a.mode a.source a.destination e f a.first (rw (same.mode, same.source, same.destination) at b.first)
