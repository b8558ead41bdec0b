-- What is shown of one name, and what is written where a caller reads it.
use Rattle.std.proofs.Common.{◌≡◌, ℕ, List, [], ◌∷◌, Result, Ok, Err, OnOk, IfErr, inl, inr, None, refl, ap, length}
use Rattle.std.proofs.Common.{map, arith}
use Rattle.gix_refspec_text.specs.declared.parsing.Operation.{Operation}
use Rattle.gix_refspec.specs.Specs.Reading.{Reading}
use Rattle.gix_refspec.specs.Specs.Grammar.{Reads}
use Rattle.gix_refspec.specs.Matching.Hits.{Hit, backward_of}
use Rattle.gix_refspec.specs.Matching.Mappings.{Mapped, id}
use Rattle.gix_refspec.specs.Matching.Single.{MapsNameBack}
use Rattle.gix_refspec_c.specs.declared.failure.Failure.{Failure}
use Rattle.gix_refspec_c.specs.declared.failure.Failure.TheVariants as failure
use Rattle.gix_refspec_c.specs.declared.naming.Made.{Made}
use Rattle.gix_refspec_c.specs.Naming.{IsAnswered, IsNotWrittenAs, IsWrittenAs, IsUnanswered, WritesNoName, Shown}

module _ (old new : List ℕ) (made : Made) (result : Result (Unit {0}) Failure) where
  pub written : (Is : Shown → Type 0) (s : Shown) → Is s → OnOk result (IsWrittenAs s old new made)
      → OnOk result ((s : Shown) × Is s × IsWrittenAs s old new made)
  written Is s is put = elim result as (λ r. OnOk r (IsWrittenAs s old new made)
      → OnOk r ((s : Shown) × Is s × IsWrittenAs s old new made)) [
        | Ok u ↦ λ put. (s, is, put)
        | Err f ↦ λ none. tt
      ] put

  pub not_written : (Is : Shown → Type 0) (Why : Failure → Type 0) (before : Made) (s : Shown) → Is s
      → IfErr result (λ f. (f ≡ failure.TooSmall) × IsNotWrittenAs s old new made)
      → IfErr result (WritesNoName Is Why old new before made)
  not_written Is Why before s is small = elim result as
      (λ r. IfErr r (λ f. (f ≡ failure.TooSmall) × IsNotWrittenAs s old new made)
      → IfErr r (WritesNoName Is Why old new before made)) [
        | Ok u ↦ λ none. tt
        | Err f ↦ λ small. inl (small.0, s, is, small.1)
      ] small

  module _ (op : Operation) (text : List ℕ) (r : Reading) (reads : Reads op text r)
      (Told : Reading → Shown → Type 0) where
    pub answers : OnOk result ((s : Shown) × Told r s × IsWrittenAs s old new made)
        → OnOk result ((s : Shown) × IsAnswered Told op text s × IsWrittenAs s old new made)
    answers told = elim result as (λ x. OnOk x ((s : Shown) × Told r s × IsWrittenAs s old new made)
        → OnOk x ((s : Shown) × IsAnswered Told op text s × IsWrittenAs s old new made)) [
          | Ok u ↦ λ (s, is, put). (s, record { reading = r; reads = reads; is = is }, put)
          | Err f ↦ λ none. tt
        ] told

    pub no_answer : (before : Made)
        → IfErr result (WritesNoName (Told r) (λ f. f ≡ failure.NoMemory) old new before made)
        → IfErr result (WritesNoName (IsAnswered Told op text) (IsUnanswered op text) old new before made)
    no_answer before why = elim result as (λ x.
        IfErr x (WritesNoName (Told r) (λ f. f ≡ failure.NoMemory) old new before made)
        → IfErr x (WritesNoName (IsAnswered Told op text) (IsUnanswered op text) old new before made)) [
          | Ok u ↦ λ none. tt
          | Err f ↦ λ why. elim why [
            | inl (small, s, is, put) ↦ inl (small, s, record { reading = r; reads = reads; is = is }, put)
            | inr (none, same, kept) ↦ inr (inr (none, (r, reads)), same, kept)
          ]
        ] why

one_named : (m : Mapped) (hits : List Hit) (i : List ℕ) → m ∷ [] ≡ map backward_of hits → ¬ (m.source ≡ id i)
one_named m [] i all is = omega (arith, ap length all)
one_named m (h ∷ hits) i all is = cc (all, is)

-- no name is mapped back to an id
pub back_to_a_name : (n : List ℕ) (r : Reading) (m : Mapped) (i : List ℕ) → MapsNameBack n r m → ¬ (m.source ≡ id i)
back_to_a_name n r m i maps is =
    let all = maps.each (record { name = n; target = []; object = None }) refl in
    one_named m all.hits i all.all is
