-- The text that is written out has one reading, which computes.
use Rattle.std.proofs.Common.{◌≡◌, refl, sym, subst, List, ℕ}
use Rattle.bstr.specs.BStr.{bstr_bytes}
use Rattle.gix_refspec_text.specs.declared.parsing.Operation.TheVariants.{Fetch}
use Rattle.gix_refspec.specs.Specs.Grammar.{Reads}
use Rattle.gix_refspec.specs.Views.Spec.{reading_of}
use Rattle.gix_refspec_text.proofs.readers.Readings.{reads}
use Rattle.gix_refspec_uses.specs.Claims.{branches_of_origin, clone_text, IsRefspec, ReadsOnlyAs}
use Rattle.gix_refspec_uses.proofs.clone_spec.Goals as goal

written : (text : List ℕ) → text ≡ clone_text → Reads Fetch text branches_of_origin
written text is = subst (λ (x : List ℕ). Reads Fetch x branches_of_origin) (sym is) (reads refl refl)

pub unreachable-requires : goal.unreachable-requires
unreachable-requires c =
    let none : ¬ (IsRefspec Fetch (bstr_bytes c.new-text.result)) = rw c.in-None.is at c.in_ok-spec.ensures.ok in
    none (branches_of_origin, written (bstr_bytes c.new-text.result) c.new-text.ensures)

pub returns-clause-ok : goal.returns-clause-ok
returns-clause-ok c =
    let reads : ReadsOnlyAs Fetch (bstr_bytes c.new-text.result) (reading_of c.in-Some.spec) =
    rw c.in-Some.is at c.in_ok-spec.ensures.ok in
    sym (reads.only branches_of_origin (written (bstr_bytes c.new-text.result) c.new-text.ensures))
