use Rattle.gix_refspec_match.proofs.Common.{IsUnflagged, refl, false≢true, [], ◌≡◌, sym, ◌∙◌, arith, eqb-true}
use Rattle.gix_refspec_match.proofs.Common.{nil_from_length}
use Rattle.gix_refspec_match.proofs.lemmas.lists.ListsLemmas.{made_all}
use Rattle.gix_refspec_match.proofs.lemmas.keep.KeptLemmas.{kept_unflagged}
use Rattle.gix_refspec_match.proofs.without_duplicates.Goals as goal

pub returns : goal.returns
returns c =
    let ms = c.args.mappings.items in
    let told = c.in_ok-flags.flags in
    let flags = rw c.as_slice.ensures.value at c.in_ok-flags.ensures.ok in
    elim c.if-not-is_empty.branch [
      | goal.then-not-is_empty w ↦ rw w.mappings-is
          (kept_unflagged ms w.drop_flagged.new.elements.items told.items flags
          (rw w.as_slice-then-not-is_empty.ensures.value at w.drop_flagged.ensures))
      | goal.else-not-is_empty w ↦
          let none : told.items ≡ [] = nil_from_length told.items
          (let empty = eqb-true _ _ (sym c.is_empty.ensures ∙ w.if-not-is_empty.false) in omega
          (arith, empty, told.ok.0, told.ok.1)) in
          rw w.mappings-is
          (kept_unflagged ms ms told.items flags
          (made_all (IsUnflagged told.items) (λ k m. (refl, λ flagged. false≢true (rw none at flagged))) 0 ms))
    ]
