-- The last item is the last ref.
use Rattle.std.proofs.Common.{◌-◌, List, length, sym, ap, ◌∙◌}
use Rattle.std.specs.List.{slice_get}
use Rattle.std.proofs.lemmas.Bool.Decides.{Decides-eqb}
use Rattle.std.proofs.lemmas.Slice.Eq.{slice_eq-Decides}
use Rattle.gix_refspec_match.specs.declared.types.Item.{Item}
use Rattle.refspec_io.proofs.RefLemmas.{HasLast-iff}
use Rattle.refspec_io.proofs.refs.RefList.is_last.Goals as goal

pub returns-in-Some : goal.returns-in-Some
returns-in-Some c =
    let here = c.in-Some.ensures.value ∙ ap (λ (l : List Item). slice_get l (length l - 1)) c.deref.ensures.value in
    let same = slice_eq-Decides Decides-eqb c.as_bytes.result.now c.args.name.now c.eq.result c.eq.ensures in
    HasLast-iff c.args.self.now.items.items c.in-Some.last c.args.name.now c.eq.result here
    ((λ yes. sym c.as_bytes.ensures ∙ same.0 yes), (λ is. same.1 (c.as_bytes.ensures ∙ is)))
