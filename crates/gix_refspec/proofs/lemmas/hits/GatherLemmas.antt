-- Gathering a group, for a caller that knows what its iterator yields. `YieldsList` says that of a chain of adapters:
-- `YieldsList-from_vec`, `YieldsList-from_slice` and `YieldsList-from_copied` of std begin and extend one.
use Rattle.gix_refspec.proofs.Common.{◌≡◌, List, Option, sym, ap, ◌∙◌, map-id, filter, MatchGroup, Operation}
use Rattle.gix_refspec.proofs.Common.{RefSpecRef, is_for, IsGathered}
use Rattle.std.proofs.lemmas.Iterator.{YieldsList, items_from_drains}

-- a group gathered from an iterator has the specs for the operation among all that it yields
pub gathered : {U T : Type 0} {becomes : U → T → Type 0} {steps : T → Option RefSpecRef → T → Type 0} {op : Operation}
    {source : U} (all : List RefSpecRef) → ((it : T) → becomes source it → YieldsList steps (λ x. x) it all)
    → (g : MatchGroup) → IsGathered becomes steps op source g → g.specs.items ≡ filter (is_for op) all
gathered {op = op} all gives g has =
    let same = items_from_drains has.all (has.given.1.0, has.given.1.1, λ _. (has.given.0, has.given.1.2))
    (gives has.iterator has.made) in
    has.specs ∙ ap (filter (is_for op)) (sym (map-id has.all) ∙ same)
