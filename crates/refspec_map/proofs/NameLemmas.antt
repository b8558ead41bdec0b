-- The kept mappings of items are those of any refs that have the same names, by the laws `names_decide` and
-- `names_decide_back`.
use Rattle.std.proofs.Common.{◌≡◌, ℕ, List, [], ◌∷◌, map, ap, ◌∙◌, refl}
use Rattle.bstr.specs.BStr.{bstr_bytes}
use Rattle.gix_refspec_match.specs.declared.types.Item.{Item}
use Rattle.gix_refspec.specs.Specs.Reading.{Reading}
use Rattle.gix_refspec.specs.Matching.Mappings.{Mapped}
use Rattle.gix_refspec.specs.Matching.Match.{Ref}
use Rattle.gix_refspec.specs.Matching.Hits.{AreKeptForward, AreKeptBackward}
use Rattle.gix_refspec.specs.Views.Group.{ref_of}
use Rattle.gix_refspec.specs.Laws.Items.{AsksForNoId, HaveSameNames, NamesDecide, NamesDecideBack}
use Rattle.refspec_map.specs.Parsed.{bare, named}

item_names : (items : List Item) → map (λ (r : Ref). r.name) (map ref_of items) ≡ map (λ (r : Ref). r.name)
    (map named items)
item_names [] = refl
item_names (i ∷ items) = ap (λ (l : List (List ℕ)). bstr_bytes i.full_ref_name ∷ l) (item_names items)

bare_names : (refs : List Ref) → map (λ (r : Ref). r.name) (map bare refs) ≡ map (λ (r : Ref). r.name) refs
bare_names [] = refl
bare_names (r ∷ refs) = ap (λ (l : List (List ℕ)). r.name ∷ l) (bare_names refs)

same_names : (items : List Item) (refs : List Ref) → map named items ≡ map bare refs
    → HaveSameNames (map ref_of items) refs
same_names items refs same = item_names items ∙ ap (map (λ (r : Ref). r.name)) same ∙ bare_names refs

pub kept_by_name : (g : List Reading) (items : List Item) (refs : List Ref) (l : List Mapped)
    → NamesDecide g (map ref_of items) → map named items ≡ map bare refs → AreKeptForward g (map ref_of items) l
    → AreKeptForward g refs l
kept_by_name g items refs l law same kept = law refs (same_names items refs same) l kept

-- so too from right to left, if no destination is an id
pub kept_back_by_name : (g : List Reading) (items : List Item) (refs : List Ref) (l : List Mapped)
    → NamesDecideBack g (map ref_of items) → AsksForNoId g → map named items ≡ map bare refs
    → AreKeptBackward g (map ref_of items) l → AreKeptBackward g refs l
kept_back_by_name g items refs l law none same kept = law none refs (same_names items refs same) l kept
