-- The output of `track`, in the terms of the library.
use Rattle.std.specs.Prelude.{◌≡◌, ◌≢◌, ◌↔◌, ◌⊎◌, ℕ, Bool, List, [], ◌∷◌, map, replicate, None, Some, IsTrue, MatchBool}
use Rattle.std.specs.Prelude.{⊤}
use Rattle.std.specs.Borrow.{Bor}
use Rattle.std.specs.BTreeSet.{BTreeSet, contains_by}
use Rattle.std.specs.Cmp.Lexicographic.{slice_cmp}
use Rattle.std.specs.Ordering.{nat_cmp}
use Rattle.gix_refspec.specs.Laws.Items.{HasIdDestination}
use Rattle.gix_refspec.specs.Matching.Hits.{AreKeptBackward}
use Rattle.gix_refspec.specs.Matching.Mappings.{Mapped}
use Rattle.gix_refspec.specs.Matching.Match.{Ref}
use Rattle.gix_refspec.specs.Specs.Reading.{Reading}
use Rattle.refspec_io.specs.declared.call.Form.{Form}
use Rattle.refspec_io.specs.Rows.{AddsMappingsAmong, AreSpecTexts}

-- a ref of which only the name is known: it points to the null id
abbrev pub named : List ℕ → Ref
named n = record { name = n; target = replicate 20 0; object = None }

-- the specs by which refs can be looked up, in order: those whose destination is not an object id
abbrev pub AreByNames : List Reading → List Reading → Type 0
AreByNames [] kept = kept ≡ []
AreByNames (r ∷ g) kept =
    (HasIdDestination r × AreByNames g kept)
    ⊎ ((¬ (HasIdDestination r)) × ((rest : List Reading) × AreByNames g rest × (kept ≡ r ∷ rest)))

-- some mapping writes the ref with this name
abbrev pub IsWritten : List ℕ → List Mapped → Type 0
IsWritten name [] = ⊥
IsWritten name (m ∷ found) = (m.destination ≡ Some name) ⊎ IsWritten name found

-- the set contains exactly the names of the refs that mappings write
abbrev pub AreWritten : BTreeSet (Bor (List ℕ)) → List Mapped → Type 0
AreWritten set found = (name : List ℕ) → IsTrue (contains_by (λ n. slice_cmp nat_cmp name n.now) set)
    ↔ IsWritten name found

-- some mapping writes each of these refs
abbrev pub IsEachWritten : List (List ℕ) → List Mapped → Type 0
IsEachWritten [] found = ⊤
IsEachWritten (name ∷ names) found = IsWritten name found × IsEachWritten names found

-- some of these refs is not written by any mapping
abbrev pub HasUnwritten : List (List ℕ) → List Mapped → Type 0
HasUnwritten [] found = ⊥
HasUnwritten (name ∷ names) found = (¬ (IsWritten name found)) ⊎ HasUnwritten names found

-- the results grew by the mappings by which these specs map refs with these names back to sources; something is
-- refused if the destination of a spec is an object id, or no spec writes a ref
pub record AddsTracked (form : Form) (names : List (List ℕ)) (refused : Bool) (g : List Reading) (old new : List ℕ) :
    Type 0 where
  pub by_names : List Reading
  pub found : List Mapped
  pub texts : List (List ℕ)
  pub looked_up : AreByNames g by_names
  pub kept : AreKeptBackward by_names (map named names) found
  pub of_specs : AreSpecTexts by_names texts
  pub reported : AddsMappingsAmong form texts found old new
  pub status : MatchBool refused ((by_names ≢ g) ⊎ HasUnwritten names found)
      ((by_names ≡ g) × IsEachWritten names found)
