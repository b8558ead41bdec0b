-- The local refs that look stale as a caller receives them, by the definition of the library.
use Rattle.std.specs.Prelude.{◌≡◌, ℕ, List, map}
use Rattle.std.specs.List.{AllZip}
use Rattle.gix_refspec_text.specs.declared.parsing.Operation.TheVariants.{Fetch}
use Rattle.gix_refspec.specs.Specs.Reading.{Reading}
use Rattle.gix_refspec.specs.Specs.Grammar.{Reads}
use Rattle.gix_refspec_plan.specs.Matching.Stale.{AreStale, Found}
use Rattle.gix_refspec_c.specs.declared.pruning.StaleOut.{StaleOut}
use Rattle.gix_refspec_c.specs.Mapping.{number_of_index}
use Rattle.gix_refspec_c.specs.Matching.{nameless}

-- the struct of a local ref that looks stale: its index, and that of the spec that keeps it, or `no_index`
pub record IsShown (f : Found) (s : StaleOut) : Type 0 where
  pub item : s.item ≡ f.item
  pub kept_by : s.kept_by ≡ number_of_index f.kept_by

-- the structs of local refs that look stale
abbrev pub AreShown : List Found → List StaleOut → Type 0
AreShown found structs = AllZip IsShown found structs

-- the texts are fetches, and these are the structs of the local refs with these names that look stale, if the remote
-- has
-- refs with those names
pub record AreStaleIn (texts remote local : List (List ℕ)) (structs : List StaleOut) : Type 0 where
  pub group : List Reading
  pub read : AllZip (Reads Fetch) texts group
  pub found : List Found
  pub stale : AreStale group (map nameless remote) (map nameless local) found
  pub show : AreShown found structs
