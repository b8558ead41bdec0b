-- What is requested by a list of ref prefixes. Only private functions cite this.
use Rattle.std.specs.Prelude.{◌≡◌, ◌≢◌, ℕ, List, [], map}
use Rattle.bstr.specs.Owned.{bstring_bytes}
use Rattle.gix_refspec.specs.Matching.Asked.{CanBeSent}
use Rattle.gix_refspec.specs.declared.match_group.prefixes.RefPrefixes.{RefPrefixes}
use Rattle.gix_refspec.specs.declared.match_group.prefixes.RefPrefixes.TheVariants.{Nothing, Listed, All}

-- what is requested by these ref prefixes: nothing if there are none, these if they can be sent, otherwise all refs
abbrev pub RequestsList : List (List ℕ) → RefPrefixes → Type 0
RequestsList list Nothing = list ≡ []
RequestsList list (Listed some) = (list ≡ map bstring_bytes some.items) × (some.items ≢ []) × CanBeSent list
RequestsList list All = ¬ (CanBeSent list)
