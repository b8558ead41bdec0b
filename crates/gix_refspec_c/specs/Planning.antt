-- The plan of a fetch as a caller receives it, by the definition of the library. The numbers are this project's own,
-- and are
-- those of include/gix_refspec.h.
use Rattle.std.specs.Prelude.{◌≡◌, ◌≢◌, ◌⊎◌, ◌==◌, not, ℕ, List, [], ◌++◌, map, Option, None, Some}
use Rattle.std.specs.List.{AllZip, Any}
use Rattle.gix_refspec_text.specs.declared.parsing.Operation.TheVariants.{Fetch}
use Rattle.gix_refspec.specs.declared.match_group.ref_names.InvalidSide.TheVariants as invalid
use Rattle.gix_refspec_plan.specs.declared.Origin.{Origin}
use Rattle.gix_refspec_plan.specs.declared.Origin.TheVariants as origin
use Rattle.gix_refspec_plan.specs.declared.Verdict.{Verdict}
use Rattle.gix_refspec_plan.specs.declared.Verdict.TheVariants as verdict
use Rattle.gix_refspec.specs.Specs.Reading.{Reading}
use Rattle.gix_refspec.specs.Specs.Grammar.{Reads}
use Rattle.gix_refspec_plan.specs.Matching.Plan.{IsCarriedOut, IsPlan as IsPlanOf, Planned, Wish}
use Rattle.gix_refspec_c.specs.declared.failure.Failure.{Failure}
use Rattle.gix_refspec_c.specs.declared.failure.Failure.TheVariants as failure
use Rattle.gix_refspec_c.specs.declared.planning.WishIn.{WishIn}
use Rattle.gix_refspec_c.specs.Group.{AreUnread, bytes_of}
use Rattle.gix_refspec_c.specs.Mapping.{Entry, HasAll, LacksAll, Room, destination_text, destinations, forced_at}
use Rattle.gix_refspec_c.specs.Mapping.{id_text, no_index, number_of_index}
use Rattle.gix_refspec_c.specs.Matching.{nameless}

-- what a caller passes: the texts of the given specs, of the configured ones and of merged refs, and a number that is 0
-- unless all tags are asked for
pub record WishTexts : Type 0 where
  pub given : List (List ℕ)
  pub configured : List (List ℕ)
  pub merges : List (List ℕ)
  pub tags : ℕ

abbrev pub wish_texts : WishIn → WishTexts
wish_texts w = record {
  given = map bytes_of w.given.now;
  configured = map bytes_of w.configured.now;
  merges =
      map bytes_of w.merges.now;
  tags = w.tags;
}

-- the texts of specs are fetches, and this is what is asked for by them
pub record IsWish (texts : WishTexts) (wish : Wish) : Type 0 where
  pub given : AllZip (Reads Fetch) texts.given wish.given
  pub configured : AllZip (Reads Fetch) texts.configured wish.configured
  pub merges : wish.merges ≡ texts.merges
  pub tags : wish.tags ≡ not (texts.tags == 0)

-- the number of an origin
abbrev pub origin_code : Origin → ℕ
origin_code (origin.Given k) = 1
origin_code (origin.Configured k) = 2
origin_code (origin.Merge k) = 3
origin_code origin.Default = 4
origin_code origin.AllTags = 5

-- the index of the text that is the origin, or `no_index`
abbrev pub spec_number : Origin → ℕ
spec_number (origin.Given k) = k
spec_number (origin.Configured k) = k
spec_number (origin.Merge k) = k
spec_number origin.Default = no_index
spec_number origin.AllTags = no_index

-- 1 if the spec that is the origin is forced
abbrev pub forced_from : Wish → Origin → ℕ
forced_from wish (origin.Given k) = forced_at wish.given k
forced_from wish (origin.Configured k) = forced_at wish.configured k
forced_from wish (origin.Merge k) = 0
forced_from wish origin.Default = 0
forced_from wish origin.AllTags = 0

-- the number of a verdict
abbrev pub verdict_code : Verdict → ℕ
verdict_code verdict.Written = 1
verdict_code (verdict.LeftOut invalid.Source) = 2
verdict_code (verdict.LeftOut invalid.Destination) = 3
verdict_code (verdict.LeftOut invalid.Both) = 4
verdict_code verdict.InConflict = 5
verdict_code verdict.Overruled = 6
verdict_code verdict.DirectoryConflict = 8

-- and of that on a spec whose source is missing
abbrev pub missing_code : ℕ
missing_code = 7

-- the entry of an update
abbrev pub update_entry : Wish → Planned → Entry
update_entry wish p = record {
  spec = spec_number p.origin;
  item = number_of_index p.item;
  has_destination =
      destinations p.destination;
  forced = forced_from wish p.origin;
  origin = origin_code p.origin;
  verdict =
      verdict_code p.verdict;
  id = id_text p.source;
  made = destination_text p.destination;
}

-- the entry of a spec whose source is missing
abbrev pub missing_entry : Origin → Entry
missing_entry o = record {
  spec = spec_number o;
  item = no_index;
  has_destination = 0;
  forced = 0;
  origin =
      origin_code o;
  verdict = missing_code;
  id = [];
  made = [];
}

-- why nothing is fetched: a source is missing; or none is, and an update is in conflict
abbrev pub IsHindered : Failure → List Planned → List Origin → Type 0
IsHindered failure.MissingSource planned missing = missing ≢ []
IsHindered failure.InConflict planned missing = (missing ≡ []) × Any (λ p. p.verdict ≡ verdict.InConflict) planned
IsHindered f planned missing = ⊥

-- the plan is carried out, or it isn't for this reason
abbrev pub Ends : Option Failure → List Planned → List Origin → Type 0
Ends None planned missing = IsCarriedOut planned missing
Ends (Some f) planned missing = IsHindered f planned missing

-- these are the entries of the plan of a wish for refs with these names: of its updates, and then of the specs whose
-- source
-- is missing
pub record ListsPlan (hindrance : Option Failure) (wish : Wish) (names : List (List ℕ)) (es : List Entry) : Type 0 where
  pub planned : List Planned
  pub missing : List Origin
  pub plan : IsPlanOf wish (map nameless names) planned missing
  pub are : es ≡ map (update_entry wish) planned ++ map missing_entry missing
  pub ends : Ends hindrance planned missing

-- the texts of specs are fetches, and these are the entries of the plan of what is asked for by them
pub record IsPlan (hindrance : Option Failure) (texts : WishTexts) (names : List (List ℕ)) (es : List Entry) :
    Type 0 where
  pub wish : Wish
  pub asks : IsWish texts wish
  pub lists : ListsPlan hindrance wish names es

-- why texts weren't read: the given ones weren't; or these are fetches, and the configured ones weren't
abbrev pub IsUnplanned : WishTexts → Failure → Type 0
IsUnplanned texts f = AreUnread Fetch texts.given f ⊎ (((given : List Reading) × AllZip (Reads Fetch) texts.given given)
    × AreUnread Fetch texts.configured f)

-- why there is no plan, or one that isn't carried out: it is hindered; or a slice is too small for the plan; or the
-- texts
-- weren't read, or memory ran out
abbrev pub LacksPlan : WishTexts → List (List ℕ) → Room → Room → Failure → Type 0
LacksPlan texts names before after f =
    ((es : List Entry) × IsPlan (Some f) texts names es × HasAll es before after)
    ⊎ LacksAll (λ es. (hindrance : Option Failure) × IsPlan hindrance texts names es) (IsUnplanned texts) before after f
