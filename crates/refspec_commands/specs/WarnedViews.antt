-- What `check` keeps of texts and warnings, as plain data.
use Rattle.std.specs.Prelude.{◌≡◌, ◌≢◌, ℕ, Bool, true, false, List, [], ◌∷◌, ◌++◌, Option, Some, None, codes, length}
use Rattle.std.specs.Prelude.{map, option_to_list, MatchBool, MatchOption}
use Rattle.std.specs.Borrow.{Bor}
use Rattle.std.specs.BTreeMap.{BTreeMap, get_by}
use Rattle.std.specs.Cmp.Lexicographic.{slice_cmp}
use Rattle.std.specs.List.{AllByRecursion}
use Rattle.std.specs.Ordering.{nat_cmp}
use Rattle.bstr.specs.BStr.{bstr_bytes}
use Rattle.gix_refspec_text.specs.declared.parsing.Operation.TheVariants as operation
use Rattle.gix_refspec_text.specs.Specs.Reading.{Reading}
use Rattle.gix_refspec_text.specs.Views.Spec.{reading_of}
use Rattle.refspec_io.specs.declared.checked.Checked.{Checked}
use Rattle.refspec_io.specs.declared.checked.Checked.TheVariants as checked
use Rattle.refspec_io.specs.declared.texts.Location.{Location}
use Rattle.refspec_io.specs.Texts.{Given, given_of, spot_of}
use Rattle.refspec_commands.specs.declared.warnings.Topic.{Topic}
use Rattle.refspec_commands.specs.declared.warnings.Topic.TheVariants as topic
use Rattle.refspec_commands.specs.declared.warnings.Warning.{Warning}
use Rattle.refspec_commands.specs.declared.warnings.beside.Beside.{Beside}
use Rattle.refspec_commands.specs.declared.warnings.beside.Tags.{Tags}
use Rattle.refspec_commands.specs.declared.warnings.beside.Tags.TheVariants as tags
use Rattle.refspec_commands.specs.declared.warnings.group.Group.{Group}
use Rattle.refspec_commands.specs.Seen.{HasUnread, Seen, of_key}
use Rattle.refspec_commands.specs.Warned.{Asked, IsOtherSaid, Said, nothing_asked}

-- a checked text, and its reading
abbrev pub seen_of : Checked → Seen
seen_of (checked.Good text spec) = record { text = given_of text; reading = Some (reading_of spec) }
seen_of (checked.Bad text error) = record { text = given_of text; reading = None }

-- the member `name` of a warning
abbrev pub topic_name : Topic → List ℕ
topic_name topic.PossibleConflict = codes "possible_conflict"
topic_name topic.DirectoryConflict = codes "directory_conflict"
topic_name topic.IdleInvalid = codes "idle_invalid"
topic_name topic.IdleExcluded = codes "idle_excluded"
topic_name topic.IdleDuplicate = codes "idle_duplicate"
topic_name topic.IdleExclusion = codes "idle_exclusion"
topic_name topic.ExcludesNoBranch = codes "excludes_no_branch"
topic_name topic.DestinationOutsideRefs = codes "destination_outside_refs"
topic_name topic.PartialSource = codes "partial_source"
topic_name topic.PrunesTags = codes "prunes_tags"
topic_name topic.PrunesBranches = codes "prunes_branches"
topic_name topic.SharedDestination = codes "shared_destination"
topic_name topic.NoFetchValues = codes "no_fetch_values"

abbrev pub said_of : Warning → Said
said_of w = record {
  name = topic_name w.topic;
  spot = spot_of w.location;
  texts = map given_of w.specs.items;
  message = w.message.items;
}

-- the warnings are on single specs
abbrev pub AreOthers : List Warning → Type 0
AreOthers warnings = AllByRecursion IsOtherSaid (map said_of warnings)

-- a warning kept its topic, its location, and the texts that it is about
pub record KeepsTopic (old new : Warning) : Type 0 where
  pub topic : new.topic ≡ old.topic
  pub location : new.location ≡ old.location
  pub specs : new.specs ≡ old.specs

-- the text for all tags, at a setting
abbrev pub tags_at : Location → Given
tags_at l = record { spot = spot_of l; operation = operation.Fetch; bytes = codes "refs/tags/*:refs/tags/*" }

abbrev pub tags_asked : Tags → Option Given
tags_asked tags.Followed = None
tags_asked (tags.All location) = Some (tags_at location)
tags_asked (tags.Pruned location) = Some (tags_at location)
tags_asked tags.Ignored = None

abbrev pub are_excludable : Tags → Bool
are_excludable tags.Ignored = false
are_excludable _ = true

-- what a fetch asks for besides
abbrev pub asked_of : Beside → Asked
asked_of b = record {
  merges = map bstr_bytes b.merges.items;
  tags = tags_asked b.tags;
  excludable = are_excludable
      b.tags;
}

-- the same by the key of the values
abbrev pub asked_or_nothing : Option Beside → Asked
asked_or_nothing None = nothing_asked
asked_or_nothing (Some b) = asked_of b

abbrev pub asked_at : BTreeMap (Bor (List ℕ)) Beside → List ℕ → Asked
asked_at beside key = asked_or_nothing (get_by (λ k. slice_cmp nat_cmp key k.now) beside)

-- ---- groups

-- the texts that are specs, and their readings
abbrev pub text_if : Given → Option Reading → List Given
text_if t None = []
text_if t (Some r) = t ∷ []

abbrev pub good_texts : List Seen → List Given
good_texts [] = []
good_texts (s ∷ seen) = text_if s.text s.reading ++ good_texts seen

abbrev pub good_readings : List Seen → List Reading
good_readings [] = []
good_readings (s ∷ seen) = option_to_list s.reading ++ good_readings seen

-- the group of texts
pub record IsGroup (seen : List Seen) (group : Group) : Type 0 where
  pub texts : map given_of group.texts.items ≡ good_texts seen
  pub specs : map reading_of group.specs.items ≡ good_readings seen
  pub bad : MatchBool group.has_bad (HasUnread seen) (¬ (HasUnread seen))

-- each text has its spec
abbrev pub SpecsMatchTexts : Group → Type 0
SpecsMatchTexts group = length group.specs.items ≡ length group.texts.items

-- the groups of texts, by their keys
abbrev pub AreGroups : List Seen → BTreeMap (Bor (List ℕ)) Group → Type 0
AreGroups seen groups = (key : List ℕ) → MatchOption (get_by (λ k. slice_cmp nat_cmp key k.now) groups)
    (of_key key seen ≡ [])
    (λ group. (of_key key seen ≢ []) × IsGroup (of_key key seen) group)
