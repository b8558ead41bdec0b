-- Which mappings stand in the way of one. Only private functions use these definitions.
use Rattle.std.specs.Prelude.{◌≡◌, ◌≢◌, ℕ, List, Option, None, Some, MatchOption}
use Rattle.std.specs.Borrow.{Bor}
use Rattle.std.specs.BTreeMap.{BTreeMap, get_by}
use Rattle.std.specs.Cmp.Lexicographic.{slice_cmp}
use Rattle.std.specs.List.{Contains}
use Rattle.std.specs.Ordering.{nat_cmp}
use Rattle.gix_refspec_text.specs.Specs.Reading.{Reading}
use Rattle.gix_refspec_text.specs.Matching.Match.{Ref}
use Rattle.gix_refspec_match.specs.Matching.Hits.{AreKeptForward}
use Rattle.gix_refspec_match.specs.Matching.Mappings.{IsExcluded, Mapped, name}
use Rattle.gix_refspec_plan.specs.Matching.Plan.{AreNested}
use Rattle.gix_refspec_plan.specs.Private.Directories.{TellNestedIn}
use Rattle.gix_refspec_plan.specs.Private.Verdicts.{AreSoundDestinations, WritesTo}
use Rattle.gix_refspec_why.specs.declared.Rival.{Rival}
use Rattle.gix_refspec_why.specs.declared.fates.Group.{Group}
use Rattle.gix_refspec_why.specs.declared.rivals.Rivals.{Rivals}
use Rattle.gix_refspec_why.specs.Matching.Why.{IsFirstExclusion}

-- the source of the mapping isn't this name, if there is one
abbrev pub IsNotFrom : Option (List ℕ) → Mapped → Type 0
IsNotFrom None m = Unit {0}
IsNotFrom (Some n) m = m.source ≢ name n

-- the mapping is sound, has the destination d, and isn't from that name
abbrev pub IsRivalTo : Option (List ℕ) → List ℕ → Mapped → Type 0
IsRivalTo without d m = WritesTo d m × IsNotFrom without m

-- the rival is this mapping
pub record IsRival (m : Mapped) (rival : Rival) : Type 0 where
  pub spec : rival.spec_index ≡ m.spec
  pub item : rival.item_index ≡ m.item

-- the rival is one of the mappings, of which P holds
abbrev pub IsAmong : (Mapped → Type 0) → List Mapped → Rival → Type 0
IsAmong P l rival = (m : Mapped) × Contains l m × P m × IsRival m rival

-- each destination has one of the mappings, or none where there is none
abbrev pub AreRivalsTo : Option (List ℕ) → List Mapped → BTreeMap (Bor (List ℕ)) Rival → Type 0
AreRivalsTo without l rivals = (d : List ℕ) → MatchOption (get_by (λ k. slice_cmp nat_cmp d k.now) rivals)
    ((rival : Rival) → ¬ (IsAmong (IsRivalTo without d) l rival)) (IsAmong (IsRivalTo without d) l)

-- these are the mappings of the list by their destinations, where the ref in question is n
pub record AreRivalsOf (l : List Mapped) (n : List ℕ) (rivals : Rivals) : Type 0 where
  pub all : AreRivalsTo None l rivals.all
  pub others : AreRivalsTo (Some n) l rivals.others
  pub names : List (List ℕ)
  pub are_names : AreSoundDestinations l names
  pub nested : TellNestedIn names rivals.nested

-- the rival is a mapping to the destination d, but not from the name n
abbrev pub IsContesting : List Mapped → List ℕ → List ℕ → Rival → Type 0
IsContesting l n d rival = IsAmong (IsRivalTo (Some n) d) l rival

-- it is a mapping to a directory of d, or to a name in it
abbrev pub IsObstructing : List Mapped → List ℕ → Rival → Type 0
IsObstructing l d rival = (e : List ℕ) × AreNested d e × IsAmong (WritesTo e) l rival

-- what the other specs have to say is that of this group, where the ref in question is n
pub record IsGroupOf (g : List Reading) (refs : List Ref) (n : List ℕ) (group : Group) : Type 0 where
  pub excluded : MatchOption group.excluded (¬ (IsExcluded g n)) (IsFirstExclusion g n)
  pub kept : List Mapped
  pub are_kept : AreKeptForward g refs kept
  pub rivals : AreRivalsOf kept n group.rivals
