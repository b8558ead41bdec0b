-- What a plan writes: if several sources are mapped to one destination, a line for each such
-- destination, otherwise a line for each remaining mapping and for each fix. The forms of these lines are
-- this project's own rule.
use Rattle.std.specs.Prelude.{◌≡◌, ◌≢◌, ℕ, Bool, List, [], ◌∷◌, ◌++◌, Some, MatchBool, codes, map}
use Rattle.std.specs.List.{AllByRecursion, AllZip, flat_map, zip}
use Rattle.gix_refspec.specs.Texts.Words.{Lacks}
use Rattle.gix_refspec.specs.Specs.Reading.{Reading}
use Rattle.gix_refspec.specs.Specs.Meaning.{printed}
use Rattle.gix_refspec.specs.Matching.Lists.{IsJoinedFrom}
use Rattle.gix_refspec.specs.Matching.Match.{Ref}
use Rattle.gix_refspec.specs.Matching.Mappings.{Source, Mapped}
use Rattle.gix_refspec.specs.Matching.Hits.{AreKeptForward}
use Rattle.gix_refspec.specs.Matching.Validation.{Conflict, Removed, AreConflicts, IsValidated}
use Rattle.gix_refspec.specs.Matching.Validation.{HaveDistinctDestinations}
use Rattle.refspec_map.specs.Input.{newline}
use Rattle.refspec_map.specs.Matching.{tab, map_line, source_text}

-- a source and the text of its spec, with a tab before each
abbrev pub claim_text : Source × List ℕ → List ℕ
claim_text claim = tab ∷ (source_text claim.0 ++ (tab ∷ claim.1))

-- the line of a conflict: `conflict`, the destination, and each source with the text of its spec, with tabs
-- between
abbrev pub conflict_line : Conflict → List ℕ
conflict_line c =
    codes "conflict\t" ++ (c.destination ++ (flat_map claim_text (zip c.sources c.texts) ++ (newline ∷ [])))

-- the line of a fix: `fix`, the destination that was removed, and the canonical text of the spec, with tabs
-- between
abbrev pub IsFixLine : Removed → List ℕ → Type 0
IsFixLine fix line = (text : List ℕ) × (printed fix.spec ≡ Some text)
    × (line ≡ codes "fix\t" ++ (fix.destination ++ (tab ∷ (text ++ (newline ∷ [])))))

-- the lines of fixes, in order
abbrev pub AreFixLines : List Removed → List ℕ → Type 0
AreFixLines fixes lines = IsJoinedFrom (λ k fix line. IsFixLine fix line) 0 fixes lines

-- there are conflicts among the mappings, and the output has the line of each
pub record ShowsConflicts (g : List Reading) (mappings : List Mapped) (output : List ℕ) : Type 0 where
  pub conflicts : List Conflict
  pub are : AreConflicts g mappings conflicts
  pub some : conflicts ≢ []
  pub written : output ≡ flat_map conflict_line conflicts

-- there are no conflicts, and the output has the line of each remaining mapping, and then that of each fix
pub record ShowsValidated (g : List Reading) (mappings : List Mapped) (output : List ℕ) : Type 0 where
  pub rest : List Mapped
  pub fixes : List Removed
  pub fixed : List ℕ
  pub is : IsValidated g mappings rest fixes
  pub are : AreFixLines fixes fixed
  pub written : output ≡ flat_map map_line rest ++ fixed

-- the output of a plan for the specs and refs of an input, and whether there are conflicts
pub record IsPlan (g : List Reading) (items : List Ref) (output : List ℕ) (conflicting : Bool) : Type 0 where
  pub mappings : List Mapped
  pub kept : AreKeptForward g items mappings
  pub shows : MatchBool conflicting (ShowsConflicts g mappings output) (ShowsValidated g mappings output)

-- there are no duplicate lines
abbrev pub AreDistinct : List (List ℕ) → Type 0
AreDistinct [] = Unit {0}
AreDistinct (line ∷ lines) = AllByRecursion (λ other. other ≢ line) lines × AreDistinct lines

-- the text is one line, with a newline at its end and no other
abbrev pub IsOneLine : List ℕ → Type 0
IsOneLine text = (line : List ℕ) × Lacks newline line × (text ≡ line ++ (newline ∷ []))

-- the output has the lines of the remaining mappings and of the fixes: each is one line, and there are no
-- duplicates. No two of these mappings have the same destination
pub record WritesOnce (g : List Reading) (items : List Ref) (output : List ℕ) : Type 0 where
  pub mappings : List Mapped
  pub rest : List Mapped
  pub fixes : List Removed
  pub fixed : List (List ℕ)
  pub kept : AreKeptForward g items mappings
  pub is : IsValidated g mappings rest fixes
  pub are : AllZip IsFixLine fixes fixed
  pub written : output ≡ flat_map (λ line. line) (map map_line rest ++ fixed)
  pub apart : HaveDistinctDestinations rest
  pub once : AreDistinct (map map_line rest ++ fixed)
  pub whole : AllByRecursion IsOneLine (map map_line rest ++ fixed)

-- the line of the fix was appended to the old output
abbrev pub AppendsFix : Removed → List ℕ → List ℕ → Type 0
AppendsFix fix old new = (line : List ℕ) × IsFixLine fix line × (new ≡ old ++ line)

-- the lines of the fixes were appended to the old output
abbrev pub AppendsFixes : List Removed → List ℕ → List ℕ → Type 0
AppendsFixes fixes old new = (lines : List ℕ) × AreFixLines fixes lines × (new ≡ old ++ lines)
