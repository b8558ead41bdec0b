-- Items and lines that are appended one after another.
use Rattle.std.proofs.Common.{◌≡◌, ◌≢◌, ℕ, ◌+◌, ◌<◌, Bool, true, false, List, [], ◌∷◌, ◌++◌, map, flat_map, length}
use Rattle.std.proofs.Common.{take, None, Some, get_or, refl, sym, ap, ◌∙◌, subst, Result, Ok, Err, IsOk, OnOk}
use Rattle.std.proofs.lemmas.Bool.{false≢true}
use Rattle.std.proofs.lemmas.List.{append-nil, take_more}
use Rattle.std.proofs.lemmas.Grind.{flat_map-append}
use Rattle.std.proofs.lemmas.List.Folds.{flat_map-map}
use Rattle.gix_refspec_match.specs.declared.types.Item.{Item}
use Rattle.gix_refspec_match.specs.declared.types.Mapping.{Mapping}
use Rattle.gix_refspec.specs.declared.match_group.types.MatchGroup.{MatchGroup}
use Rattle.gix_refspec.specs.declared.match_group.validate.Fix.{Fix}
use Rattle.gix_refspec.specs.declared.match_group.validate.Issue.{Issue}
use Rattle.gix_refspec.specs.Views.Issue.{conflict_of, removed_of}
use Rattle.gix_refspec.specs.Matching.Validation.{AreConflicts, IsValidated}
use Rattle.gix_refspec.specs.Specs.Reading.{Reading}
use Rattle.gix_refspec.specs.Matching.Match.{Ref}
use Rattle.gix_refspec.specs.Matching.Mappings.{Mapped}
use Rattle.gix_refspec.specs.Views.Spec.{reading_of}
use Rattle.gix_refspec.specs.Views.Group.{mapped_of, readings_of, ref_of}
use Rattle.refspec_map.specs.declared.line.ParsedRef.{ParsedRef}
use Rattle.refspec_map.specs.declared.line.Entries.{Entries}
use Rattle.refspec_map.specs.Line.{refs_in}
use Rattle.refspec_map.specs.Matching.{map_line, AreMapLines, IsMatching}
use Rattle.refspec_map.specs.Parsed.{parsed_ref, bare, named, AreEntries}
use Rattle.refspec_map.specs.Plan.{AreFixLines, IsPlan, AppendsFixes, conflict_line}
use Rattle.gix_refspec.specs.Matching.Hits.{AreKeptForward, AreKeptBackward}
use Rattle.gix_refspec.specs.Laws.Items.{AsksForNoId, NamesDecide, NamesDecideBack}
use Rattle.refspec_map.proofs.NameLemmas.{kept_by_name, kept_back_by_name}

-- the next line was appended
pub lines_more : {X : Type 0} (line : X → List ℕ) (xs : List X) (k : ℕ) (x : X) (old new : List ℕ) → k < length xs
    → x ≡ get_or xs k x → new ≡ old ++ line x → old ≡ flat_map line (take k xs) → new ≡ flat_map line (take (k + 1) xs)
lines_more line xs k x old new below is append so_far =
    let step : take (k + 1) xs ≡ take k xs ++ x ∷ [] = take_more xs k x below ∙ ap (λ y. take k xs ++ y ∷ [])
    (sym is) in
    let lines : flat_map line (take k xs ++ x ∷ []) ≡ flat_map line (take k xs) ++ line x =
    flat_map-append line (take k xs) (x ∷ []) ∙ ap (λ l. flat_map line (take k xs) ++ l) (append-nil (line x)) in
    append ∙ (ap (λ l. l ++ line x) so_far ∙ (sym lines ∙ ap (flat_map line) (sym step)))

-- what a call ensures of a success holds if it succeeded
pub on_success : {T E : Type 0} (r : Result T E) (P : Type 0) → OnOk r P → IsOk r → P
on_success (Ok x) P holds one = holds
on_success (Err e) P holds one = absurd (false≢true one)

-- the output has the lines of the kept mappings
pub AreMapLines-of : (AreKept : List Reading → List Ref → List Mapped → Type 0) (g : List Reading)
    (items slice : List Item) (mappings lent : List Mapping) (output : List ℕ) → slice ≡ items → lent ≡ mappings
    → AreKept g (map ref_of slice) (map mapped_of mappings) → output ≡ flat_map (λ m. map_line (mapped_of m)) lent
    → AreMapLines AreKept g (map ref_of items) output false
AreMapLines-of AreKept g items slice mappings lent output of_items of_mappings kept written = record {
  mappings = map mapped_of mappings;
  kept = subst (λ (is : List Item). AreKept g (map ref_of is) (map mapped_of mappings)) of_items kept;
  written = written
      ∙ (ap (flat_map (λ m. map_line (mapped_of m))) of_mappings ∙ sym (flat_map-map map_line mapped_of mappings));
  tells = refl;
}

-- the output for the parsed specs and refs is the output for the input
pub IsMatching-of : (A : Type 0) (Writes : List Reading → List Ref → List ℕ → Bool → Type 0) (input output : List ℕ)
    (refusal : Bool) (made : Entries) (items : List Item) (refs : List ParsedRef) → AreEntries {A = A} None input made
    → refs ≡ made.refs.items → map ref_of items ≡ map parsed_ref refs → Writes (map reading_of made.specs.items)
    (map ref_of items) output refusal → IsMatching Writes input output refusal
IsMatching-of A Writes input output refusal made items refs are lent same is =
    let all = same ∙ (ap (map parsed_ref) lent ∙ are.refs) in
    record {
      lines = are.lines;
      entries = are.entries;
      split = are.split;
      given = are.given;
      is = subst (λ (g : List Reading). Writes g (refs_in are.entries) output refusal) are.specs
          (subst (λ (rs : List Ref). Writes (map reading_of made.specs.items) rs output refusal) all is);
    }

-- the output for items is the output for any refs that have the same names
abbrev pub IsByName : (List Reading → List Ref → List ℕ → Bool → Type 0) → List Reading → List Item → Type 0
IsByName Writes g items = (refs : List Ref) (output : List ℕ) (refusal : Bool) → map named items ≡ map bare refs
    → Writes g (map ref_of items) output refusal → Writes g refs output refusal

pub map_lines_by_name : (g : List Reading) (items : List Item) → NamesDecide g (map ref_of items)
    → IsByName (AreMapLines AreKeptForward) g items
map_lines_by_name g items law refs output refusal same is = record {
  mappings = is.mappings;
  kept = kept_by_name g items refs is.mappings law same is.kept;
  written = is.written;
  tells = is.tells;
}

pub map_lines_back_by_name : (g : List Reading) (items : List Item) → NamesDecideBack g (map ref_of items)
    → AsksForNoId g → IsByName (AreMapLines AreKeptBackward) g items
map_lines_back_by_name g items law none refs output refusal same is = record {
  mappings = is.mappings;
  kept = kept_back_by_name g items refs is.mappings law none same is.kept;
  written = is.written;
  tells = is.tells;
}

pub plan_by_name : (g : List Reading) (items : List Item) → NamesDecide g (map ref_of items) → IsByName IsPlan g items
plan_by_name g items law refs output refusal same is =
    record { mappings = is.mappings; kept = kept_by_name g items refs is.mappings law same is.kept; shows = is.shows }

-- the output for the parsed specs and names is the output for the input
pub IsMatching-named : {A : Type 0} (blank : A) (Writes : List Reading → List Ref → List ℕ → Bool → Type 0)
    (input output : List ℕ) (refusal : Bool) (made : Entries) (items : List Item)
    → IsByName Writes (map reading_of made.specs.items) items → AreEntries (Some blank) input made
    → items ≡ made.items.items → Writes (map reading_of made.specs.items) (map ref_of items) output refusal
    → IsMatching Writes input output refusal
IsMatching-named blank Writes input output refusal made items by are lent is = record {
  lines = are.lines;
  entries = are.entries;
  split = are.split;
  given = are.given;
  is = subst (λ (g : List Reading). Writes g (refs_in are.entries) output refusal) are.specs
      (by (refs_in are.entries) output refusal (ap (map named) lent ∙ are.refs) is);
}

-- what remains after validation is written, and then the fixes
pub validated_shown : (g h : MatchGroup) (items : List Ref) (mappings valid lent : List Mapping)
    (fixes lent_fixes : List Fix) (lines output : List ℕ) → h ≡ g → AreKeptForward (readings_of g) items
    (map mapped_of mappings) → IsValidated (readings_of h) (map mapped_of mappings) (map mapped_of valid)
    (map removed_of fixes) → lent ≡ valid → lines ≡ flat_map (λ m. map_line (mapped_of m)) lent → lent_fixes ≡ fixes
    → AppendsFixes (map removed_of lent_fixes) lines output → IsPlan (readings_of g) items output false
validated_shown g h items mappings valid lent fixes lent_fixes lines output same kept is of_valid are_lines of_fixes
    (fixed, are, append) = record {
      mappings = map mapped_of mappings;
      kept = kept;
      shows = record {
        rest = map mapped_of valid;
        fixes = map removed_of fixes;
        fixed = fixed;
        is = subst (λ (k : MatchGroup). IsValidated (readings_of k) (map mapped_of mappings) (map mapped_of valid)
            (map removed_of fixes)) same is;
        are = subst (λ (fs : List Fix). AreFixLines (map removed_of fs) fixed) of_fixes are;
        written = append
            ∙ ap (λ l. l ++ fixed)
            (are_lines ∙ (ap (flat_map (λ m. map_line (mapped_of m))) of_valid
            ∙ sym (flat_map-map map_line mapped_of valid)));
      };
    }

-- conflicts are written alone
pub conflicts_shown : (g h : MatchGroup) (items : List Ref) (mappings : List Mapping) (issues lent : List Issue)
    (output : List ℕ) → h ≡ g → AreKeptForward (readings_of g) items (map mapped_of mappings)
    → (map conflict_of issues ≢ []) × AreConflicts (readings_of h) (map mapped_of mappings) (map conflict_of issues)
    → lent ≡ issues → output ≡ flat_map (λ i. conflict_line (conflict_of i)) lent
    → IsPlan (readings_of g) items output true
conflicts_shown g h items mappings issues lent output same kept (some, are) of_issues written = record {
  mappings = map mapped_of mappings;
  kept = kept;
  shows = record {
    conflicts = map conflict_of issues;
    are = subst (λ (k : MatchGroup). AreConflicts (readings_of k) (map mapped_of mappings) (map conflict_of issues))
        same are;
    some = some;
    written = written ∙ (ap (flat_map (λ i. conflict_line (conflict_of i))) of_issues
        ∙ sym (flat_map-map conflict_line conflict_of issues));
  };
}
