-- Texts as JSON strings, and objects with them: examples and counterexamples.
use Rattle.std.proofs.Common.{◌≡◌, ◌++◌, ℕ, List, [], ◌∷◌, None, Some, codes, get_or, refl, ap, arith}
use Rattle.std.specs.Str.{chars, is_utf8}
use Rattle.gix_refspec.specs.Matching.Mappings.{Mapped, name}
use Rattle.refspec_json.specs.Objects.{line_of, mapping_object}
use Rattle.gix_refspec_text.specs.declared.parsing.Error.TheVariants as error
use Rattle.gix_refspec_text.specs.declared.parsing.Operation.TheVariants as operation
use Rattle.refspec_io.specs.declared.call.Form.TheVariants as form
use Rattle.gix_refspec_text.specs.Specs.Explained.{reason_name}
use Rattle.refspec_io.specs.Json.{AddsObjects, json_text, operation_name}
use Rattle.refspec_io.specs.Rows.{AddsMappings}
use Rattle.refspec_io.specs.Shown.{KeepsResults}

-- a name as it is, also with a tab or a quote within it, and the empty one
pub raw : (json_text (codes "a") ≡ codes "a") × (json_text (codes "a\t\"") ≡ codes "a\t\"") × (json_text [] ≡ [])
unfolding is_utf8 chars lib.Utf8.encode
raw = (refl, refl, refl)

-- a character of two bytes as it is, and its first byte alone in quotes
pub bytes : (json_text (195 ∷ 169 ∷ []) ≡ 195 ∷ 169 ∷ []) × (json_text (195 ∷ []) ≡ codes "\"\\303\"")
unfolding is_utf8 chars lib.Utf8.encode
bytes = (refl, refl)

-- a name that begins with a quote is quoted, so that it isn't taken for a quoted one
pub quoted : json_text (codes "\"a") ≡ codes "\"\\\"a\""
quoted = refl

-- the names of operations and reasons
pub names : (operation_name operation.Fetch ≡ codes "fetch") × (operation_name operation.Push ≡ codes "push")
    × (reason_name error.PushToEmpty ≡ codes "PushToEmpty")
names = (refl, refl, refl)

-- ---- mappings

abbrev mapped : Mapped
mapped = record { item = None; source = name (codes "a"); destination = Some (codes "b"); spec = 1 }

abbrev unwritten : Mapped
unwritten = record { item = None; source = name (codes "c"); destination = None; spec = 0 }

-- each mapping with the text of its own spec, appended
pub mappings : AddsMappings form.Json (codes "c" ∷ codes "a:b" ∷ []) (mapped ∷ unwritten ∷ []) (codes "x")
    (codes "x" ++ (line_of (mapping_object (codes "a") (Some (codes "b")) (codes "a:b") None)
    ++ (line_of (mapping_object (codes "c") None (codes "c") None) ++ [])))
unfolding is_utf8 chars lib.Utf8.encode
mappings = refl

-- no mapping is left out
pub left_out : AddsMappings form.Json [] (mapped ∷ []) [] [] → ⊥
left_out none = absurd (omega (arith, ap (λ (l : List ℕ). get_or l 0 0) none))

-- ---- objects, in order

abbrev Same : List ℕ → List ℕ → Type 0
Same x line = line ≡ x

-- objects in order in JSON, and no objects in lines
pub in_order : AddsObjects form.Json Same (codes "a" ∷ codes "b" ∷ []) (codes "x") (codes "xab")
    × AddsObjects form.Lines Same (codes "a" ∷ []) (codes "x") (codes "x")
in_order = ((codes "ab", (codes "a", codes "b", refl, (codes "b", [], refl, refl, refl), refl), refl), refl)

-- earlier results stay, also in JSON
pub kept : KeepsResults form.Json (codes "a") (codes "ab") × (KeepsResults form.Json (codes "a") (codes "b") → ⊥)
    × (KeepsResults form.Lines (codes "a") (codes "ab") → ⊥)
kept = (
  (codes "b", refl),
  (λ grown. absurd (omega (arith, ap (λ (l : List ℕ). get_or l 0 0) grown.1))),
  (λ same. absurd (omega (arith, ap (λ (l : List ℕ). get_or l 1 0) same))),
)
