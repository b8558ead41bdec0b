-- The reports on prefetches and on renamed values.
use Rattle.std.proofs.Common.{◌≡◌, ◌⊎◌, ℕ, List, [], ◌∷◌, ◌++◌, None, Some, Option, option_map, inl, inr, refl, sym, ap}
use Rattle.std.proofs.Common.{◌∙◌, subst}
use Rattle.std.proofs.lemmas.List.{append-nil}
use Rattle.bstr.specs.Owned.{bstring_bytes}
use Rattle.refspec_json.specs.Objects.{ignored_object, line_of, prefetch_object, renamed_object, unchanged_object}
use Rattle.refspec_io.specs.declared.call.Form.{Form}
use Rattle.refspec_io.specs.declared.call.Form.TheVariants as form
use Rattle.refspec_io.specs.Json.{json_text}
use Rattle.refspec_io.specs.Shown.{AddsNames, AreLines, zero_ended}
use Rattle.refspec_commands.specs.declared.prefetches.answer.Applied.{Applied}
use Rattle.refspec_commands.specs.declared.renames.answer.Value.{Value}
use Rattle.refspec_commands.specs.Each.{AddsOne}
use Rattle.refspec_commands.specs.Prefetches as prefetch
use Rattle.refspec_commands.specs.Renames as rename

-- the text that a prefetch applies, as a name that is shown
pub applied_named : (f : Form) (a : Applied) (text old new : List ℕ) → (f ≡ form.Lines) ⊎ (f ≡ form.Zeros)
    → option_map bstring_bytes a.applied ≡ Some text → AddsNames f [] (text ∷ []) old new
    → AddsOne (prefetch.IsReported f) a old new
applied_named f a text old new (inl is) some reported =
    let (lines, are, write) = subst (λ (g : Form). AddsNames g [] (text ∷ []) old new) is reported in
    subst (λ (g : Form). AddsOne (prefetch.IsReported g) a old new) (sym is) (
      lines,
      subst (λ (o : Option (List ℕ)). prefetch.IsReport form.Lines (bstring_bytes a.text) o lines) (sym some) are,
      write,
    )
applied_named f a text old new (inr is) some reported =
    let write = subst (λ (g : Form). AddsNames g [] (text ∷ []) old new) is reported in
    let all = zero_ended text ++ [] in
    subst (λ (g : Form). AddsOne (prefetch.IsReported g) a old new) (sym is) (
      all,
      subst (λ (o : Option (List ℕ)). prefetch.IsReport form.Zeros (bstring_bytes a.text) o all) (sym some) refl,
      write,
    )

-- an ignored spec leaves the results as they were
pub ignored_unsaid : (f : Form) (a : Applied) (old : List ℕ) → (f ≡ form.Lines) ⊎ (f ≡ form.Zeros)
    → option_map bstring_bytes a.applied ≡ None → AddsOne (prefetch.IsReported f) a old old
ignored_unsaid f a old (inl is) none = subst (λ (g : Form). AddsOne (prefetch.IsReported g) a old old) (sym is) (
  [],
  subst (λ (o : Option (List ℕ)). prefetch.IsReport form.Lines (bstring_bytes a.text) o []) (sym none) refl,
  sym (append-nil old),
)
ignored_unsaid f a old (inr is) none = subst (λ (g : Form). AddsOne (prefetch.IsReported g) a old old) (sym is) (
  [],
  subst (λ (o : Option (List ℕ)). prefetch.IsReport form.Zeros (bstring_bytes a.text) o []) (sym none) refl,
  sym (append-nil old),
)

-- the object of a spec
pub applied_object : (a : Applied) (applied : Option (List ℕ)) (line old new : List ℕ)
    → option_map bstring_bytes a.applied ≡ applied → prefetch.IsObject (bstring_bytes a.text) applied line
    → new ≡ old ++ line → AddsOne (prefetch.IsReported form.Json) a old new
applied_object a applied line old new same is write =
    (line, subst (λ (o : Option (List ℕ)). prefetch.IsObject (bstring_bytes a.text) o line) (sym same) is, write)

-- the same, member by member
pub prefetch_object-of : (a : Applied) (text spec applied old new : List ℕ)
    → option_map bstring_bytes a.applied ≡ Some text → spec ≡ json_text (bstring_bytes a.text)
    → applied ≡ json_text text → new ≡ old ++ line_of (prefetch_object spec applied)
    → AddsOne (prefetch.IsReported form.Json) a old new
prefetch_object-of a text spec applied old new some is_spec is_applied write =
    applied_object a (Some text) (line_of (prefetch_object (json_text (bstring_bytes a.text)) (json_text text))) old new
    some refl (write ∙ (ap (λ x. old ++ line_of (prefetch_object x applied)) is_spec
    ∙ ap (λ x. old ++ line_of (prefetch_object (json_text (bstring_bytes a.text)) x)) is_applied))

pub ignored_object-of : (a : Applied) (spec message old new : List ℕ) → option_map bstring_bytes a.applied ≡ None
    → spec ≡ json_text (bstring_bytes a.text) → new ≡ old ++ line_of (ignored_object spec message)
    → AddsOne (prefetch.IsReported form.Json) a old new
ignored_object-of a spec message old new none is_spec write =
    applied_object a None (line_of (ignored_object (json_text (bstring_bytes a.text)) message)) old new none
    (message, refl) (write ∙ ap (λ x. old ++ line_of (ignored_object x message)) is_spec)

-- a value that changes isn't unchanged
pub some_none : {X : Type 0} {x : X} → Some x ≡ None → ⊥
some_none same = cc

-- a value after the renaming, as a name that is shown
pub value_named : (f : Form) (v : Value) (renamed : Option (List ℕ)) (text old new : List ℕ)
    → (f ≡ form.Lines) ⊎ (f ≡ form.Zeros) → option_map bstring_bytes v.renamed ≡ renamed
    → rename.value_after v.text.now renamed ≡ text → AddsNames f [] (text ∷ []) old new
    → AddsOne (rename.IsReported f) v old new
value_named f v renamed text old new (inl is) same after reported =
    let (lines, are, write) = subst (λ (g : Form). AddsNames g [] (text ∷ []) old new) is reported in
    let at = subst (λ (x : List ℕ). AreLines [] (x ∷ []) lines) (sym after) are in
    subst (λ (g : Form). AddsOne (rename.IsReported g) v old new) (sym is) (
      lines,
      subst (λ (o : Option (List ℕ)). rename.IsReport form.Lines v.text.now o lines) (sym same) at,
      write,
    )
value_named f v renamed text old new (inr is) same after reported =
    let write = subst (λ (g : Form). AddsNames g [] (text ∷ []) old new) is reported in
    let at : zero_ended text ≡ zero_ended (rename.value_after v.text.now renamed) = ap zero_ended (sym after) in
    subst (λ (g : Form). AddsOne (rename.IsReported g) v old new) (sym is) (
      zero_ended text,
      subst (λ (o : Option (List ℕ)). rename.IsReport form.Zeros v.text.now o (zero_ended text)) (sym same) at,
      write ∙ ap (λ l. old ++ l) (append-nil (zero_ended text)),
    )

-- the object of a value
pub value_object : (v : Value) (renamed : Option (List ℕ)) (line old new : List ℕ)
    → option_map bstring_bytes v.renamed ≡ renamed → rename.IsObject v.text.now renamed line → new ≡ old ++ line
    → AddsOne (rename.IsReported form.Json) v old new
value_object v renamed line old new same is write =
    (line, subst (λ (o : Option (List ℕ)). rename.IsObject v.text.now o line) (sym same) is, write)

-- the same, member by member
pub renamed_object-of : (v : Value) (text shown renamed old new : List ℕ)
    → option_map bstring_bytes v.renamed ≡ Some text → shown ≡ json_text v.text.now → renamed ≡ json_text text
    → new ≡ old ++ line_of (renamed_object shown renamed) → AddsOne (rename.IsReported form.Json) v old new
renamed_object-of v text shown renamed old new some is_shown is_renamed write =
    value_object v (Some text) (line_of (renamed_object (json_text v.text.now) (json_text text))) old new some refl
    (write ∙ (ap (λ x. old ++ line_of (renamed_object x renamed)) is_shown
    ∙ ap (λ x. old ++ line_of (renamed_object (json_text v.text.now) x)) is_renamed))

pub unchanged_object-of : (v : Value) (shown message old new : List ℕ) → option_map bstring_bytes v.renamed ≡ None
    → shown ≡ json_text v.text.now → new ≡ old ++ line_of (unchanged_object shown message)
    → AddsOne (rename.IsReported form.Json) v old new
unchanged_object-of v shown message old new none is_shown write =
    value_object v None (line_of (unchanged_object (json_text v.text.now) message)) old new none (message, refl)
    (write ∙ ap (λ x. old ++ line_of (unchanged_object x message)) is_shown)
