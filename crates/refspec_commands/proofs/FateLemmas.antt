-- The report on what specs do with a ref.
use Rattle.std.proofs.Common.{◌≡◌, ℕ, zero, suc, ◌+◌, ◌<◌, List, [], ◌∷◌, ◌++◌, Option, option_map}
use Rattle.std.proofs.Common.{get_or, arith, refl, sym, ap, ◌∙◌, subst, append_assoc, Bool, true, false, not, MatchBool}
use Rattle.std.proofs.Common.{length, map, take, unwrap_or}
use Rattle.std.proofs.lemmas.List.{append-nil}
use Rattle.std.specs.List.{slice_get}
use Rattle.bstr.specs.Owned.{bstring_bytes}
use Rattle.bstr.specs.declared.bstring.BString.{BString}
use Rattle.gix_refspec_why.specs.declared.Effect.{Effect as DeclaredEffect}
use Rattle.gix_refspec_why.specs.Views.Why.{effect_of}
use Rattle.refspec_json.specs.Objects.{fate_object, line_of}
use Rattle.refspec_io.specs.declared.call.Form.{Form}
use Rattle.refspec_io.specs.declared.call.Form.TheVariants as form
use Rattle.refspec_io.specs.Json.{json_text}
use Rattle.refspec_io.specs.Rows.{Row, WritesCell, fields}
use Rattle.refspec_io.specs.Shown.{KeepsResults, zero_ended}
use Rattle.refspec_io.proofs.JsonLemmas.{AreInOrder-append}
use Rattle.refspec_io.proofs.RowLemmas.{fields-of}
use Rattle.refspec_io.proofs.ShownLemmas.{behind}
use Rattle.refspec_commands.specs.Each.{AddsEach, AddsOne}
use Rattle.refspec_commands.specs.declared.fates.answer.Answer.{Answer}
use Rattle.refspec_commands.specs.Fates.{AddsAnswer, IsVerdict, Verdict}
use Rattle.refspec_commands.specs.Fates.{fate_word, verdicts_from}

-- the verdict of a spec with this text
abbrev pub verdict_with : List ℕ → DeclaredEffect → Verdict
verdict_with text e = record { text = text; effect = effect_of e }

-- the verdict of one more spec
verdicts_from-more : (k : ℕ) (texts : List (List ℕ)) (es : List DeclaredEffect) (i : ℕ) (d : DeclaredEffect)
    → i < length es
    → verdicts_from k texts (take (i + 1) es) ≡ verdicts_from k texts (take i es)
    ++ verdict_with (unwrap_or (slice_get texts (k + i)) []) (get_or es i d) ∷ []
verdicts_from-more k texts [] i d below = absurd (omega (arith, below))
verdicts_from-more k texts (e ∷ es) zero d below =
    let at : k ≡ k + 0 = omega arith in
    ap (λ n. verdict_with (unwrap_or (slice_get texts n) []) e ∷ []) at
verdicts_from-more k texts (e ∷ es) (suc i) d below =
    let rest = verdicts_from-more (k + 1) texts es i d (omega (arith, below)) in
    let longer : suc i + 1 ≡ suc (i + 1) = omega arith in
    let at : (k + 1) + i ≡ k + suc i = omega arith in
    ap (λ n. verdicts_from k texts (take n (e ∷ es))) longer
    ∙ ap (λ (l : List Verdict). verdict_with (unwrap_or (slice_get texts k) []) e ∷ l)
    (rest
    ∙ ap
    (λ n. verdicts_from (k + 1) texts (take i es)
    ++ verdict_with (unwrap_or (slice_get texts n) []) (get_or es i d) ∷ [])
    at)

-- the same from the first spec on
pub verdicts-more : (texts : List (List ℕ)) (es : List DeclaredEffect) (i : ℕ) (d : DeclaredEffect) → i < length es
    → verdicts_from 0 texts (take (i + 1) es) ≡ verdicts_from 0 texts (take i es)
    ++ verdict_with (unwrap_or (slice_get texts i) []) (get_or es i d) ∷ []
verdicts-more texts es i d below =
    let at : 0 + i ≡ i = omega arith in
    verdicts_from-more 0 texts es i d below
    ∙ ap
    (λ n. verdicts_from 0 texts (take i es)
    ++ verdict_with (unwrap_or (slice_get texts n) []) (get_or es i d) ∷ [])
    at

-- one more verdict
pub AddsEach-push : {X : Type 0} (Reports : X → List ℕ → Type 0) (xs : List X) (x : X) (old mid new : List ℕ)
    → AddsEach Reports xs old mid → AddsOne Reports x mid new → AddsEach Reports (xs ++ x ∷ []) old new
AddsEach-push Reports xs x old mid new so_far one = (
  so_far.0 ++ one.0,
  AreInOrder-append Reports xs (x ∷ []) so_far.0 one.0 so_far.1 (one.0, [], one.1, refl, sym (append-nil one.0)),
  behind old so_far.0 mid one.0 new so_far.2 one.2,
)

-- the line of a spec
pub verdict_line : (v : Verdict) (sentence old mid next new : List ℕ) → WritesCell v.text old mid
    → next ≡ mid ++ sentence → new ≡ next ++ 10 ∷ [] → AddsOne (IsVerdict form.Lines []) v old new
verdict_line v sentence old mid next new cell said ended = (
  cell.0 ++ (sentence ++ 10 ∷ []),
  (cell.0, sentence, cell.1, refl),
  behind old (cell.0 ++ sentence) next (10 ∷ []) new (behind old cell.0 mid sentence next cell.2 said) ended
      ∙ ap (λ l. old ++ l) (append_assoc cell.0 sentence (10 ∷ [])),
)

-- the object of a spec, member by member
pub verdict_object : (name : List ℕ) (v : Verdict) (spec shown fate message : List ℕ) (destination : Option (List ℕ))
    (old new : List ℕ) → spec ≡ json_text v.text → shown ≡ json_text name
    → destination ≡ option_map json_text v.effect.destination → fate ≡ fate_word v.effect.fate
    → new ≡ old ++ line_of (fate_object spec shown destination fate message)
    → AddsOne (IsVerdict form.Json name) v old new
verdict_object name v spec shown fate message destination old new is_spec is_name is_destination is_fate write =
    let text = json_text v.text in
    let to = option_map json_text v.effect.destination in (
      line_of (fate_object text (json_text name) to (fate_word v.effect.fate) message),
      (message, refl),
      write ∙ (ap (λ x. old ++ line_of (fate_object x shown destination fate message)) is_spec
          ∙ (ap (λ x. old ++ line_of (fate_object text x destination fate message)) is_name
          ∙ (ap (λ x. old ++ line_of (fate_object text (json_text name) x fate message)) is_destination
          ∙ ap (λ x. old ++ line_of (fate_object text (json_text name) to x message)) is_fate))),
    )

-- what isn't so
pub MatchBool-not : (b : Bool) (P Q : Type 0) → MatchBool b P Q → MatchBool (not b) Q P
MatchBool-not true P Q holds = holds
MatchBool-not false P Q holds = holds

-- the record of a spec, field by field
pub verdict_record : (v : Verdict) (destination : Option (List ℕ)) (word old a b new : List ℕ)
    → v.effect.destination ≡ destination → word ≡ fate_word v.effect.fate → a ≡ old ++ zero_ended v.text
    → b ≡ a ++ zero_ended word → new ≡ b ++ zero_ended (unwrap_or destination [])
    → AddsOne (IsVerdict form.Zeros []) v old new
verdict_record v destination word old a b new is_destination is_word is_a is_b is_new =
    let row : Row = record {
      destination = v.text;
      source = fate_word v.effect.fate;
      spec = unwrap_or v.effect.destination [];
    } in (
      fields row,
      refl,
      fields-of row old a b new is_a (is_b ∙ ap (λ x. a ++ zero_ended x) is_word)
          (is_new ∙ ap (λ x. b ++ zero_ended (unwrap_or x [])) (sym is_destination)),
    )

-- what each spec does, and then perhaps a message
pub AddsAnswer-of : (f : Form) (name : List ℕ) (a : Answer) (texts : List BString) (effects : List DeclaredEffect)
    (old last new : List ℕ) → texts ≡ a.texts.items → effects ≡ a.effects.of_specs.items
    → AddsEach (IsVerdict f name) (verdicts_from 0 (map bstring_bytes texts) effects) old last
    → KeepsResults f last new → AddsAnswer f name a old new
AddsAnswer-of f name a texts effects old last new is_texts is_effects each kept =
    record {
      last = last;
      reported = subst (λ (l : List DeclaredEffect). AddsEach (IsVerdict f name)
          (verdicts_from 0 (map bstring_bytes a.texts.items) l) old last) is_effects
          (subst (λ (l : List BString). AddsEach (IsVerdict f name) (verdicts_from 0 (map bstring_bytes l) effects) old
          last) is_texts each);
      after = kept;
    }
