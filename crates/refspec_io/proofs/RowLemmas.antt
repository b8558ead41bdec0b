-- Rows in order, and their parts.
use Rattle.std.proofs.Common.{◌≡◌, None, ℕ, zero, suc, arith, ◌+◌, ◌<◌, ◌≤◌, List, [], ◌∷◌, ◌++◌, map, length, take}
use Rattle.std.proofs.Common.{get_or, replicate, Option, option_map, Some, refl, sym, ap, ◌∙◌, subst, append_assoc}
use Rattle.std.proofs.lemmas.List.{map-append, map_more}
use Rattle.gix_refspec.specs.Matching.Mappings.{Mapped}
use Rattle.gix_refspec_text.specs.declared.spec.RefSpecRef.{RefSpecRef}
use Rattle.gix_refspec.specs.Specs.Meaning.{printed}
use Rattle.gix_refspec.specs.Specs.Reading.{Reading}
use Rattle.gix_refspec.specs.Views.Spec.{reading_of}
use Rattle.bstr.specs.Owned.{bstring_bytes}
use Rattle.bstr.specs.declared.bstring.BString.{BString}
use Rattle.refspec_json.specs.Objects.{line_of, mapping_object}
use Rattle.refspec_io.specs.declared.call.Form.TheVariants as form
use Rattle.refspec_io.specs.Json.{json_text}
use Rattle.refspec_io.specs.Rows.{AreSpecTexts, WritesCell, WritesLine, Row, fields, mapped_object, source_text}
use Rattle.refspec_io.specs.Shown.{WritesQuoted, zero_ended}
use Rattle.refspec_io.proofs.ShownLemmas.{behind}
use Rattle.std.proofs.lemmas.Slice.Zip.{all_zipped_more}

-- the cells, the last field and a newline are a line
pub WritesLine-of : (r : Row) (old a b row new : List ℕ) → WritesCell r.destination old a → WritesCell r.source a b
    → WritesQuoted r.spec b row → new ≡ row ++ 10 ∷ [] → WritesLine r old new
WritesLine-of r old a b row new one two last ended =
    let nl = 10 ∷ [] in
    let cells = one.0 ++ two.0 in
    let at_b : b ≡ old ++ cells = behind old one.0 a two.0 b one.2 two.2 in
    let at_row : row ≡ old ++ (cells ++ last.0) = behind old cells b last.0 row at_b last.2 in
    let all : new ≡ old ++ ((cells ++ last.0) ++ nl) = behind old (cells ++ last.0) row nl new at_row ended in (
      one.0 ++ (two.0 ++ (last.0 ++ nl)),
      record {
        first = one.0;
        second = two.0;
        last = last.0;
        is_first = one.1;
        is_second = two.1;
        is_last = last.1;
        is = refl;
      },
      all ∙ ap (λ l. old ++ l) (append_assoc cells last.0 nl ∙ append_assoc one.0 two.0 (last.0 ++ nl)),
    )

-- the three fields of a mapping
pub fields-of : (r : Row) (old a b new : List ℕ) → a ≡ old ++ zero_ended r.destination → b ≡ a ++ zero_ended r.source
    → new ≡ b ++ zero_ended r.spec → new ≡ old ++ fields r
fields-of r old a b new is_a is_b is_new =
    let destination = zero_ended r.destination in
    let source = zero_ended r.source in
    behind old (destination ++ source) b (zero_ended r.spec) new (behind old destination a source b is_a is_b) is_new

-- the object of a mapping, member by member
pub mapped_object-of : (m : Mapped) (text source spec : List ℕ) (destination : Option (List ℕ)) (old new : List ℕ)
    → source ≡ json_text (source_text m.source) → destination ≡ option_map json_text m.destination
    → spec ≡ json_text text → new ≡ old ++ line_of (mapping_object source destination spec None)
    → new ≡ old ++ mapped_object text m
mapped_object-of m text source spec destination old new is_source is_destination is_spec write =
    write ∙ (ap (λ x. old ++ line_of (mapping_object x destination spec None)) is_source
    ∙ (ap (λ x. old ++ line_of (mapping_object (json_text (source_text m.source)) x spec None)) is_destination
    ∙ ap (λ x. old ++ line_of (mapping_object (json_text (source_text m.source)) (option_map json_text m.destination) x
    None)) is_spec))

-- two or more spaces
two_or_more : (n : ℕ) → 2 ≤ n → (more : ℕ) × (replicate {A = ℕ} n 32 ≡ 32 ∷ 32 ∷ replicate more 32)
two_or_more zero enough = absurd (omega arith)
two_or_more (suc zero) enough = absurd (omega arith)
two_or_more (suc (suc n)) enough = (n, refl)

-- a field and spaces are a cell
pub WritesCell-of : (field old mid new : List ℕ) (count : ℕ) → 2 ≤ count → WritesQuoted field old mid
    → new ≡ mid ++ replicate count 32 → WritesCell field old new
WritesCell-of field old mid new count enough q rest =
    let spaces = two_or_more count enough in
    let all = 32 ∷ 32 ∷ replicate spaces.0 32 in
    (q.0 ++ all, (q.0, spaces.0, q.1, refl), behind old q.0 mid all new q.2 (rest ∙ ap (λ l. mid ++ l) spaces.1))

-- the text of one more spec
pub texts_next : (specs : List RefSpecRef) (i : ℕ) (d : RefSpecRef) (old new : List BString) (text : BString)
    → i < length specs → d ≡ get_or specs i d → printed (reading_of d) ≡ Some (bstring_bytes text)
    → new ≡ old ++ text ∷ [] → AreSpecTexts (map reading_of (take i specs)) (map bstring_bytes old)
    → AreSpecTexts (map reading_of (take (i + 1) specs)) (map bstring_bytes new)
texts_next specs i d old new text below here read grown so_far =
    let is : printed (reading_of (get_or specs i d)) ≡ Some (bstring_bytes text) =
    subst (λ (s : RefSpecRef). printed (reading_of s) ≡ Some (bstring_bytes text)) here read in
    subst (λ (g : List Reading). AreSpecTexts g (map bstring_bytes new)) (sym (map_more reading_of specs i d below))
    (subst (AreSpecTexts (map reading_of (take i specs) ++ reading_of (get_or specs i d) ∷ []))
    (sym (ap (map bstring_bytes) grown ∙ map-append bstring_bytes old (text ∷ [])))
    (all_zipped_more (λ (r : Reading) (x : List ℕ). printed r ≡ Some x) (map reading_of (take i specs))
    (map bstring_bytes old) (reading_of (get_or specs i d)) (bstring_bytes text) so_far is))
