-- The lines, records and objects of updates, in order.
use Rattle.std.proofs.Common.{◌≡◌, ℕ, List, [], ◌∷◌, ◌++◌, Option, Some, codes, flat_map, option_map, unwrap_or, refl}
use Rattle.std.proofs.Common.{sym, ap, ◌∙◌, subst, append_assoc}
use Rattle.std.proofs.lemmas.Grind.{flat_map-append}
use Rattle.std.proofs.lemmas.List.{append-nil}
use Rattle.gix_refspec_plan.specs.declared.Origin.{Origin}
use Rattle.gix_refspec_plan.specs.Matching.Plan.{Planned}
use Rattle.refspec_json.specs.Objects.{line_of, mapping_object}
use Rattle.refspec_io.specs.Json.{json_text}
use Rattle.refspec_io.specs.Rows.{WritesCell, source_text}
use Rattle.refspec_io.specs.Shown.{WritesQuoted, zero_ended}
use Rattle.refspec_io.proofs.ShownLemmas.{behind}
use Rattle.refspec_fetch.specs.declared.origins.SpecTexts.{SpecTexts}
use Rattle.refspec_fetch.specs.Origins.{note_of, origin_name, text_of}
use Rattle.refspec_fetch.specs.Updates.{AddsUpdateLines, AreUpdateLines, IsUpdateLine, WritesHeading, WritesUpdateLine}
use Rattle.refspec_fetch.specs.Updates.{fields_with, object_with}

-- the text, what is said behind it and a newline
pub WritesHeading-of : (text note : List ℕ) (o : Origin) (old a b new : List ℕ) → WritesQuoted text old a
    → note ≡ note_of o → b ≡ a ++ note → new ≡ b ++ 10 ∷ [] → WritesHeading text o old new
WritesHeading-of text note o old a b new q same noted ended =
    let nl = 10 ∷ [] in
    let two : b ≡ old ++ (q.0 ++ note) = behind old q.0 a note b q.2 noted in (
      q.0 ++ (note_of o ++ nl),
      (q.0, q.1, refl),
      behind old (q.0 ++ note) b nl new two ended
          ∙ (ap (λ l. old ++ l) (append_assoc q.0 note nl) ∙ ap (λ l. old ++ (q.0 ++ (l ++ nl))) same),
    )

-- two cells and the end of a line
pub WritesUpdateLine-of : (text : List ℕ) (p : Planned) (old a b new : List ℕ) → WritesCell (source_text p.source) old a
    → WritesCell (unwrap_or p.destination (codes "FETCH_HEAD")) a b → WritesHeading text p.origin b new
    → WritesUpdateLine text p old new
WritesUpdateLine-of text p old a b new one two (last, heading, write) = (
  one.0 ++ (two.0 ++ last),
  record {
    first = one.0;
    second = two.0;
    last = last;
    is_first = one.1;
    is_second = two.1;
    is_last = heading;
    is =
        refl;
  },
  behind old (one.0 ++ two.0) b last new (behind old one.0 a two.0 b one.2 two.2) write
      ∙ ap (λ l. old ++ l) (append_assoc one.0 two.0 last),
)

AreUpdateLines-append : (texts : SpecTexts) (ps qs : List Planned) (front back : List ℕ) → AreUpdateLines texts ps front
    → AreUpdateLines texts qs back → AreUpdateLines texts (ps ++ qs) (front ++ back)
AreUpdateLines-append texts [] qs front back none more = subst (λ (l : List ℕ). AreUpdateLines texts qs (l ++ back))
    (sym none) more
AreUpdateLines-append texts (x ∷ ps) qs front back (first, rest, here, others, all) more = (
  first,
  rest ++ back,
  here,
  AreUpdateLines-append texts ps qs rest back others more,
  ap (λ l. l ++ back) all
      ∙ append_assoc first rest back,
)

pub AddsUpdateLines-start : (texts : SpecTexts) (old : List ℕ) → AddsUpdateLines texts [] old old
AddsUpdateLines-start texts old = ([], refl, sym (append-nil old))

pub AddsUpdateLines-one : (texts : SpecTexts) (p : Planned) (text old new : List ℕ) → text ≡ text_of texts p.origin
    → WritesUpdateLine text p old new → AddsUpdateLines texts (p ∷ []) old new
AddsUpdateLines-one texts p text old new same (line, is, write) =
    (line, (line, [], subst (λ (t : List ℕ). IsUpdateLine t p line) same is, refl, sym (append-nil line)), write)

-- the lines of more updates
pub AddsUpdateLines-append : (texts : SpecTexts) (ps qs : List Planned) (old mid new : List ℕ)
    → AddsUpdateLines texts ps old mid → AddsUpdateLines texts qs mid new → AddsUpdateLines texts (ps ++ qs) old new
AddsUpdateLines-append texts ps qs old mid new (lines, are, so_far) (more, others, write) =
    (lines ++ more, AreUpdateLines-append texts ps qs lines more are others, behind old lines mid more new so_far write)

-- the pieces of more updates
pub pieces-append : (f : Planned → List ℕ) (ps qs : List Planned) (old mid new : List ℕ) → mid ≡ old ++ flat_map f ps
    → new ≡ mid ++ flat_map f qs → new ≡ old ++ flat_map f (ps ++ qs)
pieces-append f ps qs old mid new so_far write = behind old (flat_map f ps) mid (flat_map f qs) new so_far write
    ∙ ap (λ l. old ++ l) (sym (flat_map-append f ps qs))

-- the piece of one update
pub pieces-one : (f : Planned → List ℕ) (p : Planned) (old new : List ℕ) → new ≡ old ++ f p
    → new ≡ old ++ flat_map f (p ∷ [])
pieces-one f p old new write = write ∙ ap (λ l. old ++ l) (sym (append-nil (f p)))

-- the four fields of an update
pub fields_with-of : (text name : List ℕ) (p : Planned) (old a b c new : List ℕ)
    → a ≡ old ++ zero_ended (source_text p.source) → b ≡ a ++ zero_ended (unwrap_or p.destination [])
    → c ≡ b ++ zero_ended text → name ≡ origin_name p.origin → new ≡ c ++ zero_ended name
    → new ≡ old ++ fields_with text p
fields_with-of text name p old a b c new is_a is_b is_c same is_new =
    let f1 = zero_ended (source_text p.source) in
    let f2 = zero_ended (unwrap_or p.destination []) in
    let f3 = zero_ended text in
    let at_b = behind old f1 a f2 b is_a is_b in
    let at_c = behind old (f1 ++ f2) b f3 c at_b is_c in
    behind old ((f1 ++ f2) ++ f3) c (zero_ended name) new at_c is_new
    ∙ ap (λ (n : List ℕ). old ++ (((f1 ++ f2) ++ f3) ++ zero_ended n)) same

-- the object of an update, member by member
pub object_with-of : (p : Planned) (text source spec : List ℕ) (destination name : Option (List ℕ)) (old new : List ℕ)
    → source ≡ json_text (source_text p.source) → destination ≡ option_map json_text p.destination
    → spec ≡ json_text text → name ≡ Some (origin_name p.origin)
    → new ≡ old ++ line_of (mapping_object source destination spec name) → new ≡ old ++ object_with text p
object_with-of p text source spec destination name old new is_source is_destination is_spec is_name write =
    write ∙ (ap (λ x. old ++ line_of (mapping_object x destination spec name)) is_source
    ∙ (ap (λ x. old ++ line_of (mapping_object (json_text (source_text p.source)) x spec name)) is_destination
    ∙ (ap (λ x. old ++ line_of (mapping_object (json_text (source_text p.source)) (option_map json_text p.destination) x
    name)) is_spec
    ∙ ap (λ x. old ++ line_of (mapping_object (json_text (source_text p.source)) (option_map json_text p.destination)
    (json_text text) x)) is_name)))
