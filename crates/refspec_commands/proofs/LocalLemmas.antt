-- What specs have to do with a local ref, and the report on that.
use Rattle.std.proofs.Common.{◌≡◌, ℕ, zero, suc, ◌+◌, ◌<◌, List, [], ◌∷◌, ◌++◌, Option, option_map}
use Rattle.std.proofs.Common.{get_or, arith, refl, sym, ap, ◌∙◌, subst, append_assoc}
use Rattle.std.proofs.Common.{None, Some, true, ltb, length, map, take, unwrap_or}
use Rattle.std.proofs.lemmas.List.{length-map, length-take-le, map_more}
use Rattle.std.proofs.lemmas.Bool.{ltb-true}
use Rattle.std.proofs.lemmas.Option.{slice_get_read}
use Rattle.std.specs.List.{slice_get}
use Rattle.bstr.specs.Owned.{bstring_bytes}
use Rattle.bstr.specs.declared.bstring.BString.{BString}
use Rattle.gix_refspec_why.proofs.lemmas.FirstLemmas.{each_more}
use Rattle.gix_refspec_why.specs.declared.Effect.{Effect as DeclaredEffect}
use Rattle.gix_refspec_why.specs.Matching.Why.{AreEach}
use Rattle.gix_refspec_why.specs.Views.Why.{effect_of}
use Rattle.refspec_json.specs.Objects.{fate_object, line_of}
use Rattle.refspec_io.specs.declared.call.Form.{Form}
use Rattle.refspec_io.specs.declared.call.Form.TheVariants as form
use Rattle.refspec_io.specs.Json.{json_text}
use Rattle.refspec_io.specs.Rows.{Row, WritesCell, fields}
use Rattle.refspec_io.specs.Shown.{KeepsResults, zero_ended}
use Rattle.refspec_io.proofs.RowLemmas.{fields-of}
use Rattle.refspec_io.proofs.ShownLemmas.{behind}
use Rattle.refspec_commands.specs.declared.fates.question.Question.{Question}
use Rattle.refspec_commands.specs.declared.fates.roles.LocalAnswer.{LocalAnswer}
use Rattle.refspec_commands.specs.declared.fates.roles.Role.{Role}
use Rattle.refspec_commands.specs.declared.fates.roles.Role.TheVariants as role
use Rattle.refspec_commands.specs.declared.fates.roles.Source.{Source}
use Rattle.refspec_commands.specs.Each.{AddsEach, AddsOne}
use Rattle.refspec_commands.specs.Locals.{AddsLocalAnswer, IsLacked, IsPart, IsRoleOf, Part, names_of, part_at}
use Rattle.refspec_commands.specs.Locals.{parts_from, role_source, role_word}
use Rattle.refspec_commands.proofs.FateLemmas.{AddsEach-push}

-- the part of a spec, from its members
pub part_same : (texts sources : List (List ℕ)) (i : ℕ) (r : Role) (text word : List ℕ) (source : Option (List ℕ))
    → text ≡ unwrap_or (slice_get texts i) [] → source ≡ role_source sources r → word ≡ role_word r
    → record { text = text; source = source; word = word } ≡ part_at i texts sources r
part_same texts sources i r text word source is_text is_source is_word =
    ap (λ t. record { text = t; source = source; word = word }) is_text
    ∙ (ap (λ s. record { text = unwrap_or (slice_get texts i) []; source = s; word = word }) is_source
    ∙ ap (λ w. record { text = unwrap_or (slice_get texts i) []; source = role_source sources r; word = w }) is_word)

-- the part of one more spec
parts_from-more : (k : ℕ) (texts sources : List (List ℕ)) (rs : List Role) (i : ℕ) (d : Role) → i < length rs
    → parts_from k texts sources (take (i + 1) rs)
    ≡ parts_from k texts sources (take i rs) ++ part_at (k + i) texts sources (get_or rs i d) ∷ []
parts_from-more k texts sources [] i d below = absurd (omega (arith, below))
parts_from-more k texts sources (r ∷ rs) zero d below =
    let at : k ≡ k + 0 = omega arith in
    ap (λ n. part_at n texts sources r ∷ []) at
parts_from-more k texts sources (r ∷ rs) (suc i) d below =
    let rest = parts_from-more (k + 1) texts sources rs i d (omega (arith, below)) in
    let longer : suc i + 1 ≡ suc (i + 1) = omega arith in
    let at : (k + 1) + i ≡ k + suc i = omega arith in
    ap (λ n. parts_from k texts sources (take n (r ∷ rs))) longer
    ∙ ap (λ (l : List Part). part_at k texts sources r ∷ l)
    (rest
    ∙ ap
    (λ n. parts_from (k + 1) texts sources (take i rs) ++ part_at n texts sources (get_or rs i d) ∷ [])
    at)

-- the same from the first spec on
pub parts-more : (texts sources : List (List ℕ)) (rs : List Role) (i : ℕ) (d : Role) → i < length rs
    → parts_from 0 texts sources (take (i + 1) rs)
    ≡ parts_from 0 texts sources (take i rs) ++ part_at i texts sources (get_or rs i d) ∷ []
parts-more texts sources rs i d below =
    let at : 0 + i ≡ i = omega arith in
    parts_from-more 0 texts sources rs i d below
    ∙ ap
    (λ n. parts_from 0 texts sources (take i rs) ++ part_at n texts sources (get_or rs i d) ∷ [])
    at

-- the line of a spec
pub part_line : (p : Part) (sentence old mid next new : List ℕ) → WritesCell p.text old mid
    → next ≡ mid ++ sentence → new ≡ next ++ 10 ∷ [] → AddsOne (IsPart form.Lines []) p old new
part_line p sentence old mid next new cell said ended = (
  cell.0 ++ (sentence ++ 10 ∷ []),
  (cell.0, sentence, cell.1, refl),
  behind old (cell.0 ++ sentence) next (10 ∷ []) new (behind old cell.0 mid sentence next cell.2 said) ended
      ∙ ap (λ l. old ++ l) (append_assoc cell.0 sentence (10 ∷ [])),
)

-- the object of a spec, member by member
pub part_object : (name : List ℕ) (p : Part) (spec shown message : List ℕ) (destination : Option (List ℕ))
    (old new : List ℕ) → spec ≡ json_text p.text → shown ≡ json_text (unwrap_or p.source name)
    → destination ≡ option_map (λ s. json_text name) p.source
    → new ≡ old ++ line_of (fate_object spec shown destination p.word message)
    → AddsOne (IsPart form.Json name) p old new
part_object name p spec shown message destination old new is_spec is_name is_destination write =
    let text = json_text p.text in
    let remote = json_text (unwrap_or p.source name) in
    let to = option_map (λ s. json_text name) p.source in (
      line_of (fate_object text remote to p.word message),
      (message, refl),
      write ∙ (ap (λ x. old ++ line_of (fate_object x shown destination p.word message)) is_spec
          ∙ (ap (λ x. old ++ line_of (fate_object text x destination p.word message)) is_name
          ∙ ap (λ x. old ++ line_of (fate_object text remote x p.word message)) is_destination)),
    )

-- the record of a spec, field by field
pub part_record : (p : Part) (source : Option (List ℕ)) (old a b new : List ℕ) → p.source ≡ source
    → a ≡ old ++ zero_ended p.text → b ≡ a ++ zero_ended p.word → new ≡ b ++ zero_ended (unwrap_or source [])
    → AddsOne (IsPart form.Zeros []) p old new
part_record p source old a b new is_source is_a is_b is_new =
    let row : Row = record { destination = p.text; source = p.word; spec = unwrap_or p.source [] } in (
      fields row,
      refl,
      fields-of row old a b new is_a is_b (is_new ∙ ap (λ x. b ++ zero_ended (unwrap_or x [])) (sym is_source)),
    )

-- what a name becomes, if there is another one
pub mapped_constant : (x : Option (List ℕ)) (name : List ℕ)
    → option_map json_text (option_map (λ s. name) x) ≡ option_map (λ s. json_text name) x
mapped_constant None name = refl
mapped_constant (Some s) name = refl

-- what each spec has to do with the ref, and then perhaps a message
pub AddsLocalAnswer-of : (f : Form) (name : List ℕ) (a : LocalAnswer) (texts : List BString) (sources : List Source)
    (roles : List Role) (old last new : List ℕ) → texts ≡ a.texts.items → sources ≡ a.sources.items
    → roles ≡ a.roles.items
    → AddsEach (IsPart f name) (parts_from 0 (map bstring_bytes texts) (names_of sources) roles) old last
    → KeepsResults f last new → AddsLocalAnswer f name a old new
AddsLocalAnswer-of f name a texts sources roles old last new is_texts is_sources is_roles each kept =
    record {
      last = last;
      reported = subst (λ (l : List Role). AddsEach (IsPart f name)
          (parts_from 0 (map bstring_bytes a.texts.items) (names_of a.sources.items) l) old last) is_roles
          (subst (λ (l : List Source). AddsEach (IsPart f name)
          (parts_from 0 (map bstring_bytes a.texts.items) (names_of l) roles) old last) is_sources
          (subst (λ (l : List BString). AddsEach (IsPart f name)
          (parts_from 0 (map bstring_bytes l) (names_of sources) roles) old last) is_texts each));
      after = kept;
    }

-- one more role
pub roles_next : {X A Y : Type 0} (R : ℕ → A → Y → Type 0) (f : X → A) (xs : List X) (i : ℕ) (d : X) (ys more : List Y)
    (y : Y) → i < length xs → AreEach R (map f (take i xs)) ys → R i (f (get_or xs i d)) y → more ≡ ys ++ y ∷ []
    → AreEach R (map f (take (i + 1) xs)) more
roles_next {X} {A} {Y} R f xs i d ys more y below so_far is grown =
    let count : length (map f (take i xs)) ≡ i =
    length-map (take i xs) f ∙ length-take-le i xs (omega (arith, below)) in
    subst (λ (l : List A). AreEach R l more) (sym (map_more f xs i d below))
    (subst (AreEach R (map f (take i xs) ++ f (get_or xs i d) ∷ [])) (sym grown)
    (each_more R (map f (take i xs)) ys (f (get_or xs i d)) y so_far
    (subst (λ (k : ℕ). R k (f (get_or xs i d)) y) (sym count) is)))

-- what a look-up found
pub found_at : {X : Type 0} (xs : List X) (i : ℕ) (x : X) → true ≡ ltb i (length xs) → x ≡ get_or xs i x
    → slice_get xs i ≡ Some x
found_at xs i x inside is = slice_get_read xs (length xs) i x refl (ltb-true _ _ (sym inside)) is

-- the source that a spec maps, which the remote lacks
pub maps_missing : (q : Question) (sources : List Source) (k i : ℕ) (s : Source) (effects : List DeclaredEffect)
    (e : DeclaredEffect) → slice_get sources i ≡ Some s → effects ≡ s.effects.of_specs.items
    → slice_get effects k ≡ Some e → (effect_of e).destination ≡ Some q.name.now
    → IsLacked q.known s.effects.item_index → IsRoleOf q sources k (role.Missing i)
maps_missing q sources k i s effects e at same by stored lacked = (
  record {
    source = s;
    effect = e;
    at = at;
    by = subst (λ (l : List DeclaredEffect). slice_get l k ≡ Some e) same by;
    destination = stored;
  },
  lacked,
)

-- and one that it may have
pub maps_taken : (q : Question) (sources : List Source) (k i : ℕ) (s : Source) (effects : List DeclaredEffect)
    (e : DeclaredEffect) → slice_get sources i ≡ Some s → effects ≡ s.effects.of_specs.items
    → slice_get effects k ≡ Some e → (effect_of e).destination ≡ Some q.name.now
    → ¬ (IsLacked q.known s.effects.item_index)
    → IsRoleOf q sources k (role.Mapped (record { source = i; fate = e.fate }))
maps_taken q sources k i s effects e at same by stored had = (
  record {
    source = s;
    effect = e;
    at = at;
    by = subst (λ (l : List DeclaredEffect). slice_get l k ≡ Some e) same by;
    destination = stored;
  },
  had,
  refl,
)

-- one more part was reported
pub parts_step : (f g : Form) (name : List ℕ) (texts sources : List (List ℕ)) (all : List Role) (i : ℕ) (r d : Role)
    (old mid new : List ℕ) → i < length all → r ≡ get_or all i d → g ≡ f
    → AddsEach (IsPart f name) (parts_from 0 texts sources (take i all)) old mid
    → AddsOne (IsPart g name) (part_at i texts sources r) mid new
    → AddsEach (IsPart f name) (parts_from 0 texts sources (take (i + 1) all)) old new
parts_step f g name texts sources all i r d old mid new below is same so_far one =
    let of_form = subst (λ (h : Form). AddsOne (IsPart h name) (part_at i texts sources r) mid new) same one in
    let here = subst (λ (x : Role). AddsOne (IsPart f name) (part_at i texts sources x) mid new) is of_form in
    subst (λ (l : List Part). AddsEach (IsPart f name) l old new) (sym (parts-more texts sources all i d below))
    (AddsEach-push (IsPart f name) _ _ old mid new so_far here)
