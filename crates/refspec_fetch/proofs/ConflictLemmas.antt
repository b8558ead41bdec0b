-- The lines and the objects on conflicts, part by part.
use Rattle.std.proofs.Common.{◌≡◌, ℕ, ◌+◌, ◌-◌, ◌<◌, List, [], ◌∷◌, ◌++◌, Option, Some, None, drop, length, map}
use Rattle.std.proofs.Common.{take, take_all, get_or, codes, refl, sym, ap, ◌∙◌, subst, append_assoc, arith}
use Rattle.std.specs.List.{filter_map, slice_get}
use Rattle.std.proofs.lemmas.List.{append-nil, length-drop, length-map, map-append, map_more, take-map, take_more}
use Rattle.std.proofs.lemmas.List.Elements.{filter_map-append}
use Rattle.gix_refspec_plan.specs.Matching.Plan.{Planned}
use Rattle.refspec_json.specs.Objects.{Claimed, conflict_object, line_of}
use Rattle.refspec_io.specs.declared.call.Form.{Form}
use Rattle.refspec_io.specs.declared.call.Form.TheVariants as form
use Rattle.refspec_io.specs.declared.call.Limit.{Limit}
use Rattle.refspec_io.specs.Counts.{more_line, reported_count}
use Rattle.refspec_io.specs.Json.{AddsObjects, json_text}
use Rattle.refspec_io.specs.Rows.{source_text}
use Rattle.refspec_io.specs.Shown.{Grows, WritesQuoted}
use Rattle.refspec_io.proofs.ShownLemmas.{behind}
use Rattle.refspec_fetch.specs.declared.conflicts.Contest.{Contest as DeclaredContest}
use Rattle.refspec_fetch.specs.declared.origins.SpecTexts.{SpecTexts}
use Rattle.refspec_fetch.specs.Conflicts.{AddsConflictLines, AddsEachConflict, AreClaims, AreReportedConflicts, Contest}
use Rattle.refspec_fetch.specs.Conflicts.{IsReportedConflict, WritesClaim, WritesClaims, WritesConflict, claims_of}
use Rattle.refspec_fetch.specs.Conflicts.{conflict_line, contest_of, those_at}
use Rattle.refspec_fetch.specs.Origins.{note_of, text_of}

-- six appended parts
pub six : (old a b c d e new u v w x y z : List ℕ) → a ≡ old ++ u → b ≡ a ++ v → c ≡ b ++ w → d ≡ c ++ x → e ≡ d ++ y
    → new ≡ e ++ z → new ≡ old ++ (u ++ (v ++ (w ++ (x ++ (y ++ z)))))
six old a b c d e new u v w x y z is_a is_b is_c is_d is_e is_new =
    let at_b = behind old u a v b is_a is_b in
    let at_c = behind old (u ++ v) b w c at_b is_c in
    let at_d = behind old ((u ++ v) ++ w) c x d at_c is_d in
    let at_e = behind old (((u ++ v) ++ w) ++ x) d y e at_d is_e in
    let at_new = behind old ((((u ++ v) ++ w) ++ x) ++ y) e z new at_e is_new in
    at_new ∙ ap (λ l. old ++ l) (append_assoc (((u ++ v) ++ w) ++ x) y z
    ∙ (append_assoc ((u ++ v) ++ w) x (y ++ z)
    ∙ (append_assoc (u ++ v) w (x ++ (y ++ z)) ∙ append_assoc u v (w ++ (x ++ (y ++ z))))))

-- the parts of the line of a claim
pub WritesClaim-of : (source text note said old a b c d e new : List ℕ) → a ≡ old ++ codes "    "
    → WritesQuoted source a b → c ≡ b ++ codes " by " → WritesQuoted text c d → said ≡ note → e ≡ d ++ said
    → new ≡ e ++ 10 ∷ [] → WritesClaim source text note old new
WritesClaim-of source text note said old a b c d e new is_a write_source is_c write_text same is_e is_new = (
  codes "    " ++ (write_source.0 ++ (codes " by " ++ (write_text.0 ++ (note ++ (10 ∷ []))))),
  record {
    first = write_source.0;
    second = write_text.0;
    is_first = write_source.1;
    is_second = write_text.1;
    is =
        refl;
  },
  six old a b c d e new (codes "    ") write_source.0 (codes " by ") write_text.0 note (10 ∷ []) is_a write_source.2
      is_c write_text.2 (is_e ∙ ap (λ l. d ++ l) same) is_new,
)

AreClaims-append : (texts : SpecTexts) (ps qs : List Planned) (front back : List ℕ) → AreClaims texts ps front
    → AreClaims texts qs back → AreClaims texts (ps ++ qs) (front ++ back)
AreClaims-append texts [] qs front back none more = subst (λ (l : List ℕ). AreClaims texts qs (l ++ back))
    (sym none) more
AreClaims-append texts (x ∷ ps) qs front back (first, rest, here, others, all) more = (
  first,
  rest ++ back,
  here,
  AreClaims-append texts ps qs rest back others more,
  ap (λ l. l ++ back) all
      ∙ append_assoc first rest back,
)

pub WritesClaims-start : (texts : SpecTexts) (old : List ℕ) → WritesClaims texts [] old old
WritesClaims-start texts old = ([], refl, sym (append-nil old))

pub WritesClaims-one : (texts : SpecTexts) (p : Planned) (source text old new : List ℕ) → source ≡ source_text p.source
    → text ≡ text_of texts p.origin → WritesClaim source text (note_of p.origin) old new
    → WritesClaims texts (p ∷ []) old new
WritesClaims-one texts p source text old new of_source of_text claim =
    let (line, is, write) = subst (λ (t : List ℕ). WritesClaim (source_text p.source) t (note_of p.origin) old new)
    of_text (subst (λ (s : List ℕ). WritesClaim s text (note_of p.origin) old new) of_source claim) in
    (line, (line, [], is, refl, sym (append-nil line)), write)

WritesClaims-append : (texts : SpecTexts) (ps qs : List Planned) (old mid new : List ℕ) → WritesClaims texts ps old mid
    → WritesClaims texts qs mid new → WritesClaims texts (ps ++ qs) old new
WritesClaims-append texts ps qs old mid new a b = (
  a.0 ++ b.0,
  AreClaims-append texts ps qs a.0 b.0 a.1 b.1,
  behind old a.0 mid b.0 new a.2 b.2,
)

-- the updates at one more index
pub those-next : (ps : List Planned) (xs : List ℕ) (i d : ℕ) → i < length xs
    → those_at ps (take (i + 1) xs) ≡ those_at ps (take i xs) ++ those_at ps (get_or xs i d ∷ [])
those-next ps xs i d below = ap (those_at ps) (take_more xs i d below) ∙ filter_map-append (λ (k : ℕ). slice_get ps k)
    (take i xs) (get_or xs i d ∷ [])

-- the update at an index, or none
pub those-some : (ps : List Planned) (k : ℕ) (p : Planned) → slice_get ps k ≡ Some p → those_at ps (k ∷ []) ≡ p ∷ []
those-some ps k p is = ap (λ (o : Option Planned). filter_map (λ (x : Option Planned). x) (o ∷ [])) is

pub those-none : (ps : List Planned) (k : ℕ) → slice_get ps k ≡ None → those_at ps (k ∷ []) ≡ []
those-none ps k is = ap (λ (o : Option Planned). filter_map (λ (x : Option Planned). x) (o ∷ [])) is

pub WritesClaims-next : (texts : SpecTexts) (ps : List Planned) (xs : List ℕ) (i d : ℕ) (old mid new : List ℕ)
    → i < length xs → WritesClaims texts (those_at ps (take i xs)) old mid
    → WritesClaims texts (those_at ps (get_or xs i d ∷ [])) mid new → WritesClaims texts (those_at ps (take (i + 1) xs))
    old new
WritesClaims-next texts ps xs i d old mid new below a b =
    subst (λ (l : List Planned). WritesClaims texts l old new) (sym (those-next ps xs i d below))
    (WritesClaims-append texts (those_at ps (take i xs)) (those_at ps (get_or xs i d ∷ [])) old mid new a b)

-- the claims of one more index
pub claims-next : (texts : SpecTexts) (ps : List Planned) (xs : List ℕ) (i d : ℕ) (old new : List Claimed)
    → i < length xs → old ≡ claims_of texts (those_at ps (take i xs))
    → new ≡ old ++ claims_of texts (those_at ps (get_or xs i d ∷ []))
    → new ≡ claims_of texts (those_at ps (take (i + 1) xs))
claims-next texts ps xs i d old new below so_far grown =
    grown ∙ (ap (λ l. l ++ claims_of texts (those_at ps (get_or xs i d ∷ []))) so_far
    ∙ (sym (map-append _ (those_at ps (take i xs)) (those_at ps (get_or xs i d ∷ [])))
    ∙ ap (claims_of texts) (sym (those-next ps xs i d below))))

-- the parts of the lines on a conflict
pub WritesConflict-of : (texts : SpecTexts) (c : Contest) (name : List ℕ) (updates : List Planned)
    (old a b d e new : List ℕ) → name ≡ c.destination → updates ≡ c.updates → a ≡ old ++ codes "conflict: "
    → WritesQuoted name a b → d ≡ b ++ codes " would be written from several refs, so nothing is fetched:\n"
    → WritesClaims texts updates d e → Grows e new → WritesConflict texts c old new
WritesConflict-of texts c name updates old a b d e new same same_updates is_a write is_d claims grows =
    let head = codes "conflict: " in
    let words = codes " would be written from several refs, so nothing is fetched:\n" in
    let named = subst (λ (n : List ℕ). WritesQuoted n a b) same write in
    let all = subst (λ (l : List Planned). WritesClaims texts l d e) same_updates claims in
    let at_b = behind old head a named.0 b is_a named.2 in
    let at_d = behind old (head ++ named.0) b words d at_b is_d in
    let at_e = behind old ((head ++ named.0) ++ words) d all.0 e at_d all.2 in
    let at_new = behind old (((head ++ named.0) ++ words) ++ all.0) e grows.0 new at_e grows.1 in (
      head ++ (named.0 ++ (words ++ (all.0 ++ grows.0))),
      record { shown = named.0; claims = all.0; advice = grows.0; destination = named.1; each = all.1; is = refl },
      at_new ∙ ap (λ l. old ++ l) (append_assoc ((head ++ named.0) ++ words) all.0 grows.0
          ∙ (append_assoc (head ++ named.0) words (all.0 ++ grows.0) ∙ append_assoc head named.0
          (words ++ (all.0 ++ grows.0)))),
    )

-- the object of a conflict, member by member
pub conflict_line-of : (texts : SpecTexts) (c : Contest) (name : List ℕ) (claims : List Claimed) (old new : List ℕ)
    → name ≡ json_text c.destination → claims ≡ claims_of texts c.updates
    → new ≡ old ++ line_of (conflict_object name claims) → new ≡ old ++ conflict_line texts c
conflict_line-of texts c name claims old new is_name are_claims write = write
    ∙ (ap (λ x. old ++ line_of (conflict_object x claims)) is_name
    ∙ ap (λ x. old ++ line_of (conflict_object (json_text c.destination) x)) are_claims)

-- ---- conflicts, in order

AreReportedConflicts-push : (texts : SpecTexts) (cs : List Contest) (c : Contest) (lines one : List ℕ)
    → AreReportedConflicts texts cs lines → IsReportedConflict texts c one → AreReportedConflicts texts (cs ++ c ∷ [])
    (lines ++ one)
AreReportedConflicts-push texts [] c lines one none reported =
    (one, [], reported, refl, ap (λ l. l ++ one) none ∙ sym (append-nil one))
AreReportedConflicts-push texts (x ∷ cs) c lines one (first, rest, here, more, is) reported = (
  first,
  rest ++ one,
  here,
  AreReportedConflicts-push texts cs c rest one more reported,
  ap (λ l. l ++ one) is
      ∙ append_assoc first rest one,
)

pub AddsEachConflict-start : (f : Form) (texts : SpecTexts) (old : List ℕ) → AddsEachConflict f texts [] old old
AddsEachConflict-start form.Lines texts old = ([], refl, sym (append-nil old))
AddsEachConflict-start form.Zeros texts old = ([], refl, sym (append-nil old))
AddsEachConflict-start form.Json texts old = refl

AddsEachConflict-push : (f : Form) (texts : SpecTexts) (cs : List Contest) (c : Contest) (old mid new : List ℕ)
    → AddsEachConflict f texts cs old mid → AddsEachConflict f texts (c ∷ []) mid new
    → AddsEachConflict f texts (cs ++ c ∷ []) old new
AddsEachConflict-push form.Json texts cs c old mid new a b = b ∙ a
AddsEachConflict-push form.Lines texts cs c old mid new a (lines, (one, rest, reported, none, is), write) =
    let all : lines ≡ one = is ∙ (ap (λ l. one ++ l) none ∙ append-nil one) in (
      a.0 ++ one,
      AreReportedConflicts-push texts cs c a.0 one a.1 reported,
      behind old a.0 mid one new a.2
          (write ∙ ap (λ l. mid ++ l) all),
    )
AddsEachConflict-push form.Zeros texts cs c old mid new a (lines, (one, rest, reported, none, is), write) =
    let all : lines ≡ one = is ∙ (ap (λ l. one ++ l) none ∙ append-nil one) in (
      a.0 ++ one,
      AreReportedConflicts-push texts cs c a.0 one a.1 reported,
      behind old a.0 mid one new a.2
          (write ∙ ap (λ l. mid ++ l) all),
    )

pub AddsEachConflict-next : (f g : Form) (texts : SpecTexts) (ps : List Planned) (xs : List DeclaredContest) (i : ℕ)
    (x : DeclaredContest) (old mid new : List ℕ) → i < length xs → x ≡ get_or xs i x → g ≡ f
    → AddsEachConflict f texts (map (contest_of ps) (take i xs)) old mid
    → AddsEachConflict g texts (contest_of ps x ∷ []) mid new
    → AddsEachConflict f texts (map (contest_of ps) (take (i + 1) xs)) old new
AddsEachConflict-next f g texts ps xs i x old mid new below is same a b =
    let step : map (contest_of ps) (take (i + 1) xs) ≡ map (contest_of ps) (take i xs) ++ contest_of ps x ∷ [] =
    map_more (contest_of ps) xs i x below
    ∙ ap (λ (y : DeclaredContest). map (contest_of ps) (take i xs) ++ contest_of ps y ∷ []) (sym is) in
    subst (λ (l : List Contest). AddsEachConflict f texts l old new) (sym step)
    (AddsEachConflict-push f texts (map (contest_of ps) (take i xs)) (contest_of ps x) old mid new a
    (subst (λ (h : Form). AddsEachConflict h texts (contest_of ps x ∷ []) mid new) same b))

-- ---- the first conflicts, and how many more

-- the first n elements, mapped
pub first_of : {X Y : Type 0} (h : X → Y) (f : Form) (limit : Limit) (xs first : List X) (n : ℕ)
    → n ≡ reported_count f limit (length xs) → first ≡ take n xs
    → map h first ≡ take (reported_count f limit (length (map h xs))) (map h xs)
first_of h f limit xs first n is split =
    let long : n ≡ reported_count f limit (length (map h xs)) = is ∙ ap (reported_count f limit)
    (sym (length-map xs h)) in
    ap (map h) split ∙ (sym (take-map h n xs) ∙ ap (λ (k : ℕ). take k (map h xs)) long)

-- the number of elements after the first n
pub others_of : {X Y : Type 0} (h : X → Y) (f : Form) (limit : Limit) (xs rest : List X) (n : ℕ)
    → n ≡ reported_count f limit (length xs) → rest ≡ drop n xs → length rest ≡ length (map h xs) - reported_count f
    limit
    (length (map h xs))
others_of h f limit xs rest n is split =
    let size = length-map xs h in
    ap length split
    ∙ (length-drop n xs
    ∙ (ap (λ (k : ℕ). length xs - k) is ∙ ap (λ (k : ℕ). k - reported_count f limit k) (sym size)))

-- the first objects in JSON are all of them; in other forms there are none
pub AddsObjects-first : {X : Type 0} (f : Form) (Reports : X → List ℕ → Type 0) (limit : Limit) (xs : List X)
    (old new : List ℕ) → AddsObjects f Reports (take (reported_count f limit (length xs)) xs) old new
    → AddsObjects f Reports xs old new
AddsObjects-first form.Json Reports limit xs old new reported = subst (λ l. AddsObjects form.Json Reports l old new)
    (take_all (length xs) xs (omega arith)) reported
AddsObjects-first form.Lines Reports limit xs old new reported = reported
AddsObjects-first form.Zeros Reports limit xs old new reported = reported

-- the first conflicts, and how many more there are
pub AddsConflictLines-of : (f : Form) (texts : SpecTexts) (limit : Limit) (cs : List Contest) (n : ℕ)
    (old mid new : List ℕ) → n ≡ length cs - reported_count f limit (length cs)
    → AddsEachConflict f texts (take (reported_count f limit (length cs)) cs) old mid
    → new ≡ mid ++ more_line (codes "conflict: ") n → AddsConflictLines limit f texts cs old new
AddsConflictLines-of form.Json texts limit cs n old mid new is same more =
    let none : n ≡ 0 = omega (arith, is) in
    more ∙ (ap (λ (k : ℕ). mid ++ more_line (codes "conflict: ") k) none ∙ (append-nil mid ∙ same))
AddsConflictLines-of form.Lines texts limit cs n old mid new is (lines, reported, write) more = (
  lines,
  reported,
  behind old lines mid (more_line (codes "conflict: ") n) new write more
      ∙ ap (λ (k : ℕ). old ++ (lines ++ more_line (codes "conflict: ") k)) is,
)
AddsConflictLines-of form.Zeros texts limit cs n old mid new is (lines, reported, write) more = (
  lines,
  reported,
  behind old lines mid (more_line (codes "conflict: ") n) new write more
      ∙ ap (λ (k : ℕ). old ++ (lines ++ more_line (codes "conflict: ") k)) is,
)
