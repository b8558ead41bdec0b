-- A plan with exit status 0 writes no destination from two sources, and no duplicate line.
use Rattle.std.proofs.Common.{◌≡◌, ◌≢◌, ◌⊎◌, inl, inr, ℕ, zero, suc, ◌+◌, ◌<◌, ◌≤◌, ◌%◌, ◌^◌, Bool, true, false, List}
use Rattle.std.proofs.Common.{[], ◌∷◌, ◌++◌, Option, None, Some, flat_map, get_or, length, length-append, map, codes}
use Rattle.std.proofs.Common.{refl, sym, ap, ◌∙◌, subst, append_assoc, arith}
use Rattle.std.specs.Prelude.{decimal, if◌then◌else◌, MatchBool}
use Rattle.std.specs.List.{AllByRecursion, AllZip, slice_get}
use Rattle.std.proofs.lemmas.Fmt.{decimal_by_steps, decimal_injective}
use Rattle.std.proofs.lemmas.List.{append_cancel_left, append_cancel_right}
use Rattle.std.proofs.lemmas.Option.{slice_get_within}
use Rattle.gix_refspec_text.specs.declared.parsing.Operation.TheVariants.{Fetch}
use Rattle.gix_refspec_text.specs.declared.parsing.Error.{Error}
use Rattle.gix_refspec_text.specs.declared.parsing.Error.TheVariants.{Memory}
use Rattle.gix_refspec.specs.Texts.Words.{Lacks}
use Rattle.gix_refspec.specs.Specs.Reading.{Reading}
use Rattle.gix_refspec.specs.Specs.Grammar.{Reads}
use Rattle.gix_refspec.specs.Specs.Refusal.{Refusal, IsRefused}
use Rattle.gix_refspec.specs.Views.Instruction.{ShowsRefusal}
use Rattle.gix_refspec.specs.Specs.Meaning.{printed}
use Rattle.gix_refspec.specs.Matching.Match.{Ref}
use Rattle.gix_refspec.specs.Matching.Lists.{IsJoinedFrom, IsMadeFrom}
use Rattle.gix_refspec.specs.Matching.Mappings.{name, Mapped, IsSamePair, AreApart, Source, id}
use Rattle.gix_refspec.specs.Matching.Hits.{AreKeptForward}
use Rattle.gix_refspec.specs.Matching.Validation.{ForwardIndexes, Removed, Survives, IsFix}
use Rattle.gix_refspec.specs.Laws.Plans.{AreFixesApart, HaveOneSource, HaveSourcesByIndex, LacksIn, MappedLacks}
use Rattle.gix_refspec.specs.Laws.Plans.{NoControlCharacter, PlansApart, SidesLack, SourceLacks}
use Rattle.refspec_map.specs.declared.command.Command.TheVariants as command
use Rattle.refspec_map.specs.declared.fault.Fault.TheVariants as fault
use Rattle.refspec_map.specs.Input.{newline, AreLines, input_limit}
use Rattle.refspec_map.specs.Line.{Entry, reading, ref, Gives, readings_in, refs_in, IsFirstFault, IsIdThen, space}
use Rattle.refspec_map.specs.Line.{IsRefLine, IsTagLine}
use Rattle.refspec_map.specs.Matching.{tab, item_text, source_text, destination_text, map_line}
use Rattle.refspec_map.specs.Plan.{AreDistinct, IsFixLine, ShowsValidated, WritesOnce, IsOneLine}
use Rattle.refspec_map.specs.Run.{PlanOnce, SpecIsRefused}
use Rattle.gix_refspec_text.proofs.lemmas.lists.AllLemmas.{all_right, all_join, all_weaker}
use Rattle.gix_refspec_text.proofs.lemmas.lists.EmptyLemmas.{some_bytes}
use Rattle.gix_refspec_text.proofs.lemmas.lists.LacksLemmas.{first_once, last_once}

-- ---- numbers

abbrev AreDigits : List ℕ → Type 0
AreDigits ds = AllByRecursion (λ c. 48 ≤ c) ds

digits : (n : ℕ) → n < 2 ^ 64 → AreDigits (decimal n)
digits n small = decimal_by_steps (λ _ ds. AreDigits ds) (λ k below. (omega arith, tt))
    (λ k ds above all. all_join (λ c. 48 ≤ c) ds ((48 + k % 10) ∷ []) all (omega arith, tt)) n small

digits_lack : (ds : List ℕ) → AreDigits ds → Lacks tab ds
digits_lack ds all = all_weaker (λ c. 48 ≤ c) (λ c. c ≢ tab) (λ c high same. omega (arith, high, same)) ds all

-- the index of an item, if any, is small enough for `decimal` to be injective
abbrev IsSmall : Option ℕ → Type 0
IsSmall None = Unit {0}
IsSmall (Some j) = j < 2 ^ 64

item_lacks : (i : Option ℕ) → IsSmall i → Lacks tab (item_text i)
item_lacks None small = ((λ same. omega (arith, same)), tt)
item_lacks (Some j) small = digits_lack (decimal j) (digits j small)

no_dash : (j : ℕ) → j < 2 ^ 64 → ¬ (decimal j ≡ 45 ∷ [])
no_dash j small same = let all : AreDigits (45 ∷ []) = subst AreDigits same (digits j small) in let high =
    all.0 in absurd (omega (arith, high))

item_once : (i j : Option ℕ) → IsSmall i → IsSmall j → item_text i ≡ item_text j → i ≡ j
item_once None None small_i small_j same = refl
item_once None (Some j) small_i small_j same = absurd (no_dash j small_j (sym same))
item_once (Some i) None small_i small_j same = absurd (no_dash i small_i same)
item_once (Some i) (Some j) small_i small_j same = ap Some (decimal_injective i j small_i small_j same)

destination_once : (a b : Option (List ℕ)) → destination_text a ≡ destination_text b → a ≡ b
destination_once None None same = refl
destination_once None (Some e) same = absurd (cc)
destination_once (Some d) None same = absurd (cc)
destination_once (Some d) (Some e) same = let rest : d ≡ e = cc in ap Some rest

-- ---- the lines of mappings

-- the indexes of the mapping are small enough for `decimal` to be injective
record HasSmallIndexes (m : Mapped) : Type 0 where
  spec : m.spec < 2 ^ 64
  item : IsSmall m.item

-- mappings with the same line have the same spec and item, and the same text after these
line_parts : (m n : Mapped) → HasSmallIndexes m → HasSmallIndexes n → map_line m ≡ map_line n
    → (m.spec ≡ n.spec) × (m.item ≡ n.item)
    × (source_text m.source ++ (destination_text m.destination ++ (newline ∷ [])) ≡ source_text n.source
    ++ (destination_text n.destination ++ (newline ∷ [])))
line_parts m n at_m at_n same =
    let behind = append_cancel_left (codes "map\t") _ _ same in
    let spec = first_once tab (decimal m.spec) (decimal n.spec) _ _
    (digits_lack (decimal m.spec) (digits m.spec at_m.spec))
    (digits_lack (decimal n.spec) (digits n.spec at_n.spec)) behind in
    let item = first_once tab (item_text m.item) (item_text n.item) _ _ (item_lacks m.item at_m.item)
    (item_lacks n.item at_n.item) spec.1 in (
      decimal_injective m.spec n.spec at_m.spec at_n.spec spec.0,
      item_once m.item n.item at_m.item at_n.item item.0,
      item.1,
    )

-- so they have the same pair
pair_once : (m n : Mapped) → HasSmallIndexes m → HasSmallIndexes n → HaveOneSource m n → map_line m ≡ map_line n
    → IsSamePair m n
pair_once m n at_m at_n start same =
    let (spec, item, behind) = line_parts m n at_m at_n same in
    let source = start spec item in
    let rest = append_cancel_left (source_text n.source) _ _
    (ap (λ s. source_text s ++ (destination_text m.destination ++ (newline ∷ []))) (sym source) ∙ behind) in
    record {
      source = source;
      destination = destination_once m.destination n.destination
          (append_cancel_right (destination_text m.destination) (destination_text n.destination) (newline ∷ []) rest);
    }

others_differ : (m : Mapped) (xs : List Mapped) → HasSmallIndexes m → AllByRecursion HasSmallIndexes xs
    → AllByRecursion (HaveOneSource m) xs → AllByRecursion (λ x. ¬ (IsSamePair m x)) xs
    → AllByRecursion (λ y. y ≢ map_line m) (map map_line xs)
others_differ m [] at_m placed starts apart = tt
others_differ m (x ∷ xs) at_m placed starts apart = (
  (λ same. apart.0 (pair_once m x at_m placed.0 starts.0 (sym same))),
  others_differ m xs at_m placed.1 starts.1 apart.1,
)

maps_distinct : (xs : List Mapped) → AllByRecursion HasSmallIndexes xs → HaveSourcesByIndex xs → AreApart xs
    → AreDistinct (map map_line xs)
maps_distinct [] placed starts apart = tt
maps_distinct (m ∷ xs) placed starts apart =
    (others_differ m xs placed.0 placed.1 starts.0 apart.0, maps_distinct xs placed.1 starts.1 apart.1)

-- ---- the lines of fixes

-- the canonical text of the fix's spec contains no control character, and its destination no newline
record IsClearFix (f : Removed) : Type 0 where
  text : (b : ℕ) (t : List ℕ) → b < 32 → printed f.spec ≡ Some t → Lacks b t
  destination : Lacks newline f.destination

ended_lacks : (t : List ℕ) → Lacks tab t → Lacks tab (t ++ (newline ∷ []))
ended_lacks t lacks = all_join (λ c. c ≢ tab) t (newline ∷ []) lacks ((λ same. omega (arith, same)), tt)

fix_once : (f h : Removed) (x y : List ℕ) → IsClearFix f → IsClearFix h → IsFixLine f x → IsFixLine h y → x ≡ y
    → f.destination ≡ h.destination
fix_once f h x y clear_f clear_h (t, prints, is) (u, also, it) same =
    let behind = append_cancel_left (codes "fix\t") _ _ (sym is ∙ same ∙ it) in
    (last_once tab f.destination h.destination (t ++ (newline ∷ [])) (u ++ (newline ∷ []))
    (ended_lacks t (clear_f.text tab t (omega arith) prints))
    (ended_lacks u (clear_h.text tab u (omega arith) also)) behind).0

other_fixes : (f : Removed) (x : List ℕ) → IsClearFix f → IsFixLine f x → (fixes : List Removed) (lines : List (List ℕ))
    → AllZip IsFixLine fixes lines → AllByRecursion (λ h. h.destination ≢ f.destination) fixes
    → AllByRecursion IsClearFix fixes → AllByRecursion (λ y. y ≢ x) lines
other_fixes f x clear is [] [] are apart clears = tt
other_fixes f x clear is [] (y ∷ lines) are apart clears = absurd are
other_fixes f x clear is (h ∷ fixes) [] are apart clears = absurd are
other_fixes f x clear is (h ∷ fixes) (y ∷ lines) are apart clears = (
  (λ same. apart.0 (fix_once h f y x clears.0 clear are.0 is same)),
  other_fixes f x clear is fixes lines are.1 apart.1 clears.1,
)

fixes_distinct : (fixes : List Removed) (lines : List (List ℕ)) → AllZip IsFixLine fixes lines → AreFixesApart fixes
    → AllByRecursion IsClearFix fixes → AreDistinct lines
fixes_distinct [] [] are apart clears = tt
fixes_distinct [] (y ∷ lines) are apart clears = absurd are
fixes_distinct (f ∷ fixes) [] are apart clears = absurd are
fixes_distinct (f ∷ fixes) (x ∷ lines) are apart clears = (
  other_fixes f x clears.0 are.0 fixes lines are.1 apart.0 clears.1,
  fixes_distinct fixes lines are.1 apart.1 clears.1,
)

-- ---- all lines

no_fix : (m : Mapped) (fixes : List Removed) (lines : List (List ℕ)) → AllZip IsFixLine fixes lines
    → AllByRecursion (λ y. y ≢ map_line m) lines
no_fix m [] [] are = tt
no_fix m [] (y ∷ lines) are = absurd are
no_fix m (f ∷ fixes) [] are = absurd are
no_fix m (f ∷ fixes) (y ∷ lines) are = (
  (λ same. let first : 109 ≡ 102 = ap (λ (z : List ℕ). get_or z 0 0) (sym same ∙ are.0.2) in omega (arith, first)),
  no_fix m fixes lines are.1,
)

no_fixes : (xs : List Mapped) (fixes : List Removed) (lines : List (List ℕ)) → AllZip IsFixLine fixes lines
    → AllByRecursion (λ x. AllByRecursion (λ y. y ≢ x) lines) (map map_line xs)
no_fixes [] fixes lines are = tt
no_fixes (m ∷ xs) fixes lines are = (no_fix m fixes lines are, no_fixes xs fixes lines are)

distinct_join : (xs ys : List (List ℕ)) → AreDistinct xs → AreDistinct ys
    → AllByRecursion (λ x. AllByRecursion (λ y. y ≢ x) ys) xs → AreDistinct (xs ++ ys)
distinct_join [] ys left right apart = right
distinct_join (x ∷ xs) ys left right apart =
    (all_join (λ y. y ≢ x) xs ys left.0 apart.0, distinct_join xs ys left.1 right apart.1)

joined_lines : (ms : List Mapped) (lines : List (List ℕ)) → flat_map (λ (l : List ℕ). l) (map map_line ms ++ lines)
    ≡ flat_map map_line ms ++ flat_map (λ (l : List ℕ). l) lines
joined_lines [] lines = refl
joined_lines (m ∷ ms) lines = ap (λ x. map_line m ++ x) (joined_lines ms lines)
    ∙ sym (append_assoc (map_line m) (flat_map map_line ms) (flat_map (λ (l : List ℕ). l) lines))

fix_parts : (k : ℕ) (fixes : List Removed) (fixed : List ℕ) → IsJoinedFrom (λ j f l. IsFixLine f l) k fixes fixed
    → (lines : List (List ℕ)) × AllZip IsFixLine fixes lines × (fixed ≡ flat_map (λ (l : List ℕ). l) lines)
fix_parts k [] fixed empty = ([], tt, empty)
fix_parts k (f ∷ fixes) fixed (made, rest, of, more, is) = let (lines, are, same) = fix_parts (k + 1) fixes rest more in
    (made ∷ lines, (of, are), is ∙ ap (λ x. made ++ x) same)

-- ---- the input

-- an input has no more lines than bytes, and no more specs and refs than lines
lines_fit : (lines : List (List ℕ)) (input : List ℕ) → AreLines lines input → length lines ≤ length input
lines_fit [] input split = omega arith
lines_fit (line ∷ lines) input (lacks, inl (rest, is, split)) =
    let more = lines_fit lines rest split in
    let size = ap length is ∙ length-append line (newline ∷ rest) in
    omega (arith, more, size)
lines_fit (line ∷ lines) input (lacks, inr (full, none, is)) =
    let size = ap length is in
    let last = ap length none in
    let some = some_bytes line full in
    omega (arith, size, last, some)

given_fit : (lines : List (List ℕ)) (entries : List Entry) → AllZip Gives lines entries
    → (length (readings_in entries) ≤ length lines) × (length (refs_in entries) ≤ length lines)
given_fit [] [] given = (omega arith, omega arith)
given_fit [] (e ∷ entries) given = absurd given
given_fit (line ∷ lines) [] given = absurd given
given_fit (line ∷ lines) (reading r ∷ entries) given = let fit = given_fit lines entries given.1 in let one =
    fit.0 in let other = fit.1 in (omega (arith, one), omega (arith, other))
given_fit (line ∷ lines) (ref r ∷ entries) given = let fit = given_fit lines entries given.1 in let one =
    fit.0 in let other = fit.1 in (omega (arith, one), omega (arith, other))

-- each spec was read from some text
given_reads : (lines : List (List ℕ)) (entries : List Entry) → AllZip Gives lines entries → (k : ℕ) (r : Reading)
    → slice_get (readings_in entries) k ≡ Some r → (text : List ℕ) × Reads Fetch text r
given_reads [] [] given k r is = absurd (cc)
given_reads [] (e ∷ entries) given k r is = absurd given
given_reads (line ∷ lines) [] given k r is = absurd given
given_reads (line ∷ lines) (reading q ∷ entries) ((text, says, reads), given) zero r is = let same : q ≡ r =
    cc in (text, subst (Reads Fetch text) same reads)
given_reads (line ∷ lines) (reading q ∷ entries) (gives, given) (suc k) r is = given_reads lines entries given k r is
given_reads (line ∷ lines) (ref q ∷ entries) (gives, given) k r is = given_reads lines entries given k r is

-- ---- whole lines

digits_whole : (ds : List ℕ) → AreDigits ds → Lacks newline ds
digits_whole ds all = all_weaker (λ c. 48 ≤ c) (λ c. c ≢ newline) (λ c high same. omega (arith, high, same)) ds all

item_whole : (i : Option ℕ) → IsSmall i → Lacks newline (item_text i)
item_whole None small = ((λ same. omega (arith, same)), tt)
item_whole (Some j) small = digits_whole (decimal j) (digits j small)

source_whole : (s : Source) → SourceLacks newline s → Lacks newline (source_text s)
source_whole (name n) lacks = lacks
source_whole (id i) lacks = lacks

destination_whole : (d : Option (List ℕ)) → LacksIn newline d → Lacks newline (destination_text d)
destination_whole None lacks = tt
destination_whole (Some d) lacks = ((λ same. omega (arith, same)), lacks)

-- the line of a mapping without its newline
abbrev map_body : Mapped → List ℕ
map_body m = codes "map\t"
    ++ (decimal m.spec
    ++ (tab ∷ (item_text m.item ++ (tab ∷ (source_text m.source ++ destination_text m.destination)))))

map_is : (m : Mapped) → map_line m ≡ map_body m ++ (newline ∷ [])
map_is m =
    let words = source_text m.source ++ destination_text m.destination in
    let behind = item_text m.item ++ (tab ∷ words) in
    ap (λ z. codes "map\t" ++ (decimal m.spec ++ (tab ∷ (item_text m.item ++ (tab ∷ z)))))
    (sym (append_assoc (source_text m.source) (destination_text m.destination) (newline ∷ [])))
    ∙ ap (λ z. codes "map\t" ++ (decimal m.spec ++ (tab ∷ z)))
    (sym (append_assoc (item_text m.item) (tab ∷ words) (newline ∷ [])))
    ∙ ap (λ z. codes "map\t" ++ z) (sym (append_assoc (decimal m.spec) (tab ∷ behind) (newline ∷ [])))
    ∙ sym (append_assoc (codes "map\t") (decimal m.spec ++ (tab ∷ behind)) (newline ∷ []))

map_whole : (m : Mapped) → HasSmallIndexes m → MappedLacks newline m → IsOneLine (map_line m)
map_whole m at_m lacks =
    let words = all_join (λ c. c ≢ newline) (source_text m.source) (destination_text m.destination)
    (source_whole m.source lacks.0) (destination_whole m.destination lacks.1) in
    let item = all_join (λ c. c ≢ newline) (item_text m.item)
    (tab ∷ (source_text m.source ++ destination_text m.destination)) (item_whole m.item at_m.item)
    ((λ same. omega (arith, same)), words) in
    let spec = all_join (λ c. c ≢ newline) (decimal m.spec)
    (tab ∷ (item_text m.item ++ (tab ∷ (source_text m.source ++ destination_text m.destination))))
    (digits_whole (decimal m.spec) (digits m.spec at_m.spec)) ((λ same. omega (arith, same)), item) in (
      map_body m,
      (
        (λ same. omega (arith, same)),
        ((λ same. omega (arith, same)), ((λ same. omega (arith, same)), ((λ same. omega (arith, same)), spec))),
      ),
      map_is m,
    )

maps_whole : (xs : List Mapped) → AllByRecursion HasSmallIndexes xs → AllByRecursion (MappedLacks newline) xs
    → AllByRecursion IsOneLine (map map_line xs)
maps_whole [] placed lack = tt
maps_whole (m ∷ xs) placed lack = (map_whole m placed.0 lack.0, maps_whole xs placed.1 lack.1)

fix_whole : (f : Removed) (x : List ℕ) → IsFixLine f x → IsClearFix f → IsOneLine x
fix_whole f x (t, prints, is) clear =
    let words = all_join (λ c. c ≢ newline) f.destination (tab ∷ t) clear.destination
    ((λ same. omega (arith, same)), clear.text newline t (omega arith) prints) in (
      codes "fix\t" ++ (f.destination ++ (tab ∷ t)),
      (
        (λ same. omega (arith, same)),
        ((λ same. omega (arith, same)), ((λ same. omega (arith, same)), ((λ same. omega (arith, same)), words))),
      ),
      is ∙ ap (λ z. codes "fix\t" ++ z) (sym (append_assoc f.destination (tab ∷ t) (newline ∷ [])))
          ∙ sym (append_assoc (codes "fix\t") (f.destination ++ (tab ∷ t)) (newline ∷ [])),
    )

fixes_whole : (fixes : List Removed) (lines : List (List ℕ)) → AllZip IsFixLine fixes lines
    → AllByRecursion IsClearFix fixes → AllByRecursion IsOneLine lines
fixes_whole [] [] are clears = tt
fixes_whole [] (y ∷ lines) are clears = absurd are
fixes_whole (f ∷ fixes) [] are clears = absurd are
fixes_whole (f ∷ fixes) (x ∷ lines) are clears = (fix_whole f x are.0 clears.0, fixes_whole fixes lines are.1 clears.1)

clear_fixes : NoControlCharacter → (g : List Reading)
    → ((k : ℕ) (r : Reading) → slice_get g k ≡ Some r → (text : List ℕ) × Reads Fetch text r)
    → (k : ℕ) (l : List Mapped) (fixes : List Removed) → AllByRecursion (MappedLacks newline) l
    → IsMadeFrom (λ j m fix. IsFix g m fix) k l fixes → AllByRecursion IsClearFix fixes
clear_fixes law g reads k [] fixes lack empty = subst (AllByRecursion IsClearFix) (sym empty) tt
clear_fixes law g reads k (m ∷ l) fixes lack (None, rest, none, more, is) = subst (AllByRecursion IsClearFix) (sym is)
    (clear_fixes law g reads (k + 1) l rest lack.1 more)
clear_fixes law g reads k (m ∷ l) fixes lack (Some f, rest, fix, more, is) =
    subst (AllByRecursion IsClearFix) (sym is) (
      record {
        text = λ b t below prints. let read = reads m.spec f.spec fix.spec in law.texts b read.0 f.spec t below read.1
            prints;
        destination = subst (LacksIn newline) fix.goes lack.0.1;
      },
      clear_fixes law g reads (k + 1) l rest lack.1 more,
    )

-- no line of the input contains a newline, and so no name and no side does
lines_whole : (lines : List (List ℕ)) (input : List ℕ) → AreLines lines input → AllByRecursion (Lacks newline) lines
lines_whole [] input split = tt
lines_whole (line ∷ lines) input (lacks, inl (rest, is, split)) = (lacks, lines_whole lines rest split)
lines_whole (line ∷ lines) input (lacks, inr (full, none, is)) =
    (lacks, subst (AllByRecursion (Lacks newline)) (sym none) tt)

-- nor does what follows the id
rest_whole : (text target rest : List ℕ) → IsIdThen text target rest → Lacks newline text → Lacks newline rest
rest_whole text target rest told lacks =
    (all_right (λ c. c ≢ newline) told.word (space ∷ rest) (subst (Lacks newline) told.here lacks)).1

ref_whole : (line : List ℕ) (r : Ref) → IsRefLine line r ⊎ IsTagLine line r → Lacks newline line → Lacks newline r.name
ref_whole line r (inl told) lacks = rest_whole told.words r.target r.name told.target
    (all_right (λ c. c ≢ newline) (codes "ref ") told.words (subst (Lacks newline) told.here lacks))
ref_whole line r (inr told) lacks =
    rest_whole told.rest told.id r.name told.tagged
    (rest_whole told.words r.target told.rest told.target
    (all_right (λ c. c ≢ newline) (codes "tag ") told.words (subst (Lacks newline) told.here lacks)))

refs_whole : (lines : List (List ℕ)) (entries : List Entry) → AllZip Gives lines entries
    → AllByRecursion (Lacks newline) lines → AllByRecursion (λ r. Lacks newline r.name) (refs_in entries)
refs_whole [] [] given lack = tt
refs_whole [] (e ∷ entries) given lack = absurd given
refs_whole (line ∷ lines) [] given lack = absurd given
refs_whole (line ∷ lines) (reading r ∷ entries) given lack = refs_whole lines entries given.1 lack.1
refs_whole (line ∷ lines) (ref r ∷ entries) given lack =
    (ref_whole line r given.0 lack.0, refs_whole lines entries given.1 lack.1)

sides_whole : NoControlCharacter → (lines : List (List ℕ)) (entries : List Entry) → AllZip Gives lines entries
    → AllByRecursion (SidesLack newline) (readings_in entries)
sides_whole law [] [] given = tt
sides_whole law [] (e ∷ entries) given = absurd given
sides_whole law (line ∷ lines) [] given = absurd given
sides_whole law (line ∷ lines) (reading r ∷ entries) ((text, says, reads), given) =
    (law.sides newline text r (omega arith) reads, sides_whole law lines entries given)
sides_whole law (line ∷ lines) (ref r ∷ entries) (gives, given) = sides_whole law lines entries given

-- ---- a plan

item_small : (items : List Ref) (m : Mapped) (i : Option ℕ) → length items < 2 ^ 64 → m.item ≡ i
    → ((j : ℕ) → m.item ≡ Some j → (r : Ref) × (slice_get items j ≡ Some r) × (m.source ≡ name r.name)) → IsSmall i
item_small items m None few is places = tt
item_small items m (Some j) few is places = let (r, here, named) = places j is in let below =
    slice_get_within items j r here in omega (arith, below, few)

placed : (g : List Reading) (items : List Ref) → length g < 2 ^ 64 → length items < 2 ^ 64 → (xs : List Mapped)
    → AllByRecursion (ForwardIndexes g items) xs → AllByRecursion HasSmallIndexes xs
placed g items few_specs few_items [] places = tt
placed g items few_specs few_items (m ∷ xs) places = (
  (let below = places.0.spec in record {
    spec = omega (arith, below, few_specs);
    item =
        item_small items m m.item few_items refl places.0.item;
  }),
  placed g items few_specs few_items xs places.1,
)

-- what holds of all mappings holds of those that remain
remain_each : (P : Mapped → Type 0) (k : ℕ) (l rest : List Mapped) → AllByRecursion P l
    → IsMadeFrom (λ j m made. (made ≡ m) × Survives m) k l rest → AllByRecursion P rest
remain_each P k [] rest all empty = subst (AllByRecursion P) (sym empty) tt
remain_each P k (m ∷ l) rest all (None, others, none, more, is) = subst (AllByRecursion P) (sym is)
    (remain_each P (k + 1) l others all.1 more)
remain_each P k (m ∷ l) rest all (Some n, others, one, more, is) = subst (AllByRecursion P) (sym is)
    (subst P (sym one.0) all.0, remain_each P (k + 1) l others all.1 more)

-- a plan without conflicts writes no destination from two sources, and no duplicate line
writes_once : PlansApart → NoControlCharacter → (lines : List (List ℕ)) (entries : List Entry) (input output : List ℕ)
    (l : List Mapped) → AreLines lines input → AllZip Gives lines entries → length input ≤ input_limit
    → AreKeptForward (readings_in entries) (refs_in entries) l → ShowsValidated (readings_in entries) l output
    → WritesOnce (readings_in entries) (refs_in entries) output
writes_once apart control lines entries input output l split given within kept shows =
    let g = readings_in entries in
    let items = refs_in entries in
    let rest = shows.rest in
    let fixes = shows.fixes in
    let valid = shows.is in
    let few = lines_fit lines input split in
    let fit = given_fit lines entries given in
    let fit_specs = fit.0 in
    let fit_items = fit.1 in
    let few_specs : length g < 2 ^ 64 = omega (arith, few, within, fit_specs) in
    let few_items : length items < 2 ^ 64 = omega (arith, few, within, fit_items) in
    let told = apart g items l rest fixes kept valid in
    let all = placed g items few_specs few_items rest told.indexes in
    let (fixed, are, same) = fix_parts 0 fixes shows.fixed shows.are in
    let sides = sides_whole control lines entries given in
    let names = refs_whole lines entries given (lines_whole lines input split) in
    let lack = control.mapped newline g items l (omega arith) sides names kept in
    let rest_lack = remain_each (MappedLacks newline) 0 l rest lack valid.survive in
    let clear = clear_fixes control g (given_reads lines entries given) 0 l fixes lack valid.fixed in
    record {
      mappings = l;
      rest = rest;
      fixes = fixes;
      fixed = fixed;
      kept = kept;
      is = valid;
      are = are;
      written = shows.written ∙ (ap (λ x. flat_map map_line rest ++ x) same ∙ sym (joined_lines rest fixed));
      apart = told.destinations;
      once = distinct_join (map map_line rest) fixed (maps_distinct rest all told.starts told.pairs)
          (fixes_distinct fixes fixed are told.fixed clear) (no_fixes rest fixes fixed are);
      whole = all_join IsOneLine (map map_line rest) fixed (maps_whole rest all rest_lack)
          (fixes_whole fixes fixed are clear);
    }

-- with exit status 0 no line is refused, and no plan has conflicts
calm : (b : Bool) → ◌≡◌ {A = ℕ} 0 (if b then 1 else 0) → b ≡ false
calm true same = absurd (omega (arith, same))
calm false same = refl

shown_calm : (P Q : Type 0) (b : Bool) → b ≡ false → MatchBool b P Q → Q
shown_calm P Q true same shows = absurd (cc)
shown_calm P Q false same shows = shows

pub plan_once : PlansApart → NoControlCharacter → PlanOnce
plan_once apart control reader_old reader_new writer_old writer_new a =
    let all = a.is in
    let plan = all.is in
    let shows = shown_calm _ _ a.refusal (calm a.refusal a.tells) plan.shows in (
      a.input,
      a.output,
      a.read,
      a.written,
      record {
        lines = all.lines;
        entries = all.entries;
        split = all.split;
        given = all.given;
        is =
            writes_once apart control all.lines all.entries a.input a.output plan.mappings all.split all.given
            a.read.within plan.kept shows;
      },
    )

-- ---- the fault of a spec

never_memory : (e : Error) (P : Refusal → Type 0) → ShowsRefusal P e → e ≢ Memory
never_memory e P shows same = let none = subst (ShowsRefusal P) same shows in none.1

first_refused : (input : List ℕ) (number : ℕ) (e : Error) → IsFirstFault input (fault.Spec number e) → (e ≢ Memory)
    × (text : List ℕ) × ShowsRefusal (IsRefused Fetch text) e
first_refused input number e (n, line, reached, (text, same, says, shows)) =
    (never_memory e (IsRefused Fetch text) shows, text, shows)

pub spec_is_refused : SpecIsRefused
spec_is_refused command.CanonFetch old new number e (input, read, bad) = absurd bad
spec_is_refused command.CanonPush old new number e (input, read, bad) = absurd bad
spec_is_refused command.Lhs old new number e (input, read, bad) = first_refused input number e bad
spec_is_refused command.Rhs old new number e (input, read, bad) = first_refused input number e bad
spec_is_refused command.Plan old new number e (input, read, bad) = first_refused input number e bad
