-- The matchers and the objects of specs, spec by spec, and what duplicates among specs say of them.
use Rattle.gix_refspec_match.proofs.Common.{AreForwardEnds, List, [], ◌∷◌, None, Some, refl, ◌≡◌, ℕ, true, false, ◌++◌}
use Rattle.gix_refspec_match.proofs.Common.{Option, Equal, sym, ◌∙◌, arith, inl, inr, ◌≢◌, append-nil, ◌<◌, length, map}
use Rattle.gix_refspec_match.proofs.Common.{take, ◌+◌, get_or, rules, ◌≤◌, ◌↔◌, IsTrue, Bool, false≢true, length-map}
use Rattle.gix_refspec_match.proofs.Common.{get_or-map, bool_cmp, map_next, some_element, kind_of_side, IsPositive}
use Rattle.gix_refspec_match.proofs.Common.{id_bytes, reading_of, ObjectId, DeclaredKind, Object, RefSpecRef, object}
use Rattle.gix_refspec_match.proofs.Common.{HasKind, Matches, IsSome, Reading, Mode, IsJoinedFrom, FlagsDuplicates}
use Rattle.gix_refspec_match.proofs.Common.{HaveSameSides, FlagsEqual, excludes, sides_order, IsFlagged, HasNoSides}
use Rattle.gix_refspec_match.proofs.Common.{HaveSides, AreMatcherOf, AreObjectOf, HasSideKind, both_equal, same_options}
use Rattle.gix_refspec_match.proofs.Common.{Candidates, All, First, Sides, subst, ◌⊎◌, suc, option_to_list, made_next}
use Rattle.gix_refspec_match.proofs.Common.{made_none, length-take-le, get_or_default, take_more, AllByRecursion}
use Rattle.gix_refspec_match.proofs.Common.{Contains, Ref, MatchesAs, pattern, full_name, partial, SideKind, MakesOf}
use Rattle.gix_refspec_match.proofs.Common.{IsMadeFrom, LacksSource, HasNone, IsIndexFor, IsNamed, IsNameKind, Index}
use Rattle.gix_refspec_match.proofs.Common.{Matcher}
use Rattle.gix_refspec_match.proofs.lemmas.hits.HitLemmas.{one_kind, matches_as, same_side}
use Rattle.gix_refspec_match.proofs.lemmas.lists.JoinLemmas.{map_long, joined_next}
use Rattle.gix_refspec_text.specs.declared.side.SideKind.TheVariants as side

pub no_matcher : (which : Candidates) (flags : List Bool) (k : ℕ) (r : Reading) → HasNoSides r
    → AreMatcherOf which flags k r []
no_matcher which flags k r none = inr (inr (λ ends has. grind (arith, has, none)), refl)

pub no_object : (k : ℕ) (r : Reading) → HasNoSides r → AreObjectOf k r []
no_object k r none = inr ((λ bytes asks. none asks.positive (rw asks.side)), refl)

pub side_shown : (side : Option (List ℕ)) (k : DeclaredKind) → HasSideKind side (Some k) → (text : List ℕ)
    × (side ≡ Some text) × HasKind text (kind_of_side k)
side_shown side k kind = grind (arith, kind)

not_id : (x : List ℕ) (k : DeclaredKind) → ((id : ObjectId) → k ≢ Object id) → HasKind x (kind_of_side k)
    → (bytes : List ℕ) → ¬ (HasKind x (object bytes))
not_id x k other kind bytes is = grind (arith, other, one_kind x (kind_of_side k) (object bytes) kind is)

module _ (r : Reading) (sides : Sides) (have : HaveSides r sides) where
  -- a source that is an id asks for that object, and matches nothing from left to right
  pub object_here : (k : ℕ) (id : ObjectId) → sides.source ≡ Object id
      → AreObjectOf k r ((record { spec_index = k; id = id; destination = sides.destination }) ∷ [])
  object_here k id is = search (rules, is, side_shown)

  pub object_unmatched : (flags : List Bool) (k : ℕ) (id : ObjectId) → sides.source ≡ Object id
      → AreMatcherOf First flags k r []
  object_unmatched flags k id is =
      inr (inr (λ ends are. are.no_object (id_bytes id) (rw (are.near, is) at have.source)), refl)

  pub no_id_object : (k : ℕ) → ((id : ObjectId) → sides.source ≢ Object id) → AreObjectOf k r []
  no_id_object k other =
      inr ((λ bytes asks. not_id asks.text sides.source other (rw asks.side at have.source) bytes asks.kind), refl)

  pub forward_matcher : (flags : List Bool) (k : ℕ) (b : Bool) → ((id : ObjectId) → sides.source ≢ Object id)
      → IsTrue b ↔ IsFlagged flags k → b ≡ false
      → AreMatcherOf First flags k r ((record { spec_index = k; needle = sides.source; other = sides.destination })
      ∷ [])
  forward_matcher flags k b other told is =
      let (text, side, kind) = side_shown r.source sides.source have.source in
      let has : AreForwardEnds r (record { near = text; far = r.destination }) =
      search (rules, not_id text sides.source other kind) in
      inl (
        _,
        record {
          unflagged = λ flagged. false≢true (sym is ∙ told.1 flagged);
          ends = _;
          has = has;
          kinds =
              search rules;
          spec = refl;
        },
        refl,
      )

  pub backward_unmatched : (flags : List Bool) (k : ℕ) → sides.destination ≡ None → AreMatcherOf All flags k r []
  backward_unmatched flags k is = inr (inr (λ ends are. rw (are.near, is) at have.destination), refl)

  pub backward_matcher : (flags : List Bool) (k : ℕ) (b : Bool) (needle : DeclaredKind)
      → sides.destination ≡ Some needle → IsTrue b ↔ IsFlagged flags k → b ≡ false
      → AreMatcherOf All flags k r ((record { spec_index = k; needle = needle; other = Some sides.source }) ∷ [])
  backward_matcher flags k b needle there told is =
      let (text, side, kind) = side_shown r.destination needle (rw there at have.destination) in
      let (_, source, _) = side_shown r.source sides.source have.source in
      let both : IsSome r.source = rw source in
      inl (
        _,
        record {
          unflagged = λ flagged. false≢true (sym is ∙ told.1 flagged);
          ends =
              record { near = text; far = r.source };
          has = search rules;
          kinds = search rules;
          spec = refl;
        },
        refl,
      )

  pub flagged_matcher : (which : Candidates) (flags : List Bool) (k : ℕ) (b : Bool) → IsTrue b ↔ IsFlagged flags k
      → b ≡ true → AreMatcherOf which flags k r []
  flagged_matcher which flags k b told is = inr (inl (told.0 is, have.positive), refl)

module _ {Y : Type 0} (R : ℕ → Reading → List Y → Type 0) (specs : List RefSpecRef) (i : ℕ) (s : RefSpecRef)
    (old : List Y) (below : i < length specs)
    (is : s ≡ get_or specs i s) (so_far : IsJoinedFrom R 0 (map reading_of (take i specs)) old) where
  pub spec_joined : (new made : List Y) → new ≡ old ++ made → R i (reading_of s) made
      → IsJoinedFrom R 0 (map reading_of (take (i + 1) specs)) new
  spec_joined new made more here = rw (more, map_next reading_of specs i s below is)
      (joined_next R i _ (reading_of s) old made (map_long reading_of specs i below) so_far here)

  pub spec_skipped : R i (reading_of s) [] → IsJoinedFrom R 0 (map reading_of (take (i + 1) specs)) old
  spec_skipped here = spec_joined old [] (sym (append-nil old)) here

-- ---- duplicates among specs

positive_alike : (m n : Mode) → bool_cmp (excludes m) (excludes n) ≡ Equal → IsPositive n → IsPositive m
positive_alike m n same is = grind (arith, same, is)

same_sides : (r s : Reading) → sides_order r s ≡ Equal → IsPositive s.mode → HaveSameSides r s
same_sides r s is positive = grind (arith, is, both_equal, positive_alike, same_options)

pub equal_from_duplicates : (specs : List RefSpecRef) (flags : List Bool)
    → FlagsDuplicates (λ (x : RefSpecRef) (y : RefSpecRef). sides_order (reading_of x) (reading_of y)) specs flags
    → FlagsEqual (map reading_of specs) flags
equal_from_duplicates specs flags all index flagged positive =
    let (below, (j, before, equal)) = (all index).0 flagged in
    let s = some_element specs index below in
    let at : (k : ℕ) (d : Reading) → k ≤ index → get_or (map reading_of specs) k d ≡ reading_of (get_or specs k s) =
    λ k d early. get_or-map reading_of specs k s d (omega (arith, below, early)) in
    let same : (d : Reading) → HaveSameSides (get_or (map reading_of specs) j d)
    (get_or (map reading_of specs) index d) = λ d.
    let here = at index d (omega arith) in
    rw (at j d (omega (arith, before)), here)
    (same_sides (reading_of (get_or specs j s)) (reading_of (get_or specs index s)) (equal s)
    (rw here at (positive d))) in
    (j, record { earlier = before; inside = rw length-map below; same = same })

-- what a read past the end gives
abbrev pub blank_matcher : Matcher
blank_matcher = record {
  spec_index = 0;
  needle = side.Pattern (record { ref_ptr = (0, 0); now = [] })
      (record { ref_ptr = (0, 0); now = [] });
  other = None;
}

pub named_here : (k : ℕ) (r : Reading) (sides : Sides) → HaveSides r sides → IsNameKind (kind_of_side sides.source)
    → IsNamed k r (record { spec_index = k; needle = sides.source; other = None })
named_here k r sides have name = search (rules, have, name, side_shown)

pub other_here : (k : ℕ) (r : Reading) (sides : Sides) → HaveSides r sides → ¬ (IsNameKind (kind_of_side sides.source))
    → (y : Matcher) → ¬ (IsNamed k r y)
other_here k r sides have other y is = grind (arith, have, other, is, one_kind)

none_made : {X Y : Type 0} (R : ℕ → X → Y → Type 0) (k : ℕ) (xs : List X) (ys : List Y)
    → ((i : ℕ) (d : X) → i < length xs → (y : Y) → ¬ (R (k + i) (get_or xs i d) y)) → IsMadeFrom R k xs ys → ys ≡ []
none_made R k [] ys none made = made
none_made R k (x ∷ xs) ys none (Some z, rest, here, more, is) =
    absurd (none 0 x (omega arith) z (subst (λ (n : ℕ). R n x z) (omega arith) here))
none_made R k (x ∷ xs) ys none (None, rest, here, more, is) =
    is ∙ none_made R (k + 1) xs rest
    (λ i d below y holds. none (suc i) d (omega arith) y
    (subst (λ (n : ℕ). R n (get_or xs i d) y) (omega arith) holds)) more

without_word : (kind : SideKind) (ref : Ref) (word : Option (List ℕ)) → IsNameKind kind → MatchesAs kind ref word
    → MatchesAs kind ref None
without_word kind ref word name is = grind (arith, name, is)

lacks_kind : (index : Index) (refs : List Ref) (kind : SideKind) → IsNameKind kind → IsIndexFor All refs index kind
    → HasNone index kind ↔ ((ref : Ref) → Contains refs ref → ¬ (MatchesAs kind ref None))
lacks_kind index refs (pattern before after) name for = absurd name
lacks_kind index refs (object id) name for = absurd name
lacks_kind index refs kind name for = (
  (λ none ref (i, below, is) takes. made_none _ 0 refs (rw none at for.names) i ref below (0 + i) (rw is takes, refl)),
  (λ none. none_made _ 0 refs _
      (λ i d below y holds. none (get_or refs i d) (i, below, get_or_default refs i (get_or refs i d) d below) holds.0)
      for.names),
)

named_kind : (x : List ℕ) (kind : SideKind) → IsNameKind kind → HasKind x kind → HasKind x (full_name x)
    ⊎ HasKind x (partial x)
named_kind x kind name of = grind (arith, name, of)

kind_named : (x : List ℕ) → HasKind x (full_name x) ⊎ HasKind x (partial x) → (m : Matcher)
    × HasKind x (kind_of_side m.needle) × IsNameKind (kind_of_side m.needle)
kind_named x (inl full) =
    (record { spec_index = 0; needle = side.FullName (record { ref_ptr = (0, 0); now = x }); other = None }, full, tt)
kind_named x (inr short) =
    (record { spec_index = 0; needle = side.Partial (record { ref_ptr = (0, 0); now = x }); other = None }, short, tt)

module _ (index : Index) (refs : List Ref) (k : ℕ) (r : Reading) (m : Matcher) (is : IsNamed k r m)
    (for : IsIndexFor All refs index (kind_of_side m.needle)) where
  missing_none : LacksSource refs r → HasNone index (kind_of_side m.needle)
  missing_none lack =
      let of = subst (λ (x : List ℕ). HasKind x (kind_of_side m.needle))
      (same_side r.source is.source lack.source is.is lack.is) is.kind in
      (lacks_kind index refs (kind_of_side m.needle) is.name for).1
      (λ ref there matches. lack.absent ref None there
      (record { kind = kind_of_side m.needle; of = of; is = matches }))

  none_missing : HasNone index (kind_of_side m.needle) → LacksSource refs r
  none_missing none =
      let absent = λ (ref : Ref) (word : Option (List ℕ)) (there : Contains refs ref)
      (matches : Matches is.source ref word). (lacks_kind index refs (kind_of_side m.needle) is.name for).0 none ref
      there
      (without_word (kind_of_side m.needle) ref word is.name
      (matches_as is.source (kind_of_side m.needle) ref word is.kind matches)) in
      record {
        positive = is.positive;
        source = is.source;
        is = is.is;
        named =
            named_kind is.source (kind_of_side m.needle) is.name is.kind;
        absent = absent;
      }

-- the spec of a matcher that finds none is missing
abbrev pub IsLacking : Index → ℕ → Matcher → ℕ → Type 0
IsLacking index j m made = (made ≡ m.spec_index) × HasNone index (kind_of_side m.needle)

-- a matcher, whose spec is missing or not, and those of the other specs
missing_step : (index : Index) (refs : List Ref) (k j : ℕ) (r : Reading) (g : List Reading) (m : Matcher)
    (rest : List Matcher) (missing : List ℕ) → IsNamed k r m → IsIndexFor All refs index (kind_of_side m.needle)
    → ((found : List ℕ) → IsMadeFrom (IsLacking index) (j + 1) rest found
    → IsMadeFrom (λ n q made. (made ≡ n) × LacksSource refs q) (k + 1) g found)
    → IsMadeFrom (IsLacking index) j (m ∷ rest) missing → IsMadeFrom (λ n q made. (made ≡ n) × LacksSource refs q) k
    (r ∷ g) missing
missing_step index refs k j r g m rest missing here for others (None, found, none, later, same) = (
  None,
  found,
  (λ y both. none m.spec_index (refl, missing_none index refs k r m here for both.1)),
  others found later,
  same,
)
missing_step index refs k j r g m rest missing here for others (Some p, found, lacks, later, same) =
    (Some p, found, (lacks.0 ∙ here.spec, none_missing index refs k r m here for lacks.1), others found later, same)

pub missing_made : (index : Index) (refs : List Ref) (k j : ℕ) (g : List Reading) (ms : List Matcher) (missing : List ℕ)
    → AllByRecursion (λ m. IsIndexFor All refs index (kind_of_side m.needle)) ms
    → IsMadeFrom IsNamed k g ms → IsMadeFrom (IsLacking index) j ms missing
    → IsMadeFrom (λ n r made. (made ≡ n) × LacksSource refs r) k g missing
missing_made index refs k j [] ms missing served named lacking = rw named at lacking
missing_made index refs k j (r ∷ g) ms missing served (None, rest, none, more, is) lacking =
    let others = missing_made index refs (k + 1) j g rest missing (rw is at served) more (rw is at lacking) in (
      None,
      missing,
      (λ y both. let (m, kind, name) = kind_named both.1.source both.1.named in none
          (record { spec_index = k; needle = m.needle; other = None })
          (record {
            positive = both.1.positive;
            source = both.1.source;
            is = both.1.is;
            kind = kind;
            name = name;
            spec =
                refl;
          })),
      others,
      refl,
    )
missing_made index refs k j (r ∷ g) ms missing served (Some m, rest, here, more, is) lacking =
    let for = rw is at served in
    missing_step index refs k j r g m rest missing here for.0
    (λ found later. missing_made index refs (k + 1) (j + 1) g rest found for.1 more later) (rw is at lacking)

pub lacking_next : (index : Index) (ms : List Matcher) (i : ℕ) (m : Matcher) (old new : List ℕ) (made : Option ℕ)
    → i < length ms → IsMadeFrom (IsLacking index) 0 (take i ms) old
    → MakesOf (IsLacking index) i (get_or ms i m) made → new ≡ old ++ option_to_list made
    → IsMadeFrom (IsLacking index) 0 (take (i + 1) ms) new
lacking_next index ms i m old new made below so_far makes more =
    rw (take_more ms i m below, more) (made_next (IsLacking index) i (take i ms) (get_or ms i m) old made
    (length-take-le i ms (omega arith)) so_far makes)
