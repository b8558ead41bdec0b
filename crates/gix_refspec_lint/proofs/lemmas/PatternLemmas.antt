-- What a spec with a source pattern maps.
use Rattle.gix_refspec_lint.proofs.Common.{◌≡◌, ◌⊎◌, inl, inr, ℕ, List, ◌++◌, Option, None, Some, refl, sym, ap, ◌∙◌}
use Rattle.gix_refspec_lint.proofs.Common.{subst, same_Some, Ref, HasName, MatchesAs, Takes, pattern, Fits, IsAccepted}
use Rattle.gix_refspec_lint.proofs.Common.{IsPositive, Reading, HasOneStar, IsSplit, lacks_no_pattern, IsFilled, Source}
use Rattle.gix_refspec_lint.proofs.Common.{name, id, matches_as, one_kind, IsPaired, MakesForward, sides_agree}
use Rattle.gix_refspec_lint.proofs.Common.{named_some, filled, HasSourcePattern, some_named, side_cases}

pub word_of : (c : Reading) (refs : List Ref) (n : List ℕ) (d : Option (List ℕ))
    (makes : MakesForward refs (name n) d c) (p t : List ℕ) → HasSourcePattern c p t
    → (w : List ℕ) × (makes.one.4.word ≡ Some w) × (n ≡ p ++ (w ++ t))
word_of c refs n d makes p t source =
    let near : makes.ends.near ≡ source.text = same_Some _ _ (sym makes.has.near ∙ source.has) in
    elim makes.one.4.word as (λ word. MatchesAs (pattern p t) makes.one.1 word → (w : List ℕ) × (word ≡ Some w)
    × (n ≡ p ++ (w ++ t))) [
      | None ↦ λ holds. absurd holds
      | Some w ↦ λ holds. (w, refl, sym makes.one.4.name ∙ holds)
    ] (matches_as makes.ends.near (pattern p t) makes.one.1 makes.one.4.word
    (subst (IsSplit p t) (sym near) source.split) makes.one.4.takes.matches)

-- the destination is a pattern, and far has it with a word
pub record FarPattern (c : Reading) (far : List ℕ → Option (List ℕ)) : Type 0 where
  pub side : List ℕ
  pub before : List ℕ
  pub after : List ℕ
  pub has : c.destination ≡ Some side
  pub split : IsSplit before after side
  pub is : (w : List ℕ) → far w ≡ Some (before ++ (w ++ after))

abbrev pub HasShape : Reading → (List ℕ → Option (List ℕ)) → Type 0
HasShape c far = ((w : List ℕ) → far w ≡ None) ⊎ FarPattern c far

-- a positive spec whose source is a pattern with these texts, and what its destination becomes with a word
pub record PatternSpec (c : Reading) (p t : List ℕ) : Type 0 where
  pub positive : IsPositive c.mode
  pub source : HasSourcePattern c p t
  pub far : List ℕ → Option (List ℕ)
  pub fills : (w : List ℕ) → IsFilled c.destination (Some w) (far w)
  pub shape : HasShape c far

abbrev pub two_patterns : (c : Reading) (p t a b e : List ℕ) → IsPositive c.mode → HasSourcePattern c p t
    → c.destination ≡ Some e → IsSplit a b e → PatternSpec c p t
two_patterns c p t a b e positive source is far = record {
  positive = positive;
  source = source;
  far = λ w. Some (a ++ (w ++ b));
  fills = λ w. subst (λ d. IsFilled d (Some w) (Some (a ++ (w ++ b)))) (sym is) (pattern a b, far, refl);
  shape = inr (record { side = e; before = a; after = b; has = is; split = far; is = λ w. refl });
}

pub pattern_spec : (c : Reading) (p t : List ℕ) → ∥ IsAccepted c ∥₁ → IsPositive c.mode → HasSourcePattern c p t
    → PatternSpec c p t
pattern_spec c p t accepted positive source = elim (side_cases c.destination) [
  | inl none ↦ record {
    positive = positive;
    source = source;
    far = λ w. None;
    fills =
        λ w. subst (λ e. IsFilled e (Some w) None) (sym none) refl;
    shape = inl (λ w. refl);
  }
  | inr (e, is) ↦ elim ((sides_agree c accepted).both source.text e source.has is) [
    | inl (one, (a, b, far)) ↦ two_patterns c p t a b e positive source is far
    | inr (lacks, others) ↦ absurd (lacks_no_pattern source.text p t lacks source.split)
  ]
]

pub destination_once : (c : Reading) (word n m : Option (List ℕ)) → IsFilled c.destination word n
    → IsFilled c.destination word m → n ≡ m
destination_once c word n m = elim c.destination as (λ x. IsFilled x word n → IsFilled x word m → n ≡ m) [
  | None ↦ λ a b. a ∙ sym b
  | Some x ↦ λ a b. a.2 ∙ ap (λ k. Some (filled k word)) (one_kind x a.0 b.0 a.1 b.1) ∙ sym b.2
]

module _ (c : Reading) (p t : List ℕ) (spec : PatternSpec c p t) where
  -- it maps each ref with a word
  pub spec_maps : (refs : List Ref) (w : List ℕ) → HasName refs (p ++ (w ++ t))
      → MakesForward refs (name (p ++ (w ++ t))) (spec.far w) c
  spec_maps refs w there =
      let source = spec.source in
      record {
        ends = record { near = source.text; far = c.destination };
        has = record {
          positive = spec.positive;
          near = source.has;
          far = refl;
          no_object =
              λ bytes kind. lacks_no_pattern source.text p t kind.0 source.split;
        };
        one = named_some (IsPaired (Takes refs) (record { near = source.text; far = c.destination }) (p ++ (w ++ t))
            (spec.far w)) refs (p ++ (w ++ t)) there (λ item named. record {
              word = Some w;
              name = named;
              takes = record {
                matches = record { kind = pattern p t; of = source.split; is = named };
                first =
                    λ m kind. absurd (lacks_no_pattern source.text p t kind.1 source.split);
              };
              becomes = spec.fills w;
            });
      }

  -- and nothing else
  pub spec_made : (refs : List Ref) (n : List ℕ) (d : Option (List ℕ)) → MakesForward refs (name n) d c → (w : List ℕ)
      × (n ≡ p ++ (w ++ t)) × (d ≡ spec.far w) × HasName refs n
  spec_made refs n d makes =
      let (w, some, fits) = word_of c refs n d makes p t spec.source in (
        w,
        fits,
        destination_once c (Some w) d (spec.far w)
            (subst (λ e. IsFilled e (Some w) d) (sym makes.has.far)
            (subst (λ v. IsFilled makes.ends.far v d) some makes.one.4.becomes)) (spec.fills w),
        some_named (IsPaired (Takes refs) makes.ends n d) refs n (λ i one. one.name) makes.one,
      )

-- ---- what two patterns map

-- the source of a spec with a destination pattern, and the word
pub record MapsPattern (c : Reading) (a b : List ℕ) (s : Source) (n : List ℕ) : Type 0 where
  pub positive : IsPositive c.mode
  pub before : List ℕ
  pub after : List ℕ
  pub side : HasSourcePattern c before after
  pub word : List ℕ
  pub source : s ≡ name (before ++ (word ++ after))
  pub fits : Fits a b n word

module _ (c : Reading) (accepted : ∥ IsAccepted c ∥₁) (d a b : List ℕ) (has : c.destination ≡ Some d)
    (split : IsSplit a b d) where
  source_pattern : (x : List ℕ) → c.source ≡ Some x → HasOneStar x
  source_pattern x source = elim ((sides_agree c accepted).both x d source has) [
    | inl (one, other) ↦ one
    | inr (one, other) ↦ absurd (lacks_no_pattern d a b other split)
  ]

  becomes : (p t : List ℕ) (spec : PatternSpec c p t) (w : List ℕ) → spec.far w ≡ Some (a ++ (w ++ b))
  becomes p t spec w = destination_once c (Some w) (spec.far w) (Some (a ++ (w ++ b))) (spec.fills w)
      (subst (λ e. IsFilled e (Some w) (Some (a ++ (w ++ b)))) (sym has) (pattern a b, split, refl))

  pub maps_pattern : (refs : List Ref) (s : Source) (n : List ℕ) → MakesForward refs s (Some n) c
      → MapsPattern c a b s n
  maps_pattern refs (id bytes) n makes =
      let one = source_pattern makes.text makes.side in
      absurd (lacks_no_pattern makes.text one.0 one.1 makes.object.0 one.2)
  maps_pattern refs (name m) n makes =
      let one = source_pattern makes.ends.near makes.has.near in
      let side : HasSourcePattern c one.0 one.1 = record {
        text = makes.ends.near;
        has = makes.has.near;
        split =
            one.2;
      } in
      let spec = pattern_spec c one.0 one.1 accepted makes.has.positive side in
      let (w, source, far, there) = spec_made c one.0 one.1 spec refs m (Some n) makes in
      record {
        positive = makes.has.positive;
        before = one.0;
        after = one.1;
        side = side;
        word = w;
        source =
            ap name source;
        fits = same_Some _ _ (far ∙ becomes one.0 one.1 spec w);
      }

  -- and with any word it maps the ref with that word, if there is one
  pub pattern_maps : (refs : List Ref) (p t w : List ℕ) → IsPositive c.mode → HasSourcePattern c p t
      → HasName refs (p ++ (w ++ t)) → MakesForward refs (name (p ++ (w ++ t))) (Some (a ++ (w ++ b))) c
  pattern_maps refs p t w positive source there =
      let spec = pattern_spec c p t accepted positive source in
      subst (λ e. MakesForward refs (name (p ++ (w ++ t))) e c) (becomes p t spec w) (spec_maps c p t spec refs w there)
