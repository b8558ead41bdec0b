-- What a reading maps a name to, and why it doesn't.
use Rattle.gix_refspec_why.proofs.Common.{◌≡◌, ◌≢◌, ◌++◌, ◌∷◌, ◌∙◌, [], ℕ, List, Option, None, Some, inl, inr}
use Rattle.gix_refspec_why.proofs.Common.{refl, sym, ap, subst, arith, append_assoc, slice_get}
use Rattle.gix_refspec_why.proofs.Common.{AllByRecursion, BeginsWith, Lacks, star, IsSplit, HasSeveralStars}
use Rattle.gix_refspec_why.proofs.Common.{Reading, Negative, Normal, Forced, Mode, IsPositive, IsAccepted, accepted_few}
use Rattle.gix_refspec_why.proofs.Common.{SideKind, pattern, full_name, object, partial, HasKind, filled, Fits}
use Rattle.gix_refspec_why.proofs.Common.{IsCandidate, Ref, HasName, IsFirstCandidate, MatchesAs, Takes}
use Rattle.gix_refspec_why.proofs.Common.{lacks_no_pattern, Ends, AreForwardEnds, IsFilled, MapsName, MatchesNamed}
use Rattle.gix_refspec_why.proofs.Common.{Mapped, Source, name, id, matches_as, one_kind, maps_name}
use Rattle.gix_refspec_why.proofs.Common.{forward_all, IsPaired, MakesForwardOf, MapsTo, Misses}
use Rattle.gix_refspec_why.proofs.Common.{by_kind, by_name, sourceless, IsKindMismatch, IsPatternMismatch, ExcludesWith}
use Rattle.gix_refspec_why.proofs.Common.{TakesFirstCandidate, HasOwnFate, AreCandidatesOf}
use Rattle.gix_refspec_why.proofs.Common.{HasEarlierCandidate, IsExcludedBy, the_name}
use Rattle.gix_refspec_why.specs.Matching.Why.{by_pattern as misses_pattern}
use Rattle.gix_refspec_text.specs.Matching.Side.{by_pattern}
use Rattle.gix_refspec_why.proofs.Common.{Bor, IsExcluded}
use Rattle.gix_refspec_text.specs.declared.side.SideKind.{SideKind as DeclaredKind}
use Rattle.gix_refspec_text.specs.declared.side.SideKind.TheVariants as declared_kind
use Rattle.gix_refspec_text.specs.Private.SideViews.{kind_of_side}
use Rattle.gix_refspec_why.specs.declared.StarWord.{StarWord}
use Rattle.gix_refspec_why.specs.declared.Fate.{Fate}
use Rattle.gix_refspec_why.specs.declared.Fate.TheVariants as fate
use Rattle.gix_refspec_why.specs.declared.Mismatch.{Mismatch}
use Rattle.gix_refspec_why.specs.declared.Mismatch.TheVariants as mismatch
use Rattle.gix_refspec_text.proofs.lemmas.hits.CandidateLemmas.{first_once}
use Rattle.gix_refspec_text.proofs.lemmas.lists.LacksLemmas.{lacks_or_first}
use Rattle.gix_refspec_match.proofs.lemmas.hits.HitLemmas.{matched_word}
use Rattle.gix_refspec_match.proofs.lemmas.hits.SingleLemmas.{mapped_ends}
use Rattle.gix_refspec.proofs.lemmas.keep.FilterLemmas.{item_named}

-- a reading maps a name to one destination
pub maps_once : (refs : List Ref) (n : List ℕ) (r : Reading) (d e : Option (List ℕ)) → MapsTo refs n d r
    → MapsTo refs n e r → d ≡ e
maps_once refs n r d e a b =
    let near : a.ends.near ≡ b.ends.near = cc (a.has.near, b.has.near) in
    let far : a.ends.far ≡ b.ends.far = cc (a.has.far, b.has.far) in
    let p = a.one.4 in
    let q = b.one.4 in
    let kinds = one_kind b.ends.near p.takes.matches.kind q.takes.matches.kind
    (subst (λ x. HasKind x p.takes.matches.kind) near p.takes.matches.of) q.takes.matches.of in
    let of_p = matched_word p.takes.matches.kind a.one.1 p.word p.takes.matches.is in
    let of_q = matched_word q.takes.matches.kind b.one.1 q.word q.takes.matches.is in
    let words : p.word ≡ q.word = cc (of_p, of_q, kinds, p.name, q.name) in
    let of_d = subst (λ w. IsFilled b.ends.far w d) words (subst (λ f. IsFilled f p.word d) far p.becomes) in
    let of_e = q.becomes in
    grind (arith, of_d, of_e, one_kind)

-- ---- what doesn't match

pub negative_unmapped : (refs : List Ref) (n : List ℕ) (d : Option (List ℕ)) (r : Reading) → r.mode ≡ Negative
    → ¬ (MapsTo refs n d r)
negative_unmapped refs n d r negative maps = subst IsPositive negative maps.has.positive

pub pattern_unmatched : (before after n : List ℕ) (m : Mismatch) → IsPatternMismatch before after n m → (word : List ℕ)
    → ¬ (Fits before after n word)
pattern_unmatched before after n (mismatch.Prefix count) is word fits =
    is.0 (record { after = word ++ after; here = fits })
pattern_unmatched before after n (mismatch.Suffix count) is word fits =
    is.1 (record { before = before ++ word; here = fits ∙ sym (append_assoc before word after) })
pattern_unmatched before after n mismatch.Overlap is word fits = is.2 word fits
pattern_unmatched before after n mismatch.NoSource is word fits = is
pattern_unmatched before after n mismatch.OtherName is word fits = is
pattern_unmatched before after n mismatch.Object is word fits = is
pattern_unmatched before after n mismatch.NoCandidate is word fits = is
pattern_unmatched before after n (mismatch.EarlierCandidate index) is word fits = is

module _ (refs : List Ref) (n : List ℕ) (d : Option (List ℕ)) (r : Reading) (maps : MapsTo refs n d r) where
  kind_mapped : (x : List ℕ) (kind : SideKind) (m : Mismatch) → r.source ≡ Some x → HasKind x kind
      → IsKindMismatch refs kind n m → MatchesAs kind maps.one.1 maps.one.4.word → ⊥
  kind_mapped x (pattern before after) m source of mis matches =
      elim maps.one.4.word as (λ word. MatchesAs (pattern before after) maps.one.1 word → ⊥) [
        | None ↦ λ is. is
        | Some word ↦ λ is. pattern_unmatched before after n m mis word (sym maps.one.4.name ∙ is)
      ] matches
  kind_mapped x (full_name y) m source of mis matches = mis.1 (sym maps.one.4.name ∙ matches.1)
  kind_mapped x (object bytes) m source of mis matches =
      let same : x ≡ maps.ends.near = cc (source, maps.has.near) in
      maps.has.no_object bytes (subst (λ y. HasKind y (object bytes)) same of)
  kind_mapped x (partial y) mismatch.NoCandidate source of mis matches =
      mis (subst (IsCandidate y) maps.one.4.name matches.1)
  kind_mapped x (partial y) (mismatch.EarlierCandidate index) source of mis matches =
      let same : x ≡ maps.ends.near = cc (source, maps.has.near) in
      let first = maps.one.4.takes.first y (subst (λ z. HasKind z (partial y)) same of) in
      mis.1.2 (first_once refs y mis.1.0 n mis.1.1 (subst (IsFirstCandidate refs y) maps.one.4.name first))
  kind_mapped x (partial y) (mismatch.Prefix count) source of mis matches = mis
  kind_mapped x (partial y) (mismatch.Suffix count) source of mis matches = mis
  kind_mapped x (partial y) mismatch.Overlap source of mis matches = mis
  kind_mapped x (partial y) mismatch.NoSource source of mis matches = mis
  kind_mapped x (partial y) mismatch.OtherName source of mis matches = mis
  kind_mapped x (partial y) mismatch.Object source of mis matches = mis

  -- what misses a name doesn't map it
  pub missed_unmapped : (m : Mismatch) → ¬ (Misses refs r n m)
  missed_unmapped m (sourceless none is) = cc (none, maps.has.near)
  missed_unmapped m (by_kind positive x kind source of mis) =
      let same : x ≡ maps.ends.near = cc (source, maps.has.near) in
      kind_mapped x kind m source of mis (matches_as maps.ends.near kind maps.one.1 maps.one.4.word
      (subst (λ y. HasKind y kind) same of) maps.one.4.takes.matches)
  missed_unmapped m (by_name negative x source lacks other is) = negative_unmapped refs n d r negative maps
  missed_unmapped m (misses_pattern negative x before after source split mis) =
      negative_unmapped refs n d r negative maps

  -- nor does what has a fate of its own
  pub own_unmapped : (f : Fate) → ¬ (HasOwnFate refs r n f)
  own_unmapped (fate.Unmatched m) is = missed_unmapped m is
  own_unmapped (fate.Excludes word) is = negative_unmapped refs n d r is.negative maps
  own_unmapped (fate.Excluded by) is = is
  own_unmapped fate.InvalidName is = is
  own_unmapped fate.InvalidDestination is = is
  own_unmapped (fate.Duplicate j) is = is
  own_unmapped (fate.InConflict rival) is = is
  own_unmapped (fate.DirectoryConflict rival) is = is
  own_unmapped fate.Written is = is

-- what excludes a name with a word excludes it
pub excludes_with : (r : Reading) (n : List ℕ) (word : Option StarWord)
    → ExcludesWith r n word → IsExcludedBy n r
excludes_with r n None is = record {
  negative = is.negative;
  text = is.text;
  source = is.source;
  excludes = the_name is.with.0 is.with.1;
}
excludes_with r n (Some word) is = record {
  negative = is.negative;
  text = is.text;
  source = is.source;
  excludes = by_pattern is.with.0 is.with.1 is.with.2 is.with.3 is.with.4;
}

-- what misses a name doesn't exclude it
pub missed_included : (refs : List Ref) (n : List ℕ) (r : Reading) (m : Mismatch) → Misses refs r n m
    → ¬ (IsExcludedBy n r)
missed_included refs n r m (sourceless none is) by = cc (none, by.source)
missed_included refs n r m (by_kind positive x kind source of mis) by = positive by.negative
missed_included refs n r m (by_name negative x source lacks other is) by =
    let same : by.text ≡ x = cc (source, by.source) in
    elim by.excludes [
      | the_name plain named ↦ other (named ∙ same)
      | by_pattern before after word split fits ↦
          lacks_no_pattern x before after lacks (subst (IsSplit before after) same split)
    ]
missed_included refs n r m (misses_pattern negative x before after source split mis) by =
    let same : by.text ≡ x = cc (source, by.source) in
    elim by.excludes [
      | the_name plain named ↦
          lacks_no_pattern x before after (subst (Lacks star) same plain) split
      | by_pattern front back word also fits ↦
          let kinds : pattern front back ≡ pattern before after = one_kind x (pattern front back) (pattern before after)
          (subst (IsSplit front back) same also) split in
          pattern_unmatched before after n m mis word
          (let p : front ≡ before = cc (kinds) in let q : back ≡ after = cc (kinds) in
          subst (λ b. Fits b after n word) p (subst (λ b. Fits front b n word) q fits))
    ]

-- ---- a spec that maps no ref of a name

side_has_kind : (x : List ℕ) → ¬ (HasSeveralStars x) → ((kind : SideKind) → ¬ (HasKind x kind)) → ⊥
side_has_kind x few none =
    elim (lacks_or_first star x) [
      | inl lacks ↦
          let outside : ¬ (BeginsWith (Rattle.std.specs.Prelude.codes "refs/") x) = λ below. none (full_name x)
          (refl, lacks, below) in
          none (partial x) (refl, lacks, outside, λ (bytes, is). none (object bytes) (lacks, outside, is))
      | inr first ↦
          elim (lacks_or_first star first.after) [
            | inl last ↦
                none (pattern first.before first.after)
                (record { starred = first.here; first = first.first; last = last })
            | inr more ↦
                few (record {
                  before = first.before;
                  between = more.before;
                  after = more.after;
                  here = first.here ∙ ap (λ t. first.before ++ (star ∷ t)) more.here;
                })
          ]
    ]

unfilled : (far word : Option (List ℕ)) → ((x : List ℕ) → far ≡ Some x → ¬ (HasSeveralStars x))
    → ((d : Option (List ℕ)) → ¬ (IsFilled far word d)) → ⊥
unfilled None word few none = none None refl
unfilled (Some x) word few none =
    side_has_kind x (few x refl) (λ kind of. none (Some (filled kind word)) (kind, of, refl))

positive_mode : (mode : Mode) → mode ≢ Negative → IsPositive mode
positive_mode Normal other = tt
positive_mode Forced other = tt
positive_mode Negative other = other refl

-- a source of this kind, of a spec that maps no ref of the name, doesn't match the name
pub unmapped_unmatched : (n : List ℕ) (r : Reading) (x : List ℕ) (kind : SideKind) → ∥ IsAccepted r ∥₁
    → r.mode ≢ Negative → r.source ≡ Some x → HasKind x kind → ((m : Mapped) → ¬ (MapsName n r m))
    → (word : Option (List ℕ)) → ¬ (MatchesNamed kind n word)
unmapped_unmatched n r x kind accepted other source of none word matches =
    unfilled r.destination word (λ y is. accepted_few r y accepted (inr is))
    (λ d filled. none (record { item = Some 0; source = name n; destination = d; spec = 0 })
    (maps_name n r (record { near = x; far = r.destination }) kind word d
    (record { positive = positive_mode r.mode other; near = source; far = refl; no_object = no_object }) of matches
    filled))
  where
    no_object : (bytes : List ℕ) → ¬ (HasKind x (object bytes))
    no_object bytes also = subst (λ k. MatchesNamed k n word) (one_kind x kind (object bytes) of also) matches

-- ---- a spec that maps each ref of a name

pub one_got : {X : Type 0} (x y : X) (k : ℕ) → slice_get (x ∷ []) k ≡ Some y → y ≡ x
one_got x y Rattle.std.proofs.Common.zero at = cc
one_got x y (Rattle.std.proofs.Common.suc k) at = absurd (cc)

-- the name is a candidate of its source
pub mapped_candidate : (n : List ℕ) (r : Reading) (m : Mapped) → MapsName n r m → AreCandidatesOf r n
mapped_candidate n r m maps x of =
    let (ends, has, matched) = mapped_ends n r m (partial x) maps in
    let same : x ≡ ends.near = cc (of.source, has.near) in
    (matched (subst (λ y. HasKind y (partial x)) same of.kind)).1.1

alone_takes : (n : List ℕ) (r : Reading) (m : Mapped) (ref : Ref) → ref.name ≡ n → MapsName n r m → (s : Source)
    → m.source ≡ s → MakesForwardOf (ref ∷ []) m.item s m.destination r
    → (m.source ≡ name n)
    × ((ends : Ends) × AreForwardEnds r ends × IsPaired (Takes (ref ∷ [])) ends n m.destination ref)
alone_takes n r m ref named maps (id bytes) is made = absurd (cc (made.0, maps.item))
alone_takes n r m ref named maps (name k) is made =
    let same : made.ref ≡ ref = one_got ref made.ref made.index made.stands in
    let k_is : k ≡ n = sym made.paired.name ∙ ap (λ (x : Ref). x.name) same ∙ named in (
      is ∙ ap name k_is,
      (
        made.ends,
        made.has,
        subst (λ k. IsPaired (Takes (ref ∷ [])) made.ends k m.destination ref) k_is
            (subst (IsPaired (Takes (ref ∷ [])) made.ends k m.destination) same made.paired),
      ),
    )

-- it maps the name to the destination of its mapping, if the name is its first candidate
pub mapped_to : (refs : List Ref) (n : List ℕ) (r : Reading) (m : Mapped) → HasName refs n → MapsName n r m
    → TakesFirstCandidate refs r n → (m.source ≡ name n) × MapsTo refs n m.destination r
mapped_to refs n r m has maps first =
    let (ref, (i, below, at), named) = item_named refs n has in
    let all = maps.each ref named in
    let (q, here, made) = (forward_all (r ∷ []) (ref ∷ []) (m ∷ []) all).0 in
    let q_is : q ≡ r = one_got r q m.spec here in
    let (source, (ends, near, paired)) = alone_takes n r m ref named maps m.source refl
    (subst (MakesForwardOf (ref ∷ []) m.item m.source m.destination) q_is made) in (
      source,
      record {
        ends = ends;
        has = near;
        one = (
          i,
          ref,
          below,
          at,
          record {
            word = paired.word;
            name = named;
            takes = record {
              matches = paired.takes.matches;
              first = λ k kind. let same : k ≡ ends.near = kind.0 in
                  subst (IsFirstCandidate refs k) (sym named)
                  (first k (record {
                    source = near.near ∙ ap Some (sym same);
                    kind = subst (λ y. HasKind y (partial k))
                        (sym same) kind;
                  }));
            };
            becomes = paired.becomes;
          },
        );
      },
    )

-- the spec takes another ref, of an earlier candidate
pub earlier_misses : (refs : List Ref) (n : List ℕ) (r : Reading) (m : Mapped) (i : ℕ) → r.mode ≢ Negative
    → MapsName n r m → HasEarlierCandidate refs r n i → Misses refs r n (mismatch.EarlierCandidate i)
earlier_misses refs n r m i positive maps earlier = by_kind positive earlier.x (partial earlier.x) earlier.source.source
    earlier.source.kind
    (mapped_candidate n r m maps earlier.x earlier.source, (earlier.other, earlier.first, earlier.differ, earlier.at))

-- ---- negative specs

-- a source that isn't found to be a pattern has no star
pub unpatterned : (k : DeclaredKind) (x : List ℕ)
    → ((before after : Bor (List ℕ)) → k ≢ declared_kind.Pattern before after) → HasKind x (kind_of_side k)
    → Lacks star x
unpatterned (declared_kind.Pattern before after) x other of = absurd (other before after refl)
unpatterned (declared_kind.FullName text) x other of = of.1
unpatterned (declared_kind.Object bytes) x other of = of.0
unpatterned (declared_kind.Partial text) x other of = of.1

-- a negative spec that isn't found to exclude the name doesn't
pub not_excluding : (refs : List Ref) (n : List ℕ) (r : Reading) (f : Fate) → HasOwnFate refs r n f
    → ((word : Option StarWord) → f ≢ fate.Excludes word) → ¬ (IsExcludedBy n r)
not_excluding refs n r (fate.Unmatched m) is other = missed_included refs n r m is
not_excluding refs n r (fate.Excludes word) is other = absurd (other word refl)
not_excluding refs n r (fate.Excluded by) is other = absurd is
not_excluding refs n r fate.InvalidName is other = absurd is
not_excluding refs n r fate.InvalidDestination is other = absurd is
not_excluding refs n r (fate.Duplicate j) is other = absurd is
not_excluding refs n r (fate.InConflict rival) is other = absurd is
not_excluding refs n r (fate.DirectoryConflict rival) is other = absurd is
not_excluding refs n r fate.Written is other = absurd is

pub positive_included : (n : List ℕ) (r : Reading) → IsPositive r.mode → ¬ (IsExcludedBy n r)
positive_included n r positive by = subst IsPositive by.negative positive

-- what none of the readings excludes isn't excluded
pub none_excluded : (g : List Reading) (n : List ℕ) → AllByRecursion (λ r. ¬ (IsExcludedBy n r)) g → ¬ (IsExcluded g n)
none_excluded [] n none excluded = excluded
none_excluded (r ∷ g) n none (inl here) = none.0 here
none_excluded (r ∷ g) n none (inr later) = none_excluded g n none.1 later
