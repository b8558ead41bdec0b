-- The expansions of the specs of a group cover the names that they match.
use Rattle.gix_refspec.proofs.Common.{all_weaker, ◌≡◌, ◌≢◌, inl, inr, ℕ, List, [], ◌∷◌, codes, Option, get_or, refl}
use Rattle.gix_refspec.proofs.Common.{sym, ap, ◌∙◌, subst, arith, append-nil, Any, Operation, Fetch, Lacks, BeginsWith}
use Rattle.gix_refspec.proofs.Common.{star, head, Reading, side_on_remote, SideKind, pattern, full_name, object}
use Rattle.gix_refspec.proofs.Common.{partial, HasKind, IsId, candidates, Ref, Matches, Takes, of_head, IsAsked}
use Rattle.gix_refspec.proofs.Common.{Expands, to_prefix, IsExpansion, IsJoinedFrom, name, Ends, AreForwardEnds}
use Rattle.gix_refspec.proofs.Common.{IsCovering, by_prefix, by_candidates, BeginsWithOne, IsCoveredBy, AsksFor, AtSpec}
use Rattle.gix_refspec.proofs.Common.{Cover, CoverTogether, Any-right, Any-weaker, any_joined, some_at as at_place}
use Rattle.gix_refspec.proofs.Common.{some_of, lacks_no_pattern, prefix_begins, has_candidates, one_asked}
use Rattle.gix_refspec.proofs.Common.{HasCoveringSource, MakesForwardOf, TakesAt, by_cases, Source, slice_get}
use Rattle.gix_refspec.proofs.{Common.{Some}, lemmas.MadeLemmas.{any_at, ForwardAt, made_at_indexes}}
use Rattle.gix_refspec_text.proofs.lemmas.prefixes.OnePrefixLemmas.{one_prefix}

pub below_not_head : (x : List ℕ) → BeginsWith (codes "refs/") x → x ≢ head
below_not_head x below is = let first : 114 ≡ 72 = ap (λ (y : List ℕ). get_or y 0 0) (sym below.here ∙ is) in omega
    (arith, first)

matched_no_id : (x : List ℕ) (k : SideKind) → Lacks star x → ¬ (BeginsWith (codes "refs/") x)
    → ((bytes : List ℕ) → ¬ (HasKind x (object bytes))) → HasKind x k → ¬ (IsId x)
matched_no_id x (pattern before after) lacks outside none kind = absurd (lacks_no_pattern x before after lacks kind)
matched_no_id x (full_name n) lacks outside none kind = absurd (outside kind.2)
matched_no_id x (object bytes) lacks outside none kind = absurd (none bytes kind)
matched_no_id x (partial n) lacks outside none kind = kind.3

pub side_covers : (x : List ℕ) (r : Ref) (word : Option (List ℕ)) → IsCovering x
    → ((bytes : List ℕ) → ¬ (HasKind x (object bytes))) → Matches x r word → (entries : List (List ℕ))
    × Expands x entries × BeginsWithOne entries r.name
side_covers x r word (by_prefix p below is) no_object matches = (
  p ∷ [],
  to_prefix p is refl,
  (0, p, omega arith, refl, prefix_begins x p r word is (below_not_head x below) matches),
)
side_covers x r word (by_candidates lacks other outside) no_object matches =
    let has = has_candidates x lacks other outside (matched_no_id x matches.kind lacks outside no_object matches.of) in
    let one = (has.matches r).0 (word, matches) in (
      candidates x,
      has.expands,
      subst (λ (names : List (List ℕ)). BeginsWithOne names r.name) (sym one.here)
          (at_place (λ entry. BeginsWith entry r.name) _
          (Any-right _ one.earlier (r.name ∷ one.later)
          (inl (record { after = []; here = sym (append-nil r.name) })))),
    )

pub source_asked : (r : Reading) (ends : Ends) → r.operation ≡ Fetch → AreForwardEnds r ends → IsAsked r ends.near
source_asked r ends fetch are =
    record {
      positive = are.positive;
      side = ap (λ (op : Operation). side_on_remote op r.source r.destination) fetch
          ∙ are.near;
    }

-- a fetch with a covering source covers each ref that the source matches
pub covering_covers : (r : Reading) (ends : Ends) (item : Ref) (word : Option (List ℕ)) → HasCoveringSource r
    → AreForwardEnds r ends → Matches ends.near item word → IsCoveredBy item.name r
covering_covers r ends item word covering are matches =
    let asked = source_asked r ends covering.fetch are in
    let covers = side_covers ends.near item word (covering.source ends.near asked) are.no_object matches in
    record { entries = covers.0; expansion = inl (ends.near, asked, covers.1); one = covers.2 }

pub head_covers : (r : Reading) (n : List ℕ) → IsAsked r head → n ≡ head → IsCoveredBy n r
head_covers r n asked named = record {
  entries = head ∷ [];
  expansion = inl (head, asked, to_prefix head (of_head refl refl) refl);
  one = (0, head, omega arith, refl, record { after = []; here = named ∙ sym (append-nil head) });
}

pub cover : (g : List Reading) (items : List Ref) → Cover g items
cover g items kept stays =
    all_weaker (ForwardAt g items) (λ m. (n : List ℕ) → m.source ≡ name n
    → AtSpec g m (λ r. AsksFor r n → IsCoveredBy n r))
    (λ m (r, here, at) n is.
    let made : TakesAt AreForwardEnds (Takes items) items m.item n m.destination r =
    subst (λ (s : Source). MakesForwardOf items m.item s m.destination r) is at in (
      r,
      here,
      λ asks. by_cases asks
          (λ covering. subst (λ (x : List ℕ). IsCoveredBy x r) made.paired.name
          (covering_covers r made.ends made.ref made.paired.word covering made.has made.paired.takes.matches))
          (λ fetch. head_covers r n fetch.1 fetch.2),
    )) kept ((made_at_indexes g items).forward kept stays)

expansion_once : (r : Reading) (list other : List (List ℕ)) → IsExpansion r list → IsExpansion r other → list ≡ other
expansion_once r list other (inl (x, asked, a)) (inl (y, also, b)) = (one_prefix x).expanded list other a
    (subst (λ (z : List ℕ). Expands z other) (one_asked r y x also asked) b)
expansion_once r list other (inl (x, asked, a)) (inr (unasked, b)) = absurd (unasked x asked)
expansion_once r list other (inr (unasked, a)) (inl (y, asked, b)) = absurd (unasked y asked)
expansion_once r list other (inr (unasked, a)) (inr (_, b)) = a ∙ sym b

-- a name that some spec covers is covered by the expansion of the group
pub joined_covers : (n : List ℕ) (g : List Reading) (k : ℕ) (entries : List (List ℕ)) → Any (IsCoveredBy n) g
    → IsJoinedFrom (λ i r list. IsExpansion r list) k g entries → BeginsWithOne entries n
joined_covers n g k entries covered joined =
    at_place (λ entry. BeginsWith entry n) entries
    (any_joined (λ i r list. IsExpansion r list) (λ entry. BeginsWith entry n) k g entries joined
    (Any-weaker (IsCoveredBy n) _
    (λ r of i list expands. some_of _ list
    (subst (λ (names : List (List ℕ)). BeginsWithOne names n)
    (expansion_once r of.entries list of.expansion expands) of.one)) g (some_of _ g covered)))

pub some_at : (P : Reading → Type 0) (g : List Reading) (i : ℕ) (r : Reading) → slice_get g i ≡ Some r → P r → Any P g
some_at P g i r here holds = any_at P g i r here holds

pub cover_together : (g : List Reading) (items : List Ref) → CoverTogether g items
cover_together g items entries joined kept stays =
    all_weaker (λ m. (n : List ℕ) → m.source ≡ name n → AtSpec g m (λ r. AsksFor r n → IsCoveredBy n r))
    (λ m. (n : List ℕ) → m.source ≡ name n → AtSpec g m (λ r. AsksFor r n → BeginsWithOne entries n))
    (λ m covered n is. let (r, here, covers) =
    covered n is in
    (r, here, λ asks. joined_covers n g 0 entries (some_at (IsCoveredBy n) g m.spec r here (covers asks)) joined))
    kept (cover g items kept stays)
