-- What the examples of plans cite: names passed on, data in few words, and proofs that hold for all examples of a kind.
use Rattle.gix_refspec_plan.proofs.Common.{◌≡◌, inl, inr, ℕ, ◌+◌, false, List, [], ◌∷◌, ◌++◌, None, Some, codes, map}
use Rattle.gix_refspec_plan.proofs.Common.{refl, sym, ◌∙◌, subst, arith, AllByRecursion, Contains, append-nil}
use Rattle.gix_refspec_plan.proofs.Common.{same_Some, Origin, Verdict, CanBeWritten, HasStar, rules, Reading, Negative}
use Rattle.gix_refspec_plan.proofs.Common.{IsPositive, fetched, fetched_alone, Ref, Takes, IsMadeFrom, Mapped}
use Rattle.gix_refspec_plan.proofs.Common.{IsExcluded, LacksSource, IsRefName, AreMerges, Asked, ap, AreNested}
use Rattle.gix_refspec_plan.proofs.Common.{Contains-push_cases, Covers, IsCompleted, IsContested, IsObstructed}
use Rattle.gix_refspec_plan.proofs.Common.{IsNegativeReading, IsSound, Planned, Merge}
use Rattle.gix_refspec_text.specs.Specs.Reading.{Mode}
use Rattle.gix_refspec_text.specs.Matching.Side.{Excludes}
use Rattle.gix_refspec_text.specs.Texts.Bytes.{slash}
use Rattle.gix_refspec_text.proofs.lemmas.texts.TestedLemmas.{IsName-tested, is_suspect}
pub use Rattle.gix_refspec_text.proofs.facts.FitFacts.{every, heads_split, main_ref, no_dev, origin_split, short}
pub use Rattle.gix_refspec_text.proofs.facts.FitFacts.{short_kind}
pub use Rattle.gix_refspec_text.proofs.facts.ManualFacts.{Lacks-tested, named}
pub use Rattle.gix_refspec_match.specs.Matching.Hits.{AreForward, AreForwardEnds, AreSpecHits, Ends, Hit, IsHit}
pub use Rattle.gix_refspec_match.specs.Matching.Hits.{IsIdMapping, forward_of}
pub use Rattle.gix_refspec_match.specs.Matching.Lists.{IsJoinedFrom}
pub use Rattle.gix_refspec_match.specs.Matching.Mappings.{IsKept}
pub use Rattle.gix_refspec_match.proofs.facts.MatchFacts.{mapping, main_candidate}
pub use Rattle.gix_refspec.proofs.facts.RefNameFacts.{no_ref_names, ref_names}
use Rattle.gix_refspec_plan.proofs.lemmas.plan.DirectoryLemmas.{nested_once, turned}
pub use Rattle.gix_refspec_plan.proofs.lemmas.plan.MadeLemmas.{nothing_in, one_in}

-- a spec and where it comes from, as for a merged ref; what is done with the source of a mapping
abbrev pub listed : Reading → Origin → Asked
listed r o = record { reading = r; origin = o }

abbrev pub merged : List ℕ → Asked
merged n = listed (fetched_alone n) (Merge 0)

abbrev pub update : Mapped → ℕ → Origin → Verdict → Planned
update m item o v = record { source = m.source; item = Some item; destination = m.destination; origin = o; verdict = v }

pub below : (x : List ℕ) → is_suspect slash (codes "refs/" ++ x) ≡ false → CanBeWritten (Some (codes "refs/" ++ x))
below x sound = (record { after = x; here = refl }, IsName-tested (codes "refs/" ++ x) sound)

pub sound : {item spec : ℕ} (s d : List ℕ) → is_suspect slash (codes "refs/" ++ s) ≡ false
    → is_suspect slash (codes "refs/" ++ d) ≡ false
    → IsSound (mapping item (codes "refs/" ++ s) (Some (codes "refs/" ++ d)) spec)
sound s d source destination = record { source = inl (below s source); destination = below d destination }

pub one : {m n : Mapped} → Contains (m ∷ []) n → IsSound n → IsSound m
one {m} {n} has is = subst IsSound (one_in m n has) is

pub alone : (m : Mapped) → ¬ (IsContested (m ∷ []) m)
alone m (n, has, is, share, differ) = grind (arith, one_in)

-- nothing is in the way of a mapping alone
pub unobstructed : (m : Mapped) → ¬ (IsObstructed (m ∷ []) m)
unobstructed m (n, has, is, (d, e, from, to, nests)) =
    let same : d ≡ e = same_Some d e (sym from ∙ ap (λ (x : Mapped). x.destination) (sym (one_in m n has)) ∙ to) in
    nested_once d (subst (AreNested d) (sym same) nests)

-- of two mappings none is in the way of the other if their destinations aren't nested
pub pair_clear : (a b : Mapped) (d e : List ℕ) → a.destination ≡ Some d → b.destination ≡ Some e → ¬ (AreNested d e)
    → ¬ (IsObstructed (a ∷ b ∷ []) a) × ¬ (IsObstructed (a ∷ b ∷ []) b)
pair_clear a b d e a_to b_to apart = (
  (λ (n, has, is, (x, y, from, to, nests)). elim (Contains-push_cases (a ∷ []) b n has) [
    | inl here ↦ nested_once x
        (subst (AreNested x) (same_Some y x (sym to ∙ ap (λ (m : Mapped). m.destination) (one_in a n here) ∙ from))
        nests)
    | inr other ↦
        apart (subst (λ (z : List ℕ). AreNested z e) (same_Some x d (sym from ∙ a_to))
        (subst (AreNested x) (same_Some y e (sym to ∙ ap (λ (m : Mapped). m.destination) (sym other) ∙ b_to)) nests))
  ]),
  (λ (n, has, is, (x, y, from, to, nests)). elim (Contains-push_cases (a ∷ []) b n has) [
    | inl here ↦ apart
        (turned e d (subst (λ (z : List ℕ). AreNested z d) (same_Some x e (sym from ∙ b_to))
        (subst (AreNested x) (same_Some y d (sym to ∙ ap (λ (m : Mapped). m.destination) (one_in a n here) ∙ a_to))
        nests)))
    | inr other ↦
        nested_once x
        (subst (AreNested x) (same_Some y x (sym to ∙ ap (λ (m : Mapped). m.destination) (sym other) ∙ from)) nests)
  ]),
)

pub one_merge : (n : List ℕ) (mapped : List Mapped) → IsRefName n → ¬ (Covers mapped n)
    → AreMerges (n ∷ []) mapped (merged n ∷ [])
one_merge n mapped is uncovered = (Some _, [], (refl, is, uncovered, (λ has. nothing_in [] n refl has)), refl, refl)

pub main_lacking : LacksSource [] short
main_lacking = record {
  positive = tt;
  source = codes "main";
  is = refl;
  named = inr short_kind;
  absent =
      λ ref word has. absurd (nothing_in [] ref refl has);
}

pub none_excluded : {r : Reading} {n : List ℕ} → IsPositive r.mode → ¬ (IsExcluded (r ∷ []) n)
none_excluded positive by = grind arith

pub not_excluded : {r : Reading} {x n : List ℕ} → IsPositive r.mode → ¬ (Excludes x n)
    → ¬ (IsExcluded (r ∷ fetched Negative x None ∷ []) n)
not_excluded positive excludes (inl by) = subst IsPositive by.negative positive
not_excluded positive excludes (inr (inl by)) = excludes (rw (← same_Some _ _ by.source) at by.excludes)
not_excluded positive excludes (inr (inr none)) = none

pub whole_pattern : {mode : Mode} {x : List ℕ} (far : List ℕ) → IsCompleted (fetched mode x (Some (far ++ codes "*")))
    (fetched mode x (Some (far ++ codes "*")))
whole_pattern far = let starred : HasStar (far ++ codes "*") = record { before = far; after = []; here = refl } in
    search (rules, starred)

-- beside negative specs, which give no ids and take nothing, what a spec takes is all
no_ids : (k : ℕ) (g : List Reading) → AllByRecursion IsNegativeReading g → IsMadeFrom IsIdMapping k g []
no_ids k [] all = refl
no_ids k (r ∷ g) all = (None, [], (λ m made. subst IsPositive all.0 made.positive), no_ids (k + 1) g all.1, refl)

no_hits : (items : List Ref) (k : ℕ) (g : List Reading) → AllByRecursion IsNegativeReading g
    → IsJoinedFrom (AreSpecHits AreForwardEnds (Takes items) items) k g []
no_hits items k [] all = refl
no_hits items k (r ∷ g) all = (
  [],
  [],
  inr ((λ ends are. subst IsPositive all.0 are.positive), refl),
  no_hits items (k + 1) g all.1,
  refl,
)

pub forward_beside : {r : Reading} {ends : Ends} (g : List Reading) (items : List Ref) (hits : List Hit)
    → AreForwardEnds r ends
    → AllByRecursion IsNegativeReading g → IsMadeFrom (IsHit (Takes items) ends 0) 0 items hits
    → AreForward (r ∷ g) items (map forward_of hits)
forward_beside {r} {ends} g items hits are all taken =
    let ids : IsMadeFrom IsIdMapping 0 (r ∷ g) [] = (
      None,
      [],
      (λ m made. are.no_object _ (rw (same_Some _ _ (sym made.side ∙ are.near)) at made.object)),
      no_ids 1 g all,
      refl,
    ) in
    let found : IsJoinedFrom (AreSpecHits AreForwardEnds (Takes items) items) 0 (r ∷ g) hits =
    (hits, [], inl (ends, are, taken), no_hits items 1 g all, sym (append-nil hits)) in
    record { ids = []; hits = hits; are_ids = ids; are_hits = found; all = refl }
