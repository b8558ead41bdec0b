-- The candidates of a partial name, tried in order.
use Rattle.gix_refspec_why.proofs.Common.{◌≡◌, ◌≢◌, ◌<◌, ◌++◌, ◌∷◌, ◌∙◌, [], ℕ, suc, List, Some, refl, sym, ap, subst}
use Rattle.gix_refspec_why.proofs.Common.{Bor, AllByRecursion, BTreeMap, get_by, get_or, length, map, take, drop}
use Rattle.gix_refspec_why.proofs.Common.{slice_cmp, nat_cmp, slice_get_within, get_or_from_slice_get}
use Rattle.gix_refspec_why.proofs.Common.{recursion_from_All, Reading, Ref, HasName, HasKind, partial, IsFirstCandidate}
use Rattle.gix_refspec_why.proofs.Common.{All, IsCandidate, candidates, bstring_bytes, FirstOf, HasEarlierCandidate}
use Rattle.gix_refspec_why.proofs.Common.{NamesFirst, TakesFirstCandidate, inl, inr, Option}
use Rattle.gix_refspec_text.specs.declared.side.SideKind.{SideKind as DeclaredKind}
use Rattle.gix_refspec_text.specs.declared.side.SideKind.TheVariants as declared_kind
use Rattle.gix_refspec_text.specs.Private.SideViews.{kind_of_side}
use Rattle.bstr.specs.declared.bstring.BString.{BString}
use Rattle.gix_refspec_text.proofs.lemmas.lists.AllLemmas.{all_right}
use Rattle.gix_refspec_match.proofs.lemmas.hits.HitLemmas.{same_side}
use Rattle.gix_refspec_match.proofs.lemmas.lists.JoinLemmas.{map_split}
use Rattle.gix_refspec.proofs.lemmas.MadeLemmas.{map_each}
use Rattle.gix_refspec.proofs.lemmas.keep.FilterLemmas.{name_there}

-- the candidate is another name, which no ref has
abbrev pub IsPassed : List ℕ → BTreeMap (Bor (List ℕ)) ℕ → BString → Type 0
IsPassed n firsts b =
    (bstring_bytes b ≢ n) × ((refs : List Ref) → NamesFirst refs firsts → ¬ (HasName refs (bstring_bytes b)))

module _ (n : List ℕ) (firsts : BTreeMap (Bor (List ℕ)) ℕ) (x : List ℕ) (texts : List BString)
    (are : map bstring_bytes texts ≡ candidates x) where
  module _ (i : ℕ) (b : BString) (below : i < length texts) (is : b ≡ get_or texts i b)
      (passed : All (IsPassed n firsts) (take i texts)) (refs : List Ref) (names : NamesFirst refs firsts) where
    -- a candidate that a ref has, after others that none has
    first_passed : HasName refs (bstring_bytes b) → IsFirstCandidate refs x (bstring_bytes b)
    first_passed has = record {
      earlier = map bstring_bytes (take i texts);
      later = map bstring_bytes (drop (suc i) texts);
      here = sym are ∙ map_split bstring_bytes texts i b below
          ∙ ap (λ c. map bstring_bytes (take i texts) ++ (bstring_bytes c ∷ map bstring_bytes (drop (suc i) texts)))
          (sym is);
      absent = map_each (IsPassed n firsts) (λ m. ¬ (HasName refs m)) bstring_bytes (λ c pass. pass.1 refs names)
          (take i texts) (recursion_from_All (IsPassed n firsts) (take i texts) passed);
      present = has;
    }

    module _ (r : Reading) (source : r.source ≡ Some x) (kind : HasKind x (partial x)) where
      -- it is the name in question
      pub takes_here : HasName refs n → bstring_bytes b ≡ n → TakesFirstCandidate refs r n
      takes_here has same y of =
          let one : x ≡ y = same_side r.source x y source of.source in
          subst (λ y. IsFirstCandidate refs y n) one
          (subst (IsFirstCandidate refs x) same (first_passed (subst (HasName refs) (sym same) has)))

      -- it is another one
      pub takes_other : bstring_bytes b ≢ n → (index : ℕ) → FirstOf (λ q. q.name ≡ bstring_bytes b) refs (Some index)
          → HasEarlierCandidate refs r n index
      takes_other differ index (ref, first) = record {
        x = x;
        source = record { source = source; kind = kind };
        other = bstring_bytes b;
        first = first_passed
            (subst (HasName refs) first.holds
            (name_there refs ref (
              index,
              slice_get_within refs index ref first.at,
              get_or_from_slice_get refs index ref ref first.at,
            )));
        differ = differ;
        at = (ref, first);
      }

  -- the name in question isn't a candidate
  pub none_left : All (IsPassed n firsts) texts → ¬ (IsCandidate x n)
  none_left passed one =
      let all = map_each (IsPassed n firsts) (λ m. m ≢ n) bstring_bytes (λ c pass. pass.0) texts
      (recursion_from_All (IsPassed n firsts) texts passed) in
      (all_right (λ m. m ≢ n) one.earlier (n ∷ one.later)
      (subst (AllByRecursion (λ m. m ≢ n)) (are ∙ one.here) all)).0 refl

-- the kind of a source that isn't found to be a partial name
pub unpartial : (k : DeclaredKind) (x : List ℕ) → ((name : Bor (List ℕ)) → k ≢ declared_kind.Partial name)
    → kind_of_side k ≢ partial x
unpartial (declared_kind.Pattern before after) x other same = cc (same)
unpartial (declared_kind.FullName name) x other same = cc (same)
unpartial (declared_kind.Object id) x other same = cc (same)
unpartial (declared_kind.Partial name) x other same = other name refl

-- no ref has the name
pub none_named : (refs : List Ref) (n : List ℕ) → AllByRecursion (λ r. ¬ (r.name ≡ n)) refs → ¬ (HasName refs n)
none_named [] n none has = has
none_named (r ∷ refs) n none (inl here) = none.0 here
none_named (r ∷ refs) n none (inr later) = none_named refs n none.1 later

-- the first ref of a name has it
pub first_named : (refs : List Ref) (n : List ℕ) (i : ℕ) → FirstOf (λ r. r.name ≡ n) refs (Some i) → HasName refs n
first_named refs n i (ref, first) = subst (HasName refs) first.holds
    (name_there refs ref (i, slice_get_within refs i ref first.at, get_or_from_slice_get refs i ref ref first.at))

-- and so has one at the end
pub last_named : (refs : List Ref) (r : Ref) (n : List ℕ) → r.name ≡ n → HasName (refs ++ r ∷ []) n
last_named [] r n named = inl named
last_named (q ∷ refs) r n named = inr (last_named refs r n named)

-- what is found for a name
pub found_first : (refs : List Ref) (firsts : BTreeMap (Bor (List ℕ)) ℕ) (t n : List ℕ) (found : Option ℕ)
    → NamesFirst refs firsts → t ≡ n → get_by (λ k. slice_cmp nat_cmp t k.now) firsts ≡ found
    → FirstOf (λ r. r.name ≡ n) refs found
found_first refs firsts t n found names same is =
    subst (λ u. FirstOf (λ (r : Ref). r.name ≡ u) refs found) same
    (subst (FirstOf (λ (r : Ref). r.name ≡ t) refs) is (names t))
