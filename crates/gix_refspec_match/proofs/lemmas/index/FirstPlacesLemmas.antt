-- The places that a partial name takes, as refs are added: those of the first candidate, or of all.
use Rattle.gix_refspec_match.proofs.Common.{codes, length-append, List, [], ◌∷◌, None, Some, refl, ◌≡◌, ℕ, ◌++◌, sym}
use Rattle.gix_refspec_match.proofs.Common.{◌∙◌, arith, inl, inr, subst, append-nil, ◌<◌, length, ◌+◌, get_or, ◌⊎◌, ◌≤◌}
use Rattle.gix_refspec_match.proofs.Common.{◌↔◌, map-id, AllByRecursion, all_right, first_once, first_candidate}
use Rattle.gix_refspec_match.proofs.Common.{some_first, Ref, HasName, IsFirstCandidate, MatchesAs, partial, IsCandidate}
use Rattle.gix_refspec_match.proofs.Common.{ArePlacesTaken, Joins, name_at, Candidates, All, First}
use Rattle.gix_refspec_match.proofs.lemmas.hits.HitLemmas.{made_each}
use Rattle.gix_refspec_match.proofs.lemmas.lists.JoinLemmas.{made_next}
use Rattle.gix_refspec_match.proofs.lemmas.index.IndexLemmas.{AreWhere, Lengthen}

pub has_last : (refs : List Ref) (r : Ref) (n : List ℕ) → HasName (refs ++ r ∷ []) n ↔ (HasName refs n ⊎ (r.name ≡ n))
has_last [] r n = grind arith
has_last (s ∷ refs) r n = grind (arith, has_last refs r n)

-- n is the shortest of the candidates that the refs have
pub record IsShortest (refs : List Ref) (x n : List ℕ) : Type 0 where
  pub one : IsCandidate x n
  pub there : HasName refs n
  pub least : (m : List ℕ) → IsCandidate x m → HasName refs m → length n ≤ length m

-- of names that each are longer than those before, the first that refs have is the shortest that they have
module _ (refs : List Ref) (f n : List ℕ) (has : HasName refs n) (least : length n ≤ length f) where
  least_first : (e l d k : List (List ℕ)) → Lengthen (e ++ (f ∷ l)) → AllByRecursion (λ m. ¬ (HasName refs m)) e
      → e ++ (f ∷ l) ≡ d ++ (n ∷ k) → f ≡ n
  least_first [] l [] k longer absent same = cc
  least_first [] l (c ∷ d) k longer absent same = let others : l ≡ d ++ (n ∷ k) =
      cc in absurd (omega (arith, (all_right (λ m. length f < length m) d (n ∷ k) (rw others at longer.0)).0))
  least_first (c ∷ e) l [] k longer absent same = absurd (absent.0 (subst (HasName refs) (cc) has))
  least_first (c ∷ e) l (b ∷ d) k longer absent same = least_first e l d k longer.1 absent.1 (cc)

shortest_first : (refs : List Ref) (x n : List ℕ) → IsShortest refs x n → IsFirstCandidate refs x n
shortest_first refs x n short =
    let (f, first) = some_first refs x n short.one short.there in
    let end : length (x ++ codes "/HEAD") ≡ length x + 5 = length-append x (codes "/HEAD") in
    let same = least_first refs f n short.there (short.least f (first_candidate refs x f first) first.present)
    first.earlier first.later short.one.earlier short.one.later
    (subst Lengthen first.here (search (arith, end))) first.absent (sym first.here ∙ short.one.here) in
    subst (IsFirstCandidate refs x) same first

none_where : (P : Ref → Type 0) (k : ℕ) (refs : List Ref) → ((r : Ref) → HasName refs r.name → ¬ (P r))
    → AreWhere P k refs []
none_where P k [] none = refl
none_where P k (r ∷ refs) none =
    (None, [], (λ y both. none r (inl refl) both.0), none_where P (k + 1) refs (λ s has. none s (inr has)), refl)

where_alike : (P Q : Ref → Type 0) → ((r : Ref) → P r ↔ Q r) → (refs : List Ref) (ps : List ℕ) → AreWhere P 0 refs ps
    → AreWhere Q 0 refs ps
where_alike P Q alike refs ps are =
    rw map-id at (made_each (λ p. p) (λ k r place. P r × (place ≡ k)) (λ k r place. Q r × (place ≡ k)) refs ps
    (λ i d below. (
      (λ p both. ((alike (get_or refs i d)).0 both.0, both.1)),
      λ p both. (p, ((alike (get_or refs i d)).1 both.0, both.1)),
    )) are)

-- the places of all candidates among the refs so far, or of the shortest. all has these refs and those to come
abbrev pub AreFound : Candidates → List Ref → List ℕ → List Ref → List ℕ → Type 0
AreFound All all x refs ps = ArePlacesTaken (partial x) All refs ps
AreFound First all x refs [] = (n : List ℕ) → IsCandidate x n → ¬ (HasName refs n)
AreFound First all x refs (p ∷ ps) = IsShortest refs x (name_at all p) × AreWhere (λ r. r.name ≡ name_at all p) 0 refs
    (p ∷ ps)

module _ (all refs : List Ref) (r : Ref) (x : List ℕ) (i : ℕ) (long : length refs ≡ i) (here : r.name ≡ name_at all i)
  where
    where_more : (P : Ref → Type 0) (ps : List ℕ) → AreWhere P 0 refs ps → P r
        → AreWhere P 0 (refs ++ r ∷ []) (ps ++ i ∷ [])
    where_more P ps are holds = made_next (λ k s place. P s × (place ≡ k)) i refs r ps (Some i) long are (holds, refl)

    where_same : (P : Ref → Type 0) (ps : List ℕ) → AreWhere P 0 refs ps → ¬ (P r) → AreWhere P 0 (refs ++ r ∷ []) ps
    where_same P ps are other =
        rw (← append-nil ps) (made_next (λ k s place. P s × (place ≡ k)) i refs r ps None long are
        (λ place both. other both.0))

    shortest_next : (n : List ℕ) → IsCandidate x n → HasName refs n ⊎ (r.name ≡ n)
        → ((m : List ℕ) → IsCandidate x m → HasName refs m → length n ≤ length m)
        → (IsCandidate x r.name → length n ≤ length (name_at all i)) → IsShortest (refs ++ r ∷ []) x n
    shortest_next n one there least last = record {
      one = one;
      there = (has_last refs r n).1 there;
      least =
          λ m other has. let cases = (has_last refs r m).0 has in grind (arith, cases, least m, last, here);
    }

    shorter_next : IsCandidate x r.name
        → ((n : List ℕ) → IsCandidate x n → HasName refs n → length (name_at all i) < length n)
        → AreFound First all x (refs ++ r ∷ []) (i ∷ [])
    shorter_next one least = (
      shortest_next (name_at all i) (rw here at one) (inr here) (λ n other has. omega (arith, least n other has))
          (λ _. omega arith),
      where_more (λ s. s.name ≡ name_at all i) []
          (none_where (λ s. s.name ≡ name_at all i) 0 refs (λ s has same. grind (arith, least s.name, one, here, same)))
          here,
    )

    longer_next : (p : ℕ) (ps : List ℕ) → AreFound First all x refs (p ∷ ps)
        → (IsCandidate x r.name → length (name_at all p) < length (name_at all i))
        → AreFound First all x (refs ++ r ∷ [])
        (p ∷ ps)
    longer_next p ps (short, are) longer = (
      shortest_next (name_at all p) short.one (inl short.there) short.least (λ one. omega (arith, longer one)),
      where_same (λ s. s.name ≡ name_at all p) (p ∷ ps) are (λ same. grind (arith, longer, short.one, here)),
    )

    pub found_next : (which : Candidates) (ps qs : List ℕ) → AreFound which all x refs ps
        → (IsCandidate x r.name × Joins which all i ps qs) ⊎ (¬ (IsCandidate x r.name) × (qs ≡ ps))
        → AreFound which all x (refs ++ r ∷ []) qs
    found_next All ps qs are (inl (one, is)) = rw is (where_more (λ s. MatchesAs (partial x) s None) ps are (refl, one))
    found_next All ps qs are (inr (other, is)) =
        rw is (where_same (λ s. MatchesAs (partial x) s None) ps are (λ also. other also.1))
    found_next First [] qs none (inl (one, is)) = rw is (shorter_next one (λ n other has. absurd (none n other has)))
    found_next First [] qs none (inr (other, is)) =
        rw is (λ n one has. let cases = (has_last refs r n).0 has in grind (arith, cases, none n))
    found_next First (p ∷ ps) qs are (inr (other, is)) = rw is (longer_next p ps are (λ one. absurd (other one)))
    found_next First (p ∷ ps) qs are (inl (one, inl (longer, is))) = rw is (longer_next p ps are (λ _. longer))
    found_next First (p ∷ ps) qs (short, are) (inl (one, inr (inl (shorter, is)))) =
        rw is (shorter_next one (λ n other has. omega (arith, shorter, short.least n other has)))
    found_next First (p ∷ ps) qs (short, are) (inl (one, inr (inr (equal, is)))) =
        let first = λ (n : List ℕ). shortest_first (refs ++ r ∷ []) x n in
        let still = shortest_next (name_at all p) short.one (inl short.there) short.least (λ _. omega (arith, equal)) in
        let also = shortest_next (name_at all i) (rw here at one) (inr here)
        (λ n other has. omega (arith, equal, short.least n other has)) (λ _. omega arith) in
        rw is (
          still,
          where_more (λ s. s.name ≡ name_at all p) (p ∷ ps) are
              (here ∙ first_once (refs ++ r ∷ []) x (name_at all i) (name_at all p) (first _ also) (first _ still)),
        )

pub found_taken : (which : Candidates) (all : List Ref) (x : List ℕ) (ps : List ℕ) → AreFound which all x all ps
    → ArePlacesTaken (partial x) which all ps
found_taken All all x ps are = are
found_taken First all x [] none = none_where (λ s. IsFirstCandidate all x s.name) 0 all
    (λ s has first. none s.name (first_candidate all x s.name first) has)
found_taken First all x (p ∷ ps) (short, are) =
    let m = name_at all p in
    let first = shortest_first all x m short in
    where_alike (λ s. s.name ≡ m) (λ s. IsFirstCandidate all x s.name)
    (λ s. ((λ same. subst (IsFirstCandidate all x) (sym same) first), λ also. first_once all x s.name m also first))
    all (p ∷ ps) are
