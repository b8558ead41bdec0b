-- What specs match, and what becomes of it.
use Rattle.gix_refspec_match.proofs.Common.{◌-◌, length, length-append, drop-append_seam, take-append_seam, word_in}
use Rattle.gix_refspec_match.proofs.Common.{List, [], ◌∷◌, None, Some, codes, refl, ◌≡◌, ℕ, ◌++◌, Option, sym, ◌∙◌}
use Rattle.gix_refspec_match.proofs.Common.{arith, inl, inr, ◌≢◌, subst, ap, take, drop, ◌+◌, ◌⊎◌, MatchOption, Bor}
use Rattle.gix_refspec_match.proofs.Common.{append_cancel_left, AllByRecursion, lacks_no_pattern, split_once}
use Rattle.gix_refspec_match.proofs.Common.{AllByRecursion-parts, IsIdText-unique, kind_of_side, DeclaredKind, Ref}
use Rattle.gix_refspec_match.proofs.Common.{Matches, MatchesAs, pattern, object, HasKind, partial, SideKind, Fits}
use Rattle.gix_refspec_match.proofs.Common.{IsCandidate, candidates, Reading, Ends, IsFilled, Hit, IsHit, AreSpecHits}
use Rattle.gix_refspec_match.proofs.Common.{IsIdMapping, AreBackward, AreForward, OneForward, OneBackward, Mapped}
use Rattle.gix_refspec_match.proofs.Common.{IsKeptAt, IsKept, HasEnds, TakesIn, filled_side, HasSideKind, IsFirstIn}
use Rattle.gix_refspec_match.proofs.Common.{Candidates, All, First, is_some, ◌<◌, map, get_or, option_map, ◌↔◌, IsTrue}
use Rattle.gix_refspec_match.proofs.Common.{Bool, zero-add, map-id, MakesOf, IsMadeFrom, mapping_of, IsMatched}
use Rattle.gix_refspec_match.proofs.Common.{IsFolder}
use Rattle.gix_refspec_match.proofs.lemmas.lists.JoinLemmas.{one_joined, MakesOnce}
use Rattle.gix_refspec_match.proofs.lemmas.lists.ListsLemmas.{made_once, made_map}

-- what a read past the end gives
abbrev pub blank : Ref
blank = record { name = []; target = []; object = None }

pub pattern_told : (before after n : List ℕ) (r : Ref) (found : Option (Bor (List ℕ))) (told : Bool) → n ≡ r.name
    → told ≡ is_some found → MatchOption found ((word : List ℕ) → ¬ (Fits before after n word))
    (λ word. Fits before after n word.now) → IsTrue told ↔ IsMatched (pattern before after) r
pattern_told before after n r None told same is none = grind (arith, same, is, none)
pattern_told before after n r (Some w) told same is fits = ((λ yes. (Some w.now, sym same ∙ fits)), (λ matched. is))

-- where S makes of each element a view of what R makes, and no more, so it does of the list
pub made_each : {X Y V : Type 0} (view : Y → V) (R : ℕ → X → Y → Type 0) (S : ℕ → X → V → Type 0) (xs : List X)
    (ys : List Y)
    → ((i : ℕ) (d : X) → i < length xs → ((y : Y) → R i (get_or xs i d) y → S i (get_or xs i d) (view y))
    × ((v : V) → S i (get_or xs i d) v → (y : Y) × R i (get_or xs i d) y))
    → IsMadeFrom R 0 xs ys → IsMadeFrom S 0 xs (map view ys)
made_each {X} {Y} view R S xs ys each are =
    rw map-id at (made_map (λ x. x) view R S 0 xs ys (λ i d below made. rw zero-add (one i d below made)) are)
  where
    one : (i : ℕ) (d : X) → i < length xs → (made : Option Y) → MakesOf R i (get_or xs i d) made
        → MakesOf S i (get_or xs i d) (option_map view made)
    one i d below None none = λ v here. let (y, of) = (each i d below).1 v here in none y of
    one i d below (Some y) of = (each i d below).0 y of

abbrev pub of_hits : Candidates → List Hit → List Mapped
of_hits which hits = map (mapping_of which) hits

pub word_left : (before after n rest : List ℕ) (r : Option (Bor (List ℕ))) → n ≡ before ++ rest
    → MatchOption r ((front : List ℕ) → rest ≢ front ++ after) (λ x. rest ≡ x.now ++ after)
    → MatchOption r ((word : List ℕ) → ¬ (Fits before after n word)) (λ word. Fits before after n word.now)
word_left before after n rest None front left =
    λ word fits. left word (append_cancel_left before rest (word ++ after) (sym front ∙ fits))
word_left before after n rest (Some x) front left = front ∙ ap (λ y. before ++ y) left

-- each candidate has the partial name at its end, or is the head of a remote
pub candidate_cases : (x n : List ℕ) → IsCandidate x n → ((before : List ℕ) × IsFolder before × (n ≡ before ++ x))
    ⊎ (n ≡ codes "refs/remotes/" ++ (x ++ codes "/HEAD"))
candidate_cases x n one =
    let P : List ℕ → Type 0 = λ m. ((before : List ℕ) × IsFolder before × (m ≡ before ++ x))
    ⊎ (m ≡ codes "refs/remotes/" ++ (x ++ codes "/HEAD")) in
    let put : (before : List ℕ) → IsFolder before → P (before ++ x) = λ before folder. inl (before, folder, refl) in
    AllByRecursion-parts P one.earlier n one.later (subst (AllByRecursion P) one.here (
      put [] (inl refl),
      (
        put _ (inr (inl refl)),
        (
          put _ (inr (inr (inl refl))),
          (put _ (inr (inr (inr (inl refl)))), (put _ (inr (inr (inr (inr refl)))), (inr refl, tt))),
        ),
      ),
    ))

pub candidate_at : (x n : List ℕ) (k : ℕ) → candidates x ≡ take k (candidates x) ++ (n ∷ drop (k + 1) (candidates x))
    → IsCandidate x n
candidate_at x n k is = record { earlier = take k (candidates x); later = drop (k + 1) (candidates x); here = is }

pub one_kind : (x : List ℕ) (k l : SideKind) → HasKind x k → HasKind x l → k ≡ l
one_kind x (pattern before after) (pattern fixed rest) a b = let once = split_once x before after fixed rest a b in cc
    (once.0, once.1)
one_kind x (object id) (object other) a b = ap object (IsIdText-unique x id other a.2 b.2)
one_kind x k l a b = grind (arith, a, b, lacks_no_pattern)

-- a pattern matches with the word between its texts
pub matched_word : (k : SideKind) (r : Ref) (word : Option (List ℕ)) → MatchesAs k r word → word ≡ word_in k r.name
matched_word (pattern before after) r (Some w) is =
    let size : length before + (length w + length after) - length after - length before ≡ length w = omega arith in
    rw (is, length-append, length-append, size, drop-append_seam, take-append_seam)
matched_word k r word is = grind (arith, is)

pub matches_as : (x : List ℕ) (k : SideKind) (r : Ref) (word : Option (List ℕ)) → HasKind x k → Matches x r word
    → MatchesAs k r word
matches_as x k r word kind matches = rw (one_kind x matches.kind k matches.of kind) at matches.is

-- what a side of the kind takes in a which is what it matches, and a partial source by its first candidate
pub takes_in : (which : Candidates) (items : List Ref) (x : List ℕ) (k : SideKind) (r : Ref) (word : Option (List ℕ))
    → HasKind x k → MatchesAs k r word → IsFirstIn k which items r.name → TakesIn which items x r word
takes_in First items x k r word of is first = record {
  matches = record { kind = k; of = of; is = is };
  first =
      λ n partial_n. rw (one_kind x k (partial n) of partial_n) at first;
}
takes_in All items x k r word of is first = record { kind = k; of = of; is = is }

pub taken_matches : (which : Candidates) (items : List Ref) (x : List ℕ) (r : Ref) (word : Option (List ℕ))
    → TakesIn which items x r word → Matches x r word
taken_matches which items x r word takes = grind (arith, takes)

pub taken_first : (which : Candidates) (items : List Ref) (x : List ℕ) (k : SideKind) (r : Ref) (word : Option (List ℕ))
    → HasKind x k → TakesIn which items x r word → IsFirstIn k which items r.name
taken_first which items x k r word of takes = grind (arith, of, takes)

pub far_filled : (x : Option (List ℕ)) (k : Option DeclaredKind) (word n : Option (List ℕ)) → HasSideKind x k
    → n ≡ filled_side k word → IsFilled x word n
far_filled (Some x) (Some k) word n kind same = (kind_of_side k, kind, same)
far_filled x k word n kind same = grind (arith, kind, same)

pub same_side : (side : Option (List ℕ)) (x y : List ℕ) → side ≡ Some x → side ≡ Some y → x ≡ y
same_side side x y of_x of_y = cc

pub one_pair : (which : Candidates) (r : Reading) (a b : Ends) → HasEnds which r a → HasEnds which r b → a ≡ b
one_pair which r a b of_a of_b = grind (arith, of_a, of_b)

filled_once : (x : Option (List ℕ)) (word n m : Option (List ℕ)) → IsFilled x word n → IsFilled x word m → n ≡ m
filled_once x word n m a b = grind (arith, a, b, one_kind)

pub hit_once : (which : Candidates) (items : List Ref) (ends : Ends) (k : ℕ)
    → MakesOnce (IsHit (TakesIn which items) ends k)
hit_once which items ends k j r g h a b =
    let of_g = taken_matches which items ends.near r a.word a.takes in
    let word = matched_word of_g.kind r a.word of_g.is
    ∙ sym (matched_word of_g.kind r b.word
    (matches_as ends.near of_g.kind r b.word of_g.of (taken_matches which items ends.near r b.word b.takes))) in
    let far = filled_once ends.far b.word g.far h.far (rw word at a.far) b.far in
    λ i. record {
      spec = (a.spec ∙ sym b.spec) i;
      item = (a.item ∙ sym b.item) i;
      near = (a.near ∙ sym b.near) i;
      far =
          far i;
    }

spec_hits_once : (which : Candidates) (items : List Ref)
    → MakesOnce (AreSpecHits (HasEnds which) (TakesIn which items) items)
spec_hits_once which items k r g h (inl (ends, has, a)) (inl (others, have, b)) =
    made_once _ (hit_once which items ends k) 0 items g h a (rw (one_pair which r others ends have has) at b)
spec_hits_once which items k r g h (inl (ends, has, a)) (inr (none, b)) = absurd (none ends has)
spec_hits_once which items k r g h (inr (none, a)) (inl (others, have, b)) = absurd (none others have)
spec_hits_once which items k r g h (inr (none, a)) (inr (_, b)) = a ∙ sym b

pub id_once : MakesOnce IsIdMapping
id_once k r m n a b =
    let text : b.text ≡ a.text = cc (a.side, b.side) in
    let bytes : a.bytes ≡ b.bytes = IsIdText-unique a.text a.bytes b.bytes a.object.2 (rw text at b.object.2) in
    let source : m.source ≡ n.source = cc (a.source, b.source) in
    let destination = filled_once r.destination None m.destination n.destination a.destination b.destination in
    λ i. record {
      item = (a.item ∙ sym b.item) i;
      source = source i;
      destination = destination i;
      spec =
          (a.spec ∙ sym b.spec) i;
    }

pub forward_once : (rs : List Reading) (items : List Ref) (l m : List Mapped) → AreForward rs items l
    → AreForward rs items m → l ≡ m
forward_once rs items l m a b = cc (
  a.all,
  b.all,
  made_once _ id_once 0 rs a.ids b.ids a.are_ids b.are_ids,
  one_joined _ (spec_hits_once First items) 0 rs a.hits b.hits a.are_hits b.are_hits,
)

pub backward_once : (rs : List Reading) (items : List Ref) (l m : List Mapped) → AreBackward rs items l
    → AreBackward rs items m → l ≡ m
backward_once rs items l m a b =
    cc (a.all, b.all, one_joined _ (spec_hits_once All items) 0 rs a.hits b.hits a.are_hits b.are_hits)

kept_once : (rs : List Reading) (all l m : List Mapped) → IsKept rs all l → IsKept rs all m → l ≡ m
kept_once rs all = made_once (λ k x made. (made ≡ x) × IsKeptAt rs all k x) (λ k x y z of_y of_z. of_y.0 ∙ sym of_z.0) 0
    all

pub one_forward : (rs : List Reading) (items : List Ref) → OneForward rs items
one_forward rs items l m a b =
    kept_once rs b.all l m (rw (forward_once rs items a.all b.all a.forward b.forward) at a.is) b.is

pub one_backward : (rs : List Reading) (items : List Ref) → OneBackward rs items
one_backward rs items l m a b =
    kept_once rs b.all l m (rw (backward_once rs items a.all b.all a.backward b.backward) at a.is) b.is
