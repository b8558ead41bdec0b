-- The ref prefixes of all specs of a group, one after the other: each ref that a fetch takes begins with one of them.
use Rattle.gix_refspec.proofs.Common.{Any as AnyAt, joined_next, map_split, map_long, nothing_joined, ◌≡◌, inl, inr, ℕ}
use Rattle.gix_refspec.proofs.Common.{suc, ◌+◌, ◌<◌, List, [], ◌∷◌, ◌++◌, Option, None, Some, MatchOption, Vec, Global}
use Rattle.gix_refspec.proofs.Common.{length, map, take, drop, get_or, sym, ap, ◌∙◌, subst, arith, BString}
use Rattle.gix_refspec.proofs.Common.{bstring_bytes, append-nil, get_or-map, length-map, map-append, map_more}
use Rattle.gix_refspec.proofs.Common.{RefSpecRef, reading_of, BeginsWith, IsSplit, IsPositive, Reading, SideKind}
use Rattle.gix_refspec.proofs.Common.{pattern, full_name, object, partial, HasKind, Ref, Matches, MatchesAs, Takes}
use Rattle.gix_refspec.proofs.Common.{IsRefPrefix, IsAsked, Source, name, AreForwardEnds, HasNoList, Lists, ListsAs}
use Rattle.gix_refspec.proofs.Common.{ListsGroup, ListsSide, Serves, AreFetches, TakesItem, one_kind, AnyOf as Any}
use Rattle.gix_refspec.proofs.Common.{Any-all, Any-right, any_joined, some_at, some_of, one_asked, MakesForwardOf}
use Rattle.gix_refspec.proofs.Common.{TakesAt, all_weaker}
use Rattle.gix_refspec.proofs.lemmas.MadeLemmas.{any_at, ForwardAt, made_at_indexes}
use Rattle.gix_refspec.proofs.lemmas.prefixes.CoverLemmas.{source_asked}

pub list_as : (x : List ℕ) (k : SideKind) (list : List (List ℕ)) → HasKind x k → ListsSide x list → ListsAs k list
list_as x k list kind lists = subst (λ (l : SideKind). ListsAs l list) (one_kind x lists.kind k lists.of kind) lists.is

pub no_list : (x before after : List ℕ) → IsSplit before after x → ¬ (IsRefPrefix before []) → (list : List (List ℕ))
    → ¬ (ListsSide x list)
no_list x before after split vague list lists = vague (list_as x (pattern before after) list split lists).0

abbrev BeginsWithSome : List ℕ → List (List ℕ) → Type 0
BeginsWithSome n list = Any (λ p. BeginsWith p n) list

-- a ref that a side of the kind matches begins with an entry of its list, unless the side is an id
kind_serves : (x : List ℕ) (k : SideKind) (list : List (List ℕ)) (r : Ref) (word : Option (List ℕ)) → HasKind x k
    → ((bytes : List ℕ) → ¬ (HasKind x (object bytes))) → MatchesAs k r word → ListsAs k list
    → BeginsWithSome r.name list
kind_serves x (pattern before after) list r None of no_object matches lists = absurd matches
kind_serves x (pattern before after) list r (Some word) of no_object matches lists = subst (BeginsWithSome r.name)
    (sym lists.1) (inl (record { after = word ++ after; here = matches }))
kind_serves x (full_name n) list r word of no_object matches lists = subst (BeginsWithSome r.name) (sym lists)
    (inl (record { after = []; here = matches.1 ∙ sym (append-nil n) }))
kind_serves x (object bytes) list r word of no_object matches lists = absurd (no_object bytes of)
kind_serves x (partial n) list r word of no_object matches lists = subst (BeginsWithSome r.name)
    (sym (lists ∙ matches.1.here)) (Any-right (λ p. BeginsWith p r.name) matches.1.earlier (r.name ∷ matches.1.later)
    (inl (record { after = []; here = sym (append-nil r.name) })))

pub side_serves : (x : List ℕ) (list : List (List ℕ)) (r : Ref) (word : Option (List ℕ))
    → ((bytes : List ℕ) → ¬ (HasKind x (object bytes))) → Matches x r word → ListsSide x list
    → BeginsWithSome r.name list
side_serves x list r word no_object matches lists = kind_serves x matches.kind list r word matches.of no_object
    matches.is (list_as x matches.kind list matches.of lists)

pub lists_side : (r : Reading) (x : List ℕ) (list : List (List ℕ)) → IsAsked r x → Lists r list → ListsSide x list
lists_side r x list asked lists = grind (arith, one_asked)

-- an item that a fetch of the group takes begins with an entry of the list of the group
pub taken_begins : (g : List Reading) (list : List (List ℕ)) (A : List Ref) (item : Ref) → ListsGroup g list
    → AreFetches g
    → AnyAt (TakesItem AreForwardEnds (Takes A) item) g → AnyAt (λ p. BeginsWith p item.name) list
taken_begins g list A item joined fetches any =
    some_at (λ p. BeginsWith p item.name) list
    (any_joined (λ k r names. Lists r names) (λ p. BeginsWith p item.name) 0 g list joined
    (Any-all _ (TakesItem AreForwardEnds (Takes A) item) _ (λ r fetch takes k names told.
    side_serves takes.ends.near names item takes.word takes.has.no_object takes.takes.matches
    (lists_side r takes.ends.near names (source_asked r takes.ends fetch takes.has) told)) g fetches
    (some_of _ g any)))

pub serves : (g : List Reading) (list : List (List ℕ)) → ListsGroup g list → Serves list g
serves g list joined fetches items kept are =
    all_weaker (ForwardAt g items) (λ m. (n : List ℕ) → m.source ≡ name n → AnyAt (λ p. BeginsWith p n) list)
    (λ m (r, here, at) n is.
    let made : TakesAt AreForwardEnds (Takes items) items m.item n m.destination r =
    subst (λ (s : Source). MakesForwardOf items m.item s m.destination r) is at in
    subst (λ (x : List ℕ). AnyAt (λ p. BeginsWith p x) list) made.paired.name
    (taken_begins g list items made.ref joined fetches
    (any_at _ g m.spec r here
    (record { ends = made.ends; has = made.has; word = made.paired.word; takes = made.paired.takes }))))
    kept ((made_at_indexes g items).forward kept are)

pub list_of_side : (r : Reading) (x : List ℕ) (asked : Option (Vec BString Global)) → IsAsked r x
    → MatchOption asked ((list : List (List ℕ)) → ¬ (ListsSide x list)) (λ v. ListsSide x (map bstring_bytes v.items))
    → MatchOption asked ((list : List (List ℕ)) → ¬ (Lists r list)) (λ v. Lists r (map bstring_bytes v.items))
list_of_side r x None is none = λ list lists. none list (lists_side r x list is lists)
list_of_side r x (Some v) is lists = inr (x, is, lists)

as_once : (k : SideKind) (a b : List (List ℕ)) → ListsAs k a → ListsAs k b → a ≡ b
as_once k a b one other = grind arith

pub lists_once : (r : Reading) (a b : List (List ℕ)) → Lists r a → Lists r b → a ≡ b
lists_once r a b (inl (negative, empty)) (inl (also, other)) = empty ∙ sym other
lists_once r a b (inl (negative, empty)) (inr (x, asked, lists)) = absurd (subst IsPositive negative asked.positive)
lists_once r a b (inr (x, asked, one)) other = as_once one.kind a b one.is
    (list_as x one.kind b one.of (lists_side r x b asked other))

pub nothing_at : (specs : List RefSpecRef) (i : ℕ) (spec : RefSpecRef) → i < length specs → spec ≡ get_or specs i spec
    → ListsGroup (map reading_of specs) [] → Lists (reading_of spec) []
nothing_at specs i spec below is asks =
    nothing_joined (λ k r names. Lists r names) 0 (map reading_of (take i specs)) (reading_of spec)
    (map reading_of (drop (suc i) specs))
    (subst (λ (g : List Reading). ListsGroup g []) (map_split reading_of specs i spec below
    ∙ ap (λ (s : RefSpecRef). map reading_of (take i specs) ++ (reading_of s ∷ map reading_of (drop (suc i) specs)))
    (sym is)) asks)

pub asks_no_names : (specs : List RefSpecRef) (i : ℕ) (spec : RefSpecRef) (names : List BString) → i < length specs
    → spec ≡ get_or specs i spec → Lists (reading_of spec) (map bstring_bytes names)
    → ListsGroup (map reading_of specs) [] → length names ≡ 0
asks_no_names specs i spec names below is lists asks = sym (length-map names bstring_bytes)
    ∙ ap length (lists_once (reading_of spec) (map bstring_bytes names) [] lists
    (nothing_at specs i spec below is asks))

pub one_more_list : (specs : List RefSpecRef) (i : ℕ) (spec : RefSpecRef) (list names new : List BString)
    → i < length specs → spec ≡ get_or specs i spec → new ≡ list ++ names
    → Lists (reading_of spec) (map bstring_bytes names) → ListsGroup (map reading_of (take i specs))
    (map bstring_bytes list) → ListsGroup (map reading_of (take (i + 1) specs)) (map bstring_bytes new)
one_more_list specs i spec list names new below is appended lists so_far =
    subst (ListsGroup (map reading_of (take (i + 1) specs))) (sym (map-append bstring_bytes list names)
    ∙ ap (map bstring_bytes) (sym appended))
    (subst (λ (g : List Reading). ListsGroup g (map bstring_bytes list ++ map bstring_bytes names))
    (ap (λ (s : RefSpecRef). map reading_of (take i specs) ++ reading_of s ∷ []) is
    ∙ sym (map_more reading_of specs i spec below))
    (joined_next (λ k r found. Lists r found) i (map reading_of (take i specs)) (reading_of spec)
    (map bstring_bytes list) (map bstring_bytes names) (map_long reading_of specs i below) so_far lists))

pub none_at : (specs : List RefSpecRef) (i : ℕ) (spec : RefSpecRef) → i < length specs → spec ≡ get_or specs i spec
    → ((list : List (List ℕ)) → ¬ (Lists (reading_of spec) list)) → HasNoList (map reading_of specs)
none_at specs i spec below is none = (
  i,
  reading_of spec,
  omega (arith, below, length-map specs reading_of),
  get_or-map reading_of specs i spec (reading_of spec) below ∙ ap reading_of (sym is),
  none,
)
