-- Each text is a name or has a fault, and each side is valid or bad for a reason.
use Rattle.gix_refspec_text.proofs.Common.{[], AreParts, arith, ◌≡◌, ◌≢◌, ◌⊎◌, inl, inr, ℕ, Bool, true, List, ◌∷◌, ◌++◌}
use Rattle.gix_refspec_text.proofs.Common.{codes, nat_eq, refl, sym, ap, ◌∙◌, subst, append_assoc, length, take, ◌-◌}
use Rattle.gix_refspec_text.proofs.Common.{ends_with, ends_is, false≢true, append-nil, Decides-eqb, Error, Empty}
use Rattle.gix_refspec_text.proofs.Common.{EmptyComponent, StartsWithDot, LockSuffix, EndsWithDot, RepeatedDot}
use Rattle.gix_refspec_text.proofs.Common.{ReflogPortion, Asterisk, InvalidByte, EndsWith, slash, star, dot, brace}
use Rattle.gix_refspec_text.proofs.Common.{is_refused_byte, HasFault, IsName, AddsFault, LeavesFault, Added, IsClean}
use Rattle.gix_refspec_text.proofs.Common.{cases_Bool, cases_eq, Option, None, Some, unwrap_or, nat_le}
use Rattle.gix_refspec_text.proofs.Common.{is_ascii_hexdigit, leb-true, le-leb, Operation, Push, Fetch, Shape, Plain}
use Rattle.gix_refspec_text.proofs.Common.{Pattern, letter, plus, caret, colon, ReplacesStar, Mode, Normal, Forced}
use Rattle.gix_refspec_text.proofs.Common.{Negative, Reading, Refusal, NegativeWithDestination, PushToEmpty}
use Rattle.gix_refspec_text.proofs.Common.{PatternUnsupported, ReferenceName, PatternUnbalanced, NegativeEmpty}
use Rattle.gix_refspec_text.proofs.Common.{NegativeObjectHash, IsBadPattern, IsFirstReason, IsRefused, IsSigned}
use Rattle.gix_refspec_text.proofs.Common.{IsPositive, LooksLikeObjectHash, Reads, HasShape, HasCheckedShape, IsBadSide}
use Rattle.gix_refspec_text.proofs.Common.{list_all, ◌&&◌, and_parts, and_from, AllPass-from_list_all}
use Rattle.gix_refspec_text.proofs.Common.{list_all-from_AllPass}
use Rattle.gix_refspec_text.proofs.lemmas.parsing.ReasonLemmas.{starred_not_empty, fetch_reaches, push_reaches}
use Rattle.gix_refspec_text.proofs.lemmas.parsing.ReasonLemmas.{push_alone_reaches, negative_reaches, reason_at_source}
use Rattle.gix_refspec_text.proofs.lemmas.parsing.ReasonLemmas.{reason_at_destination, reason_against_object}
use Rattle.gix_refspec_text.proofs.lemmas.parsing.ReasonLemmas.{reason_against_nothing, fetch_source_fine}
use Rattle.gix_refspec_text.proofs.lemmas.parsing.ReasonLemmas.{push_source_fine, bad_destination, unbalanced_fetch}
use Rattle.gix_refspec_text.proofs.lemmas.parsing.ReasonLemmas.{unbalanced_push, bad_negative, no_negative}
use Rattle.gix_refspec_text.proofs.lemmas.parsing.SideLemmas.{HasStar-bad}
use Rattle.gix_refspec_text.proofs.lemmas.texts.NameLemmas.{IsClean-more, IsClean-start, HasFault-added, HasFault-left}
use Rattle.gix_refspec_text.proofs.lemmas.texts.NameLemmas.{IsName-from_clean, end_leaves}
use Rattle.gix_refspec_text.proofs.lemmas.parsing.ReadsLemmas.{AreFine, fine_fetch, fine_alone, fine_push}
use Rattle.gix_refspec_text.proofs.lemmas.parsing.ReadsLemmas.{fine_negative, made, fine_reads, refused}
pub use Rattle.gix_refspec_text.proofs.lemmas.lists.LacksLemmas.{lacks_or_first, lacks_or_last}

abbrev pub Decided : Type 0 → Type 0
Decided P = P ⊎ (P → ⊥)

both : {P Q : Type 0} → Decided P → Decided Q → Decided (P × Q)
both h q = grind arith

pub decided_by : {P : Type 0} (b : Bool) → (b ≡ true → P) → (P → b ≡ true) → Decided P
decided_by b so back =
    elim (cases_Bool b) [ inl is ↦ inl (so is) | inr other ↦ inr (λ holds. false≢true (sym other ∙ back holds)) ]

decided_end : (w y : List ℕ) → Decided (EndsWith w y)
decided_end w y =
    let told = ends_is Decides-eqb y w (ends_with nat_eq y w) refl in
    decided_by (ends_with nat_eq y w) (λ so. record { before = take (length y - length w) y; here = told.0 so })
    (λ ends. told.1 ends.before ends.here)

abbrev pub Found : (Error → Type 0) → Type 0
Found P = ((e : Error) × P e) ⊎ ((e : Error) → ¬ (P e))

or_else : (P : Error → Type 0) (e : Error) → Decided (P e) → (¬ (P e) → Found P) → Found P
or_else P e h later = grind arith

added_fault : (y : List ℕ) (b : ℕ) → Found (AddsFault y b)
added_fault y b =
    or_else (AddsFault y b) EmptyComponent (both (cases_eq b slash) (decided_end (codes "/") y)) (λ component.
    or_else (AddsFault y b) StartsWithDot (both (cases_eq b dot) (decided_end (codes "/") y)) (λ start.
    or_else (AddsFault y b) LockSuffix (both (cases_eq b slash) (decided_end (codes ".lock") y)) (λ lock.
    or_else (AddsFault y b) RepeatedDot (both (cases_eq b dot) (decided_end (codes ".") y)) (λ dots.
    or_else (AddsFault y b) ReflogPortion (both (cases_eq b brace) (decided_end (codes "@") y)) (λ reflog.
    or_else (AddsFault y b) Asterisk (cases_eq b star) (λ starless.
    or_else (AddsFault y b) (InvalidByte b) (both (inl refl) (decided_by (is_refused_byte b) (λ so. so) (λ so. so)))
    (λ fine.
    inr (λ e h. grind arith))))))))

left_fault : (y : List ℕ) → Found (LeavesFault y)
left_fault y =
    or_else (LeavesFault y) EmptyComponent (decided_end (codes "/") y) (λ whole.
    or_else (LeavesFault y) EndsWithDot (decided_end (codes ".") y) (λ undotted.
    or_else (LeavesFault y) LockSuffix (decided_end (codes ".lock") y)
    (λ unlocked. inr (λ e left. end_leaves y e whole undotted unlocked left))))

scanned : (y rest : List ℕ) → IsClean y → ((e : Error) × Added (y ++ rest) e) ⊎ IsClean (y ++ rest)
scanned y [] clean = inr (subst IsClean (sym (append-nil y)) clean)
scanned y (b ∷ rest) clean = elim (added_fault y b) [
  | inl (e, fault) ↦ inl (e, record { before = y; byte = b; after = rest; here = refl; fault = fault })
  | inr none ↦ subst (λ (x : List ℕ). ((e : Error) × Added x e) ⊎ IsClean x) (append_assoc y (b ∷ []) rest)
      (scanned (y ++ (b ∷ [])) rest (IsClean-more y b clean none))
]

name_or_fault : (x : List ℕ) → IsName x ⊎ ((e : Error) × HasFault x e)
name_or_fault [] = inr (Empty, refl)
name_or_fault (b ∷ x) =
    let full : b ∷ x ≢ [] = λ same. cc in
    elim (scanned (slash ∷ []) (b ∷ x) IsClean-start) [
      | inl (e, added) ↦ inr (e, HasFault-added (b ∷ x) e full added)
      | inr clean ↦ elim (left_fault (slash ∷ (b ∷ x))) [
        | inl (e, left) ↦ inr (e, HasFault-left (b ∷ x) e full left)
        | inr none ↦ inl (IsName-from_clean (b ∷ x) full clean none)
      ]
    ]

-- a text without a star or a pattern, or a bad pattern
abbrev pub Starred : List ℕ → Type 0
Starred x = ((k : Shape) × HasShape x k) ⊎ ((e : Refusal) × IsBadPattern x e)

starred : (x : List ℕ) → Starred x
starred x = elim (lacks_or_first star x) [
  | inl lacks ↦ inl (Plain, lacks)
  | inr i ↦ elim (lacks_or_first star i.after) [
    | inl lacks ↦
        let y = i.before ++ (letter ∷ i.after) in
        let replaces : ReplacesStar x y =
        record {
          before = i.before;
          after = i.after;
          split =
              record { starred = i.here; first = i.first; last = lacks };
          replaced = refl;
        } in
        elim (name_or_fault y) [
          | inl name ↦ inl (Pattern, record { with_letter = y; replaces = replaces; name = name })
          | inr (e, fault) ↦ inr (ReferenceName e, (y, replaces, fault))
        ]
    | inr j ↦ inr (
      PatternUnsupported x,
      (
        record {
          before = i.before;
          between = j.before;
          after = j.after;
          here = i.here
              ∙ ap (λ z. i.before ++ (star ∷ z)) j.here;
        },
        refl,
      ),
    )
  ]
]

-- a missing side, a name or a pattern, or a bad side
abbrev pub Checked : List ℕ → Type 0
Checked x = ((k : Shape) × HasCheckedShape x k) ⊎ ((e : Refusal) × IsBadSide x e)

checked : (x : List ℕ) → Checked x
checked [] = inl (Plain, tt)
checked (b ∷ x) = elim (starred (b ∷ x)) [
  | inl (Plain, lacks) ↦ elim (name_or_fault (b ∷ x)) [
    | inl name ↦ inl (Plain, name)
    | inr (e, fault) ↦
        inr (ReferenceName e, ((λ same. cc), inl (lacks, fault)))
  ]
  | inl (Pattern, pattern) ↦ inl (Pattern, pattern)
  | inr (e, bad) ↦ inr (e, ((λ same. cc), inr bad))
]

decided_side : (j k : Shape) → Decided (j ≡ k)
decided_side j k = grind arith

decided_hash : (x : List ℕ) → Decided (LooksLikeObjectHash x)
decided_hash x =
    decided_by (nat_le 40 (length x) && list_all is_ascii_hexdigit x)
    (λ so. let h = and_parts _ _ so in record {
      long = leb-true 40 _ h.0;
      digits =
          AllPass-from_list_all is_ascii_hexdigit x h.1;
    })
    (λ hash. and_from _ _ (le-leb 40 (length x) hash.long) (list_all-from_AllPass is_ascii_hexdigit x hash.digits))

-- parts are valid, or there is a first reason to refuse them
abbrev pub Settled : Operation → Mode → List ℕ → Option (List ℕ) → Type 0
Settled op m s d = AreFine op m s d ⊎ ((e : Refusal) × IsFirstReason op m s d e)

settled_fetch : (m : Mode) (s : List ℕ) (d : Option (List ℕ)) → IsPositive m → Settled Fetch m s d
settled_fetch m s d pos = elim (checked s) [
  | inr (e, (full, bad)) ↦
      inr (e, reason_at_source Fetch m s d e (fetch_reaches m s d pos) (record { source = full; refusal = bad }))
  | inl (j, source) ↦ elim (checked (unwrap_or d [])) [
    | inr (e, bad) ↦
        inr (
          e,
          reason_at_destination Fetch m s d e (fetch_reaches m s d pos) (fetch_source_fine s d j source)
              (bad_destination d e bad),
        )
    | inl (k, target) ↦
        elim (decided_side j k) [
          | inl same ↦ inl (fine_fetch k refl pos (subst (HasCheckedShape s) same source) target)
          | inr differ ↦ inr (PatternUnbalanced, unbalanced_fetch m s d j k pos source target differ)
        ]
  ]
]

settled_alone : (m : Mode) (s : List ℕ) → IsPositive m → (s ≡ [] → m ≡ Normal → ⊥) → Settled Push m s None
settled_alone m s pos signed = elim (checked s) [
  | inr (e, (full, bad)) ↦
      inr (
        e,
        reason_at_source Push m s None e (push_alone_reaches m s pos signed)
            (record { source = full; refusal = bad }),
      )
  | inl (k, source) ↦ inl (fine_alone k refl pos refl signed source)
]

settled_to : (m : Mode) (s t : List ℕ) → IsPositive m → (s ≢ [] → t ≡ [] → ⊥) → Settled Push m s (Some t)
settled_to m s t pos somewhere = elim (starred s) [
  | inr (e, bad) ↦
      inr (
        e,
        reason_at_source Push m s (Some t) e (push_reaches m s t pos somewhere)
            (record { source = starred_not_empty s (HasStar-bad s e bad); refusal = bad }),
      )
  | inl (j, source) ↦ elim (checked t) [
    | inr (e, bad) ↦ inr (
      e,
      reason_at_destination Push m s (Some t) e (push_reaches m s t pos somewhere)
          (push_source_fine s t j source) (bad_destination (Some t) e bad),
    )
    | inl (k, target) ↦
        let unbalanced = unbalanced_push m s t j k pos somewhere source target in
        elim (decided_side j k) [
          | inl same ↦ inl (fine_push k t refl pos refl somewhere (subst (HasShape s) same source) target)
          | inr differ ↦ inr (PatternUnbalanced, unbalanced differ)
        ]
  ]
]

settled_push : (m : Mode) (s : List ℕ) (d : Option (List ℕ)) → IsPositive m → Settled Push m s d
settled_push Normal [] None pos =
    inr (Empty, inl (record { push = refl; unsigned = refl; no_source = refl; no_colon = refl; refusal = refl }))
settled_push Forced [] None pos = settled_alone Forced [] pos (λ empty normal. cc)
settled_push Negative [] None pos = absurd pos
settled_push m (b ∷ s) None pos = settled_alone m (b ∷ s) pos (λ empty normal. cc)
settled_push m [] (Some t) pos = settled_to m [] t pos (λ full _. full refl)
settled_push m (b ∷ s) (Some []) pos =
    inr (
      PushToEmpty,
      inr (
        (λ e h. let i = h.no_colon in absurd (cc)),
        inr (
          no_negative m (Some []) pos,
          inl (record { push = refl; source = λ empty. cc; nowhere = refl; refusal = refl }),
        ),
      ),
    )
settled_push m (b ∷ s) (Some (c ∷ t)) pos = settled_to m (b ∷ s) (c ∷ t) pos (λ _ empty. cc)

settled : (op : Operation) (m : Mode) (s : List ℕ) (d : Option (List ℕ)) → Settled op m s d
settled op Negative s (Some t) =
    inr (
      NegativeWithDestination,
      inr ((λ e h. let i = h.no_colon in absurd (cc)), inl (record { negative = refl; colon = refl; refusal = refl })),
    )
settled op Negative [] None = inr (NegativeEmpty, reason_against_nothing op [] Plain refl tt)
settled op Negative (b ∷ s) None = elim (checked (b ∷ s)) [
  | inr (e, bad) ↦
      inr (e, reason_at_source op Negative (b ∷ s) None e (negative_reaches op (b ∷ s)) (bad_negative op (b ∷ s) e bad))
  | inl (k, source) ↦
      let full : b ∷ s ≢ [] = λ same. cc in
      elim (decided_hash (b ∷ s)) [
        | inl hash ↦ inr (NegativeObjectHash, reason_against_object op (b ∷ s) k full source hash)
        | inr other ↦
            inl (fine_negative k refl refl full source other)
      ]
]
settled Fetch Normal s d = settled_fetch Normal s d tt
settled Fetch Forced s d = settled_fetch Forced s d tt
settled Push Normal s d = settled_push Normal s d tt
settled Push Forced s d = settled_push Forced s d tt

-- a text has some parts
abbrev Parted : List ℕ → Type 0
Parted text = (m : Mode) × (s : List ℕ) × (d : Option (List ℕ)) × AreParts m s d text

parted_signed : (m : Mode) (text rest : List ℕ) → IsSigned m text rest → Parted text
parted_signed m text rest signed = elim (lacks_or_last colon rest) [
  | inl lacks ↦ (m, rest, None, record { signed = signed; last = lacks })
  | inr (before, after, here, last) ↦
      (m, before, Some after, record { signed = subst (IsSigned m text) here signed; last = last })
]

pub parted : (text : List ℕ) → Parted text
parted [] = parted_signed Normal [] [] (refl, tt)
parted (b ∷ x) = elim (cases_eq b plus) [
  | inl same ↦ parted_signed Forced (b ∷ x) x (ap (λ c. c ∷ x) same)
  | inr no_plus ↦ elim (cases_eq b caret) [
    | inl same ↦ parted_signed Negative (b ∷ x) x (ap (λ c. c ∷ x) same)
    | inr no_caret ↦ parted_signed Normal (b ∷ x) (b ∷ x) (refl, (no_plus, no_caret))
  ]
]

pub read_or_refused : (op : Operation) (text : List ℕ) → ((r : Reading) × Reads op text r)
    ⊎ ((e : Refusal) × IsRefused op text e)
read_or_refused op text =
    let (m, s, d, parts) = parted text in
    elim (settled op m s d) [
      | inl fine ↦ inl (made op m s d, fine_reads op m s d text fine parts)
      | inr (e, first) ↦
          inr (e, refused op m s d text e parts first)
    ]
