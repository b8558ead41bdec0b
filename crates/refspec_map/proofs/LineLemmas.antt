-- The forms of lines: the first space determines the id and the rest of a line.
use Rattle.std.proofs.Common.{◌≡◌, ◌≢◌, inl, inr, ℕ, Option, None, Some, List, ◌∷◌, ◌++◌, get_or, codes, sym, ap, ◌∙◌}
use Rattle.std.proofs.Common.{subst, refl, arith}
use Rattle.std.proofs.lemmas.List.{append_cancel_left}
use Rattle.gix_refspec_text.specs.declared.oid.Error.{Error as IdError}
use Rattle.gix_refspec.specs.Texts.Words.{Lacks}
use Rattle.gix_refspec.specs.Texts.ObjectId.{IsIdText, HasIdFault}
use Rattle.gix_refspec.specs.Laws.Readings.{IdOrFault}
use Rattle.gix_refspec.specs.Matching.Match.{Ref}
use Rattle.refspec_map.specs.Line.{space, IsIdThen, IsRefLine, IsTagLine, spec, item, IsMalformed}
use Rattle.refspec_map.specs.Parsed.{IsReadAs, IsSeenAs}
use Rattle.gix_refspec_text.proofs.lemmas.lists.LacksLemmas.{first_once, Lacks-here}

-- a text that is split at its first space has no other id before it, and no other rest after it
pub IsIdThen-split : (text word rest id after : List ℕ) → text ≡ word ++ (space ∷ rest) → Lacks space word
    → IsIdThen text id after → IsIdText word id × (rest ≡ after)
IsIdThen-split text word rest id after here ends is =
    let same = first_once space word is.word rest after ends is.ends (sym here ∙ is.here) in
    (subst (λ w. IsIdText w id) (sym same.0) is.spelled, same.1)

-- a text without a space doesn't begin with an id and a space
pub no_IsIdThen : (text : List ℕ) → Lacks space text → (id rest : List ℕ) → ¬ (IsIdThen text id rest)
no_IsIdThen text lacks id rest is = Lacks-here space is.word rest (subst (Lacks space) is.here lacks)

-- a text with a fault doesn't spell an id
pub unspelled : (t : List ℕ) (e : IdError) → IdOrFault t → HasIdFault t e → (i : List ℕ) → ¬ (IsIdText t i)
unspelled t e (inl one) fault i is = one.sound e fault
unspelled t e (inr one) fault i is = one.unread i is

-- if the first word doesn't spell an id, the text doesn't begin with an id and a space
pub no_IsIdThen-word : (text word rest : List ℕ) → text ≡ word ++ (space ∷ rest) → Lacks space word
    → ((id : List ℕ) → ¬ (IsIdText word id)) → (id after : List ℕ) → ¬ (IsIdThen text id after)
no_IsIdThen-word text word rest here ends none id after is =
    none id (IsIdThen-split text word rest id after here ends is).0

-- what follows the id is one
IsIdThen-once : (text id after other_id other : List ℕ) → IsIdThen text id after → IsIdThen text other_id other
    → after ≡ other
IsIdThen-once text id after other_id other is also =
    (IsIdThen-split text is.word after other_id other is.here is.ends also).1

-- a ref is seen with the ids that were read as its own
pub ref_seen : {A : Type 0} (blank : Option A) (n id made : List ℕ) → IsReadAs blank id made
    → IsSeenAs blank (record { name = n; target = id; object = None })
    (record { name = n; target = made; object = None })
ref_seen None n id made same = ap (λ t. record { name = n; target = t; object = None }) same
ref_seen (Some blank) n id made same = refl

pub tag_seen : {A : Type 0} (blank : Option A) (n id made tagged also : List ℕ) → IsReadAs blank id made
    → IsReadAs blank tagged also → IsSeenAs blank (record { name = n; target = id; object = Some tagged })
    (record { name = n; target = made; object = Some also })
tag_seen None n id made tagged also same both = ap (λ t. record { name = n; target = t; object = Some also }) same
    ∙ ap (λ o. record { name = n; target = id; object = Some o }) both
tag_seen (Some blank) n id made tagged also same both = refl

-- a line without the keyword `ref`, or without an id after it, isn't the line of a ref
pub no_ref_keyword : (line : List ℕ) → ((rest : List ℕ) → line ≢ codes "ref " ++ rest) → (r : Ref)
    → ¬ (IsRefLine line r)
no_ref_keyword line none r is = none is.words is.here

pub no_ref_id : (line words : List ℕ) → line ≡ codes "ref " ++ words → ((id rest : List ℕ) → ¬ (IsIdThen words id rest))
    → (r : Ref) → ¬ (IsRefLine line r)
no_ref_id line words here none r is =
    let same : is.words ≡ words = append_cancel_left (codes "ref ") is.words words (sym is.here ∙ here) in
    none r.target r.name (subst (λ w. IsIdThen w r.target r.name) same is.target)

-- a line without the keyword `tag`, or without two ids after it, isn't the line of a tag
pub no_tag_keyword : (line : List ℕ) → ((rest : List ℕ) → line ≢ codes "tag " ++ rest) → (r : Ref)
    → ¬ (IsTagLine line r)
no_tag_keyword line none r is = none is.words is.here

pub no_tag_id : (line words : List ℕ) → line ≡ codes "tag " ++ words → ((id rest : List ℕ) → ¬ (IsIdThen words id rest))
    → (r : Ref) → ¬ (IsTagLine line r)
no_tag_id line words here none r is =
    let same : is.words ≡ words = append_cancel_left (codes "tag ") is.words words (sym is.here ∙ here) in
    none r.target is.rest (subst (λ w. IsIdThen w r.target is.rest) same is.target)

pub no_tagged_id : (line words id rest : List ℕ) → line ≡ codes "tag " ++ words → IsIdThen words id rest
    → ((i after : List ℕ) → ¬ (IsIdThen rest i after)) → (r : Ref) → ¬ (IsTagLine line r)
no_tagged_id line words id rest here target none r is =
    let same : is.words ≡ words = append_cancel_left (codes "tag ") is.words words (sym is.here ∙ here) in
    let both : is.rest ≡ rest = IsIdThen-once words r.target is.rest id rest
    (subst (λ w. IsIdThen w r.target is.rest) same is.target) target in
    none is.id r.name (subst (λ w. IsIdThen w is.id r.name) both is.tagged)

-- a line that is neither a spec nor a ref nor a tag is malformed
pub malformed : (line : List ℕ) → ((text : List ℕ) → line ≢ codes "spec " ++ text) → ((r : Ref) → ¬ (IsRefLine line r))
    → ((r : Ref) → ¬ (IsTagLine line r)) → IsMalformed line
malformed line no_spec no_ref no_tag (spec text) is = no_spec text is
malformed line no_spec no_ref no_tag (item r) (inl is) = no_ref r is
malformed line no_spec no_ref no_tag (item r) (inr is) = no_tag r is

-- a line with the keyword `ref`, and without an id after it, is malformed
pub malformed_ref : (line words : List ℕ) → line ≡ codes "ref " ++ words
    → ((id rest : List ℕ) → ¬ (IsIdThen words id rest)) → IsMalformed line
malformed_ref line words here none =
    malformed line
    (λ text is. let first : 114 ≡ 115 = ap (λ l. get_or l 0 0) (sym here ∙ is) in omega (arith, first))
    (no_ref_id line words here none)
    (λ r is. let first : 114 ≡ 116 = ap (λ l. get_or l 0 0) (sym here ∙ is.here) in omega (arith, first))

-- and so is a line with the keyword `tag` that isn't the line of a tag
pub malformed_tag : (line words : List ℕ) → line ≡ codes "tag " ++ words → ((r : Ref) → ¬ (IsTagLine line r))
    → IsMalformed line
malformed_tag line words here none =
    malformed line
    (λ text is. let first : 116 ≡ 115 = ap (λ l. get_or l 0 0) (sym here ∙ is) in omega (arith, first))
    (λ r is. let first : 116 ≡ 114 = ap (λ l. get_or l 0 0) (sym here ∙ is.here) in omega (arith, first))
    none
