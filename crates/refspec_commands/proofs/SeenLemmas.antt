-- Texts by their keys, and groups of them.
use Rattle.std.proofs.Common.{arith, ◌≡◌, ◌⊎◌, ℕ, suc, Bool, true, false, cond, List, [], ◌∷◌, ◌++◌, Option, Some, None}
use Rattle.std.proofs.Common.{MatchBool, inl, inr, length, map, option_to_list, append-nil, append_assoc, refl, sym, ap}
use Rattle.std.proofs.Common.{◌∙◌, subst, Vec, Global}
use Rattle.std.proofs.lemmas.List.{length-map, map-append}
use Rattle.std.specs.List.{AllZip}
use Rattle.std.specs.Str.{bytes_eq}
use Rattle.gix_refspec_text.specs.declared.parsing.Error.{Error}
use Rattle.gix_refspec_text.specs.declared.spec.RefSpecRef.{RefSpecRef}
use Rattle.gix_refspec_text.specs.Specs.Reading.{Reading}
use Rattle.gix_refspec_text.specs.Views.Spec.{reading_of}
use Rattle.refspec_io.specs.declared.checked.Checked.{Checked}
use Rattle.refspec_io.specs.declared.checked.Checked.TheVariants as checked
use Rattle.refspec_io.specs.declared.texts.Text.{Text}
use Rattle.refspec_io.specs.Read.{IsChecked}
use Rattle.refspec_io.specs.Texts.{given_of}
use Rattle.refspec_commands.specs.declared.warnings.group.Group.{Group}
use Rattle.refspec_commands.specs.Seen.{AreAllRead, HasUnread, IsSeen, Seen, key_of, of_key}
use Rattle.refspec_commands.specs.WarnedViews.{IsGroup, SpecsMatchTexts, good_readings, good_texts, seen_of, text_if}

-- what was checked was seen
pub IsSeen-of : (texts : List Text) (all : List Checked) → AllZip IsChecked texts all
    → AllZip IsSeen (map given_of texts) (map seen_of all)
IsSeen-of [] [] is = tt
IsSeen-of [] (c ∷ all) is = absurd is
IsSeen-of (t ∷ texts) [] is = absurd is
IsSeen-of (t ∷ texts) (checked.Good text spec ∷ all) is = (
  record {
    same = ap given_of is.0.0;
    read = is.0.1;
  },
  IsSeen-of texts all is.1,
)
IsSeen-of (t ∷ texts) (checked.Bad text error ∷ all) is = (
  record {
    same = ap given_of is.0.0;
    read = (is.0.1.0, is.0.1.2);
  },
  IsSeen-of texts all is.1,
)

-- ---- groups

-- texts and readings of more
pub good_texts-append : (xs ys : List Seen) → good_texts (xs ++ ys) ≡ good_texts xs ++ good_texts ys
good_texts-append [] ys = refl
good_texts-append (x ∷ xs) ys = ap (λ l. text_if x.text x.reading ++ l) (good_texts-append xs ys)
    ∙ sym (append_assoc (text_if x.text x.reading) (good_texts xs) (good_texts ys))

pub good_readings-append : (xs ys : List Seen) → good_readings (xs ++ ys) ≡ good_readings xs ++ good_readings ys
good_readings-append [] ys = refl
good_readings-append (x ∷ xs) ys = ap (λ l. option_to_list x.reading ++ l) (good_readings-append xs ys)
    ∙ sym (append_assoc (option_to_list x.reading) (good_readings xs) (good_readings ys))

HasUnread-append : (xs ys : List Seen) → HasUnread (xs ++ ys) → HasUnread xs ⊎ HasUnread ys
HasUnread-append [] ys has = inr has
HasUnread-append (x ∷ xs) ys (inl here) = inl (inl here)
HasUnread-append (x ∷ xs) ys (inr more) = elim (HasUnread-append xs ys more) [ inl a ↦ inl (inr a) | inr b ↦ inr b ]

HasUnread-left : (xs ys : List Seen) → HasUnread xs → HasUnread (xs ++ ys)
HasUnread-left [] ys has = elim has [ ]
HasUnread-left (x ∷ xs) ys (inl here) = inl here
HasUnread-left (x ∷ xs) ys (inr more) = inr (HasUnread-left xs ys more)

HasUnread-right : (xs ys : List Seen) → HasUnread ys → HasUnread (xs ++ ys)
HasUnread-right [] ys has = has
HasUnread-right (x ∷ xs) ys has = inr (HasUnread-right xs ys has)

-- where no text is refused, all have readings, and texts
pub all_read : (seen : List Seen) → ¬ (HasUnread seen)
    → AreAllRead seen (good_readings seen) × (good_texts seen ≡ map (λ s. s.text) seen)
all_read [] none = (tt, refl)
all_read (s ∷ seen) none = step s.reading refl (all_read seen (λ has. none (inr has)))
  where
    step : (r : Option Reading) → s.reading ≡ r
        → AreAllRead seen (good_readings seen) × (good_texts seen ≡ map (λ s. s.text) seen)
        → AreAllRead (s ∷ seen) (good_readings (s ∷ seen)) × (good_texts (s ∷ seen) ≡ map (λ s. s.text) (s ∷ seen))
    step None is more = absurd (none (inl is))
    step (Some r) is more =
        subst (λ (o : Option Reading). AreAllRead (s ∷ seen) (option_to_list o ++ good_readings seen)
        × (text_if s.text o ++ good_texts seen ≡ map (λ s. s.text) (s ∷ seen))) (sym is)
        ((is, more.0), ap (λ l. s.text ∷ l) more.1)

-- each text that is a spec has a reading
pub same_lengths : (seen : List Seen) → length (good_readings seen) ≡ length (good_texts seen)
same_lengths [] = refl
same_lengths (s ∷ seen) = step s.reading (same_lengths seen)
  where
    step : (r : Option Reading) → length (good_readings seen) ≡ length (good_texts seen)
        → length (option_to_list r ++ good_readings seen) ≡ length (text_if s.text r ++ good_texts seen)
    step None same = same
    step (Some r) same = ap suc same

-- a group of one more text
pub IsGroup-good : (seen : List Seen) (old new : Group) (text : Text) (spec : RefSpecRef) → IsGroup seen old
    → new.texts.items ≡ old.texts.items ++ text ∷ [] → new.specs.items ≡ old.specs.items ++ spec ∷ []
    → new.has_bad ≡ old.has_bad → IsGroup (seen ++ seen_of (checked.Good text spec) ∷ []) new
IsGroup-good seen old new text spec is texts specs bad = record {
  texts = ap (map given_of) texts ∙ (map-append given_of old.texts.items (text ∷ [])
      ∙ (ap (λ l. l ++ given_of text ∷ []) is.texts
      ∙ sym (good_texts-append seen (seen_of (checked.Good text spec) ∷ []))));
  specs = ap (map reading_of) specs ∙ (map-append reading_of old.specs.items (spec ∷ [])
      ∙ (ap (λ l. l ++ reading_of spec ∷ []) is.specs
      ∙ sym (good_readings-append seen (seen_of (checked.Good text spec) ∷ []))));
  bad = rw bad (by old.has_bad is.bad);
}
  where
    more : List Seen
    more = seen ++ seen_of (checked.Good text spec) ∷ []

    by : (b : Bool) → MatchBool b (HasUnread seen) (¬ (HasUnread seen))
        → MatchBool b (HasUnread more) (¬ (HasUnread more))
    by true has = HasUnread-left seen _ has
    by false none = λ has. elim (HasUnread-append seen (seen_of (checked.Good text spec) ∷ []) has)
        [ inl before ↦ none before | inr here ↦ read here ]
      where
        read : HasUnread (seen_of (checked.Good text spec) ∷ []) → ⊥
        read (inl is) = omega (arith, ap (λ (o : Option Reading). length (option_to_list o)) is)
        read (inr more) = more

pub IsGroup-bad : (seen : List Seen) (old new : Group) (text : Text) (error : Error) → IsGroup seen old
    → new.texts ≡ old.texts → new.specs ≡ old.specs → new.has_bad ≡ true
    → IsGroup (seen ++ seen_of (checked.Bad text error) ∷ []) new
IsGroup-bad seen old new text error is texts specs bad = record {
  texts = ap (λ (v : Vec Text Global). map given_of v.items) texts ∙ (is.texts ∙ (sym (append-nil (good_texts seen))
      ∙ sym (good_texts-append seen (seen_of (checked.Bad text error) ∷ []))));
  specs = ap (λ (v : Vec RefSpecRef Global). map reading_of v.items) specs ∙ (is.specs
      ∙ (sym (append-nil (good_readings seen))
      ∙ sym (good_readings-append seen (seen_of (checked.Bad text error) ∷ []))));
  bad = rw bad (HasUnread-right seen (seen_of (checked.Bad text error) ∷ []) (inl refl));
}

-- the readings and the texts of a group without refused texts
pub good_group : (seen : List Seen) (group : Group) → IsGroup seen group → group.has_bad ≡ false
    → AreAllRead seen (map reading_of group.specs.items) × (map given_of group.texts.items ≡ map (λ s. s.text) seen)
good_group seen group is none =
    let read = all_read seen (rw none at is.bad) in
    (subst (AreAllRead seen) (sym is.specs) read.0, is.texts ∙ read.1)

pub matching_group : (seen : List Seen) (group : Group) → IsGroup seen group → SpecsMatchTexts group
matching_group seen group is =
    sym (length-map group.specs.items reading_of) ∙ (ap length is.specs ∙ (same_lengths seen
    ∙ (ap length (sym is.texts) ∙ length-map group.texts.items given_of)))

-- ---- keys

-- the texts of a key among more
pub of_key-more : (key : List ℕ) (seen : List Seen) (s : Seen)
    → of_key key (seen ++ s ∷ []) ≡ of_key key seen ++ cond (bytes_eq key (key_of s)) (s ∷ []) []
of_key-more key [] s = refl
of_key-more key (x ∷ seen) s = step (bytes_eq key (key_of x)) (of_key-more key seen s)
  where
    behind : List Seen
    behind = cond (bytes_eq key (key_of s)) (s ∷ []) []

    step : (b : Bool) → of_key key (seen ++ s ∷ []) ≡ of_key key seen ++ behind
        → cond b (x ∷ of_key key (seen ++ s ∷ [])) (of_key key (seen ++ s ∷ []))
        ≡ cond b (x ∷ of_key key seen) (of_key key seen) ++ behind
    step true more = ap (λ l. x ∷ l) more
    step false more = more
