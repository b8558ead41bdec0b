-- The lines and the objects on missing sources, in order.
use Rattle.std.proofs.Common.{◌≡◌, ℕ, ◌+◌, ◌<◌, List, [], ◌∷◌, ◌++◌, ap, append_assoc, codes, get_or, length, refl}
use Rattle.std.proofs.Common.{subst, sym, take, ◌∙◌}
use Rattle.std.proofs.lemmas.List.{append-nil, take_more}
use Rattle.gix_refspec_plan.specs.declared.Origin.{Origin}
use Rattle.refspec_io.specs.declared.call.Form.{Form}
use Rattle.refspec_io.specs.declared.call.Form.TheVariants as form
use Rattle.refspec_io.specs.declared.call.Limit.{Limit}
use Rattle.refspec_io.specs.Shown.{Grows, WritesQuoted}
use Rattle.refspec_io.proofs.JsonLemmas.{AddsObjects-item, AddsObjects-one, AddsObjects-start, AreInOrder-append}
use Rattle.refspec_io.proofs.ShownLemmas.{behind}
use Rattle.refspec_fetch.specs.declared.origins.SpecTexts.{SpecTexts}
use Rattle.refspec_fetch.specs.Missing.{AddsLinesOnMissing, AddsMissing, IsMissingObjectOf, IsMissingOf, WritesMissing}
use Rattle.refspec_fetch.specs.Missing.{WritesMissingObject, sentence}
use Rattle.refspec_fetch.specs.Origins.{note_of, text_of}
use Rattle.refspec_fetch.proofs.ConflictLemmas.{six}

-- the parts of the first line
pub WritesMissing-of : (text : List ℕ) (o : Origin) (note said old a b c d e new : List ℕ)
    → a ≡ old ++ codes "missing: " → WritesQuoted text a b → note ≡ note_of o → c ≡ b ++ note → d ≡ c ++ codes ": "
    → said ≡ sentence → e ≡ d ++ said → new ≡ e ++ 10 ∷ [] → WritesMissing text o old new
WritesMissing-of text o note said old a b c d e new is_a write same is_c is_d is_said is_e is_new = (
  codes "missing: " ++ (write.0 ++ (note_of o ++ (codes ": " ++ (sentence ++ (10 ∷ []))))),
  record { shown = write.0; names = []; is_shown = write.1; is = refl },
  six old a b c d e new (codes "missing: ") write.0 (note_of o) (codes ": ") sentence (10 ∷ []) is_a write.2
      (is_c ∙ ap (λ l. b ++ l) same) is_d (is_e ∙ ap (λ l. d ++ l) is_said) is_new,
)

-- more bytes after the lines
pub WritesMissing-then : (text : List ℕ) (o : Origin) (old mid new : List ℕ) → WritesMissing text o old mid
    → Grows mid new → WritesMissing text o old new
WritesMissing-then text o old mid new (lines, is, write) (more, grown) =
    let u = codes "missing: " in
    let v = is.shown in
    let w = note_of o in
    let x = codes ": " in
    let tail = 10 ∷ is.names in (
      u ++ (v ++ (w ++ (x ++ (sentence ++ (10 ∷ (is.names ++ more)))))),
      record { shown = is.shown; names = is.names ++ more; is_shown = is.is_shown; is = refl },
      behind old lines mid more new write grown
          ∙ ap (λ l. old ++ l)
          (ap (λ l. l ++ more) is.is ∙ (append_assoc u (v ++ (w ++ (x ++ (sentence ++ tail)))) more
          ∙ ap (λ l. u ++ l) (append_assoc v (w ++ (x ++ (sentence ++ tail))) more
          ∙ ap (λ l. v ++ l) (append_assoc w (x ++ (sentence ++ tail)) more
          ∙ ap (λ l. w ++ l) (append_assoc x (sentence ++ tail) more
          ∙ ap (λ l. x ++ l) (append_assoc sentence tail more)))))),
    )

-- the object on one spec
pub AddsMissing-object : (limit : Limit) (f : Form) (texts : SpecTexts) (o : Origin)
    (text before after old new : List ℕ)
    → f ≡ form.Json → text ≡ text_of texts o → WritesMissingObject limit text o old new → after ≡ before
    → AddsMissing limit f texts (o ∷ []) before after old new
AddsMissing-object limit f texts o text before after old new is same write kept =
    let (line, object, grown) = subst (λ (t : List ℕ). WritesMissingObject limit t o old new) same write in
    record {
      messages = subst (λ (x : Form). AddsLinesOnMissing x texts (o ∷ []) before after) (sym is) kept;
      objects = AddsObjects-one f (IsMissingObjectOf limit texts) o line old new is object grown;
    }

AddsLinesOnMissing-push : (f g : Form) (texts : SpecTexts) (os : List Origin) (o : Origin) (old mid new : List ℕ)
    → g ≡ f → AddsLinesOnMissing f texts os old mid → AddsLinesOnMissing g texts (o ∷ []) mid new
    → AddsLinesOnMissing f texts (os ++ o ∷ []) old new
AddsLinesOnMissing-push form.Json g texts os o old mid new same a b =
    subst (λ (h : Form). AddsLinesOnMissing h texts (o ∷ []) mid new) same b ∙ a
AddsLinesOnMissing-push form.Lines g texts os o old mid new same a b =
    let (lines, are, write) = subst (λ (h : Form). AddsLinesOnMissing h texts (o ∷ []) mid new) same b in (
      a.0 ++ lines,
      AreInOrder-append (IsMissingOf texts) os (o ∷ []) a.0 lines a.1 are,
      behind old a.0 mid lines new a.2 write,
    )
AddsLinesOnMissing-push form.Zeros g texts os o old mid new same a b =
    let (lines, are, write) = subst (λ (h : Form). AddsLinesOnMissing h texts (o ∷ []) mid new) same b in (
      a.0 ++ lines,
      AreInOrder-append (IsMissingOf texts) os (o ∷ []) a.0 lines a.1 are,
      behind old a.0 mid lines new a.2 write,
    )

pub AddsMissing-start : (limit : Limit) (f : Form) (texts : SpecTexts) (before old : List ℕ)
    → AddsMissing limit f texts [] before before old old
AddsMissing-start limit form.Json texts before old =
    record { messages = refl; objects = AddsObjects-start form.Json (IsMissingObjectOf limit texts) old }
AddsMissing-start limit form.Lines texts before old = record {
  messages = ([], refl, sym (append-nil before));
  objects =
      refl;
}
AddsMissing-start limit form.Zeros texts before old = record {
  messages = ([], refl, sym (append-nil before));
  objects =
      refl;
}

-- one more spec
pub AddsMissing-next : (limit : Limit) (f g : Form) (texts : SpecTexts) (os : List Origin) (i : ℕ) (d : Origin)
    (before after last old mid new : List ℕ) → i < length os → g ≡ f
    → AddsMissing limit f texts (take i os) before after old mid → AddsMissing limit g texts (get_or os i d ∷ []) after
    last
    mid new → AddsMissing limit f texts (take (i + 1) os) before last old new
AddsMissing-next limit f g texts os i d before after last old mid new below same a b = record {
  messages = subst (λ (l : List Origin). AddsLinesOnMissing f texts l before last) (sym (take_more os i d below))
      (AddsLinesOnMissing-push f g texts (take i os) (get_or os i d) before after last same a.messages b.messages);
  objects = AddsObjects-item f g (IsMissingObjectOf limit texts) os i d old mid new below same a.objects b.objects;
}
