-- The settings that count, and the remotes that have files.
use Rattle.std.proofs.Common.{◌≡◌, ◌∙◌, ◌++◌, ◌∷◌, [], Global, inl, inr, List, String, ap, append_assoc, map, refl}
use Rattle.std.proofs.Common.{subst}
use Rattle.std.proofs.Common.{sym, ℕ}
use Rattle.std.proofs.lemmas.List.{map-append}
use Rattle.std.specs.String.{string_bytes}
use Rattle.refspec_io.specs.declared.settings.Setting.{Setting}
use Rattle.refspec_request.specs.declared.remotes.OldRemote.{OldRemote}
use Rattle.refspec_request.specs.Remotes.{IsIgnored}
use Rattle.refspec_git.specs.Repository.{AreCounted, AreFiles}

-- one more setting that counts
pub counted_more : (all counted : List Setting) (s : Setting) → AreCounted all counted → ¬ (IsIgnored s)
    → AreCounted (all ++ s ∷ []) (counted ++ s ∷ [])
counted_more [] counted s none counts = inr (counts, [], refl, ap (λ l. l ++ s ∷ []) none)
counted_more (x ∷ all) counted s (inl (ignored, are)) counts = inl (ignored, counted_more all counted s are counts)
counted_more (x ∷ all) counted s (inr (own, rest, are, parts)) counts =
    inr (own, rest ++ s ∷ [], counted_more all rest s are counts, ap (λ l. l ++ s ∷ []) parts)

-- one more that is ignored
pub counted_same : (all counted : List Setting) (s : Setting) → AreCounted all counted → IsIgnored s
    → AreCounted (all ++ s ∷ []) counted
counted_same [] counted s none ignored = inl (ignored, none)
counted_same (x ∷ all) counted s (inl (before, are)) ignored = inl (before, counted_same all counted s are ignored)
counted_same (x ∷ all) counted s (inr (own, rest, are, parts)) ignored =
    inr (own, rest, counted_same all rest s are ignored, parts)

-- one more file of a folder
files_more : (folder n : List ℕ) (names : List (List ℕ)) (old : List OldRemote) (o : OldRemote)
    → AreFiles folder names old → o.name.items ≡ n → string_bytes o.folder ≡ folder
    → AreFiles folder (names ++ n ∷ []) (old ++ o ∷ [])
files_more folder n [] old o none named is = (o, [], named, is, refl, ap (λ l. l ++ o ∷ []) none)
files_more folder n (x ∷ names) old o (first, rest, same, here, are, parts) named is =
    (first, rest ++ o ∷ [], same, here, files_more folder n names rest o are named is, ap (λ l. l ++ o ∷ []) parts)

-- the remotes grew by one that has a file in the folder
pub files_grown : (folder : List ℕ) (seen : List (String Global)) (name : String Global)
    (start old new more : List OldRemote) (o : OldRemote) → AreFiles folder (map string_bytes seen) more
    → old ≡ start ++ more → new ≡ old ++ o ∷ [] → o.name.items ≡ string_bytes name → string_bytes o.folder ≡ folder
    → (all : List OldRemote) × AreFiles folder (map string_bytes (seen ++ name ∷ [])) all × (new ≡ start ++ all)
files_grown folder seen name start old new more o are before grown named is = (
  more ++ o ∷ [],
  subst (λ (l : List (List ℕ)). AreFiles folder l (more ++ o ∷ [])) (sym (map-append string_bytes seen (name ∷ [])))
      (files_more folder (string_bytes name) (map string_bytes seen) more o are named is),
  grown ∙ (ap (λ l. l ++ o ∷ []) before ∙ append_assoc start more (o ∷ [])),
)
