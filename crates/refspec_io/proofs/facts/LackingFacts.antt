-- Which inputs are settings, those of two inputs, and whether a key of refspecs lacks its value.
use Rattle.std.proofs.Common.{◌≡◌, ℕ, List, [], ◌∷◌, ◌++◌, None, inl, inr, codes, get_or, length, length-append, refl}
use Rattle.std.proofs.Common.{ap, subst, arith}
use Rattle.gix_refspec_text.proofs.facts.ManualFacts.{Lacks-tested}
use Rattle.refspec_io.specs.declared.call.Terminator.TheVariants as ends
use Rattle.refspec_io.specs.declared.settings.Setting.{Setting}
use Rattle.refspec_io.specs.Input.{AreRecords}
use Rattle.refspec_io.specs.Settings.{ArePairs, AreSettings, AreSettingsOf, HasLacking}
use Rattle.refspec_io.proofs.facts.InputFacts.{records_once}
use Rattle.refspec_io.proofs.facts.SettingFacts.{alone, lent, values, whole}

-- the records of a setting, each ended by a zero byte
abbrev pub input_alone : List ℕ
input_alone = codes "file:c" ++ (0 ∷ codes "remote.o.fetch" ++ (0 ∷ []))

abbrev pub input_whole : List ℕ
input_whole = codes "file:c" ++ (0 ∷ codes "remote.o.push\n:" ++ (0 ∷ []))

abbrev records_alone : List (List ℕ)
records_alone = codes "file:c" ∷ codes "remote.o.fetch" ∷ []

split_alone : AreRecords 0 records_alone input_alone
split_alone = (
  Lacks-tested 0 (codes "file:c") refl,
  inl (
    codes "remote.o.fetch" ++ (0 ∷ []),
    refl,
    (Lacks-tested 0 (codes "remote.o.fetch") refl, inl ([], refl, refl)),
  ),
)

split_whole : AreRecords 0 (codes "file:c" ∷ codes "remote.o.push\n:" ∷ []) input_whole
split_whole = (
  Lacks-tested 0 (codes "file:c") refl,
  inl (
    codes "remote.o.push\n:" ++ (0 ∷ []),
    refl,
    (Lacks-tested 0 (codes "remote.o.push\n:") refl, inl ([], refl, refl)),
  ),
)

pair_alone : ArePairs records_alone (alone ∷ [])
pair_alone = (
  alone,
  [],
  record {
    from = inl (record { after = codes "c"; here = refl });
    is_origin = refl;
    key = Lacks-tested 10 (codes "remote.o.fetch") refl;
    value = refl;
  },
  refl,
  refl,
)

pair_whole : ArePairs (codes "file:c" ∷ codes "remote.o.push\n:" ∷ []) (whole ∷ [])
pair_whole = (
  whole,
  [],
  record {
    from = inl (record { after = codes "c"; here = refl });
    is_origin = refl;
    key = Lacks-tested 10 (codes "remote.o.push") refl;
    value = refl;
  },
  refl,
  refl,
)

read_alone : AreSettings input_alone (alone ∷ [])
read_alone = (records_alone, split_alone, pair_alone)

-- two records are a setting, and an empty input has none
pub read : AreSettings input_alone (alone ∷ []) × AreSettings input_whole (whole ∷ []) × AreSettings [] []
read = (read_alone, (codes "file:c" ∷ codes "remote.o.push\n:" ∷ [], split_whole, pair_whole), ([], refl, refl))

not_none : ¬ (AreSettings input_alone [])
not_none (records, split, are) =
    let (
      s,
      more,
      is,
      rest,
      same,
    ) = subst (λ (l : List (List ℕ)). ArePairs l [])
    (records_once 0 records records_alone input_alone split split_alone) are in
    omega (arith, ap length same)

-- a setting isn't lost, and an origin alone is none; nor do newlines end records
pub not_read : ¬ (AreSettings input_alone []) × ¬ (AreSettings [] (alone ∷ []))
    × ((settings : List Setting) → ¬ (AreSettings (codes "file:c" ++ (0 ∷ [])) settings))
    × ((settings : List Setting) → ¬ (AreSettings (codes "file:c\nremote.o.fetch\n") settings))
not_read = (
  not_none,
  (λ is. let (records, split, are) = is in omega (
    arith,
    ap length (subst (λ (l : List (List ℕ)). ArePairs l (alone ∷ [])) (records_once 0 records [] [] split refl) are),
  )),
  (λ settings is. left_over (codes "file:c") (codes "file:c" ++ (0 ∷ [])) (
    Lacks-tested 0 (codes "file:c") refl,
    inl ([], refl, refl),
  ) settings is),
  λ settings is. left_over (codes "file:c\nremote.o.fetch\n") (codes "file:c\nremote.o.fetch\n") (
    Lacks-tested 0 (codes "file:c\nremote.o.fetch\n") refl,
    inr ((λ none. omega (arith, ap length none)), refl, refl),
  ) settings is,
)
  where
    left_over : (record_ input : List ℕ) → AreRecords 0 (record_ ∷ []) input → (settings : List Setting)
        → ¬ (AreSettings input settings)
    left_over record_ input split settings (records, other, are) =
        subst (λ (l : List (List ℕ)). ArePairs l settings) (records_once 0 records (record_ ∷ []) input other split) are

-- the settings of the file are before those of the input; if these aren't settings, there are none
pub both : AreSettingsOf ends.Settings input_alone input_whole (alone ∷ whole ∷ [])
    × AreSettingsOf ends.Settings [] input_alone (alone ∷ [])
    × AreSettingsOf ends.Zero input_alone input_whole [] × AreSettingsOf ends.Newline (codes "a\n") [] []
both = ((alone ∷ [], whole ∷ [], read_alone, read.1, refl), ([], alone ∷ [], read.2, read_alone, refl), refl, refl)

-- those of neither input are lost, and other records have no settings
pub not_both : ¬ (AreSettingsOf ends.Settings [] input_alone []) × ¬ (AreSettingsOf ends.Settings input_alone [] [])
    × ¬ (AreSettingsOf ends.Zero input_alone [] (alone ∷ []))
    × ¬ (AreSettingsOf ends.Newline [] input_alone (alone ∷ []))
not_both = (
  (λ is. lost is.1 is.3 (omega (arith, ap length is.4, length-append is.0 is.1))),
  (λ is. lost is.0 is.2 (omega (arith, ap length is.4, length-append is.0 is.1))),
  (λ none. omega (arith, ap length none)),
  λ none. omega (arith, ap length none),
)
  where
    lost : (settings : List Setting) → AreSettings input_alone settings → ¬ (length settings ≡ 0)
    lost [] are none = not_none are
    lost (s ∷ settings) are none = omega (arith, none)

-- a key of refspecs with a value, and another key without one
abbrev name_alone : Setting
name_alone = record { origin = lent (codes "file:c"); key = lent (codes "user.name"); value = None }

-- one key of refspecs without a value is enough
pub lacking : HasLacking (alone ∷ []) × HasLacking (whole ∷ alone ∷ [])
lacking = (inl values.0, inr (inl values.0))

pub not_lacking : ¬ (HasLacking (whole ∷ name_alone ∷ [])) × ¬ (HasLacking [])
not_lacking = (no, λ none. none)
  where
    no : ¬ (HasLacking (whole ∷ name_alone ∷ []))
    no (inl (op, holds, none)) = cc
    no (inr (inl (op, (name, key), none))) = omega (arith, ap (λ (l : List ℕ). get_or l 0 0) key)
    no (inr (inr none)) = none
