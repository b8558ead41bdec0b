-- What each spec of a fetch does with one ref as a caller receives it, by the definition of gix_refspec_why. The
-- numbers are this project's own, and are those of include/gix_refspec.h.
use Rattle.std.specs.Prelude.{◌≡◌, ◌⊎◌, ◌<◌, ◌≤◌, ◌++◌, ℕ, List, Option, None, Some, length, drop, map}
use Rattle.std.specs.List.{AllZip}
use Rattle.gix_refspec_text.specs.declared.parsing.Operation.TheVariants.{Fetch}
use Rattle.gix_refspec.specs.Specs.Reading.{Reading}
use Rattle.gix_refspec.specs.Specs.Grammar.{Reads}
use Rattle.gix_refspec_why.specs.declared.Fate.{Fate}
use Rattle.gix_refspec_why.specs.declared.Fate.TheVariants as fate
use Rattle.gix_refspec_why.specs.declared.Mismatch.{Mismatch}
use Rattle.gix_refspec_why.specs.declared.Mismatch.TheVariants as mismatch
use Rattle.gix_refspec_why.specs.declared.Rival.{Rival}
use Rattle.gix_refspec_why.specs.declared.StarWord.{StarWord}
use Rattle.gix_refspec_why.specs.Matching.Why.{Effect, IsExplained}
use Rattle.gix_refspec_c.specs.declared.failure.Failure.{Failure}
use Rattle.gix_refspec_c.specs.declared.failure.Failure.TheVariants as failure
use Rattle.gix_refspec_c.specs.declared.fates.EffectListing.{EffectListing}
use Rattle.gix_refspec_c.specs.declared.fates.EffectOut.{EffectOut}
use Rattle.gix_refspec_c.specs.declared.fates.FateNumbers.{FateNumbers}
use Rattle.gix_refspec_c.specs.Layout.{AreLaidOut}
use Rattle.gix_refspec_c.specs.Mapping.{destination_text, destinations, no_index, number_of_index}
use Rattle.gix_refspec_c.specs.Matching.{nameless}

-- what is shown of a fate: its number and that of a mismatch, or 0; whether a star stands for a word; the indexes of
-- another spec and another name, or `no_index`; how many bytes agree; and the word, by its index in the name and its
-- length
pub record FateShown : Type 0 where
  pub fate : ℕ
  pub mismatch : ℕ
  pub has_word : ℕ
  pub spec : ℕ
  pub item : ℕ
  pub count : ℕ
  pub word_at : ℕ
  pub word_len : ℕ

-- a fate with another spec, or with none
abbrev pub shown_by : ℕ → ℕ → FateShown
shown_by n spec = record {
  fate = n;
  mismatch = 0;
  has_word = 0;
  spec = spec;
  item = no_index;
  count = 0;
  word_at = 0;
  word_len = 0;
}

-- an exclusion, by a name or by a pattern with a word for its star
abbrev pub shown_with : ℕ → ℕ → Option StarWord → FateShown
shown_with n spec None = shown_by n spec
shown_with n spec (Some word) = record {
  fate = n;
  mismatch = 0;
  has_word = 1;
  spec = spec;
  item = no_index;
  count = 0;
  word_at = word.start;
  word_len = word.len;
}

-- a conflict with another mapping
abbrev pub shown_beside : ℕ → Rival → FateShown
shown_beside n rival = record {
  fate = n;
  mismatch = 0;
  has_word = 0;
  spec = rival.spec_index;
  item = number_of_index rival.item_index;
  count = 0;
  word_at = 0;
  word_len = 0;
}

-- the mismatch with this number, and with another name or agreeing bytes
abbrev pub shown_unmatched : ℕ → ℕ → ℕ → FateShown
shown_unmatched n item count = record {
  fate = 1;
  mismatch = n;
  has_word = 0;
  spec = no_index;
  item = item;
  count = count;
  word_at = 0;
  word_len = 0;
}

-- what is shown of a mismatch
abbrev pub mismatch_shown : Mismatch → FateShown
mismatch_shown mismatch.NoSource = shown_unmatched 1 no_index 0
mismatch_shown (mismatch.Prefix count) = shown_unmatched 2 no_index count
mismatch_shown (mismatch.Suffix count) = shown_unmatched 3 no_index count
mismatch_shown mismatch.Overlap = shown_unmatched 4 no_index 0
mismatch_shown mismatch.OtherName = shown_unmatched 5 no_index 0
mismatch_shown mismatch.Object = shown_unmatched 6 no_index 0
mismatch_shown mismatch.NoCandidate = shown_unmatched 7 no_index 0
mismatch_shown (mismatch.EarlierCandidate index) = shown_unmatched 8 index 0

-- what is shown of a fate
abbrev pub fate_shown : Fate → FateShown
fate_shown (fate.Unmatched m) = mismatch_shown m
fate_shown (fate.Excludes word) = shown_with 2 no_index word
fate_shown (fate.Excluded by) = shown_with 3 by.spec_index by.word
fate_shown fate.InvalidName = shown_by 4 no_index
fate_shown fate.InvalidDestination = shown_by 5 no_index
fate_shown (fate.Duplicate index) = shown_by 6 index
fate_shown (fate.InConflict rival) = shown_beside 7 rival
fate_shown (fate.DirectoryConflict rival) = shown_beside 8 rival
fate_shown fate.Written = shown_by 9 no_index

-- the same, as the program has it
abbrev pub numbers_in : FateNumbers → FateShown
numbers_in n = record {
  fate = n.fate;
  mismatch = n.mismatch;
  has_word = n.has_word;
  spec = n.spec;
  item = n.item;
  count = n.count;
  word_at = n.word_at;
  word_len = n.word_len;
}

-- the struct of an effect as plain data: what is shown of its fate, whether there is a destination, and where that is
-- in the buffer
pub record EffectDescribed : Type 0 where
  pub shown : FateShown
  pub has_destination : ℕ
  pub made_at : ℕ
  pub made_len : ℕ

-- a struct as plain data
abbrev pub described_by : EffectOut → EffectDescribed
described_by e = record {
  shown = record {
    fate = e.fate;
    mismatch = e.mismatch;
    has_word = e.has_word;
    spec = e.spec;
    item = e.item;
    count = e.count;
    word_at = e.word_at;
    word_len = e.word_len;
  };
  has_destination = e.has_destination;
  made_at = e.made_at;
  made_len = e.made_len;
}

-- the text of an effect: its destination, or empty
abbrev pub effect_text : Effect → List ℕ
effect_text e = destination_text e.destination

-- the struct of an effect whose text begins at this offset of the buffer
abbrev pub described_at : ℕ → Effect → EffectDescribed
described_at at e = record {
  shown = fate_shown e.fate;
  has_destination = destinations e.destination;
  made_at = at;
  made_len = length (effect_text e);
}

-- the structs and the text are those of the effects
abbrev pub ShowEffects : List Effect → List EffectOut → List ℕ → Type 0
ShowEffects es structs text = AreLaidOut effect_text described_at described_by es structs text

-- what is shown of a ref: its index among the refs, or `no_index`, the structs of its effects, and their texts
pub record EffectsShown : Type 0 where
  pub item : ℕ
  pub structs : List EffectOut
  pub text : List ℕ

-- the same, as the program has it
abbrev pub effects_in : EffectListing → EffectsShown
effects_in l = record { item = l.item; structs = l.effects.items; text = l.text.items }

-- the texts are fetches, and this is shown of what they do with the ref of this name, if the remote has refs with those
-- names
pub record AreEffectsIn (texts names : List (List ℕ)) (name : List ℕ) (shown : EffectsShown) : Type 0 where
  pub group : List Reading
  pub read : AllZip (Reads Fetch) texts group
  pub index : Option ℕ
  pub effects : List Effect
  pub explained : IsExplained group (map nameless names) name index effects
  pub item : shown.item ≡ number_of_index index
  pub show : ShowEffects effects shown.structs shown.text

-- what a caller passes for an answer: two slices, an index and a length
pub record EffectsRoom : Type 0 where
  pub effects : List EffectOut
  pub buffer : List ℕ
  pub item : ℕ
  pub len : ℕ

-- the slices of the caller begin with the structs and the text, and are unchanged after them
pub record IsWrittenWhy (shown : EffectsShown) (before after : EffectsRoom) : Type 0 where
  pub fits : length shown.structs ≤ length before.effects
  pub text_fits : length shown.text ≤ length before.buffer
  pub effects : after.effects ≡ shown.structs ++ drop (length shown.structs) before.effects
  pub buffer : after.buffer ≡ shown.text ++ drop (length shown.text) before.buffer
  pub item : after.item ≡ shown.item
  pub len : after.len ≡ length shown.text

-- one of the slices is too small for the structs or for the text. Both are unchanged, and the index and the length are
-- set
pub record IsNotWrittenWhy (shown : EffectsShown) (before after : EffectsRoom) : Type 0 where
  pub small : (length before.effects < length shown.structs) ⊎ (length before.buffer < length shown.text)
  pub effects : after.effects ≡ before.effects
  pub buffer : after.buffer ≡ before.buffer
  pub item : after.item ≡ shown.item
  pub len : after.len ≡ length shown.text

-- why a caller gets no effects: a slice is too small for those of which Is holds; or Why holds of the failure, and all
-- is unchanged
abbrev pub LacksEffects : (EffectsShown → Type 0) → (Failure → Type 0) → EffectsRoom → EffectsRoom → Failure → Type 0
LacksEffects Is Why before after f =
    ((f ≡ failure.TooSmall) × (shown : EffectsShown) × Is shown × IsNotWrittenWhy shown before after)
    ⊎ (Why f × (after ≡ before))
