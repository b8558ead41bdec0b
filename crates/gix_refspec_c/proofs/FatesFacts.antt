-- Examples of what a caller gets of fates: their numbers, and what decides them.
use Rattle.std.proofs.Common.{◌≡◌, None, Some, refl}
use Rattle.gix_refspec_why.specs.declared.ExcludedBy.{ExcludedBy}
use Rattle.gix_refspec_why.specs.declared.Fate.TheVariants as fate
use Rattle.gix_refspec_why.specs.declared.Mismatch.TheVariants as mismatch
use Rattle.gix_refspec_c.specs.Fates.{fate_shown}
use Rattle.gix_refspec_c.specs.Mapping.{no_index}

-- a prefix that agrees in four bytes, and a candidate that another name, at the index 2, comes before
pub mismatches : (fate_shown (fate.Unmatched (mismatch.Prefix 4)) ≡ record {
  fate = 1;
  mismatch = 2;
  has_word = 0;
  spec = no_index;
  item = no_index;
  count = 4;
  word_at = 0;
  word_len = 0;
}) × (fate_shown (fate.Unmatched (mismatch.EarlierCandidate 2)) ≡ record {
  fate = 1;
  mismatch = 8;
  has_word = 0;
  spec = no_index;
  item = 2;
  count = 0;
  word_at = 0;
  word_len = 0;
})
mismatches = (refl, refl)

abbrev pub by_pattern : ExcludedBy
by_pattern = record { spec_index = 3; word = Some (record { start = 11; len = 4 }) }

-- a spec at the index 3 excludes a name, with four bytes from the index 11 on for its star
pub excluded_name : fate_shown (fate.Excluded by_pattern) ≡ record {
  fate = 3;
  mismatch = 0;
  has_word = 1;
  spec = 3;
  item = no_index;
  count = 0;
  word_at = 11;
  word_len = 4;
}
excluded_name = refl

-- what an object contests, by the spec at the index 1, has no other name
pub contested_by_object : fate_shown (fate.InConflict (record { spec_index = 1; item_index = None })) ≡ record {
  fate = 7;
  mismatch = 0;
  has_word = 0;
  spec = 1;
  item = no_index;
  count = 0;
  word_at = 0;
  word_len = 0;
}
contested_by_object = refl

-- what is written has no other spec
pub written_ref : (fate_shown fate.Written).spec ≡ no_index
written_ref = refl
