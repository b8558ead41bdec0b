-- The objects of bad records.
use Rattle.std.proofs.Common.{ℕ, false, List, Bor, inl, ap, arith, codes, length, refl}
use Rattle.std.specs.Fmt.{digits}
use Rattle.std.specs.Str.{chars, is_utf8}
use Rattle.refspec_json.specs.Objects.{line_of, malformed_object}
use Rattle.refspec_io.specs.declared.refs.BadRecord.{BadRecord}
use Rattle.refspec_io.specs.declared.texts.Location.TheVariants as location
use Rattle.refspec_io.specs.Malformed.{IsBadLine, IsRecordOf}

abbrev text : List ℕ → Bor (List ℕ)
text bytes = record { ref_ptr = (0, 0); now = bytes }

-- the record of this input with this number, and not another one or an argument
pub records : IsRecordOf (codes "-") 7 (location.Record (text (codes "-")) 7)
    × ¬ (IsRecordOf (codes "-") 7 (location.Record (text (codes "-")) 8))
    × ¬ (IsRecordOf (codes "refs") 7 (location.Record (text (codes "-")) 7))
    × ¬ (IsRecordOf (codes "-") 7 (location.Argument 7))
records = ((refl, refl), (λ is. omega (arith, is.1)), (λ is. omega (arith, ap length is.0)), (λ is. is))

abbrev bad : BadRecord
bad = record { number = 7; bytes = text (codes "abc"); is_peeled = false }

-- the location and the text; the sentence and the advice are left open
pub line : IsBadLine (codes "-") bad (line_of (malformed_object (codes "-:7") (codes "abc") (codes "m") (codes "d")))
unfolding digits is_utf8 chars lib.Utf8.encode
line = (
  location.Record (text (codes "-")) 7,
  (refl, refl),
  record {
    location = codes "-:7";
    message = codes "m";
    is_location =
        (codes "-", (inl refl, (codes "-", (refl, refl))), refl);
    advice = codes "d";
    is = refl;
  },
)
