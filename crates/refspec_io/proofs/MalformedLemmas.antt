-- The report of bad records.
use Rattle.std.proofs.Common.{◌≡◌, ◌≢◌, ◌==◌, ℕ, Bool, true, false, not, MatchBool, List, [], ◌++◌, ap, length, map}
use Rattle.std.proofs.Common.{refl, ◌∙◌}
use Rattle.refspec_json.specs.Objects.{line_of, malformed_object}
use Rattle.refspec_io.specs.declared.call.Form.TheVariants as form
use Rattle.refspec_io.specs.declared.texts.Location.{Location}
use Rattle.refspec_io.specs.Json.{json_text}
use Rattle.refspec_io.specs.Malformed.{WritesMalformed}
use Rattle.refspec_io.specs.Messages.{IsLocation}
use Rattle.refspec_io.proofs.ShownLemmas.{no_names, some_names}

-- the object of a bad record, member by member
pub malformed_line-of : (p : Location) (bytes at text message advice old new : List ℕ) → IsLocation form.Json p at
    → text ≡ json_text bytes → new ≡ old ++ line_of (malformed_object at text message advice)
    → WritesMalformed p bytes old new
malformed_line-of p bytes at text message advice old new is_location is_text write = (
  line_of (malformed_object at (json_text bytes) message advice),
  record { location = at; message = message; is_location = is_location; advice = advice; is = refl },
  write ∙ ap (λ x. old ++ line_of (malformed_object at x message advice)) is_text,
)

-- whether there are any bad records
pub some_records : {A : Type 0} (f : A → List ℕ) (xs : List A) (empty : Bool) → empty ≡ (length xs == 0)
    → MatchBool (not empty) (map f xs ≢ []) (map f xs ≡ [])
some_records f xs true is = no_names f xs is
some_records f xs false is = some_names f xs is
