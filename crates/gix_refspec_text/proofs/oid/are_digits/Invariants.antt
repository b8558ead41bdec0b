use Rattle.gix_refspec_text.proofs.Common.{is_hex_digit, ◌≡◌, take, list_all}
use Rattle.gix_refspec_text.proofs.oid.are_digits.Given as goal

abbrev pub invariant-loop-byte : goal.invariant-loop-byte
invariant-loop-byte l = l.all ≡ list_all is_hex_digit (take l.byte-index l.text)
