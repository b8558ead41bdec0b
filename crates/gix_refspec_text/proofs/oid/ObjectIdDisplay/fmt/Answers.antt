use Rattle.gix_refspec_text.proofs.Common.{arith, encode_lower, ◌≡◌, IsUtf8}
use Rattle.gix_refspec_text.proofs.lemmas.texts.ObjectIdLemmas.{IsUtf8-lower_of}
use Rattle.gix_refspec_text.proofs.oid.ObjectIdDisplay.fmt.Goals as goal

pub unwrap-requires-2 : goal.unwrap-requires-2
unwrap-requires-2 g c =
    let written : c.encode_to_slice.new.output ≡ encode_lower c.as_slice.result.now =
    rw c.unwrap.ensures at c.encode_to_slice.ensures.written in
    let utf8 : IsUtf8 c.encode_to_slice.new.output = rw written (IsUtf8-lower_of c.as_slice.result.now) in
    let cases = c.from_utf8.ensures.cases in grind arith
