use Rattle.gix_refspec_text.proofs.Common.{replicate, refl, sym, ◌∙◌, MatchBool-at_true, MatchBool-at_false}
use Rattle.gix_refspec_text.proofs.lemmas.texts.ObjectIdLemmas.{read_id}
use Rattle.gix_refspec_text.proofs.oid.ObjectId.from_hex.Goals as goal

pub returns-then-is_err : goal.returns-then-is_err
returns-then-is_err c =
    MatchBool-at_true _ _ (sym c.is_err.ensures.value ∙ c.if-is_err.true)
    (read_id c.in-Some.kind c.args.hex.now (replicate 32 0) c.decode_to_slice.new.out c.len_in_bytes.result
    c.decode_to_slice.result c.len_in_bytes.ensures refl c.in-Some.ensures.some c.decode_to_slice.ensures.value)

pub returns : goal.returns
returns c =
    MatchBool-at_false _ _ (sym c.is_err.ensures.value ∙ c.if-is_err.false)
    (read_id c.in-Some.kind c.args.hex.now (replicate 32 0) c.decode_to_slice.new.out c.len_in_bytes.result
    c.decode_to_slice.result c.len_in_bytes.ensures refl c.in-Some.ensures.some c.decode_to_slice.ensures.value)
