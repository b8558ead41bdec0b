-- If the line had an id of this kind, its digits would be the first bytes, but these aren't an id.
use Rattle.std.proofs.Common.{◌≡◌, ℕ, List, take, sym, ap, ◌∙◌, subst}
use Rattle.std.proofs.lemmas.Bool.{MatchBool-at_false}
use Rattle.gix_refspec.specs.Texts.ObjectId.{IsIdText, digits_of}
use Rattle.refspec_io.proofs.RefLemmas.{space_at}
use Rattle.refspec_io.proofs.refs.name_after.Goals as goal

pub returns-then-not-is_id-clause-none : goal.returns-then-not-is_id-clause-none
returns-then-not-is_id-clause-none c = λ id name says long.
    let front : c.split_at.result.0.now ≡ says.digits = c.split_at.ensures.front
    ∙ (ap (λ k. take k c.args.line.now) c.len_in_hex-len.ensures
    ∙ (space_at c.args.line.now says.digits name says.space (digits_of c.args.kind) long says.here).2) in
    MatchBool-at_false _ _ c.if-not-is_id.true c.is_id.ensures
    (id, subst (λ (t : List ℕ). IsIdText t id) (sym front) says.spelled)
