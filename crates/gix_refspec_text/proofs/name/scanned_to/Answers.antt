use Rattle.gix_refspec_text.proofs.Common.{◌≡◌, ◌∷◌, take, arith, common_steps, slash, inl}
use Rattle.gix_refspec_text.proofs.lemmas.texts.LetterLemmas.{second_star, scanned_other, scanned_star}
use Rattle.gix_refspec_text.proofs.lemmas.texts.LetterLemmas.{fault_with_letters}
use Rattle.gix_refspec_text.proofs.name.scanned_to.Goals.{then-byte-eq42+else-starred, else-byte-eq42+in_default}
use Rattle.gix_refspec_text.proofs.name.scanned_to.Goals as goal

pub loop-index-preserved-then-is_plain : goal.loop-index-preserved-then-is_plain
loop-index-preserved-then-is_plain c =
    let i = c.loop-index.index in
    scanned_other c.args.text.now i c.loop-index.starred (omega arith)
    (c.if-is_plain.ensures (slash ∷ take i c.args.text.now)) c.loop-index.invariant

pub returns-then-starred : goal.returns-then-starred
returns-then-starred c = search (arith, second_star)

pub returns-in-Some : goal.returns-in-Some
returns-in-Some c = (
  grind (arith, common_steps, fault_with_letters),
  λ some. record {
    clean = c.loop-index.invariant.0;
    here =
        inl (omega arith, grind (arith, common_steps), c.in-Some.ensures);
  },
)

-- the first star sets the flag, and any other byte adds no fault
pub loop-index-preserved : goal.loop-index-preserved
loop-index-preserved c =
    let x = c.args.text.now in
    let i = c.loop-index.index in
    elim c.if-byte-eq42.branch [
      | then-byte-eq42+else-starred w ↦
          let before = rw w.if-starred.false at c.loop-index.invariant in
          rw w.starred-is (scanned_star x i (omega arith) (grind (arith, common_steps)) before)
      | else-byte-eq42+in_default w ↦
          rw w.starred-is
          (scanned_other x i c.loop-index.starred (omega arith) w.in_default.ensures c.loop-index.invariant)
    ]

pub returns : goal.returns
returns c =
    let done : c.loop-index.index ≡ c.args.to = omega arith in rw done at c.loop-index.invariant
