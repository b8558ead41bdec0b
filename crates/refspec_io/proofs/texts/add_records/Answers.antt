-- Each record adds one text.
use Rattle.std.proofs.Common.{◌<◌, ◌++◌, ℕ, List, Bor, map, length, take_all, sym, ap, refl, ◌∙◌, arith}
use Rattle.std.proofs.lemmas.List.{append-nil}
use Rattle.refspec_io.specs.Texts.{given_of, numbered, record_at}
use Rattle.refspec_io.proofs.TextLemmas.{given_next}
use Rattle.refspec_io.proofs.texts.add_records.Goals as goal

pub loop-record-init : goal.loop-record-init
loop-record-init c = record {
  count = refl;
  texts = ap (map given_of) c.in_ok-reserve.ensures.items
      ∙ sym (append-nil (map given_of c.args.texts.now.items));
}

pub loop-record-preserved : goal.loop-record-preserved
loop-record-preserved c =
    let below : c.loop-record.record-index < length c.args.records.now = omega arith in
    record {
      count = omega arith;
      texts = given_next (record_at c.args.name.now c.args.operation) (λ (r : Bor (List ℕ)). r.now) c.args.records.now
          c.loop-record.record-index _ _ (map given_of c.args.texts.now.items) c.loop-record.texts.items
          c.push.new.self.items _ below (omega arith) c.in_ok-push.ensures.items refl c.loop-record.invariant.texts;
    }

pub returns : goal.returns
returns c = c.loop-record.invariant.texts
    ∙ ap (λ (l : List (Bor (List ℕ))). map given_of c.args.texts.now.items ++ numbered
    (record_at c.args.name.now c.args.operation) 1 (map (λ (r : Bor (List ℕ)). r.now) l))
    (take_all c.loop-record.record-index c.args.records.now c.loop-record-test.false)
