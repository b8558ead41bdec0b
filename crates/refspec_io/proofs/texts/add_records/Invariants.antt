-- the records so far were added as texts
use Rattle.std.proofs.Common.{◌≡◌, ◌++◌, map, take}
use Rattle.refspec_io.specs.Texts.{given_of, numbered, record_at}
use Rattle.refspec_io.proofs.texts.add_records.Given as goal

abbrev pub invariant-loop-record : goal.invariant-loop-record
invariant-loop-record l = record {
  count : l.number ≡ l.record-index;
  texts : map given_of l.texts.items ≡ map given_of l.fn.texts.items ++ numbered (record_at l.name l.operation) 1
      (map (λ r. r.now) (take l.record-index l.records));
}
