-- Each record is an origin, or with the origin before it a setting.
use Rattle.std.proofs.Common.{ℕ, List, Bor, sym, ap, ◌∙◌, subst}
use Rattle.refspec_io.specs.Input.{AreRecords}
use Rattle.refspec_io.proofs.RecordLemmas.{bytes_of}
use Rattle.refspec_io.proofs.SettingLemmas.{PairsSoFar-end, PairsSoFar-origin, PairsSoFar-setting, no_pairs}
use Rattle.refspec_io.proofs.settings.settings_of.Goals.{in-Some+in_ok-push-in-Some, in-None+else-not-is_origin}
use Rattle.refspec_io.proofs.settings.settings_of.Goals as goal

pub returns-then-not-is_origin-clause-err : goal.returns-then-not-is_origin-clause-err
returns-then-not-is_origin-clause-err c = (
  bytes_of c.deref-record-items.result.now,
  subst (λ (l : List (Bor (List ℕ))). AreRecords 0 (bytes_of l) c.args.input.now)
      (sym c.deref-record-items.ensures.value) c.in_ok-records.ensures,
  λ settings. no_pairs c.deref-record-items.result.now c.loop-record.record-index _ c.loop-record.origin
      c.loop-record.settings.items settings c.loop-record-test.true (rw c.if-not-is_origin.true at c.is_origin.ensures)
      c.in-None.is c.loop-record.invariant,
)

pub loop-record-preserved : goal.loop-record-preserved
loop-record-preserved c = elim c.match-origin.branch [
  | in-Some+in_ok-push-in-Some w ↦ PairsSoFar-setting c.deref-record-items.result.now c.loop-record.record-index _ _
      c.loop-record.origin c.match-origin.origin c.loop-record.settings.items c.match-origin.settings.items
      w.read_setting.result c.loop-record-test.true w.read_setting.ensures w.in-Some.is w.origin-is
      (ap (λ v. v.items) w.settings-is ∙ w.in_ok-push-in-Some.ensures.items) c.loop-record.invariant
  | in-None+else-not-is_origin w ↦ PairsSoFar-origin c.deref-record-items.result.now c.loop-record.record-index _
      c.loop-record.origin c.match-origin.origin c.loop-record.settings.items c.match-origin.settings.items
      c.loop-record-test.true (rw w.if-not-is_origin.false at w.is_origin.ensures) w.in-None.is w.origin-is
      (ap (λ v. v.items) w.settings-is) c.loop-record.invariant
]

pub returns-in-None-origin-clause-ok : goal.returns-in-None-origin-clause-ok
returns-in-None-origin-clause-ok c = (
  bytes_of c.deref-record-items.result.now,
  subst (λ (l : List (Bor (List ℕ))). AreRecords 0 (bytes_of l) c.args.input.now)
      (sym c.deref-record-items.ensures.value) c.in_ok-records.ensures,
  PairsSoFar-end c.deref-record-items.result.now c.loop-record.record-index c.loop-record.origin
      c.loop-record.settings.items c.loop-record-test.false c.in-None-origin.is c.loop-record.invariant,
)
