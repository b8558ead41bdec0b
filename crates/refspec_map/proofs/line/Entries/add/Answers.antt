-- The entry of the line is appended to the others.
use Rattle.std.proofs.Common.{refl}
use Rattle.bstr.specs.BStr.{bstr_bytes}
use Rattle.refspec_map.specs.declared.line.Entries.{Entries}
use Rattle.refspec_map.specs.Parsed.{parsed_ref}
use Rattle.refspec_map.proofs.EntryLemmas.{Adds-ref, Adds-spec, AddsRef-whole, AddsRef-name}
use Rattle.refspec_map.proofs.line.Entries.add.Goals as goal

pub returns-in-None-blank-clause-ok : goal.returns-in-None-blank-clause-ok
returns-in-None-blank-clause-ok c =
    let new : Entries = record {
      specs = c.args.self.now.specs;
      refs = c.push.new.list;
      items =
          c.args.self.now.items;
    } in
    let added = AddsRef-whole _ c.push.result c.args.self.now new c.in-Some-Ref.told refl c.push.ensures.ok in
    Adds-ref c.push.result c.args.blank c.args.line.now c.args.self.now new (parsed_ref c.in-Some-Ref.told)
    (rw c.in-Some-Ref.field-0-is at c.in-Some-Ref.ensures) (rw c.in-None-blank.is added)

pub returns-in-Some-clause-ok : goal.returns-in-Some-clause-ok
returns-in-Some-clause-ok c =
    let new : Entries = record {
      specs = c.args.self.now.specs;
      refs = c.args.self.now.refs;
      items =
          c.push-in-Some.new.list;
    } in
    let added = AddsRef-name c.push-in-Some.result c.args.self.now new c.in-Some.id (parsed_ref c.in-Some-Ref.told) _
    refl refl c.push-in-Some.ensures.ok in
    Adds-ref c.push-in-Some.result c.args.blank c.args.line.now c.args.self.now new (parsed_ref c.in-Some-Ref.told)
    (rw c.in-Some-Ref.field-0-is at c.in-Some-Ref.ensures) (rw c.in-Some.is added)

pub returns-in_ok-spec-in-Some-Spec-clause-ok : goal.returns-in_ok-spec-in-Some-Spec-clause-ok
returns-in_ok-spec-in-Some-Spec-clause-ok c = Adds-spec c.push-in-Some-Spec.result c.args.blank c.args.line.now
    (bstr_bytes c.in-Some-Spec.text) c.args.self.now
    (record { specs = c.push-in-Some-Spec.new.list; refs = c.args.self.now.refs; items = c.args.self.now.items })
    c.in_ok-spec-in-Some-Spec.spec (rw c.in-Some-Spec.field-0-is at c.in-Some-Spec.ensures)
    c.in_ok-spec-in-Some-Spec.ensures.ok refl refl c.push-in-Some-Spec.ensures.ok
