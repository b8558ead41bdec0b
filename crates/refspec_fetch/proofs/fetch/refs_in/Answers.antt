-- Without a bad record the refs are those of the list, and else the bad ones are reported.
use Rattle.std.proofs.Common.{◌≢◌, ◌∙◌, List, [], ap, map, refl, subst, sym, ℕ}
use Rattle.gix_refspec.specs.Views.Group.{ref_of}
use Rattle.refspec_io.specs.declared.refs.BadRecord.{BadRecord}
use Rattle.refspec_io.specs.Json.{AddsObjects}
use Rattle.refspec_io.specs.Malformed.{IsBadLine, IsMalformed}
use Rattle.refspec_io.specs.Refs.{ListsNames, bad_bytes}
use Rattle.refspec_io.proofs.JsonLemmas.{AddsObjects-map}
use Rattle.refspec_fetch.proofs.AnswerLemmas.{none_of, none_read, some_of, some_read}
use Rattle.refspec_fetch.proofs.fetch.refs_in.Goals as goal

pub returns-then-is_empty : goal.returns-then-is_empty
returns-then-is_empty c =
    let input = c.args.input.now in
    let none = none_read _ (sym c.as_slice.ensures.value ∙ none_of _ _ c.is_empty.ensures c.if-is_empty.true) in (
      subst (λ (l : List (List ℕ)). ListsNames input.end input.bytes.now (map ref_of c.in_ok-listed.listed.items.items)
          l)
          none c.in_ok-listed.ensures,
      refl,
    )

pub returns : goal.returns
returns c =
    let f = c.args.report.now.form in
    let name = c.args.input.now.name.now in
    let bads = c.in_ok-listed.listed.bad.items in
    let old = c.args.report.now.results.items in
    let new = c.report_bad_records.new.report.results.items in
    let reported = subst (λ (l : List BadRecord). AddsObjects f (IsBadLine name) l old new) c.as_slice-2.ensures.value
    c.in_ok-report_bad_records.ensures.reported in
    record {
      refs = map ref_of c.in_ok-listed.listed.items.items;
      bad = map bad_bytes bads;
      listed = c.in_ok-listed.ensures;
      some = subst (λ (l : List BadRecord). map bad_bytes l ≢ []) c.as_slice.ensures.value
          (some_read _ (some_of _ _ c.is_empty.ensures c.if-is_empty.false));
      malformed = AddsObjects-map f (IsBadLine name) IsMalformed bad_bytes bads old new (λ one line is. (is.0, is.2))
          reported;
      form = c.in_ok-report_bad_records.ensures.form;
    }
