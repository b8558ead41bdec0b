-- The ref prefixes are enough, by the law.
use Rattle.std.proofs.Common.{◌≡◌, [], map, ap}
use Rattle.bstr.specs.Owned.{bstring_bytes}
use Rattle.gix_refspec.specs.Views.Spec.{reading_of}
use Rattle.gix_refspec.specs.Views.Group.{readings_of}
use Rattle.gix_refspec.specs.Views.Issue.{mappings_of}
use Rattle.gix_refspec_uses.specs.Planned.{fetch_readings}
use Rattle.gix_refspec_uses.proofs.AskingLemmas.{are_fetches}
use Rattle.gix_refspec_uses.proofs.asking.match_asked.Goals as goal

pub returns-in-Ok : goal.returns-in-Ok
returns-in-Ok c =
    let entries = map bstring_bytes c.in-Some.entries.items in
    let same : readings_of c.in_ok-group.group ≡ fetch_readings c.args.specs.items =
    ap (map reading_of) c.in_ok-group.ensures in
    let law = rw same at (rw c.as_slice-2.ensures.value at c.asked_items.ensures.kept) in
    let filtered = rw c.as_slice-2.ensures.value at c.asked_items.ensures.filtered in
    let to_ask = rw same at (rw c.in-Some.is at c.in_ok-entries.ensures) in
    let asked = rw c.as_slice.ensures.value at c.in_ok-asked.ensures in
    let matched = rw same at (rw c.as_slice-3.ensures.value at c.in-Ok.ensures.ok.1) in
    record {
      entries = entries;
      to_ask = to_ask;
      asked = asked;
      matched = matched;
      same = λ kept of_all. law [] entries to_ask (are_fetches c.args.specs.items) (filtered entries asked) kept
          (mappings_of c.in-Ok.outcome) of_all matched;
    }
