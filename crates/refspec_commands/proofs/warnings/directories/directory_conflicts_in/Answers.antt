-- In JSON all directory conflicts are shown.
use Rattle.std.proofs.Common.{◌≡◌, ◌∙◌, ℕ, List, arith, ap, length, map, subst, sym, take, take_all}
use Rattle.std.proofs.lemmas.List.{length-map}
use Rattle.std.specs.List.{All, AllZip}
use Rattle.gix_refspec_text.specs.Views.Spec.{reading_of}
use Rattle.gix_refspec_lint.specs.declared.PossibleDirectoryConflict.{PossibleDirectoryConflict}
use Rattle.gix_refspec_lint.specs.Matching.Lint.{AreNestings}
use Rattle.gix_refspec_lint.specs.Views.Lint.{configuration_of, nesting_of}
use Rattle.refspec_io.specs.Counts.{reported_count}
use Rattle.refspec_io.specs.declared.call.Form.{Form}
use Rattle.refspec_io.specs.declared.call.Limit.TheVariants as limit
use Rattle.refspec_io.specs.declared.texts.Text.{Text}
use Rattle.refspec_io.specs.Texts.{given_of}
use Rattle.refspec_commands.specs.declared.warnings.Warning.{Warning}
use Rattle.refspec_commands.specs.Warned.{AreWithin, IsNestingSaid}
use Rattle.refspec_commands.specs.WarnedViews.{asked_of, said_of}
use Rattle.refspec_commands.proofs.WarnedLemmas.{nestings_inside, found_inside, found_said}
use Rattle.refspec_commands.proofs.warnings.directories.directory_conflicts_in.Goals as goal

pub warnings_on-requires : goal.warnings_on-requires
warnings_on-requires c =
    let texts = c.in_ok-texts.texts.items in
    let specs = c.args.group.now.specs.items in
    let given = c.args.group.now.texts.items in
    let same : length (map reading_of specs) ≡ length (map given_of given) = length-map specs reading_of ∙
    (c.requires ∙ sym (length-map given given_of)) in
    let inside = found_inside nesting_of AreNestings AreWithin (asked_of c.args.beside.now) (map reading_of specs)
    (map given_of given)
    (map given_of texts) (configuration_of c.configured-fetch.result)
    c.possible_directory_conflicts.result c.in_ok-conflicts.conflicts c.reported_count-count.result nestings_inside
    c.configured-fetch.ensures (
      c.possible_directory_conflicts.ensures.ok,
      c.possible_directory_conflicts.ensures.refused,
      c.in_ok-conflicts.ensures,
    ) same
    c.in_ok-texts.ensures in
    let shown : c.split_at.result.0.now ≡ take c.reported_count-count.result c.in_ok-conflicts.conflicts.items =
    c.split_at.ensures.front ∙ ap (take c.reported_count-count.result) c.as_slice-3.ensures.value in
    subst (λ (n : ℕ). All (AreWithin n) (map nesting_of c.split_at.result.0.now)) (length-map texts given_of
    ∙ ap length (sym c.as_slice-4.ensures.value))
    (subst (λ (l : List PossibleDirectoryConflict). All (AreWithin (length (map given_of texts))) (map nesting_of l))
    (sym shown) inside)

pub returns : goal.returns
returns c json =
    let texts = c.in_ok-texts.texts.items in
    let specs = c.args.group.now.specs.items in
    let given = c.args.group.now.texts.items in
    let found = c.in_ok-conflicts.conflicts.items in
    let count : c.reported_count-count.result ≡ length found =
    c.reported_count-count.ensures.reported ∙ (ap (λ (f : Form). reported_count f limit.Twenty c.len.result) json ∙
    (c.len.ensures ∙ (sym c.as_slice-3.ensures.len ∙ ap length c.as_slice-3.ensures.value))) in
    let shown : c.split_at.result.0.now ≡ found =
    c.split_at.ensures.front ∙ (ap (take c.reported_count-count.result) c.as_slice-3.ensures.value
    ∙ take_all c.reported_count-count.result found (omega (arith, count))) in
    let zipped = subst (λ (l : List PossibleDirectoryConflict). AllZip (IsNestingSaid
    (map given_of c.as_slice-4.result.now)) (map nesting_of l)
    (map said_of c.in_ok-warnings.warnings.items)) shown c.in_ok-warnings.ensures in
    let of_texts = subst (λ (t : List Text). AllZip (IsNestingSaid (map given_of t)) (map nesting_of found)
    (map said_of c.in_ok-warnings.warnings.items)) c.as_slice-4.ensures.value zipped in
    let same = c.in_ok-add_more.ensures (omega (
      arith,
      count,
      c.split_at.ensures.back_len,
      c.as_slice-3.ensures.len,
      ap length c.as_slice-3.ensures.value,
    )) in
    let all = subst (λ (ws : List Warning). AllZip (IsNestingSaid (map given_of texts)) (map nesting_of found)
    (map said_of ws)) (sym same) of_texts in
    found_said nesting_of AreNestings IsNestingSaid (asked_of c.args.beside.now) (map reading_of specs)
    (map given_of given) (map given_of texts)
    (configuration_of c.configured-fetch.result)
    c.possible_directory_conflicts.result c.in_ok-conflicts.conflicts (map said_of c.add_more.new.warnings.items)
    c.configured-fetch.ensures (
      c.possible_directory_conflicts.ensures.ok,
      c.possible_directory_conflicts.ensures.refused,
      c.in_ok-conflicts.ensures,
    )
    c.in_ok-texts.ensures all
