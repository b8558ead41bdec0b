-- The objects of updates that are left out, overruled or in a directory conflict, member by member.
use Rattle.std.proofs.Common.{◌≡◌, ℕ, List, ◌++◌, Option, ap, option_map, refl, ◌∙◌}
use Rattle.gix_refspec_plan.specs.Matching.Plan.{Planned}
use Rattle.refspec_json.specs.Objects.{directory_conflict_object, left_out_object, line_of, overruled_object}
use Rattle.refspec_io.specs.Json.{json_text}
use Rattle.refspec_io.specs.Rows.{source_text}
use Rattle.refspec_fetch.specs.LeftOut.{IsLeftOutLine, IsNestedLine, IsOverruledLine, side_name}
use Rattle.refspec_fetch.specs.Origins.{origin_name}
use Rattle.refspec_fetch.specs.Verdicts.{Unwritable}

pub left_out_line-of : (out : Unwritable) (text source spec origin side message : List ℕ)
    (destination : Option (List ℕ)) (old new : List ℕ) → source ≡ json_text (source_text out.update.source)
    → destination ≡ option_map json_text out.update.destination → spec ≡ json_text text
    → origin ≡ origin_name out.update.origin → side ≡ side_name out.side
    → new ≡ old ++ line_of (left_out_object source destination spec origin side message) → (line : List ℕ)
    × IsLeftOutLine text out line × (new ≡ old ++ line)
left_out_line-of out text source spec origin side message destination old new is_source is_destination is_spec is_origin
    is_side write =
    let from = json_text (source_text out.update.source) in
    let to = option_map json_text out.update.destination in
    let by = origin_name out.update.origin in (
      line_of (left_out_object from to (json_text text) by (side_name out.side) message),
      (message, refl),
      write ∙ (ap (λ x. old ++ line_of (left_out_object x destination spec origin side message)) is_source
          ∙ (ap (λ x. old ++ line_of (left_out_object from x spec origin side message)) is_destination
          ∙ (ap (λ x. old ++ line_of (left_out_object from to x origin side message)) is_spec
          ∙ (ap (λ x. old ++ line_of (left_out_object from to (json_text text) x side message)) is_origin
          ∙ ap (λ x. old ++ line_of (left_out_object from to (json_text text) by x message)) is_side)))),
    )

pub overruled_line-of : (p : Planned) (text source spec origin message : List ℕ) (destination : Option (List ℕ))
    (old new : List ℕ) → source ≡ json_text (source_text p.source) → destination ≡ option_map json_text p.destination
    → spec ≡ json_text text → origin ≡ origin_name p.origin
    → new ≡ old ++ line_of (overruled_object source destination spec origin message) → (line : List ℕ)
    × IsOverruledLine text p line × (new ≡ old ++ line)
overruled_line-of p text source spec origin message destination old new is_source is_destination is_spec is_origin
    write =
    let from = json_text (source_text p.source) in
    let to = option_map json_text p.destination in (
      line_of (overruled_object from to (json_text text) (origin_name p.origin) message),
      (message, refl),
      write ∙ (ap (λ x. old ++ line_of (overruled_object x destination spec origin message)) is_source
          ∙ (ap (λ x. old ++ line_of (overruled_object from x spec origin message)) is_destination
          ∙ (ap (λ x. old ++ line_of (overruled_object from to x origin message)) is_spec
          ∙ ap (λ x. old ++ line_of (overruled_object from to (json_text text) x message)) is_origin))),
    )

pub nested_line-of : (p : Planned) (text source spec origin other message : List ℕ) (destination : Option (List ℕ))
    (old new : List ℕ) → source ≡ json_text (source_text p.source) → destination ≡ option_map json_text p.destination
    → spec ≡ json_text text
    → origin ≡ origin_name p.origin
    → new ≡ old ++ line_of (directory_conflict_object source destination spec origin other message)
    → (line : List ℕ) × IsNestedLine text p line × (new ≡ old ++ line)
nested_line-of p text source spec origin other message destination old new is_source is_destination is_spec is_origin
    write =
    let from = json_text (source_text p.source) in
    let to = option_map json_text p.destination in (
      line_of (directory_conflict_object from to (json_text text) (origin_name p.origin) other message),
      (other, message, refl),
      write ∙ (ap (λ x. old ++ line_of (directory_conflict_object x destination spec origin other message)) is_source
          ∙ (ap (λ x. old ++ line_of (directory_conflict_object from x spec origin other message)) is_destination
          ∙ (ap (λ x. old ++ line_of (directory_conflict_object from to x origin other message)) is_spec
          ∙ ap (λ x. old ++ line_of (directory_conflict_object from to (json_text text) x other message)) is_origin))),
    )
