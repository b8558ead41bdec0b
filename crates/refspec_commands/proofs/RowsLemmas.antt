-- Rows of mappings, with and without a remote.
use Rattle.std.proofs.Common.{◌≡◌, ℕ, ◌+◌, ◌<◌, List, [], ◌∷◌, ◌++◌, Bor, None, Some, Option, option_map, map, take}
use Rattle.std.proofs.Common.{get_or, length, codes, refl, sym, ap, ◌∙◌, subst}
use Rattle.std.proofs.lemmas.List.{append-nil, map_more}
use Rattle.gix_refspec.specs.Matching.Mappings.{Mapped}
use Rattle.gix_refspec.specs.Views.Group.{mapped_of}
use Rattle.refspec_json.specs.Objects.{line_of, remote_mapping_object}
use Rattle.refspec_io.specs.declared.call.Form.{Form}
use Rattle.refspec_io.specs.declared.call.Form.TheVariants as form
use Rattle.refspec_io.specs.Json.{AreInOrder, json_text}
use Rattle.refspec_io.specs.Rows.{WritesCell, WritesLine, fields, mapped_object, mapped_row, source_text}
use Rattle.refspec_io.specs.Shown.{zero_ended}
use Rattle.refspec_io.proofs.JsonLemmas.{AreInOrder-append}
use Rattle.refspec_io.proofs.ShownLemmas.{behind}
use Rattle.refspec_commands.specs.declared.mappings.Row.{Row}
use Rattle.refspec_commands.specs.Rows.{AddsRows, IsRemoteLine, IsRow, Shown, WritesRow, any_object, remote_field}
use Rattle.refspec_commands.specs.Rows.{remote_object, shown_row}

-- the name of a remote, where there is one
abbrev pub remote_name : Option (Bor (List ℕ)) → Option (List ℕ)
remote_name o = option_map (λ n. n.now) o

-- at the start there are no rows
pub AddsRows-start : (f : Form) (old : List ℕ) → AddsRows f [] old old
AddsRows-start f old = ([], refl, sym (append-nil old))

-- one more row
pub AddsRows-next : (f : Form) (xs : List Row) (i : ℕ) (d : Row) (r : Shown) (old mid new : List ℕ) → i < length xs
    → r ≡ shown_row (get_or xs i d) → AddsRows f (map shown_row (take i xs)) old mid → WritesRow f r mid new
    → AddsRows f (map shown_row (take (i + 1) xs)) old new
AddsRows-next f xs i d r old mid new below same a b =
    let b2 = subst (λ (x : Shown). WritesRow f x mid new) same b in
    let last : AreInOrder (IsRow f) (shown_row (get_or xs i d) ∷ []) b2.0 = (
      b2.0,
      [],
      b2.1,
      refl,
      sym
          (append-nil b2.0),
    ) in
    subst (λ (l : List Shown). AddsRows f l old new) (sym (map_more shown_row xs i d below)) (
      a.0 ++ b2.0,
      AreInOrder-append (IsRow f) (map shown_row (take i xs)) (shown_row (get_or xs i d) ∷ []) a.0 b2.0 a.1
          last,
      behind old a.0 mid b2.0 new a.2 b2.2,
    )

-- the row of a mapping alone: a line, fields, an object
pub alone_line : (r : Row) (old new : List ℕ) → r.remote ≡ None
    → WritesLine (mapped_row (codes "FETCH_HEAD") r.text.now (mapped_of r.mapping.now)) old new
    → WritesRow form.Lines (shown_row r) old new
alone_line r old new none write = (
  write.0,
  subst (λ (o : Option (Bor (List ℕ))). IsRemoteLine (remote_name o) r.text.now (mapped_of r.mapping.now)
      write.0) (sym none) write.1,
  write.2,
)

pub alone_fields : (r : Row) (old new : List ℕ) → r.remote ≡ None
    → new ≡ old ++ fields (mapped_row [] r.text.now (mapped_of r.mapping.now))
    → WritesRow form.Zeros (shown_row r) old new
alone_fields r old new none write =
    let all = fields (mapped_row [] r.text.now (mapped_of r.mapping.now)) in
    (all, subst (λ (o : Option (Bor (List ℕ))). all ≡ remote_field (remote_name o) ++ all) (sym none) refl, write)

pub alone_object : (r : Row) (old new : List ℕ) → r.remote ≡ None
    → new ≡ old ++ mapped_object r.text.now (mapped_of r.mapping.now) → WritesRow form.Json (shown_row r) old new
alone_object r old new none write =
    let all = mapped_object r.text.now (mapped_of r.mapping.now) in (
      all,
      subst (λ (o : Option (Bor (List ℕ))). all ≡ any_object (remote_name o) r.text.now (mapped_of r.mapping.now))
          (sym none) refl,
      write,
    )

-- the row of a mapping of a remote
pub remote_line : (r : Row) (remote : Bor (List ℕ)) (old mid new : List ℕ) → r.remote ≡ Some remote
    → WritesCell remote.now old mid → WritesLine (mapped_row (codes "FETCH_HEAD") r.text.now (mapped_of r.mapping.now))
    mid new → WritesRow form.Lines (shown_row r) old new
remote_line r remote old mid new some cell write =
    let all = cell.0 ++ write.0 in (
      all,
      subst (λ (o : Option (Bor (List ℕ))). IsRemoteLine (remote_name o) r.text.now (mapped_of r.mapping.now) all)
          (sym some) (cell.0, write.0, cell.1, write.1, refl),
      behind old cell.0 mid write.0 new cell.2 write.2,
    )

pub remote_fields : (r : Row) (remote : Bor (List ℕ)) (old mid new : List ℕ) → r.remote ≡ Some remote
    → mid ≡ old ++ zero_ended remote.now → new ≡ mid ++ fields (mapped_row [] r.text.now (mapped_of r.mapping.now))
    → WritesRow form.Zeros (shown_row r) old new
remote_fields r remote old mid new some first write =
    let rest = fields (mapped_row [] r.text.now (mapped_of r.mapping.now)) in
    let all = zero_ended remote.now ++ rest in (
      all,
      subst (λ (o : Option (Bor (List ℕ))). all ≡ remote_field (remote_name o) ++ rest) (sym some) refl,
      behind old
          (zero_ended remote.now) mid rest new first write,
    )

pub remote_line_object : (r : Row) (remote : Bor (List ℕ)) (old new : List ℕ) → r.remote ≡ Some remote
    → new ≡ old ++ remote_object remote.now r.text.now (mapped_of r.mapping.now)
    → WritesRow form.Json (shown_row r) old new
remote_line_object r remote old new some write =
    let all = remote_object remote.now r.text.now (mapped_of r.mapping.now) in (
      all,
      subst (λ (o : Option (Bor (List ℕ))). all ≡ any_object (remote_name o) r.text.now (mapped_of r.mapping.now))
          (sym some) refl,
      write,
    )

-- the object of a mapping of a remote, member by member
pub remote_object-of : (m : Mapped) (name text remote source spec : List ℕ) (destination : Option (List ℕ)) (old new :
    List ℕ) → remote ≡ json_text name → source ≡ json_text (source_text m.source)
    → destination ≡ option_map json_text m.destination → spec ≡ json_text text
    → new ≡ old ++ line_of (remote_mapping_object remote source destination spec)
    → new ≡ old ++ remote_object name text m
remote_object-of m name text remote source spec destination old new is_remote is_source is_destination is_spec write =
    write ∙ (ap (λ x. old ++ line_of (remote_mapping_object x source destination spec)) is_remote
    ∙ (ap (λ x. old ++ line_of (remote_mapping_object (json_text name) x destination spec)) is_source
    ∙ (ap (λ x. old ++ line_of (remote_mapping_object (json_text name) (json_text (source_text m.source)) x spec))
    is_destination
    ∙ ap (λ x. old ++ line_of (remote_mapping_object (json_text name) (json_text (source_text m.source)) (option_map
    json_text m.destination) x)) is_spec)))
