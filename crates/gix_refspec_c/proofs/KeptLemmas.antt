-- Slices that are written from the front: structs and texts of entries, one after another.
use Rattle.std.proofs.Common.{◌≡◌, ◌≤◌, ◌<◌, ◌+◌, ◌*◌, ℕ, zero, suc, List, [], ◌∷◌, ◌++◌, length, map, set, take, drop}
use Rattle.std.proofs.Common.{get_or, flat_map, refl, sym, ap, ◌∙◌, arith, ◌⊎◌, inl, inr}
use Rattle.std.proofs.lemmas.List.{append_assoc, drop-drop, drop_at, length-append, length-drop, length-map, map-append}
use Rattle.std.proofs.lemmas.List.{flat_map_more, get_or-map, length-take-le, set_split, take_at}
use Rattle.hex.specs.Hex.{lower_digits}
use Rattle.hex.proofs.HexLemmas.{length-encode_with}
use Rattle.gix_refspec_text.specs.declared.oid.Kind.{Kind}
use Rattle.gix_refspec_text.specs.declared.oid.Kind.TheVariants.{Sha1, Sha256}
use Rattle.gix_refspec.specs.Texts.ObjectId.{bytes_of, digits_of, lower_of}
use Rattle.gix_refspec.specs.Matching.Mappings.{Mapped}
use Rattle.gix_refspec.specs.Views.Group.{mapped_of}
use Rattle.gix_refspec_match.specs.declared.types.Mapping.{Mapping}
use Rattle.gix_refspec_c.specs.declared.listing.MappingOut.{MappingOut}
use Rattle.gix_refspec_c.specs.declared.listing.Numbers.{Numbers}
use Rattle.gix_refspec_c.specs.Kept.{Fills, no_entry, with_text}
use Rattle.gix_refspec_c.specs.Layout.{described_from}
use Rattle.gix_refspec_c.specs.Mapping.{Described, Describes, Entry, HasAll, HasNoRoom, Room, described_at}
use Rattle.gix_refspec_c.specs.Mapping.{described_by, entry_with, text_of}
use Rattle.gix_refspec_c.proofs.MatchingLemmas.{describes_more}

-- two digits spell each byte of an id
pub length-lower_of : (i : List ℕ) → length (lower_of i) ≡ 2 * length i
length-lower_of i = length-encode_with lower_digits i

-- so as many as an id of its kind has
pub length_of_digits : (kind : Kind) (i : List ℕ) → length i ≡ bytes_of kind → digits_of kind ≡ length (lower_of i)
length_of_digits Sha1 i is = omega (arith, length-lower_of i, is)
length_of_digits Sha256 i is = omega (arith, length-lower_of i, is)

module _ {X : Type 0} where
  -- what a list has after its front and n elements more
  drop_past : (xs ys : List X) (n : ℕ) → drop (length xs + n) (xs ++ drop (length xs) ys) ≡ drop (length xs + n) ys
  drop_past xs ys n =
      sym (drop-drop n (length xs) (xs ++ drop (length xs) ys))
      ∙ ap (drop n) (drop_at xs (drop (length xs) ys) (length xs) refl) ∙ drop-drop n (length xs) ys

  -- an element is set after the front
  pub set_more : (xs ys : List X) (k : ℕ) (x : X) → k ≡ length xs → k < length ys
      → set (xs ++ drop (length xs) ys) k x ≡ (xs ++ x ∷ []) ++ drop (length (xs ++ x ∷ [])) ys
  set_more xs ys k x is below =
      let rest = drop (length xs) ys in
      let long : length xs < length (xs ++ rest) =
      omega (arith, length-append xs rest, length-drop (length xs) ys, is, below) in
      let one : suc (length xs) ≡ length xs + 1 = omega arith in
      let more : length xs + 1 ≡ length (xs ++ x ∷ []) = sym (length-append xs (x ∷ [])) in
      ap (λ n. set (xs ++ rest) n x) is ∙ set_split (xs ++ rest) (length xs) x long
      ∙ ap (λ l. l ++ x ∷ drop (suc (length xs)) (xs ++ rest)) (take_at xs rest (length xs) refl)
      ∙ ap (λ n. xs ++ x ∷ drop n (xs ++ rest)) one ∙ ap (λ l. xs ++ x ∷ l) (drop_past xs ys 1)
      ∙ ap (λ n. xs ++ x ∷ drop n ys) more ∙ sym (append_assoc xs (x ∷ []) (drop (length (xs ++ x ∷ [])) ys))

-- a text is written after the front
pub text_more : (t before : List ℕ) (at : ℕ) (text : List ℕ) → at ≡ length t
    → with_text at text (t ++ drop (length t) before) ≡ (t ++ text) ++ drop (length (t ++ text)) before
text_more t before at text is =
    let rest = drop (length t) before in
    ap (λ n. with_text n text (t ++ rest)) is
    ∙ ap (λ l. l ++ (text ++ drop (length t + length text) (t ++ rest))) (take_at t rest (length t) refl)
    ∙ ap (λ l. t ++ (text ++ l)) (drop_past t before (length text))
    ∙ ap (λ n. t ++ (text ++ drop n before)) (sym (length-append t text))
    ∙ sym (append_assoc t text (drop (length (t ++ text)) before))

-- the texts of some things and of the next one are no longer than those of all
within_all : {X : Type 0} (text : X → List ℕ) (xs : List X) (k : ℕ) (d : X) → k < length xs
    → length (flat_map text (take k xs)) + length (text (get_or xs k d)) ≤ length (flat_map text xs)
within_all text [] k d below = absurd (omega (arith, below))
within_all text (x ∷ xs) zero d below = omega (arith, length-append (text x) (flat_map text xs))
within_all text (x ∷ xs) (suc k) d below =
    let rest = within_all text xs k d (omega (arith, below)) in
    omega (arith, rest, length-append (text x) (flat_map text xs), length-append (text x) (flat_map text (take k xs)))

-- so there is room for the texts of the next entry
pub room_left : (es : List Entry) (k at n : ℕ) (e : Entry) → k < length es
    → at ≡ length (flat_map text_of (take k es)) → e ≡ get_or es k no_entry → length (flat_map text_of es) ≤ n
    → (at + length e.id) + length e.made ≤ n
room_left es k at n e below begins is fits =
    let same : length (text_of e) ≡ length (text_of (get_or es k no_entry)) = ap (λ x. length (text_of x)) is in
    omega (arith, within_all text_of es k no_entry below, begins, same, fits, length-append e.id e.made)

-- the offset after the texts of the next entry
pub ends_more : (es new : List Entry) (e : Entry) (at made_at end : ℕ) → new ≡ es ++ e ∷ []
    → at ≡ length (flat_map text_of es) → made_at ≡ at + length e.id → end ≡ made_at + length e.made
    → end ≡ length (flat_map text_of new)
ends_more es new e at made_at end more begins splits ends =
    let texts : flat_map text_of new ≡ flat_map text_of es ++ text_of e =
    ap (flat_map text_of) more ∙ sym (flat_map_more text_of [] es e) in
    omega (
      arith,
      ap length texts,
      begins,
      splits,
      ends,
      length-append e.id e.made,
      length-append (flat_map text_of es) (text_of e),
    )

-- the struct of an entry, by its offsets and lengths
pub described_with : (n : Numbers) (id made : List ℕ) (at id_len made_at made_len : ℕ) → id_len ≡ length id
    → made_at ≡ at + length id → made_len ≡ length made → (m : MappingOut) → m ≡ record {
      spec = n.spec;
      item = n.item;
      has_destination = n.has_destination;
      forced = n.forced;
      origin = n.origin;
      verdict = n.verdict;
      id_at = at;
      id_len = id_len;
      made_at = made_at;
      made_len = made_len;
    } → described_by m ≡ described_at at (entry_with n id made)
described_with n id made at id_len made_at made_len long begins made_long m is = ap described_by is
    ∙ ap (λ l. shown l made_at made_len) long ∙ ap (λ a. shown (length id) a made_len) begins
    ∙ ap (shown (length id) (at + length id)) made_long
  where
    shown : ℕ → ℕ → ℕ → Described
    shown l a k = record {
      spec = n.spec;
      item = n.item;
      has_destination = n.has_destination;
      forced = n.forced;
      origin = n.origin;
      verdict = n.verdict;
      id_at = at;
      id_len = l;
      made_at = a;
      made_len = k;
    }

-- there are as many structs as entries
as_many : (at : ℕ) (es : List Entry) → length (described_from text_of described_at at es) ≡ length es
as_many at [] = refl
as_many at (e ∷ es) = ap suc (as_many (at + length (text_of e)) es)

as_many_as : (es : List Entry) (structs : List MappingOut) (text : List ℕ) → Describes es structs text
    → length structs ≡ length es
as_many_as es structs text describes = sym (length-map structs described_by) ∙ ap length describes.described
    ∙ as_many 0 es

-- one entry more is written: first its texts, and then its struct
pub fills_more : (es new : List Entry) (e : Entry) (before middle after : List MappingOut)
    (b_before b_middle b_between b_after : List ℕ) (k at made_at : ℕ) (m : MappingOut)
    → Fills es before b_before middle b_middle → new ≡ es ++ e ∷ [] → k ≡ length es → k < length before
    → at ≡ length (flat_map text_of es) → made_at ≡ at + length e.id → described_by m ≡ described_at at e
    → b_between ≡ with_text at e.id b_middle → b_after ≡ with_text made_at e.made b_between → after ≡ set middle k m
    → Fills new before b_before after b_after
fills_more es new e before middle after b_before b_middle b_between b_after k at made_at m fills more is below begins
    splits described id made set_there =
    let count = as_many_as es fills.structs fills.text fills.describes in
    let offset : at ≡ length fills.text = begins ∙ ap length (sym fills.describes.texts) in
    let made_offset : made_at ≡ length (fills.text ++ e.id) =
    omega (arith, splits, offset, length-append fills.text e.id) in
    let seen : map described_by (fills.structs ++ m ∷ []) ≡ map described_by fills.structs
    ++ described_at (length fills.text) e ∷ [] =
    map-append described_by fills.structs (m ∷ [])
    ∙ ap (λ d. map described_by fills.structs ++ d ∷ []) (described ∙ ap (λ n. described_at n e) offset) in
    let between = id ∙ ap (with_text at e.id) fills.buffer ∙ text_more fills.text b_before at e.id offset in record {
      structs = fills.structs ++ m ∷ [];
      text = (fills.text ++ e.id) ++ e.made;
      describes = describes_more es new e fills.structs (fills.structs ++ m ∷ []) fills.text
          ((fills.text ++ e.id) ++ e.made) fills.describes more (append_assoc fills.text e.id e.made) seen;
      mappings = set_there ∙ ap (λ l. set l k m) fills.mappings
          ∙ set_more fills.structs before k m (is ∙ sym count) below;
      buffer = made ∙ ap (with_text made_at e.made) between
          ∙ text_more (fills.text ++ e.id) b_before made_at e.made made_offset;
    }

-- the slices keep their lengths
pub lengths_kept : (es : List Entry) (before after : List MappingOut) (b_before b_after : List ℕ)
    → Fills es before b_before after b_after → length es ≤ length before
    → length (flat_map text_of es) ≤ length b_before
    → (length after ≡ length before) × (length b_after ≡ length b_before)
lengths_kept es before after b_before b_after fills few short =
    let many = as_many_as es fills.structs fills.text fills.describes in
    let long = ap length fills.describes.texts in
    let structs = ap length fills.mappings ∙ length-append fills.structs (drop (length fills.structs) before) in
    let texts = ap length fills.buffer ∙ length-append fills.text (drop (length fills.text) b_before) in (
      omega (arith, structs, many, few, length-drop (length fills.structs) before),
      omega (arith, texts, long, short, length-drop (length fills.text) b_before),
    )

-- so there is room in them for the next entry
pub room_for_next : (es : List Entry) (k at : ℕ) (e : Entry) (before after : List MappingOut)
    (b_before b_after : List ℕ) → k < length es → at ≡ length (flat_map text_of (take k es)) → e ≡ get_or es k no_entry
    → Fills (take k es) before b_before after b_after → length es ≤ length before
    → length (flat_map text_of es) ≤ length b_before
    → (k < length after) × ((at + length e.id) + length e.made ≤ length b_after)
room_for_next es k at e before after b_before b_after below begins is fills fits text_fits =
    let so_far = length-take-le k es (omega (arith, below)) in
    let left = room_left es k at (length b_before) e below begins is text_fits in
    let same = lengths_kept (take k es) before after b_before b_after fills (omega (arith, so_far, below, fits))
    (omega (arith, begins, left)) in (omega (arith, same.0, below, fits), omega (arith, same.1, left))

-- the entry with an index, from its mapping
pub entry_at : (f : Mapped → Entry) (ms : List Mapping) (k : ℕ) (m : Mapping) → k < length ms → m ≡ get_or ms k m
    → f (mapped_of m) ≡ get_or (map f (map mapped_of ms)) k no_entry
entry_at f ms k m below is =
    let within : k < length (map mapped_of ms) = omega (arith, length-map ms mapped_of, below) in
    ap (λ x. f (mapped_of x)) is ∙ ap f (sym (get_or-map mapped_of ms k m (mapped_of m) below))
    ∙ sym (get_or-map f (map mapped_of ms) k (mapped_of m) no_entry within)

-- ---- slices that are too small

-- the struct of an entry whose texts begin at an offset
struct_at : ℕ → Entry → MappingOut
struct_at at e = record {
  spec = e.spec;
  item = e.item;
  has_destination = e.has_destination;
  forced = e.forced;
  origin = e.origin;
  verdict = e.verdict;
  id_at = at;
  id_len = length e.id;
  made_at = at + length e.id;
  made_len = length e.made;
}

structs_from : ℕ → List Entry → List MappingOut
structs_from at [] = []
structs_from at (e ∷ es) = struct_at at e ∷ structs_from (at + length (text_of e)) es

structs_described : (at : ℕ) (es : List Entry) → map described_by (structs_from at es)
    ≡ described_from text_of described_at at es
unfolding structs_from struct_at
structs_described at [] = refl
structs_described at (e ∷ es) = ap (λ l. described_at at e ∷ l) (structs_described (at + length (text_of e)) es)

-- entries for which there is no room, and the required sizes
pub no_room_for : (es : List Entry) (before after : Room) → after.mappings ≡ before.mappings
    → after.buffer ≡ before.buffer → after.count ≡ length es → after.len ≡ length (flat_map text_of es)
    → (length before.mappings < after.count) ⊎ (length before.buffer < after.len) → HasNoRoom es before after
no_room_for es before after mappings buffer count len small =
    record {
      structs = structs_from 0 es;
      text = flat_map text_of es;
      describes = record { described = structs_described 0 es; texts = refl };
      not_write = record {
        small = either small;
        mappings = mappings;
        buffer = buffer;
        count = count ∙ sym many;
        len = len;
      };
    }
  where
    many : length (structs_from 0 es) ≡ length es
    many = sym (length-map (structs_from 0 es) described_by) ∙ ap length (structs_described 0 es) ∙ as_many 0 es

    either : (length before.mappings < after.count) ⊎ (length before.buffer < after.len)
        → (length before.mappings < length (structs_from 0 es)) ⊎ (length before.buffer < length (flat_map text_of es))
    either (inl few) = inl (omega (arith, few, count, many))
    either (inr short) = inr (omega (arith, short, len))

-- entries that were written, and the sizes
pub has_all : (es : List Entry) (before after : Room) → Fills es before.mappings before.buffer after.mappings
    after.buffer → length es ≤ length before.mappings → length (flat_map text_of es) ≤ length before.buffer
    → after.count ≡ length es → after.len ≡ length (flat_map text_of es) → HasAll es before after
has_all es before after fills fits text_fits count len =
    let many = as_many_as es fills.structs fills.text fills.describes in
    let long : length fills.text ≡ length (flat_map text_of es) = ap length fills.describes.texts in record {
      structs = fills.structs;
      text = fills.text;
      describes = fills.describes;
      write = record {
        fits = omega (arith, many, fits);
        text_fits = omega (arith, long, text_fits);
        mappings = fills.mappings;
        buffer = fills.buffer;
        count = count ∙ sym many;
        len = len ∙ sym long;
      };
    }
