-- The forms of the lines that the matching commands read, at lines on both sides of a border, so that a
-- wrong rule in specs/ doesn't check.
use Rattle.std.proofs.Common.{◌≡◌, ◌≢◌, inl, inr, ℕ, zero, suc, ◌+◌, ◌*◌, ◌<◌, List, [], ◌∷◌, ◌++◌, None, Some, length}
use Rattle.std.proofs.Common.{get_or, slice_index, codes, refl, ap, subst, arith}
use Rattle.std.proofs.lemmas.Bool.{eqb-false}
use Rattle.hex.specs.Hex.{hex_digit_value}
use Rattle.gix_refspec_text.specs.declared.oid.Kind.{Kind}
use Rattle.gix_refspec_text.specs.declared.oid.Kind.TheVariants.{Sha1, Sha256}
use Rattle.gix_refspec.specs.Texts.ObjectId.{digits_of, IsIdText, IsSpelledBy, Spells}
use Rattle.gix_refspec.specs.Matching.Match.{Ref}
use Rattle.refspec_map.specs.Line.{space, IsIdThen, IsRefLine, IsTagLine, spec, item, Says, IsMalformed}
use Rattle.refspec_map.proofs.LineLemmas.{no_IsIdThen, no_IsIdThen-word, no_ref_keyword, no_ref_id, no_tag_keyword}
use Rattle.refspec_map.proofs.LineLemmas.{no_tagged_id, malformed}
use Rattle.refspec_map.proofs.LineFacts.{Lacks-tested}

-- texts that begin with different bytes differ
other_first : (b c : ℕ) (x y : List ℕ) → b ≢ c → b ∷ x ≢ c ∷ y
other_first b c x y differ same = differ (ap (λ (l : List ℕ). get_or l 0 0) same)

-- a line whose first byte isn't that of a keyword doesn't begin with the keyword
pub no_spec_first : (b : ℕ) (x : List ℕ) → b ≢ 115 → (text : List ℕ) → b ∷ x ≢ codes "spec " ++ text
no_spec_first b x differ text = other_first b 115 x _ differ

pub no_ref_first : (b : ℕ) (x : List ℕ) → b ≢ 114 → (r : Ref) → ¬ (IsRefLine (b ∷ x) r)
no_ref_first b x differ = no_ref_keyword (b ∷ x) (λ words. other_first b 114 x _ differ)

pub no_tag_first : (b : ℕ) (x : List ℕ) → b ≢ 116 → (r : Ref) → ¬ (IsTagLine (b ∷ x) r)
no_tag_first b x differ = no_tag_keyword (b ∷ x) (λ words. other_first b 116 x _ differ)

-- the digits of an id, and its bytes
abbrev pub blob_digits : List ℕ
blob_digits = codes "e69de29bb2d1d6434b8b29ae775ad8c2e48c5391"

abbrev pub blob : List ℕ
blob = 0xe6 ∷ 0x9d ∷ 0xe2 ∷ 0x9b ∷ 0xb2 ∷ 0xd1 ∷ 0xd6 ∷ 0x43 ∷ 0x4b ∷ 0x8b ∷ 0x29 ∷ 0xae ∷ 0x77 ∷ 0x5a ∷ 0xd8 ∷ 0xc2
    ∷ 0xe4 ∷ 0x8c ∷ 0x53 ∷ 0x91 ∷ []

-- two digits with these values spell a byte
two : (c d high low : ℕ) → hex_digit_value c ≡ Some high → hex_digit_value d ≡ Some low
    → IsSpelledBy (16 * high + low) c d
two c d high low high_read low_read = record {
  high_value = high;
  low_value = low;
  high_read = high_read;
  low_read =
      low_read;
  value = refl;
}

spells_none : Spells [] []
spells_none k below = absurd (omega (arith, below))

-- two digits that spell a byte, before the digits of the other bytes
spells_more : {b c d : ℕ} (t i : List ℕ) → IsSpelledBy b c d → Spells t i → Spells (c ∷ d ∷ t) (b ∷ i)
spells_more t i one more zero below = one
spells_more {b} {c} {d} t i one more (suc k) below =
    subst (λ n. IsSpelledBy (slice_index i k) (slice_index (c ∷ d ∷ t) n) (slice_index (c ∷ d ∷ t) (2 * suc k + 1)))
    (high k)
    (subst (λ n. IsSpelledBy (slice_index i k) (slice_index t (2 * k)) (slice_index (c ∷ d ∷ t) n)) (low k)
    (more k (omega (arith, below))))
  where
    high : (k : ℕ) → suc (suc (2 * k)) ≡ 2 * suc k
    high k = omega arith

    low : (k : ℕ) → suc (suc (2 * k + 1)) ≡ 2 * suc k + 1
    low k = omega arith

-- each two digits spell a byte
abbrev SpellEach : List ℕ → List ℕ → Type 0
SpellEach [] [] = Unit {0}
SpellEach [] (b ∷ i) = ⊥
SpellEach (c ∷ []) i = ⊥
SpellEach (c ∷ d ∷ t) [] = ⊥
SpellEach (c ∷ d ∷ t) (b ∷ i) = IsSpelledBy b c d × SpellEach t i

spelled_each : (t i : List ℕ) → SpellEach t i → Spells t i
spelled_each [] [] each = spells_none
spelled_each [] (b ∷ i) each = absurd each
spelled_each (c ∷ []) i each = absurd each
spelled_each (c ∷ d ∷ t) [] each = absurd each
spelled_each (c ∷ d ∷ t) (b ∷ i) each = spells_more t i each.0 (spelled_each t i each.1)

blob_spelled : Spells blob_digits blob
blob_spelled = spelled_each blob_digits blob (
  two 101 54 14 6 refl refl,
  (
    two 57 100 9 13 refl refl,
    (
      two 101 50 14 2 refl refl,
      (
        two 57 98 9 11 refl refl,
        (
          two 98 50 11 2 refl refl,
          (
            two 100 49 13 1 refl refl,
            (
              two 100 54 13 6 refl refl,
              (
                two 52 51 4 3 refl refl,
                (
                  two 52 98 4 11 refl refl,
                  (
                    two 56 98 8 11 refl refl,
                    (
                      two 50 57 2 9 refl refl,
                      (
                        two 97 101 10 14 refl refl,
                        (
                          two 55 55 7 7 refl refl,
                          (
                            two 53 97 5 10 refl refl,
                            (
                              two 100 56 13 8 refl refl,
                              (
                                two 99 50 12 2 refl refl,
                                (
                                  two 101 52 14 4 refl refl,
                                  (two 56 99 8 12 refl refl, (two 53 51 5 3 refl refl, (two 57 49 9 1 refl refl, tt))),
                                ),
                              ),
                            ),
                          ),
                        ),
                      ),
                    ),
                  ),
                ),
              ),
            ),
          ),
        ),
      ),
    ),
  ),
)

blob_text : IsIdText blob_digits blob
blob_text = record { kind = Sha1; digits = refl; bytes = refl; spelled = blob_spelled }

-- the digits, a space and what follows
pub blob_then : (rest : List ℕ) → IsIdThen (blob_digits ++ (space ∷ rest)) blob rest
blob_then rest = record {
  word = blob_digits;
  ends = Lacks-tested space blob_digits refl;
  spelled = blob_text;
  here =
      refl;
}

-- ---- specs

-- the text of a spec may be empty, and may begin with a space
pub spec_lines : Says (codes "spec ") (spec []) × Says (codes "spec  a:b") (spec (codes " a:b"))
spec_lines = (refl, refl)

-- but the space after the keyword must not be missing
no_space : (text : List ℕ) → codes "spec" ≢ codes "spec " ++ text
no_space text same = omega (arith, ap length same)

pub no_spec_line : IsMalformed (codes "spec")
no_spec_line = malformed (codes "spec") no_space (no_ref_first 115 _ (eqb-false 115 114 refl))
    (no_tag_first 115 _ (eqb-false 115 116 refl))

-- nor may the keyword be in upper case
pub no_upper_spec_line : IsMalformed (codes "Spec a")
no_upper_spec_line = malformed (codes "Spec a") (no_spec_first 83 _ (eqb-false 83 115 refl))
    (no_ref_first 83 _ (eqb-false 83 114 refl)) (no_tag_first 83 _ (eqb-false 83 116 refl))

-- ---- refs

-- the name is all that follows the id and its space, and may be empty
pub ref_lines : (rest : List ℕ) → Says (codes "ref " ++ (blob_digits ++ (space ∷ rest)))
    (item (record { name = rest; target = blob; object = None }))
ref_lines rest =
    inl (record { words = blob_digits ++ (space ∷ rest); here = refl; target = blob_then rest; object = refl })

-- an id has no fewer than 40 digits
pub no_length : (n : ℕ) (kind : Kind) → n < 40 → n ≢ digits_of kind
no_length n Sha1 few same = omega (arith, few, same)
no_length n Sha256 few same = omega (arith, few, same)

-- the first word must have all digits of an id
short_id : (id rest : List ℕ) → ¬ (IsIdThen (codes "e69de2 HEAD") id rest)
short_id = no_IsIdThen-word (codes "e69de2 HEAD") (codes "e69de2") (codes "HEAD") refl
    (Lacks-tested space (codes "e69de2") refl) (λ id is. no_length 6 is.kind (omega arith) is.digits)

pub no_short_ref_line : IsMalformed (codes "ref e69de2 HEAD")
no_short_ref_line = malformed (codes "ref e69de2 HEAD") (no_spec_first 114 _ (eqb-false 114 115 refl))
    (no_ref_id (codes "ref e69de2 HEAD") (codes "e69de2 HEAD") refl short_id)
    (no_tag_first 114 _ (eqb-false 114 116 refl))

-- and a space must follow it
pub no_bare_ref_line : IsMalformed (codes "ref e69de29bb2d1d6434b8b29ae775ad8c2e48c5391")
no_bare_ref_line =
    let line = codes "ref e69de29bb2d1d6434b8b29ae775ad8c2e48c5391" in
    malformed line (no_spec_first 114 _ (eqb-false 114 115 refl))
    (no_ref_id line blob_digits refl (no_IsIdThen blob_digits (Lacks-tested space blob_digits refl)))
    (no_tag_first 114 _ (eqb-false 114 116 refl))

-- ---- tags

-- two ids, of which the second is that of the tagged object
pub tag_lines : (rest : List ℕ) → Says (codes "tag " ++ (blob_digits ++ (space ∷ (blob_digits ++ (space ∷ rest)))))
    (item (record { name = rest; target = blob; object = Some blob }))
tag_lines rest = inr (record {
  words = blob_digits ++ (space ∷ (blob_digits ++ (space ∷ rest)));
  rest = blob_digits ++ (space ∷ rest);
  id = blob;
  here = refl;
  target = blob_then (blob_digits ++ (space ∷ rest));
  tagged = blob_then rest;
  object = refl;
})

-- one id is too few
pub no_lone_tag_line : IsMalformed (codes "tag e69de29bb2d1d6434b8b29ae775ad8c2e48c5391 refs/tags/v1")
no_lone_tag_line =
    let line = codes "tag e69de29bb2d1d6434b8b29ae775ad8c2e48c5391 refs/tags/v1" in
    let name = codes "refs/tags/v1" in
    malformed line (no_spec_first 116 _ (eqb-false 116 115 refl)) (no_ref_first 116 _ (eqb-false 116 114 refl))
    (no_tagged_id line (blob_digits ++ (space ∷ name)) blob name refl (blob_then name)
    (no_IsIdThen name (Lacks-tested space name refl)))
