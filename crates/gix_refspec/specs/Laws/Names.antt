-- A law of names, for a proof that writes some out: a test by bytes and slashes shows that a text is a name. It follows
-- from the definitions in Name, and adds no rule.
use Rattle.std.specs.Prelude.{ℕ, Bool, false, not, ◌||◌, ◌==◌, List, [], ◌∷◌, codes, IsTrue}
use Rattle.std.specs.List.{list_all, list_any, slice_split}
use Rattle.gix_refspec_text.specs.Texts.Bytes.{slash}
use Rattle.gix_refspec_text.specs.Texts.Name.{is_refused_byte, IsName}

-- a byte that no name contains, or only beside certain others: the slash, the dot, and `{`, which may not be after an
-- at sign
abbrev pub is_special_byte : ℕ → Bool
is_special_byte b = is_refused_byte b || list_any (λ c. b == c) (codes "*/.{")

-- w isn't empty, and contains no such byte, like `my-topic`
abbrev pub is_plain_component : List ℕ → Bool
is_plain_component [] = false
is_plain_component (b ∷ w) = not (list_any is_special_byte (b ∷ w))

-- each component between the slashes of x is plain, as in `refs/heads/my-topic`
abbrev pub is_plain_name : List ℕ → Bool
is_plain_name x = list_all is_plain_component (slice_split (λ b. b == slash) x)

-- a plain text is a name. Others may be too, like `v1.0`
abbrev pub PlainNames : Type 0
PlainNames = (x : List ℕ) → IsTrue (is_plain_name x) → IsName x
