-- Texts that are copied one by one.
use Rattle.std.proofs.Common.{◌≡◌, ℕ, ◌+◌, ◌<◌, List, [], ◌∷◌, ◌++◌, ap, get_or, length, map, sym, take, ◌∙◌}
use Rattle.std.proofs.lemmas.List.{map-append, map_more}
use Rattle.bstr.specs.declared.bstr.BStr.{BStr}
use Rattle.bstr.specs.declared.bstring.BString.{BString}
use Rattle.bstr.specs.BStr.{bstr_bytes}
use Rattle.bstr.specs.Owned.{bstring_bytes}

pub copies-next : (xs : List BStr) (i : ℕ) (d : BStr) (old new : List BString) (z : BString) → i < length xs
    → bstring_bytes z ≡ bstr_bytes (get_or xs i d) → new ≡ old ++ z ∷ [] → map bstring_bytes old ≡ map bstr_bytes
    (take i xs) → map bstring_bytes new ≡ map bstr_bytes (take (i + 1) xs)
copies-next xs i d old new z below is grown so_far =
    ap (map bstring_bytes) grown
    ∙ (map-append bstring_bytes old (z ∷ [])
    ∙ (ap (λ l. l ++ bstring_bytes z ∷ []) so_far
    ∙ (ap (λ b. map bstr_bytes (take i xs) ++ b ∷ []) is ∙ sym (map_more bstr_bytes xs i d below))))
