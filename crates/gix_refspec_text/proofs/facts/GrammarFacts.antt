-- The definitions of the grammar, and each of its thirteen forms at texts like those of git-fetch(1) and git-push(1),
-- with `+` and without.
use Rattle.gix_refspec_text.proofs.Common.{rules, map, ◌≡◌, [], ◌∷◌, ◌++◌, None, Some, codes, refl, arith, replicate}
use Rattle.gix_refspec_text.proofs.Common.{Push, Fetch, letter, caret, Normal, Forced, Negative, IsUnsigned, IsSigned}
use Rattle.gix_refspec_text.proofs.Common.{with_colon, LastLacksColon, AreParts, IsPositive, named_by}
use Rattle.gix_refspec_text.proofs.Common.{LooksLikeObjectHash, IsNameOrPattern, AreAlike, fetched, pushed, Reads}
use Rattle.gix_refspec_text.proofs.facts.ManualFacts.{no_sign}
use Rattle.gix_refspec_text.proofs.lemmas.lists.LacksLemmas.{Lacks-here}
use Rattle.gix_refspec_text.proofs.lemmas.texts.TestedLemmas.{IsName-tested}
use Rattle.gix_refspec_text.proofs.readers.Readings.{a_hash, no_hash, no_other, parts_of, reads}
use Rattle.gix_refspec_text.proofs.readers.Texts.{Lacks-tested, a_pattern, differ, no_name, no_pattern}

pub signs :
    -- `+` and `^` are signs only as the first byte
    IsUnsigned [] × IsUnsigned (codes "a+^") × ¬ (IsUnsigned (codes "+a")) × ¬ (IsUnsigned (codes "^a"))
    -- a sign is stripped once, and a text without a sign has no sign to strip
    × IsSigned Normal (codes "a") (codes "a") × IsSigned Forced (codes "++a") (codes "+a")
    × IsSigned Negative (codes "^+a") (codes "+a")
    × ¬ (IsSigned Normal (codes "+a") (codes "+a")) × ¬ (IsSigned Forced (codes "++a") (codes "a"))
    × ¬ (IsSigned Negative (codes "+a") (codes "a"))
    -- a spec with `+` or without a sign is positive, and one with `^` isn't
    × IsPositive Normal × IsPositive Forced × ¬ (IsPositive Negative)
    -- a colon comes before a destination, even an empty one, and is missing without one
    × (with_colon (codes "a") None ≡ codes "a") × (with_colon (codes "a") (Some []) ≡ codes "a:")
    × (with_colon (codes "a:b") (Some (codes "c")) ≡ codes "a:b:c")
    -- the last word contains no colon; the one before it may
    × LastLacksColon (codes "a:b") (Some (codes "c")) × LastLacksColon (codes "a") None
    × ¬ (LastLacksColon (codes "a:b") None) × ¬ (LastLacksColon (codes "a") (Some (codes "b:c")))
    -- so a text is split at its last colon, and at no other
    × AreParts Normal (codes "a:b") (Some (codes "c")) (codes "a:b:c")
    × ¬ (AreParts Normal (codes "a") (Some (codes "b:c")) (codes "a:b:c"))
    × ¬ (AreParts Normal (codes "a:b:c") None (codes "a:b:c"))
    -- `@` alone is short for `HEAD`, but not in a longer word; nor is any other single byte, or the empty text
    × (map named_by (codes "@" ∷ codes "HEAD" ∷ codes "@@" ∷ codes "a@" ∷ codes "a" ∷ [] ∷ []) ≡ codes "HEAD"
    ∷ codes "HEAD" ∷ codes "@@" ∷ codes "a@" ∷ codes "a" ∷ [] ∷ [])
signs = search (arith, no_sign, differ, Lacks-tested, Lacks-here, parts_of)

pub names_and_patterns :
    -- a name, a pattern, and a text that is neither
    IsNameOrPattern (codes "b") × IsNameOrPattern (codes "a*") × ¬ (IsNameOrPattern (codes "a b"))
    -- two names, two patterns, and one of each
    × AreAlike (codes "b") (codes "b") × AreAlike (codes "a*") (codes "a*") × ¬ (AreAlike (codes "a*") (codes "b"))
    × ¬ (AreAlike (codes "b") (codes "a*"))
names_and_patterns = search (
  rules,
  IsName-tested,
  a_pattern,
  no_name (codes "a b") refl,
  no_pattern (codes "a b") refl,
  no_name (codes "a*") refl,
  no_pattern (codes "b") refl,
)

-- 40 hex digits and more look like an id, in either case; 40 bytes of which one isn't a hex digit don't, nor do 39
-- digits
pub hashes : LooksLikeObjectHash (replicate 40 letter) × LooksLikeObjectHash (replicate 41 65)
    × ¬ (LooksLikeObjectHash (codes "g" ++ replicate 39 letter)) × ¬ (LooksLikeObjectHash (replicate 39 letter))
hashes = search (rules, a_hash, no_hash)

-- an empty source, with and without a sign and a colon, is `HEAD`
pub fetches_head : Reads Fetch [] (fetched Normal (codes "HEAD") None) × Reads Fetch (codes "+")
    (fetched Forced (codes "HEAD") None) × Reads Fetch (codes ":") (fetched Normal (codes "HEAD") None)
    × Reads Fetch (codes "+:") (fetched Forced (codes "HEAD") None)
fetches_head = search (rules, reads)

pub fetches_main :
    -- a name alone; the second of two signs belongs to the name
    Reads Fetch (codes "main") (fetched Normal (codes "main") None) × Reads Fetch (codes "+main")
    (fetched Forced (codes "main") None)
    × Reads Fetch (codes "++main") (fetched Forced (codes "+main") None) × Reads Fetch (codes "@")
    (fetched Normal (codes "HEAD") None)
    -- a colon after a name changes nothing
    × Reads Fetch (codes "main:") (fetched Normal (codes "main") None) × Reads Fetch (codes "+main:")
    (fetched Forced (codes "main") None)
    × Reads Fetch (codes "@:") (fetched Normal (codes "HEAD") None)
    -- a pattern, a name, `@`, a `+` that isn't a sign, and a text that is almost an id
    × Reads Fetch (codes "^refs/heads/dev-*") (fetched Negative (codes "refs/heads/dev-*") None)
    × Reads Fetch (codes "^main") (fetched Negative (codes "main") None)
    × Reads Fetch (codes "^@") (fetched Negative (codes "HEAD") None) × Reads Fetch (codes "^+main")
    (fetched Negative (codes "+main") None)
    × Reads Fetch (caret ∷ replicate 39 letter) (fetched Negative (replicate 39 letter) None)
fetches_main = search (rules, reads)

pub updates_names :
    -- two names, of which only the source may be short for `HEAD`
    Reads Fetch (codes "main:refs/x/b") (fetched Normal (codes "main") (Some (codes "refs/x/b")))
    × Reads Fetch (codes "@:@") (fetched Normal (codes "HEAD") (Some (codes "@")))
    × Reads Fetch (codes "+main:refs/x/b") (fetched Forced (codes "main") (Some (codes "refs/x/b")))
    -- two patterns
    × Reads Fetch (codes "refs/heads/*:refs/x/*") (fetched Normal (codes "refs/heads/*") (Some (codes "refs/x/*")))
    -- the source of a destination alone is `HEAD`
    × Reads Fetch (codes ":refs/heads/x") (fetched Normal (codes "HEAD") (Some (codes "refs/heads/x")))
    × Reads Fetch (codes "+:refs/heads/x") (fetched Forced (codes "HEAD") (Some (codes "refs/heads/x")))
updates_names = search (rules, reads)

pub pushes :
    -- a name, `@`, and 40 bytes of which one isn't a hex digit
    Reads Push (codes "^main") (pushed Negative (Some (codes "main")) None) × Reads Push (codes "^@")
    (pushed Negative (Some (codes "HEAD")) None)
    × Reads Push (caret ∷ (codes "g" ++ replicate 39 letter))
    (pushed Negative (Some (codes "g" ++ replicate 39 letter)) None)
    -- all matching branches, as `:` without a sign
    × Reads Push (codes "+") (pushed Forced None None) × Reads Push (codes "+:") (pushed Forced None None)
    -- a name alone, or a pattern
    × Reads Push (codes "main") (pushed Normal (Some (codes "main")) None) × Reads Push (codes "++main")
    (pushed Forced (Some (codes "+main")) None)
    × Reads Push (codes "@") (pushed Normal (Some (codes "HEAD")) None) × Reads Push (codes "+refs/heads/*")
    (pushed Forced (Some (codes "refs/heads/*")) None)
    -- a destination alone; a sign after the colon belongs to it
    × Reads Push (codes "+:x") (pushed Forced None (Some (codes "x"))) × Reads Push (codes ":+x")
    (pushed Normal None (Some (codes "+x")))
    -- two patterns
    × Reads Push (codes "refs/heads/*:refs/x/*") (pushed Normal (Some (codes "refs/heads/*")) (Some (codes "refs/x/*")))
    × Reads Push (codes "+refs/heads/*:refs/x/*")
    (pushed Forced (Some (codes "refs/heads/*")) (Some (codes "refs/x/*")))
    -- any expression for an object may be a source, even if it isn't a ref name; it goes up to the last colon
    × Reads Push (codes "main~2:refs/heads/x") (pushed Normal (Some (codes "main~2")) (Some (codes "refs/heads/x")))
    × Reads Push (codes ":/message:refs/heads/x")
    (pushed Normal (Some (codes ":/message")) (Some (codes "refs/heads/x")))
    × Reads Push (codes "+^a..b:x") (pushed Forced (Some (codes "^a..b")) (Some (codes "x"))) × Reads Push (codes "@:@")
    (pushed Normal (Some (codes "HEAD")) (Some (codes "@")))
    × Reads Push (codes "::x") (pushed Normal (Some (codes ":")) (Some (codes "x")))
pushes = search (rules, reads)

pub no_other_reading :
    -- a push of a name alone has no destination, nor has a fetch with a colon after its name
    ¬ (Reads Push (codes "main") (pushed Normal (Some (codes "main")) (Some (codes "main"))))
    × ¬ (Reads Fetch (codes "main:") (fetched Normal (codes "main") (Some [])))
    -- `@` doesn't stay `@`; a sign isn't part of a name; and a push isn't split at its first colon
    × ¬ (Reads Fetch (codes "@") (fetched Normal (codes "@") None))
    × ¬ (Reads Fetch (codes "+main") (fetched Normal (codes "+main") None))
    × ¬ (Reads Push (codes ":/message:refs/heads/x") (pushed Normal None (Some (codes "/message:refs/heads/x"))))
no_other_reading = search (rules, no_other)
