-- Arguments and commands as a shell reads them, and the specs that advice adds.
use Rattle.std.proofs.Common.{◌≡◌, ◌∷◌, [], true, false, codes, refl}
use Rattle.std.specs.Str.{chars, is_utf8}
use Rattle.refspec_commands.specs.Advice.{argument, branch_command, is_bare, means_itself, part_stored, spec_storing}
use Rattle.refspec_commands.specs.Advice.{value_command}

-- letters, digits, and the signs that a shell leaves alone, with the bytes next to them
pub bytes : (means_itself 36 ≡ false) × (means_itself 37 ≡ true) × (means_itself 38 ≡ false) × (means_itself 42 ≡ false)
    × (means_itself 43 ≡ true) × (means_itself 58 ≡ true) × (means_itself 59 ≡ false) × (means_itself 64 ≡ true)
    × (means_itself 91 ≡ false) × (means_itself 94 ≡ false) × (means_itself 95 ≡ true) × (means_itself 96 ≡ false)
    × (means_itself 122 ≡ true) × (means_itself 123 ≡ false)
bytes = (refl, refl, refl, refl, refl, refl, refl, refl, refl, refl, refl, refl, refl, refl)

-- bytes beyond ASCII, and the last one before them
pub beyond : (means_itself 127 ≡ false) × (means_itself 128 ≡ true) × (means_itself 255 ≡ true)
beyond = (refl, refl, refl)

-- no byte is no word
pub bare : (is_bare [] ≡ false) × (is_bare (codes "a") ≡ true) × (is_bare (codes "a b") ≡ false)
bare = (refl, refl, refl)

-- as it is, or in single quotes; a quote within them
pub words : (argument (codes "refs/heads/a:b") ≡ codes "refs/heads/a:b") × (argument (codes "a;b") ≡ codes "'a;b'")
    × (argument [] ≡ codes "''") × (argument (codes "it's") ≡ codes "'it'\\''s'")
    × (argument (195 ∷ 169 ∷ []) ≡ 195 ∷ 169 ∷ [])
unfolding is_utf8 chars lib.Utf8.encode
words = (refl, refl, refl, refl, refl)

-- control characters, also those beyond ASCII, and bytes that are no UTF-8 have escapes, and the characters next to
-- them have none
pub unshown : (argument (codes "a\tb") ≡ codes "\"a\\tb\"") × (argument (195 ∷ []) ≡ codes "\"\\303\"")
    × (argument (194 ∷ 159 ∷ []) ≡ codes "\"\\302\\237\"") × (argument (194 ∷ 160 ∷ []) ≡ 194 ∷ 160 ∷ [])
    × (argument (127 ∷ []) ≡ codes "\"\\177\"") × (argument (codes " ") ≡ codes "' '")
unfolding is_utf8 chars lib.Utf8.encode
unshown = (refl, refl, refl, refl, refl, refl)

-- a branch that begins with a dash has `--` before it, and so has no other one
pub branches : (branch_command (codes "o") (codes "a-") ≡ codes "`git remote set-branches --add o a-`")
    × (branch_command (codes "o") (codes "-a") ≡ codes "`git remote set-branches --add -- o -a`")
    × (branch_command (codes "a b") (codes "x&y") ≡ codes "`git remote set-branches --add 'a b' 'x&y'`")
unfolding is_utf8 chars lib.Utf8.encode
branches = (refl, refl, refl)

pub values :
    (value_command (codes "o") (codes "^refs/tags/v1") ≡ codes "`git config --add remote.o.fetch '^refs/tags/v1'`")
    × (value_command (codes "o") (codes "a:b") ≡ codes "`git config --add remote.o.fetch a:b`")
unfolding is_utf8 chars lib.Utf8.encode
values = (refl, refl)

-- without `refs/heads/`, or else without `refs/`, or as it is
pub parts : (part_stored (codes "refs/heads/a/b") ≡ codes "a/b")
    × (part_stored (codes "refs/tags/v1") ≡ codes "tags/v1")
    × (part_stored (codes "refs/headsx") ≡ codes "headsx") × (part_stored (codes "HEAD") ≡ codes "HEAD")
    × (part_stored (codes "heads/a") ≡ codes "heads/a")
parts = (refl, refl, refl, refl, refl)

pub specs : (spec_storing (codes "refs/heads/main") (codes "up") ≡ codes "+refs/heads/main:refs/remotes/up/main")
    × (spec_storing (codes "refs/tags/v1") (codes "up") ≡ codes "+refs/tags/v1:refs/remotes/up/tags/v1")
specs = (refl, refl)
