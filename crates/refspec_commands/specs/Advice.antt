-- What advice tells to type: arguments and commands as a shell reads them (POSIX, Shell Command Language, Quoting), and
-- the spec that stores a ref below the folder of a remote. This project's own rule.
use Rattle.std.specs.Prelude.{ℕ, Bool, List, [], ◌∷◌, ◌++◌, ◌==◌, ◌&&◌, ◌||◌, cond, codes, drop, length, nat_le, not}
use Rattle.std.specs.Prelude.{take}
use Rattle.std.specs.Char.{is_ascii_alphanumeric, is_control}
use Rattle.std.specs.List.{flat_map, list_all, list_any}
use Rattle.std.specs.Str.{bytes_eq, chars, is_utf8}
use Rattle.refspec_io.specs.Shown.{in_quotes}

-- a byte that means itself to a shell: a letter or digit, one of `%+,-./:=@_`, or a byte of a character beyond ASCII
abbrev pub means_itself : ℕ → Bool
means_itself b = is_ascii_alphanumeric b || (list_any (λ c. c == b) (codes "%+,-./:=@_") || nat_le 128 b)

-- a word that needs no quotes: some bytes, each of which means itself
abbrev pub is_bare : List ℕ → Bool
is_bare text = not (length text == 0) && list_all means_itself text

-- a character that can be shown
abbrev pub is_shown : ℕ → Bool
is_shown c = not (is_control c)

-- UTF-8 without control characters
abbrev pub is_printable : List ℕ → Bool
is_printable text = is_utf8 text && list_all is_shown (chars text)

-- a byte within single quotes; a single quote ends them, stands behind a backslash, and begins them again
abbrev pub within_quotes : ℕ → List ℕ
within_quotes b = cond (b == 39) (codes "'\\''") (b ∷ [])

-- a text in single quotes
abbrev pub in_single_quotes : List ℕ → List ℕ
in_single_quotes text = 39 ∷ (flat_map within_quotes text ++ (39 ∷ []))

-- an argument: as it is if each byte means itself, else in single quotes; one that can't be shown in double quotes with
-- escapes, as in other messages
abbrev pub argument : List ℕ → List ℕ
argument text = cond (is_printable text) (cond (is_bare text) text (in_single_quotes text)) (in_quotes text)

-- whether a text begins with another
abbrev pub begins_with : (front text : List ℕ) → Bool
begins_with front text = bytes_eq (take (length front) text) front

-- the words before the remote and a branch that is added to it; `--` keeps Git from reading the branch as an option
abbrev pub set_branches : (branch : List ℕ) → List ℕ
set_branches branch = cond (begins_with (codes "-") branch) (codes "`git remote set-branches --add -- ")
    (codes "`git remote set-branches --add ")

-- the command that adds a value for a branch to a remote
abbrev pub branch_command : (remote branch : List ℕ) → List ℕ
branch_command remote branch =
    set_branches branch ++ (argument remote ++ (codes " " ++ (argument branch ++ codes "`")))

-- the command that adds a value to a remote
abbrev pub value_command : (remote value : List ℕ) → List ℕ
value_command remote value = codes "`git config --add remote."
    ++ (argument remote ++ (codes ".fetch " ++ (argument value ++ codes "`")))

-- the part of a ref name that is stored below the folder of a remote: without `refs/heads/`, or else without `refs/`
abbrev pub part_stored : (name : List ℕ) → List ℕ
part_stored name = cond (begins_with (codes "refs/heads/") name) (drop 11 name)
    (cond (begins_with (codes "refs/") name) (drop 5 name) name)

-- the destination below that folder, and the colon before it
abbrev pub destination : (name remote : List ℕ) → List ℕ
destination name remote = codes ":refs/remotes/" ++ (remote ++ (codes "/" ++ part_stored name))

-- the spec that stores a ref below the folder of a remote
abbrev pub spec_storing : (name remote : List ℕ) → List ℕ
spec_storing name remote = codes "+" ++ (name ++ destination name remote)
