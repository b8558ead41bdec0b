-- The Git commands that `bin/git-refspec` runs, and the form in which they are requested. This form is this project's
-- own.
use Rattle.std.specs.Prelude.{ℕ, List, [], ◌∷◌, ◌++◌, codes, decimal, map}
use Rattle.std.specs.List.{flat_map}
use Rattle.refspec_request.specs.declared.ask.GitCall.{GitCall}
use Rattle.refspec_request.specs.declared.ask.GitCall.TheVariants as call

-- the file of the full name of the argument with this index
abbrev pub name_file : ℕ → List ℕ
name_file number = codes "name." ++ decimal number

-- git-for-each-ref(1): the name of a ref, a space, and the target of a symbolic ref
abbrev pub ref_format : List ℕ
ref_format = codes "--format=%(refname) %(symref)"

-- the refs with these names
abbrev pub refs_arguments : List (List ℕ) → List (List ℕ)
refs_arguments names = codes "refs" ∷ codes "for-each-ref" ∷ ref_format ∷ names

-- the full name of the argument with this index
abbrev pub full_name_arguments : ℕ → List ℕ → List (List ℕ)
full_name_arguments number argument = name_file number ∷ codes "rev-parse" ∷ codes "--symbolic-full-name" ∷ argument ∷
    []

-- the file of the output, or `-` for the standard output, and the arguments of `git`
abbrev pub asked_of_git : GitCall → List (List ℕ)
asked_of_git call.Manual = codes "-" ∷ codes "help" ∷ codes "refspec" ∷ []
asked_of_git call.Folder = codes "folder" ∷ codes "rev-parse" ∷ codes "--git-common-dir" ∷ []
asked_of_git call.Config = codes "config" ∷ codes "config" ∷ codes "--show-origin" ∷ codes "-z" ∷ codes "--list" ∷ []
asked_of_git call.Head = codes "head" ∷ codes "symbolic-ref" ∷ codes "-q" ∷ codes "HEAD" ∷ []
asked_of_git (call.Lines remote) = codes "lines" ∷ codes "ls-remote" ∷ codes "--" ∷ remote.now ∷ []
asked_of_git (call.Refs names) = refs_arguments (map (λ name. name.items) names.now)
asked_of_git call.Local = codes "local" ∷ codes "for-each-ref" ∷ ref_format ∷ []
asked_of_git (call.FullName number argument) = full_name_arguments number argument.now

-- each text in a line of its own
abbrev pub in_lines : List (List ℕ) → List ℕ
in_lines texts = flat_map (λ text. text ++ (10 ∷ [])) texts

-- a Git command: these lines, and an empty one
abbrev pub requested : GitCall → List ℕ
requested git = in_lines (asked_of_git git) ++ (10 ∷ [])
