-- How a call is refused: the exit status and the message. This project's own rule.
use Rattle.std.specs.Prelude.{◌≡◌, ℕ, List, [], ◌∷◌, ◌++◌, ⊤, codes, cond}
use Rattle.std.specs.List.{flat_map}
use Rattle.std.specs.Str.{bytes_eq}
use Rattle.refspec_io.specs.Shown.{IsQuoted}
use Rattle.refspec_io.specs.declared.settings.Setting.{Setting}
use Rattle.refspec_request.specs.declared.refusal.Refusal.{Refusal}
use Rattle.refspec_request.specs.declared.refusal.Refusal.TheVariants as refusal
use Rattle.refspec_request.specs.Remotes.{members_of}

-- the exit status: 1 for the configuration, 3 for memory, and 2 for a usage error
abbrev pub refusal_status : Refusal → ℕ
refusal_status (refusal.OldForm name folder) = 1
refusal_status (refusal.BadBoolean origin key value) = 1
refusal_status (refusal.NoValue origin key) = 1
refusal_status refusal.NoValuesAtAll = 1
refusal_status (refusal.NoValuesOf remote) = 1
refusal_status refusal.NoMergedRef = 1
refusal_status (refusal.NoBranchAtHead argument) = 1
refusal_status refusal.OtherRefused = 1
refusal_status refusal.Memory = 3
refusal_status _ = 2

-- memory ran out
abbrev pub IsForMemory : Refusal → Type 0
IsForMemory refusal.Memory = ⊤
IsForMemory _ = ⊥

-- a piece of a message: words, or a text that is quoted if needed
pub data Piece : Type 0 where
  words : List ℕ → Piece
  quoted : List ℕ → Piece

-- the pieces, in order, are the bytes
abbrev pub AreSpelled : List Piece → List ℕ → Type 0
AreSpelled [] bytes = bytes ≡ []
AreSpelled (words text ∷ pieces) bytes = (rest : List ℕ) × AreSpelled pieces rest × (bytes ≡ text ++ rest)
AreSpelled (quoted text ∷ pieces) bytes =
    (shown : List ℕ) × (rest : List ℕ) × IsQuoted text shown × AreSpelled pieces rest × (bytes ≡ shown ++ rest)

-- the bytes grew by the pieces
abbrev pub Writes : List Piece → List ℕ → List ℕ → Type 0
Writes pieces old new = (bytes : List ℕ) × AreSpelled pieces bytes × (new ≡ old ++ bytes)

-- a text between two others
abbrev pub about : List ℕ → List ℕ → List ℕ → List Piece
about before text after = words before ∷ quoted text ∷ words after ∷ []

-- an origin before a colon: that of `-c` without the colon with which Git ends it
abbrev pub shown_origin : List ℕ → List ℕ
shown_origin origin = cond (bytes_eq origin (codes "command line:")) (codes "command line") origin

-- the origin and the key of a setting, before what is said of it
abbrev pub location : List ℕ → List ℕ → List Piece
location origin key = quoted (shown_origin origin) ∷ about (codes ": ") key (codes ": ")

-- the sentence on an option of another command
abbrev pub elsewhere_sentence : List ℕ → List ℕ → List Piece
elsewhere_sentence option command =
    about [] option (codes ": only ") ++ about [] command (codes " takes this option")

-- the sentence on a setting that isn't a boolean
abbrev pub boolean_sentence : List ℕ → List ℕ → List ℕ → List Piece
boolean_sentence origin key value =
    location origin key ++ about [] value (codes " is not a boolean, so Git stops; write true or false")

-- the sentence on a setting that needs a value
abbrev pub value_sentence : List ℕ → List ℕ → List Piece
value_sentence origin key = location origin key ++ words
    (codes "the value is missing, so Git stops; write `=` and a value behind the key, or remove its line") ∷ []

-- the sentence on a remote that has a file
abbrev pub old_form_sentence : List ℕ → List ℕ → List Piece
old_form_sentence name folder =
    about (codes "the remote ") name (codes " is configured in ")
    ++ (about [] folder (codes ", which is not read here; `git remote rename ")
    ++ (about [] name (codes " ") ++ about [] name (codes "` moves it into the configuration")))

-- the remotes of a group, each behind a space
abbrev pub pieces_of_members : List (List ℕ) → List Piece
pieces_of_members members = flat_map (λ member. about (codes " ") member []) members

-- the sentence on a group
abbrev pub group_sentence : List ℕ → List Setting → List Piece
group_sentence name settings =
    about [] name (codes " is a group of remotes; name one of them:") ++ pieces_of_members (members_of name settings)

-- the sentence of a refusal
abbrev pub sentence_of : Refusal → List Piece
sentence_of refusal.NoCommand = words (codes "no command is given") ∷ []
sentence_of (refusal.NoSuchCommand argument) = about (codes "there is no command ") argument.now []
sentence_of (refusal.NoSuchOption argument) = about (codes "there is no option ") argument.now []
sentence_of (refusal.NeedlessValue argument) = about [] argument.now (codes ": this option takes no value")
sentence_of (refusal.OptionElsewhere option command) = elsewhere_sentence option.now command.now
sentence_of refusal.NoRemoteName = words (codes "--remote takes the name of a remote") ∷ []
sentence_of refusal.NoRefmap = words (codes "--refmap takes a spec, or an empty one") ∷ []
sentence_of refusal.IdleRefmap =
    words (codes "--refmap replaces the fetch values for given specs, and Git refuses it without any") ∷ []
sentence_of refusal.NoRef =
    words (codes "track takes a tracking ref, such as origin/main: git refspec track REF..") ∷ []
sentence_of (refusal.UrlOrSpec argument) = about [] argument.now
    (codes " may be a URL or a spec; put the remote before a spec, or `--`, and a URL after --remote")
sentence_of (refusal.NoRemoteNoSpec argument) = about [] argument.now
    (codes " is not a configured remote; `git remote` lists those, and a spec may follow `--`")
sentence_of refusal.NoDefault = words
    (codes "no remote is given: the current branch has none, and neither a single one nor origin has a URL") ∷ []
sentence_of (refusal.NotUtf8 argument) = about [] argument.now
    (codes " is not UTF-8; give such a spec to refspec on its standard input")
sentence_of (refusal.Newline argument) = about [] argument.now (codes " has a newline, so it names no remote")
sentence_of refusal.NoTagName = words (codes "tag takes the name of a tag") ∷ []
sentence_of (refusal.NoRefName argument) = about [] argument.now (codes " is not a valid ref name")
sentence_of (refusal.NotARef argument) = about [] argument.now (codes " is not a ref")
sentence_of (refusal.OldForm name folder) = old_form_sentence name.now folder.now
sentence_of (refusal.Group name settings) = group_sentence name.now settings.now
sentence_of (refusal.BadBoolean origin key value) = boolean_sentence origin.now key.now value.now
sentence_of (refusal.NoValue origin key) = value_sentence origin.now key.now
sentence_of refusal.NoValuesAtAll = words (codes "no remote has fetch values") ∷ []
sentence_of refusal.NoMergedRef = words (codes "no branch has a merge value, so none has an upstream") ∷ []
sentence_of (refusal.NoBranchAtHead argument) = about [] argument.now (codes " does not point to a branch")
sentence_of refusal.RemoteOfBranches = words
    (codes "upstream takes branches and no --remote, as each branch has a remote of its own") ∷ []
sentence_of (refusal.NoValuesOf remote) = about [] remote.now (codes " has no fetch values")
sentence_of refusal.ArgumentsOfWhy = words
    (codes "why takes a ref of the remote, and perhaps the remote: git refspec why REF [REMOTE]") ∷ []
sentence_of refusal.OtherRefused = words
    (codes "a value of another remote is refused, so Git uses none; `git refspec check` shows which") ∷ []
sentence_of refusal.Memory = words (codes "out of memory") ∷ []

-- the synopses, which follow the message if the command or an option is unknown
abbrev pub synopses : List ℕ
synopses = codes "usage: git refspec check [-v] [--push] [--strict] [--no-warnings] [<remote> | <spec>]...\n"
    ++ (codes "   or: git refspec plan [--long] [--all] [--prune] [--refmap <spec>]... [<remote>] [<spec>...]\n"
    ++ (codes "   or: git refspec stale [<remote>] [<spec>...]\n"
    ++ (codes "   or: git refspec track <ref>...\n"
    ++ (codes "   or: git refspec upstream [<branch>...]\n"
    ++ (codes "   or: git refspec why <ref> [<remote>]\n"
    ++ codes "   or: git refspec prefixes [--patterns] [--head] [<remote>] [<spec>...]\n")))))

abbrev pub advice_of : Refusal → List Piece
advice_of refusal.NoCommand = words synopses ∷ []
advice_of (refusal.NoSuchCommand argument) = words synopses ∷ []
advice_of (refusal.NoSuchOption argument) = words synopses ∷ []
advice_of _ = []

-- the message: the name of the program, the sentence in one line, and the synopses
abbrev pub message_of : Refusal → List Piece
message_of refusal = words (codes "git refspec: ") ∷ (sentence_of refusal ++ (words (codes "\n") ∷ advice_of refusal))
