-- The arguments of a call of `git refspec`: options, `--` and texts, in any order, and what they ask for. This
-- project's own rules, with options as gitcli(7) has them.
use Rattle.std.specs.Prelude.{◌≡◌, ◌≢◌, ◌⊎◌, ◌↔◌, ◌==◌, ◌&&◌, ◌-◌, ℕ, nat_lt, Bool, true, false, cond, IsTrue, List}
use Rattle.std.specs.Prelude.{[], ◌∷◌, ◌++◌, Option, None, Some, codes, drop, length, map, option_map, slice_index}
use Rattle.std.specs.List.{All, Contains, flat_map}
use Rattle.std.specs.Str.{bytes_eq}
use Rattle.gix_refspec_text.specs.Texts.Words.{Lacks}
use Rattle.refspec_io.specs.declared.call.Form.{Form}
use Rattle.refspec_io.specs.declared.call.Form.TheVariants as form
use Rattle.refspec_request.specs.declared.arguments.Purpose.{Purpose}
use Rattle.refspec_request.specs.declared.arguments.Purpose.TheVariants as purpose
use Rattle.refspec_request.specs.declared.arguments.Request.{Request}
use Rattle.refspec_request.specs.declared.arguments.Subcommand.{Subcommand}
use Rattle.refspec_request.specs.declared.arguments.Subcommand.TheVariants as command
use Rattle.refspec_request.specs.declared.arguments.Switch.{Switch}
use Rattle.refspec_request.specs.declared.arguments.Switch.TheVariants as switch
use Rattle.refspec_request.specs.declared.arguments.Valued.{Valued}
use Rattle.refspec_request.specs.declared.arguments.Valued.TheVariants as option
use Rattle.refspec_request.specs.declared.refusal.Refusal.{Refusal}
use Rattle.refspec_request.specs.declared.refusal.Refusal.TheVariants as refusal
use Rattle.refspec_request.specs.Refusals.{IsForMemory}

-- the commands by their names
abbrev pub command_named : List ℕ → Option Subcommand
command_named name =
    cond (bytes_eq name (codes "check")) (Some command.Check)
    (cond (bytes_eq name (codes "plan")) (Some command.Plan)
    (cond (bytes_eq name (codes "track")) (Some command.Track)
    (cond (bytes_eq name (codes "prefixes")) (Some command.Prefixes)
    (cond (bytes_eq name (codes "stale")) (Some command.Stale)
    (cond (bytes_eq name (codes "upstream")) (Some command.Upstream)
    (cond (bytes_eq name (codes "why")) (Some command.Why) None))))))

-- the name of a command
abbrev pub name_of : Subcommand → List ℕ
name_of command.Check = codes "check"
name_of command.Plan = codes "plan"
name_of command.Track = codes "track"
name_of command.Prefixes = codes "prefixes"
name_of command.Stale = codes "stale"
name_of command.Upstream = codes "upstream"
name_of command.Why = codes "why"

-- the options without a value, by their long names
abbrev pub switch_named : List ℕ → Option Switch
switch_named name =
    cond (bytes_eq name (codes "--json")) (Some switch.Json)
    (cond (bytes_eq name (codes "--verbose")) (Some switch.Verbose)
    (cond (bytes_eq name (codes "--push")) (Some switch.Push)
    (cond (bytes_eq name (codes "--patterns")) (Some switch.Patterns)
    (cond (bytes_eq name (codes "--head")) (Some switch.Head)
    (cond (bytes_eq name (codes "--long")) (Some switch.Long)
    (cond (bytes_eq name (codes "--all")) (Some switch.All)
    (cond (bytes_eq name (codes "--prune")) (Some switch.Prune)
    (cond (bytes_eq name (codes "--no-warnings")) (Some switch.NoWarnings)
    (cond (bytes_eq name (codes "--strict")) (Some switch.Strict)
    (cond (bytes_eq name (codes "--help")) (Some switch.Manual)
    (cond (bytes_eq name (codes "--version")) (Some switch.Version) None)))))))))))

-- and by their letters: z, v and h
abbrev pub switch_lettered : ℕ → Option Switch
switch_lettered letter =
    cond (letter == 122) (Some switch.Zeros)
    (cond (letter == 118) (Some switch.Verbose) (cond (letter == 104) (Some switch.Usage) None))

-- the options with a value
abbrev pub valued_named : List ℕ → Option Valued
valued_named name =
    cond (bytes_eq name (codes "--remote")) (Some option.Remote)
    (cond (bytes_eq name (codes "--refmap")) (Some option.Refmap) None)

-- an option as it is told, and the only command that takes it; none if several take it
abbrev pub owner_of : Switch → Option (List ℕ × Subcommand)
owner_of switch.Verbose = Some (codes "-v", command.Check)
owner_of switch.Push = Some (codes "--push", command.Check)
owner_of switch.NoWarnings = Some (codes "--no-warnings", command.Check)
owner_of switch.Strict = Some (codes "--strict", command.Check)
owner_of switch.Patterns = Some (codes "--patterns", command.Prefixes)
owner_of switch.Head = Some (codes "--head", command.Prefixes)
owner_of switch.Long = Some (codes "--long", command.Plan)
owner_of switch.All = Some (codes "--all", command.Plan)
owner_of switch.Prune = Some (codes "--prune", command.Plan)
owner_of switch.Zeros = None
owner_of switch.Json = None
owner_of switch.Usage = None
owner_of switch.Manual = None
owner_of switch.Version = None

-- an argument is of options: it begins with `-`, and has more
abbrev pub is_option : List ℕ → Bool
is_option a = nat_lt 1 (length a) && (slice_index a 0 == 45)

-- it begins with `--`
abbrev pub is_long : List ℕ → Bool
is_long a = nat_lt 1 (length a) && (slice_index a 0 == 45) && (slice_index a 1 == 45)

-- what is behind the `-` of an argument are letters of options, in order
abbrev pub AreLettered : List ℕ → List Switch → Type 0
AreLettered letters all = map switch_lettered letters ≡ map (λ s. Some s) all

-- an argument is options without a value: one by its long name, or some by their letters, as in `-zv`
abbrev pub AreSwitches : List ℕ → List Switch → Type 0
AreSwitches a all = ((s : Switch) × (switch_named a ≡ Some s) × (all ≡ s ∷ []))
    ⊎ ((is_option a ≡ true) × (is_long a ≡ false) × AreLettered (drop 1 a) all)

-- a word of a call: options without a value, an option with its value, or a text
pub data Word : Type 0 where
  flags : List Switch → Word
  valued : Valued → List ℕ → Word
  text : List ℕ → Word

-- the arguments that are a word: one; or the name of an option and its value, which may also be one with `=` between
abbrev pub Spells : Word → List (List ℕ) → Type 0
Spells (flags s) arguments = (a : List ℕ) × AreSwitches a s × (arguments ≡ a ∷ [])
Spells (valued o bytes) arguments = (name : List ℕ) × (valued_named name ≡ Some o)
    × ((arguments ≡ name ∷ (bytes ∷ [])) ⊎ (arguments ≡ (name ++ (61 ∷ bytes)) ∷ []))
Spells (text bytes) arguments = (is_option bytes ≡ false) × (arguments ≡ bytes ∷ [])

-- words, in order, are the arguments
abbrev pub AreSpelled : List Word → List (List ℕ) → Type 0
AreSpelled [] arguments = arguments ≡ []
AreSpelled (word ∷ words) arguments = (first : List (List ℕ)) × (rest : List (List ℕ)) × Spells word first
    × AreSpelled words rest × (arguments ≡ first ++ rest)

-- what follows the words of a call: nothing; an option that lacks its value; or `--` and other texts
pub data End : Type 0 where
  whole : End
  lacking : Valued → End
  behind : List (List ℕ) → End

-- the arguments that are an end
abbrev pub Ends : End → List (List ℕ) → Type 0
Ends whole arguments = arguments ≡ []
Ends (lacking o) arguments = (name : List ℕ) × (valued_named name ≡ Some o) × (arguments ≡ name ∷ [])
Ends (behind rest) arguments = arguments ≡ codes "--" ∷ rest

-- the options without a value, in order
abbrev pub switches_in : Word → List Switch
switches_in (flags s) = s
switches_in (valued o bytes) = []
switches_in (text bytes) = []

abbrev pub switches_of : List Word → List Switch
switches_of words = flat_map switches_in words

-- the values of --remote, in order, and those of --refmap
abbrev pub remotes_in : Word → List (List ℕ)
remotes_in (flags s) = []
remotes_in (valued option.Remote bytes) = bytes ∷ []
remotes_in (valued option.Refmap bytes) = []
remotes_in (text bytes) = []

abbrev pub remotes_of : List Word → List (List ℕ)
remotes_of words = flat_map remotes_in words

abbrev pub refmap_in : Word → List (List ℕ)
refmap_in (flags s) = []
refmap_in (valued option.Remote bytes) = []
refmap_in (valued option.Refmap bytes) = bytes ∷ []
refmap_in (text bytes) = []

abbrev pub refmap_of : List Word → List (List ℕ)
refmap_of words = flat_map refmap_in words

-- the texts among the words, in order, and those of a call
abbrev pub texts_in : Word → List (List ℕ)
texts_in (flags s) = []
texts_in (valued o bytes) = []
texts_in (text bytes) = bytes ∷ []

abbrev pub texts_of : List Word → End → List (List ℕ)
texts_of words whole = flat_map texts_in words
texts_of words (lacking o) = flat_map texts_in words
texts_of words (behind rest) = flat_map texts_in words ++ rest

-- how many of the texts behind the first one precede `--`
abbrev pub before_dashes : List Word → End → Option ℕ
before_dashes words whole = None
before_dashes words (lacking o) = None
before_dashes words (behind rest) = Some (length (flat_map texts_in words) - 1)

-- the option that lacks its value
abbrev pub lacked : End → Option Valued
lacked whole = None
lacked (lacking o) = Some o
lacked (behind rest) = None

-- the last of some; none if there is none
abbrev pub IsLast : List (List ℕ) → Option (List ℕ) → Type 0
IsLast all None = all ≡ []
IsLast all (Some last) = (front : List (List ℕ)) × (all ≡ front ++ last ∷ [])

-- the first of some texts names a command, and the others are its arguments; without texts there is no command
abbrev pub AreTexts : List (List ℕ) → Option Subcommand → List (List ℕ) → Type 0
AreTexts [] c arguments = (c ≡ None) × (arguments ≡ [])
AreTexts (name ∷ texts) c arguments = (command_named name ≡ c) × (c ≢ None) × (arguments ≡ texts)

-- a call: its command with the arguments behind it, its options without a value, the last value of --remote and each
-- of --refmap, the option that lacks its value, and how many of the arguments precede `--`
pub record Call : Type 0 where
  pub command : Option Subcommand
  pub arguments : List (List ℕ)
  pub given : List Switch
  pub remote : Option (List ℕ)
  pub refmap : List (List ℕ)
  pub lacks : Option Valued
  pub dashes : Option ℕ

-- words and an end say what a call has
pub record AreReadAs (words : List Word) (end : End) (c : Call) : Type 0 where
  pub texts : AreTexts (texts_of words end) c.command c.arguments
  pub given : c.given ≡ switches_of words
  pub remote : IsLast (remotes_of words) c.remote
  pub refmap : c.refmap ≡ refmap_of words
  pub lacks : c.lacks ≡ lacked end
  pub dashes : c.dashes ≡ before_dashes words end

-- arguments are a call
pub record AreCall (arguments : List (List ℕ)) (c : Call) : Type 0 where
  pub words : List Word
  pub end : End
  pub front : List (List ℕ)
  pub back : List (List ℕ)
  pub spelled : AreSpelled words front
  pub ended : Ends end back
  pub parts : arguments ≡ front ++ back
  pub read : AreReadAs words end c

-- a command takes an option, unless another is the only one that does
abbrev pub Takes : Subcommand → Switch → Type 0
Takes c s = (told : List ℕ) → (other : Subcommand) → owner_of s ≡ Some (told, other) → c ≡ other

-- why a command is refused with an option: the option is told, and the name of the command that takes it
abbrev pub RefusesSwitch : Subcommand → Switch → Refusal → Type 0
RefusesSwitch c s (refusal.OptionElsewhere told taker) =
    (other : Subcommand) × (owner_of s ≡ Some (told.now, other)) × (c ≢ other) × (taker.now ≡ name_of other)
RefusesSwitch c s _ = ⊥

-- with some options: by the first that it doesn't take
pub record RefusesGiven (c : Subcommand) (given : List Switch) (e : Refusal) : Type 0 where
  pub before : List Switch
  pub at : Switch
  pub rest : List Switch
  pub parts : given ≡ before ++ at ∷ rest
  pub taken : All (Takes c) before
  pub refuses : RefusesSwitch c at e

-- only plans take specs of --refmap
abbrev pub TakesRefmap : Subcommand → List (List ℕ) → Type 0
TakesRefmap c refmap = (refmap ≡ []) ⊎ (c ≡ command.Plan)

abbrev pub RefusesRefmap : Subcommand → List (List ℕ) → Refusal → Type 0
RefusesRefmap c refmap (refusal.OptionElsewhere told taker) = (refmap ≢ []) × (c ≢ command.Plan)
    × (told.now ≡ codes "--refmap") × (taker.now ≡ name_of command.Plan)
RefusesRefmap c refmap _ = ⊥

-- the form of the results: --json overrides -z
abbrev pub IsForm : List Switch → Form → Type 0
IsForm given form.Json = Contains given switch.Json
IsForm given form.Zeros = ¬ (Contains given switch.Json) × Contains given switch.Zeros
IsForm given form.Lines = ¬ (Contains given switch.Json) × ¬ (Contains given switch.Zeros)

-- a request has what its call has
pub record IsRequest (c : Call) (r : Request) : Type 0 where
  pub command : c.command ≡ Some r.command
  pub arguments : map (λ a. a.now) r.arguments.items ≡ c.arguments
  pub form : IsForm c.given r.form
  pub verbose : IsTrue r.verbose ↔ Contains c.given switch.Verbose
  pub push : IsTrue r.push ↔ Contains c.given switch.Push
  pub patterns : IsTrue r.patterns ↔ Contains c.given switch.Patterns
  pub head : IsTrue r.head ↔ Contains c.given switch.Head
  pub long : IsTrue r.long ↔ Contains c.given switch.Long
  pub all : IsTrue r.all ↔ Contains c.given switch.All
  pub prune : IsTrue r.prune ↔ Contains c.given switch.Prune
  pub no_warnings : IsTrue r.no_warnings ↔ Contains c.given switch.NoWarnings
  pub strict : IsTrue r.strict ↔ Contains c.given switch.Strict
  pub refmap : map (λ s. s.now) r.refmap.items ≡ c.refmap
  pub remote : option_map (λ n. n.now) r.remote ≡ c.remote
  pub dashes : r.dashes ≡ c.dashes

-- a command takes the options of a call, and --remote names no empty one
pub record AllowsOptions (s : Subcommand) (remote : Option (List ℕ)) (given : List Switch) (refmap : List (List ℕ)) :
    Type 0 where
  pub named : remote ≢ Some []
  pub taken : All (Takes s) given
  pub maps : TakesRefmap s refmap

-- why not: --remote names an empty one; or the first option that the command doesn't take, or else --refmap
abbrev pub RefusesOptions : Subcommand → Option (List ℕ) → List Switch → List (List ℕ) → Refusal → Type 0
RefusesOptions s remote given refmap e =
    ((e ≡ refusal.NoRemoteName) × (remote ≡ Some []))
    ⊎ ((remote ≢ Some []) × RefusesGiven s given e)
    ⊎ ((remote ≢ Some []) × All (Takes s) given × RefusesRefmap s refmap e)

-- a call has a command that takes its options, and a value for each option that needs one
pub record IsAllowed (c : Call) (s : Subcommand) : Type 0 where
  pub has : c.command ≡ Some s
  pub complete : c.lacks ≡ None
  pub options : AllowsOptions s c.remote c.given c.refmap

-- why not: it has no command; an option lacks its value; or the command doesn't take the options
abbrev pub RefusesCommand : Call → Refusal → Type 0
RefusesCommand c e =
    ((e ≡ refusal.NoCommand) × (c.command ≡ None))
    ⊎ ((e ≡ refusal.NoRemoteName) × (c.command ≢ None) × (c.lacks ≡ Some option.Remote))
    ⊎ ((e ≡ refusal.NoRefmap) × (c.command ≢ None) × (c.lacks ≡ Some option.Refmap))
    ⊎ ((s : Subcommand) × (c.command ≡ Some s) × (c.lacks ≡ None) × RefusesOptions s c.remote c.given c.refmap e)

-- no option asks for a text of the program's own
pub record IsForCommand (given : List Switch) : Type 0 where
  pub usage : ¬ (Contains given switch.Usage)
  pub manual : ¬ (Contains given switch.Manual)
  pub version : ¬ (Contains given switch.Version)

-- what a call asks for: the usage, or else the manual, or else the version, or else what its command answers
abbrev pub AsksFor : Call → Purpose → Type 0
AsksFor c purpose.Usage = Contains c.given switch.Usage
AsksFor c purpose.Manual = ¬ (Contains c.given switch.Usage) × Contains c.given switch.Manual
AsksFor c purpose.Version = ¬ (Contains c.given switch.Usage) × ¬ (Contains c.given switch.Manual)
    × Contains c.given switch.Version
AsksFor c (purpose.Request r) = IsForCommand c.given × IsAllowed c r.command × IsRequest c r

-- what arguments ask for
abbrev pub AskFor : List (List ℕ) → Purpose → Type 0
AskFor arguments p = (c : Call) × AreCall arguments c × AsksFor c p

-- the name of an option: what precedes the first `=`, or all of it
abbrev pub HasName : List ℕ → List ℕ → Type 0
HasName a name = Lacks 61 name × ((a ≡ name) ⊎ ((bytes : List ℕ) × (a ≡ name ++ (61 ∷ bytes))))

-- why an argument that begins with `--` isn't an option: there is none with its name, or that takes no value
abbrev pub RefusesLong : List ℕ → Refusal → Type 0
RefusesLong a (refusal.NoSuchOption argument) = (argument.now ≡ a)
    × (name : List ℕ) × HasName a name × (valued_named name ≡ None) × (switch_named name ≡ None)
RefusesLong a (refusal.NeedlessValue argument) = (argument.now ≡ a)
    × (name : List ℕ) × (bytes : List ℕ) × (s : Switch) × (switch_named name ≡ Some s) × (a ≡ name ++ (61 ∷ bytes))
RefusesLong a _ = ⊥

-- why letters aren't those of options: one of no option is among them
abbrev pub RefusesLetters : List ℕ → List ℕ → Refusal → Type 0
RefusesLetters a letters (refusal.NoSuchOption argument) = (argument.now ≡ a)
    × (letter : ℕ) × Contains letters letter × (switch_lettered letter ≡ None)
RefusesLetters a letters _ = ⊥

-- why a text is refused: the call has no command yet, and this names none
abbrev pub RefusesText : Option Subcommand → List ℕ → Refusal → Type 0
RefusesText c a (refusal.NoSuchCommand argument) = (argument.now ≡ a) × (c ≡ None) × (command_named a ≡ None)
RefusesText c a _ = ⊥

-- why the argument behind a call is refused: no option lacks its value, and it is a text or, before `--`, no option
abbrev pub RefusesNext : Call → List ℕ → Refusal → Type 0
RefusesNext c a e = (c.lacks ≡ None)
    × ((((c.dashes ≢ None) ⊎ (is_option a ≡ false)) × RefusesText c.command a e)
    ⊎ ((c.dashes ≡ None) × (a ≢ codes "--") × (is_long a ≡ true) × RefusesLong a e)
    ⊎ ((c.dashes ≡ None) × (is_option a ≡ true) × (is_long a ≡ false) × RefusesLetters a (drop 1 a) e))

-- why arguments are refused: for want of memory, for the first that is, or for what they ask for
abbrev pub RefusesArgument : List (List ℕ) → List ℕ → Refusal → Type 0
RefusesArgument seen a e = (c : Call) × AreCall seen c × RefusesNext c a e

abbrev pub RefusesCall : List (List ℕ) → Refusal → Type 0
RefusesCall arguments e = IsForMemory e
    ⊎ ((seen : List (List ℕ)) × (a : List ℕ) × (more : List (List ℕ)) × (arguments ≡ seen ++ a ∷ more)
    × RefusesArgument seen a e)
    ⊎ ((c : Call) × AreCall arguments c × IsForCommand c.given × RefusesCommand c e)
