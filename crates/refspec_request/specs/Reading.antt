-- The arguments of a call so far, as they are read.
use Rattle.std.specs.Prelude.{◌≡◌, ◌⊎◌, ℕ, List, ◌∷◌, ◌++◌, Option, Some, map, option_map}
use Rattle.refspec_request.specs.declared.arguments.Long.{Long}
use Rattle.refspec_request.specs.declared.arguments.Long.TheVariants as long
use Rattle.refspec_request.specs.declared.arguments.Options.{Options}
use Rattle.refspec_request.specs.declared.arguments.Reading.{Reading}
use Rattle.refspec_request.specs.declared.arguments.Texts.{Texts}
use Rattle.refspec_request.specs.declared.arguments.Valued.{Valued}
use Rattle.refspec_request.specs.declared.arguments.Valued.TheVariants as option
use Rattle.refspec_request.specs.declared.refusal.Refusal.{Refusal}
use Rattle.refspec_request.specs.declared.refusal.Refusal.TheVariants as refusal
use Rattle.refspec_request.specs.Arguments.{AreCall, AreTexts, Call, IsLast, RefusesArgument, Word, refmap_of}
use Rattle.refspec_request.specs.Arguments.{remotes_of, switch_named, switches_of, valued_named}
use Rattle.refspec_request.specs.Refusals.{IsForMemory}

-- the options among words
pub record AreOptions (words : List Word) (o : Options) : Type 0 where
  pub given : o.switches.items ≡ switches_of words
  pub remote : IsLast (remotes_of words) (option_map (λ n. n.now) o.remote)
  pub refmap : map (λ s. s.now) o.refmap.items ≡ refmap_of words

-- the texts that are read
abbrev pub HasTexts : List (List ℕ) → Texts → Type 0
HasTexts texts t = AreTexts texts t.command (map (λ a. a.now) t.arguments.items)

-- the call of what is read
abbrev pub call_with : Options → Texts → Option Valued → Option ℕ → Call
call_with o t lacks dashes = record {
  command = t.command;
  arguments = map (λ a. a.now) t.arguments.items;
  given = o.switches.items;
  remote = option_map (λ n. n.now) o.remote;
  refmap = map (λ s. s.now) o.refmap.items;
  lacks = lacks;
  dashes = dashes;
}

abbrev pub call_of : Reading → Call
call_of r = call_with r.options r.texts r.wants r.dashes

-- these arguments are read
abbrev pub HasRead : List (List ℕ) → Reading → Type 0
HasRead seen r = AreCall seen (call_of r)

-- why the argument behind these can't be read
abbrev pub RefusesBehind : List (List ℕ) → List ℕ → Refusal → Type 0
RefusesBehind seen a e = IsForMemory e ⊎ RefusesArgument seen a e

-- why an option is refused whose value is missing
abbrev pub lacking_value : Valued → Refusal
lacking_value option.Remote = refusal.NoRemoteName
lacking_value option.Refmap = refusal.NoRefmap

-- what an argument is that begins with `--`: an option whose value is next, one with its value, or one without
abbrev pub IsLong : List ℕ → Long → Type 0
IsLong a (long.Lacking o) = valued_named a ≡ Some o
IsLong a (long.Valued o bytes) = (name : List ℕ) × (valued_named name ≡ Some o) × (a ≡ name ++ (61 ∷ bytes.now))
IsLong a (long.Switch s) = switch_named a ≡ Some s
