-- The arguments of a call, the names of reasons, and the lines that the program prints, at examples on both
-- sides of a border, so that a wrong rule in specs/ doesn't check.
use Rattle.std.proofs.Common.{◌≡◌, ℕ, true, false, List, [], ◌∷◌, ◌++◌, None, Some, map, codes, refl}
use Rattle.std.specs.Fmt.{digits}
use Rattle.gix_refspec_text.specs.declared.name.Error.TheVariants.{LockSuffix}
use Rattle.gix_refspec_text.specs.declared.parsing.Error.TheVariants as error
use Rattle.gix_refspec.specs.Specs.Grammar.{fetched}
use Rattle.gix_refspec.specs.Matching.Mappings.{name, id}
use Rattle.gix_refspec.specs.Specs.Reading.{Forced}
use Rattle.gix_refspec.specs.Specs.Refusal.{Empty, NegativeWithDestination, PushToEmpty, PatternUnsupported}
use Rattle.gix_refspec.specs.Specs.Refusal.{ReferenceName, PatternUnbalanced, NegativeEmpty, NegativeObjectHash}
use Rattle.gix_refspec.specs.Matching.Validation.{Removed}
use Rattle.gix_refspec.specs.Texts.ObjectId.{lower_of}
use Rattle.refspec_map.specs.declared.command.Command.TheVariants as command
use Rattle.refspec_map.specs.declared.fault.Fault.TheVariants as fault
use Rattle.refspec_map.specs.Fault.{name_of, status_of, IsMemory}
use Rattle.refspec_map.specs.Matching.{map_line}
use Rattle.refspec_map.specs.Output.{accepted, refused, answer_line, any_refused}
use Rattle.refspec_map.specs.Plan.{conflict_line, IsFixLine}
use Rattle.refspec_map.specs.Words.{arguments_of, AreArgumentsOf}

-- ---- arguments

pub words : map arguments_of (command.CanonFetch ∷ command.CanonPush ∷ command.Lhs ∷ command.Rhs ∷ command.Plan ∷ [])
    ≡ (codes "canon" ∷ codes "fetch" ∷ []) ∷ (codes "canon" ∷ codes "push" ∷ []) ∷ (codes "lhs" ∷ [])
    ∷ (codes "rhs" ∷ []) ∷ (codes "plan" ∷ []) ∷ []
words = refl

-- these are the arguments of no command
pub no_words : AreArgumentsOf [] None
no_words command.CanonFetch same = cc
no_words command.CanonPush same = cc
no_words command.Lhs same = cc
no_words command.Rhs same = cc
no_words command.Plan same = cc

pub other_words : AreArgumentsOf (codes "canon" ∷ codes "rhs" ∷ []) None
other_words command.CanonFetch same = cc
other_words command.CanonPush same = cc
other_words command.Lhs same = cc
other_words command.Rhs same = cc
other_words command.Plan same = cc

-- ---- reasons and faults

pub names : map name_of (Empty ∷ NegativeWithDestination ∷ PushToEmpty ∷ PatternUnsupported (codes "a*b*")
    ∷ ReferenceName LockSuffix ∷ PatternUnbalanced ∷ NegativeEmpty ∷ NegativeObjectHash ∷ [])
    ≡ codes "Empty" ∷ codes "NegativeWithDestination" ∷ codes "PushToEmpty" ∷ codes "PatternUnsupported"
    ∷ codes "ReferenceName" ∷ codes "PatternUnbalanced" ∷ codes "NegativeEmpty" ∷ codes "NegativeObjectHash" ∷ []
names = refl

pub statuses :
    map status_of (fault.TooLong ∷ fault.Read ∷ fault.Line 2 ∷ fault.Spec 2 error.NegativeEmpty ∷ fault.Memory
    ∷ fault.Write ∷ []) ≡ 3 ∷ 3 ∷ 1 ∷ 1 ∷ 3 ∷ 3 ∷ []
statuses = refl

-- a match that runs out of memory ends a run with this fault and no other
pub memory : IsMemory fault.Memory × ¬ (IsMemory fault.Read) × ¬ (IsMemory fault.Write)
memory = (tt, λ is. is, λ is. is)

-- ---- lines that are printed

pub answer_lines : map answer_line (accepted (codes "a:b") ∷ refused (ReferenceName LockSuffix) ∷ []) ≡ codes "ok a:b\n"
    ∷ codes "err ReferenceName\n" ∷ []
answer_lines = refl

-- one refusal is enough, wherever it is
pub some_refused : map any_refused ([] ∷ (accepted [] ∷ []) ∷ (accepted [] ∷ refused Empty ∷ accepted [] ∷ []) ∷ [])
    ≡ false ∷ false ∷ true ∷ []
some_refused = refl

-- the index of the spec is before that of the item
pub name_line :
    map_line (record {
      item = Some 12;
      source = name (codes "refs/heads/a");
      destination = Some (codes "refs/x/a");
      spec = 3;
    }) ≡ codes "map\t3\t12\trefs/heads/a\trefs/x/a\n"
unfolding digits
name_line = refl

-- an empty destination differs from a missing one
pub no_destination_line : map_line (record { item = Some 0; source = name []; destination = None; spec = 0 }) ≡ codes
    "map\t0\t0\t\n"
unfolding digits
no_destination_line = refl

pub empty_destination_line : map_line (record { item = Some 0; source = name []; destination = Some []; spec = 0 })
    ≡ codes "map\t0\t0\t\t\n"
unfolding digits
empty_destination_line = refl

-- an id is in lower case, and its mapping has no item
pub id_line : (bytes : List ℕ)
    → map_line (record { item = None; source = id bytes; destination = Some (codes "refs/x"); spec = 1 }) ≡ codes
    "map\t1\t-\t" ++ (lower_of bytes ++ codes "\trefs/x\n")
unfolding digits
id_line bytes = refl

-- two sources, each with the text of its spec after it
pub two_claims_line :
    conflict_line (record {
      destination = codes "refs/x";
      sources = name (codes "a") ∷ name (codes "b") ∷ [];
      texts =
          codes "a:refs/x" ∷ codes "*:refs/*" ∷ [];
    }) ≡ codes "conflict\trefs/x\ta\ta:refs/x\tb\t*:refs/*\n"
two_claims_line = refl

-- the mapping of a forced spec was removed
abbrev forced : Removed
forced = record { destination = codes "foo/a"; spec = fetched Forced (codes "refs/heads/*") (Some (codes "foo/*")) }

pub fix_line : IsFixLine forced (codes "fix\tfoo/a\t+refs/heads/*:foo/*\n")
fix_line = (codes "+refs/heads/*:foo/*", refl, refl)
