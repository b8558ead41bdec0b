-- The reading of a refspec: what it is parsed to, apart from where its bytes lie.
use Rattle.std.specs.Prelude.{◌⊎◌, ℕ, List, Option, IsSome, None, Some, codes}
use Rattle.gix_refspec_text.specs.declared.parsing.Operation.{Operation}
use Rattle.gix_refspec_text.specs.declared.parsing.Operation.TheVariants.{Push, Fetch}

-- the mode, given by the sign: none, `+` or `^`
pub data Mode : Type 0 where
  Normal : Mode
  Forced : Mode
  Negative : Mode

-- the reading of a text; each side is a text, or missing
pub record Reading : Type 0 where
  pub operation : Operation
  pub mode : Mode
  pub source : Option (List ℕ)
  pub destination : Option (List ℕ)

-- at least one side is present
abbrev pub HasSide : Reading → Type 0
HasSide r = IsSome r.source ⊎ IsSome r.destination

-- a fetch has its source on the remote, a push its destination
abbrev pub side_on_remote : Operation → Option (List ℕ) → Option (List ℕ) → Option (List ℕ)
side_on_remote Push s d = d
side_on_remote Fetch s d = s

-- the side on the remote
abbrev pub remote_of : Reading → Option (List ℕ)
remote_of r = side_on_remote r.operation r.source r.destination

-- the local side
abbrev pub local_of : Reading → Option (List ℕ)
local_of r = side_on_remote r.operation r.destination r.source

-- the reading with another destination
abbrev pub with_destination : Reading → List ℕ → Reading
with_destination r d = record { operation = r.operation; mode = r.mode; source = r.source; destination = Some d }

-- a fetch of this source, without a destination
abbrev pub fetched_alone : List ℕ → Reading
fetched_alone x = record { operation = Fetch; mode = Normal; source = Some x; destination = None }

-- the fetch of all tags, as `--tags` asks for it
abbrev pub all_tags : Reading
all_tags = record {
  operation = Fetch;
  mode = Normal;
  source = Some (codes "refs/tags/*");
  destination = Some (codes "refs/tags/*");
}
