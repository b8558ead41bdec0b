-- What hashing sources and mappings writes. This project's own rule: the kind of a source, its bytes in one write where
-- it is a name, and then the destination.
use Rattle.std.specs.Prelude.{[], ◌∷◌, ◌++◌, pos}
use Rattle.std.specs.Hash as fed
use Rattle.std.specs.Hash.{HashWrites}
use Rattle.gix_refspec_match.specs.Matching.Mappings.{Source, name, id, Mapped}

-- what hashing a source writes: its kind and then its bytes
abbrev pub source_writes : Source → HashWrites
source_writes (name n) = fed.isize (pos 0) ++ (n ∷ [])
source_writes (id i) = fed.isize (pos 1) ++ fed.slice fed.u8 i

-- what hashing a mapping writes: its source and its destination, whatever its indexes are
abbrev pub pair_writes : Mapped → HashWrites
pair_writes m = source_writes m.source ++ fed.option (λ d. d ∷ []) m.destination
