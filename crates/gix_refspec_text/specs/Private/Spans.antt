-- How the wrong bytes of a refused text are found. Only private functions cite this.
use Rattle.std.specs.Prelude.{ℕ, List}
use Rattle.gix_refspec_text.specs.declared.name.Word.{Word}
use Rattle.gix_refspec_text.specs.declared.name.Stop.{Stop}
use Rattle.gix_refspec_text.specs.declared.parsing.Side.{Side}
use Rattle.gix_refspec_text.specs.declared.parsing.reading.Parts.{Parts}
use Rattle.gix_refspec_text.specs.Specs.Span.{AreFirstWrong, AreWrong, IsSide}
use Rattle.gix_refspec_text.specs.Views.Instruction.{mode_of}
use Rattle.gix_refspec_text.specs.Private.Sides.{destination_of, refusal_at}

-- the word is wrong in the side x whose check stopped there
abbrev pub IsStopWord : List ℕ → Stop → Word → Type 0
IsStopWord x stop word = AreWrong (refusal_at x stop) x word.start word.len

-- the bytes are wrong in the parts
abbrev pub IsWrongIn : Parts → Side → List ℕ → ℕ → ℕ → Type 0
IsWrongIn p side x i n = AreFirstWrong p.operation (mode_of p.mode) p.source.now (destination_of p) side x i n

-- the word of this side is wrong in the parts
abbrev pub IsWordIn : Parts → Side × Word → Type 0
IsWordIn p at = (x : List ℕ) × IsWrongIn p at.0 x at.1.start at.1.len

-- no bytes are wrong in the parts
abbrev pub HasNoWordIn : Parts → Type 0
HasNoWordIn p = (side : Side) (x : List ℕ) (i n : ℕ) → ¬ (IsWrongIn p side x i n)

-- the parts have this side
abbrev pub HasSide : Parts → Side → Type 0
HasSide p side = (x : List ℕ) × IsSide p.source.now (destination_of p) side x
