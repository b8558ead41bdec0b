-- The pieces of a canonical text. Only private functions cite this.
use Rattle.std.specs.Prelude.{ℕ, List, [], ◌∷◌, ◌++◌, Option, None, Some}
use Rattle.std.specs.Borrow.{Bor}
use Rattle.gix_refspec_text.specs.declared.spec.write.Pieces.{Pieces}
use Rattle.gix_refspec_text.specs.Texts.Bytes.{colon}

-- a byte that may be missing
abbrev pub optional_byte : Option ℕ → List ℕ
optional_byte None = []
optional_byte (Some b) = b ∷ []

-- a colon and a destination, or nothing
abbrev pub behind_colon : Option (Bor (List ℕ)) → List ℕ
behind_colon None = []
behind_colon (Some d) = colon ∷ d.now

-- the text that the pieces make
abbrev pub text_of_pieces : Pieces → List ℕ
text_of_pieces p = optional_byte p.sign ++ (p.source.now ++ behind_colon p.destination)
