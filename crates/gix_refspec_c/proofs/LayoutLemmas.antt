-- Structs and texts of things, one after another.
use Rattle.std.proofs.Common.{◌≡◌, ℕ, ◌+◌, List, [], ◌∷◌, ◌++◌, length, map, flat_map, sym, ap, ◌∙◌, arith}
use Rattle.std.proofs.lemmas.List.{length-append, append-nil, append_assoc}
use Rattle.gix_refspec_c.specs.Layout.{AreLaidOut, described_from}

module _ {X D : Type 0} (text : X → List ℕ) (describe : ℕ → X → D) where
  -- what follows the structs of some things
  described_more : (at : ℕ) (xs : List X) (x : X) → described_from text describe at (xs ++ x ∷ [])
      ≡ described_from text describe at xs ++ describe (at + length (flat_map text xs)) x ∷ []
  described_more at [] x = ap (λ n. describe n x ∷ []) omega arith
  described_more at (y ∷ xs) x =
      let here : length (flat_map text (y ∷ xs)) ≡ length (text y) + length (flat_map text xs) =
      length-append (text y) (flat_map text xs) in
      let ends : (at + length (text y)) + length (flat_map text xs) ≡ at + length (flat_map text (y ∷ xs)) =
      omega (arith, here) in
      ap (λ rest. describe at y ∷ rest) (described_more (at + length (text y)) xs x
      ∙ ap (λ n. described_from text describe (at + length (text y)) xs ++ describe n x ∷ []) ends)

  -- the texts of one thing more
  texts_more : (xs : List X) (x : X) → flat_map text (xs ++ x ∷ []) ≡ flat_map text xs ++ text x
  texts_more [] x = append-nil (text x)
  texts_more (y ∷ xs) x = ap (λ t. text y ++ t) (texts_more xs x)
      ∙ sym (append_assoc (text y) (flat_map text xs) (text x))

  -- one thing more is laid out
  pub laid_out_more : {S : Type 0} (see : S → D) (xs new : List X) (x : X) (structs structs2 : List S)
      (bytes bytes2 : List ℕ) → AreLaidOut text describe see xs structs bytes → new ≡ xs ++ x ∷ []
      → bytes2 ≡ bytes ++ text x → map see structs2 ≡ map see structs ++ describe (length bytes) x ∷ []
      → AreLaidOut text describe see new structs2 bytes2
  laid_out_more see xs new x structs structs2 bytes bytes2 are is texts described =
      let zero : length (flat_map text xs) ≡ 0 + length (flat_map text xs) = omega arith in record {
        described = described ∙ ap (λ l. l ++ describe (length bytes) x ∷ []) are.described
            ∙ ap (λ t. described_from text describe 0 xs ++ describe (length t) x ∷ []) are.texts
            ∙ ap (λ n. described_from text describe 0 xs ++ describe n x ∷ []) zero ∙ sym (described_more 0 xs x)
            ∙ ap (described_from text describe 0) (sym is);
        texts = texts ∙ ap (λ t. t ++ text x) are.texts ∙ sym (texts_more xs x) ∙ ap (flat_map text) (sym is);
      }
