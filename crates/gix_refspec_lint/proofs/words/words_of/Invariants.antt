use Rattle.gix_refspec_lint.proofs.Common.{◌≡◌, ◌∷◌, ◌++◌, [], ℕ, List, Bor, map, take, bstring_bytes, endings}
use Rattle.gix_refspec_lint.proofs.words.words_of.Given as goal

abbrev pub invariant-loop-ending : goal.invariant-loop-ending
invariant-loop-ending l = map bstring_bytes l.words.items ≡ map (λ (e : Bor (List ℕ)). e.now ++ (l.letter ∷ []))
    (take l.ending-index l.ending-items)

abbrev pub invariant-loop-part : goal.invariant-loop-part
invariant-loop-part l = map bstring_bytes l.words.items ≡ map (λ (e : List ℕ). e ++ (l.letter ∷ [])) endings ++ map
    (λ (e : Bor (List ℕ)). e.now) (take l.part-index l.part-items)
