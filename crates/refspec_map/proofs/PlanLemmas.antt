-- The claims and fixes of a plan, one after another.
use Rattle.std.proofs.Common.{◌≡◌, ◌⊎◌, inl, inr, Option, Some, ℕ, ◌+◌, ◌<◌, List, [], ◌∷◌, ◌++◌, map, length, take}
use Rattle.std.proofs.Common.{get_or, refl, sym, ap, ◌∙◌, subst, append_assoc, Bor}
use Rattle.std.specs.List.{zip}
use Rattle.std.specs.Iterator.{Yields}
use Rattle.std.proofs.lemmas.List.{append-nil, map-append, take_more}
use Rattle.bstr.specs.declared.bstring.BString.{BString}
use Rattle.bstr.specs.Owned.{bstring_bytes}
use Rattle.gix_refspec_match.specs.declared.types.SourceRef.{SourceRef}
use Rattle.gix_refspec.specs.declared.match_group.validate.Fix.{Fix}
use Rattle.gix_refspec.specs.Matching.Lists.{IsJoinedFrom}
use Rattle.gix_refspec.specs.Matching.Mappings.{Source}
use Rattle.gix_refspec.specs.Views.Group.{start_of}
use Rattle.gix_refspec.specs.Views.Issue.{removed_of}
use Rattle.gix_refspec.specs.Matching.Validation.{Removed}
use Rattle.refspec_map.specs.Plan.{IsFixLine, AreFixLines, AppendsFix, AppendsFixes}

-- a source and the text of its spec, as plain data
abbrev pub claim_of : Bor SourceRef × Bor BString → Source × List ℕ
claim_of claim = (start_of claim.0.now, bstring_bytes claim.1.now)

-- before the first fix
pub AppendsFixes-start : (old : List ℕ) → AppendsFixes [] old old
AppendsFixes-start old = ([], refl, sym (append-nil old))

joined_push : (k : ℕ) (fixes : List Removed) (fix : Removed) (lines line : List ℕ)
    → IsJoinedFrom (λ (j : ℕ) (f : Removed) (l : List ℕ). IsFixLine f l) k fixes lines → IsFixLine fix line
    → IsJoinedFrom (λ (j : ℕ) (f : Removed) (l : List ℕ). IsFixLine f l) k (fixes ++ fix ∷ []) (lines ++ line)
joined_push k [] fix lines line empty is = (line, [], is, refl, ap (λ l. l ++ line) empty ∙ sym (append-nil line))
joined_push k (f ∷ fixes) fix lines line (made, rest, of, more, all) is = (
  made,
  rest ++ line,
  of,
  joined_push (k + 1) fixes fix rest line more is,
  ap (λ l. l ++ line) all
      ∙ append_assoc made rest line,
)

-- the next fix was appended
pub AppendsFixes-more : (fixes : List Fix) (k : ℕ) (fix : Fix) (old now new : List ℕ) → k < length fixes
    → fix ≡ get_or fixes k fix → AppendsFix (removed_of fix) now new
    → AppendsFixes (map removed_of (take k fixes)) old now → AppendsFixes (map removed_of (take (k + 1) fixes)) old new
AppendsFixes-more fixes k fix old now new below at (line, is, append) (lines, are, so_far) =
    let step : take (k + 1) fixes ≡ take k fixes ++ fix ∷ [] = take_more fixes k fix below
    ∙ ap (λ f. take k fixes ++ f ∷ []) (sym at) in
    let all : map removed_of (take (k + 1) fixes) ≡ map removed_of (take k fixes) ++ removed_of fix ∷ [] =
    ap (map removed_of) step ∙ map-append removed_of (take k fixes) (fix ∷ []) in
    let joined = joined_push 0 (map removed_of (take k fixes)) (removed_of fix) lines line are is in (
      lines ++ line,
      subst (λ (fs : List Removed). AreFixLines fs (lines ++ line)) (sym all) joined,
      append ∙ (ap (λ l. l ++ line) so_far ∙ append_assoc old lines line),
    )

no_pairs : (sources : List SourceRef) (specs : List BString) → (sources ≡ []) ⊎ (specs ≡ [])
    → zip (map start_of sources) (map bstring_bytes specs) ≡ []
no_pairs sources specs (inl none) = ap (λ ss. zip (map start_of ss) (map bstring_bytes specs)) none
no_pairs [] specs (inr none) = refl
no_pairs (s ∷ sources) specs (inr none) = ap (λ ts. zip (map start_of (s ∷ sources)) (map bstring_bytes ts)) none

-- an iterator over two lists, which yields an element of each until one has ended, yielded all pairs
pub claims_of : {S : Type 0} (steps : S → Option (Bor SourceRef × Bor BString) → S → Type 0)
    (first : S → List SourceRef) (second : S → List BString)
    → ((s t : S) (p : Bor SourceRef × Bor BString) → steps s (Some p) t → (first s ≡ p.0.now ∷ first t)
    × (second s ≡ p.1.now ∷ second t)) → (given : List (Bor SourceRef × Bor BString)) (s t : S) → Yields steps s given t
    → (first t ≡ []) ⊎ (second t ≡ []) → map claim_of given ≡ zip (map start_of (first s))
    (map bstring_bytes (second s))
claims_of steps first second more [] s t same ended =
    sym (ap (λ u. zip (map start_of (first u)) (map bstring_bytes (second u))) same
    ∙ no_pairs (first t) (second t) ended)
claims_of steps first second more (p ∷ given) s t (u, step, rest) ended =
    let at = more s u p step in
    ap (λ l. claim_of p ∷ l) (claims_of steps first second more given u t rest ended)
    ∙ sym (λ i. zip (map start_of (at.0 i)) (map bstring_bytes (at.1 i)))
