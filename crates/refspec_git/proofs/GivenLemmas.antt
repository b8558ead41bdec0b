-- Specs in arguments, as these grow by one.
use Rattle.std.proofs.Common.{◌≡◌, ◌≢◌, ◌∙◌, ◌<◌, ℕ, Bool, Bor, List, [], ◌∷◌, ◌++◌, ap, append_assoc, arith, codes}
use Rattle.std.proofs.Common.{false, get_or, inl, inr, length, map, refl, subst, sym, true}
use Rattle.std.proofs.lemmas.List.{get_or-map, length-map}
use Rattle.std.proofs.lemmas.List.Elements.{Contains-get_or}
use Rattle.std.specs.List.{Contains}
use Rattle.refspec_git.specs.Wanted.{AreSpecs, tag_spec}

-- the specs of arguments; or of those before the last, which is `tag`
abbrev pub AreSpecsSoFar : Bool → List (List ℕ) → List (List ℕ) → Type 0
AreSpecsSoFar false front specs = AreSpecs front specs
AreSpecsSoFar true front specs = (before : List (List ℕ)) × AreSpecs before specs × (front ≡ before ++ codes "tag" ∷ [])

-- one more argument that is a spec
pub spec_more : (front specs : List (List ℕ)) (a : List ℕ) → AreSpecs front specs → a ≢ codes "tag"
    → AreSpecs (front ++ a ∷ []) (specs ++ a ∷ [])
spec_more [] specs a are other = (other, ap (λ l. l ++ a ∷ []) are)
spec_more (b ∷ []) specs a are other = inr (are.0, a ∷ [], (other, refl), ap (λ l. l ++ a ∷ []) are.1)
spec_more (b ∷ (c ∷ rest)) specs a (inl (is, more, are, parts)) other =
    inl (is, more ++ a ∷ [], spec_more rest more a are other, ap (λ l. l ++ a ∷ []) parts)
spec_more (b ∷ (c ∷ rest)) specs a (inr (is, more, are, parts)) other =
    inr (is, more ++ a ∷ [], spec_more (c ∷ rest) more a are other, ap (λ l. l ++ a ∷ []) parts)

-- `tag` and a name
pub tag_more : (front specs : List (List ℕ)) (name : List ℕ) → AreSpecs front specs
    → AreSpecs (front ++ codes "tag" ∷ (name ∷ [])) (specs ++ tag_spec name ∷ [])
tag_more [] specs name are = inl (refl, [], refl, ap (λ l. l ++ tag_spec name ∷ []) are)
tag_more (b ∷ []) specs name are =
    inr (are.0, tag_spec name ∷ [], inl (refl, [], refl, refl), ap (λ l. l ++ tag_spec name ∷ []) are.1)
tag_more (b ∷ (c ∷ rest)) specs name (inl (is, more, are, parts)) =
    inl (is, more ++ tag_spec name ∷ [], tag_more rest more name are, ap (λ l. l ++ tag_spec name ∷ []) parts)
tag_more (b ∷ (c ∷ rest)) specs name (inr (is, more, are, parts)) =
    inr (is, more ++ tag_spec name ∷ [], tag_more (c ∷ rest) more name are, ap (λ l. l ++ tag_spec name ∷ []) parts)

-- a name behind `tag`
pub so_far_tagged : (front specs : List (List ℕ)) (name : List ℕ) → AreSpecsSoFar true front specs
    → AreSpecs (front ++ name ∷ []) (specs ++ tag_spec name ∷ [])
so_far_tagged front specs name (before, are, parts) =
    subst (λ l. AreSpecs l (specs ++ tag_spec name ∷ []))
    (sym (ap (λ l. l ++ name ∷ []) parts ∙ append_assoc before (codes "tag" ∷ []) (name ∷ [])))
    (tag_more before specs name are)

-- the same specs of the same arguments
pub so_far_as : (b c : Bool) (front other specs more : List (List ℕ)) → b ≡ c → front ≡ other → specs ≡ more
    → AreSpecsSoFar b front specs → AreSpecsSoFar c other more
so_far_as b c front other specs more bs fronts all are =
    subst (λ x. AreSpecsSoFar x other more) bs
    (subst (λ l. AreSpecsSoFar b l more) fronts (subst (AreSpecsSoFar b front) all are))

-- one of some lent texts
pub contains_lent : (xs : List (Bor (List ℕ))) (i : ℕ) (d : Bor (List ℕ)) → i < length xs
    → Contains (map (λ (x : Bor (List ℕ)). x.now) xs) (get_or xs i d).now
contains_lent xs i d below =
    let now = λ (x : Bor (List ℕ)). x.now in
    let long = length-map xs now in
    subst (Contains (map now xs)) (get_or-map now xs i d [] below)
    (Contains-get_or (map now xs) i [] (omega (arith, below, long)))
