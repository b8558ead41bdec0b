-- Destinations that are ids, and what is told of mappings one after another.
use Rattle.std.proofs.Common.{◌≡◌, ℕ, ◌+◌, ◌<◌, IfErr, IfOk, take, get_or, List, [], ◌∷◌, ◌++◌, length, map}
use Rattle.std.proofs.Common.{Result, Ok, Err, sym, ap, subst, ◌∙◌, inl, inr}
use Rattle.gix_refspec.specs.Specs.Reading.{Reading}
use Rattle.std.specs.List.{AllZip}
use Rattle.gix_refspec_text.specs.declared.parsing.Operation.TheVariants.{Fetch}
use Rattle.gix_refspec.specs.Specs.Grammar.{Reads}
use Rattle.gix_refspec.specs.Matching.Match.{Ref}
use Rattle.gix_refspec.specs.Matching.Hits.{AreKeptForward, AreKeptBackward}
use Rattle.gix_refspec_c.specs.declared.kept.Kept.{Kept}
use Rattle.gix_refspec_c.specs.declared.matching.Direction.{Direction}
use Rattle.gix_refspec_c.specs.declared.matching.Direction.TheVariants.{Forward, Backward}
use Rattle.gix_refspec_c.specs.declared.failure.Failure.{Failure}
use Rattle.gix_refspec_c.specs.declared.failure.Failure.TheVariants as failure
use Rattle.std.proofs.lemmas.List.{append_assoc, map-append, take_more}
use Rattle.gix_refspec.specs.Matching.Mappings.{Mapped}
use Rattle.gix_refspec_c.specs.declared.listing.MappingOut.{MappingOut}
use Rattle.gix_refspec_c.specs.Mapping.{Entry, LacksAll, LacksRoom, Room, Describes, backward_entry, forward_entry}
use Rattle.gix_refspec_c.specs.Kept.{entries_of}
use Rattle.gix_refspec_c.specs.Mapping.{text_of, described_at, described_by}
use Rattle.gix_refspec_c.specs.Matching.{AreMatched, Keeps, Lists, NamesSuffice, nameless}
use Rattle.gix_refspec_c.proofs.LayoutLemmas.{laid_out_more}

-- one mapping more is told of
pub describes_more : (es new : List Entry) (e : Entry) (structs structs2 : List MappingOut) (text text2 : List ℕ)
    → Describes es structs text → new ≡ es ++ e ∷ [] → text2 ≡ text ++ text_of e
    → map described_by structs2 ≡ map described_by structs ++ described_at (length text) e ∷ []
    → Describes new structs2 text2
describes_more = laid_out_more text_of described_at described_by

-- the entries of one element more, from a slice of the list
pub entries_more : {X Y : Type 0} (f : Y → Entry) (view : X → Y) (xs slice : List X) (k : ℕ) (x : X) → slice ≡ xs
    → k < length slice → x ≡ get_or slice k x → map f (map view (take (k + 1) xs)) ≡ map f (map view (take k xs)) ++ f
    (view x) ∷ []
entries_more {X} {Y} f view xs slice k x same below is =
    subst (λ (l : List X). map f (map view (take (k + 1) l)) ≡ map f (map view (take k l)) ++ f (view x) ∷ []) same
    (ap (λ l. map f (map view l)) (take_more slice k x below)
    ∙ ap (map f) (map-append view (take k slice) (get_or slice k x ∷ []))
    ∙ map-append f (map view (take k slice)) (view (get_or slice k x) ∷ [])
    ∙ ap (λ y. map f (map view (take k slice)) ++ f (view y) ∷ []) (sym is))

-- and behind others
pub entries_more_behind : {X : Type 0} (es : List Entry) (f : X → Entry) (xs slice : List X) (k : ℕ) (d : X)
    → slice ≡ xs → k < length slice → es ++ map f (take (k + 1) xs) ≡ (es ++ map f (take k xs)) ++ f (get_or slice k d)
    ∷ []
entries_more_behind {X} es f xs slice k d same below =
    subst (λ (l : List X). es ++ map f (take (k + 1) l) ≡ (es ++ map f (take k l)) ++ f (get_or slice k d) ∷ []) same
    (ap (λ l. es ++ map f l) (take_more slice k d below)
    ∙ ap (λ l. es ++ l) (map-append f (take k slice) (get_or slice k d ∷ []))
    ∙ sym (append_assoc es (map f (take k slice)) (f (get_or slice k d) ∷ [])))

-- a match whose mappings aren't written
pub lacks_all : (Is : List Entry → Type 0) (Why : Failure → Type 0) (es : List Entry) (before after : Room)
    (r : Result (Unit {0}) Failure) → Is es → Why failure.NoMemory → IfErr r (LacksRoom es before after)
    → IfErr r (LacksAll Is Why before after)
lacks_all Is Why es before after (Ok u) is memory lacks = tt
lacks_all Is Why es before after (Err f) is memory (inl small) = inl (small.0, es, is, small.1)
lacks_all Is Why es before after (Err f) is memory (inr none) = inr (subst Why (sym none.0) memory, none.1)

-- what is kept from left to right are the mappings that the group keeps
pub lists_forward : (d : Direction) (group g : List Reading) (refs : List Ref) (ms : List Mapped) → d ≡ Forward
    → g ≡ group → AreKeptForward group refs ms → Lists d group refs (map (forward_entry g) ms)
lists_forward d group g refs ms is whole keeps =
    let lists : Lists Forward group refs (map (forward_entry g) ms) =
    record { kept = ms; keeps = keeps; are = ap (λ specs. map (forward_entry specs) ms) whole } in
    subst (λ (e : Direction). Lists e group refs (map (forward_entry g) ms)) (sym is) lists

-- and so it is from right to left
pub lists_backward : (d : Direction) (group g : List Reading) (refs : List Ref) (ms : List Mapped) → d ≡ Backward
    → g ≡ group → AreKeptBackward group refs ms → Lists d group refs (map (backward_entry g) ms)
lists_backward d group g refs ms is whole keeps =
    let lists : Lists Backward group refs (map (backward_entry g) ms) =
    record { kept = ms; keeps = keeps; are = ap (λ specs. map (backward_entry specs) ms) whole } in
    subst (λ (e : Direction). Lists e group refs (map (backward_entry g) ms)) (sym is) lists

-- if names decide, what a group keeps over refs with these names is what is matched
pub lists_matched : (d : Direction) (texts names : List (List ℕ)) (group : List Reading) (refs : List Ref)
    (r : Result Kept Failure) → AllZip (Reads Fetch) texts group → NamesSuffice d group → refs ≡ map nameless names
    → IfOk r (λ k. Lists d group refs (entries_of k)) → IfOk r (λ k. AreMatched d texts names (entries_of k))
lists_matched d texts names group refs (Err f) read suffice same lists = tt
lists_matched d texts names group refs (Ok k) read suffice same lists = record {
  group = group;
  read = read;
  by_names = suffice;
  kept = lists.kept;
  keeps = subst (λ (rs : List Ref). Keeps d group rs lists.kept) same lists.keeps;
  are = lists.are;
}
