-- Examples of the definitions on ref names, valid and invalid, and what a caller concludes from their law.
use Rattle.gix_refspec.proofs.Common.{nothing_made, mapping, ◌≡◌, inl, inr, ℕ, List, [], ◌∷◌, ◌++◌, None, Some, codes}
use Rattle.gix_refspec.proofs.Common.{refl, AllByRecursion, RepeatedDot, InvalidMapping, Reading, Ref, id, Mapped}
use Rattle.gix_refspec.proofs.Common.{mapped_of, AreKeptForward, ForwardIndexes, IndexesFit, IsValidated, Removed}
use Rattle.gix_refspec.proofs.Common.{AreLeftOut, HaveRefNames, IsInvalidAt, IsLeftOut, HasRefNames, IsValidDestination}
use Rattle.gix_refspec.proofs.Common.{IsValidSource, IsRefName, KeepsRefNames, LeftOut, StaysAmongRefs, WritesRefs}
use Rattle.gix_refspec.proofs.Common.{left_out_of, true, false, IsTrue, list_all, list_any, IsName, is_plain_component}
use Rattle.gix_refspec.proofs.Common.{is_plain_name, PlainNames, rules}
use Rattle.gix_refspec.proofs.lemmas.validate.RefNameLemmas.{bad_unnamed, name_of_ref, stays_among_refs}
use Rattle.gix_refspec.specs.declared.match_group.ref_names.InvalidSide.TheVariants.{Source, Destination, Both}
use Rattle.gix_refspec_text.proofs.facts.NameFacts.{no_names, names_close_to_faults}
use Rattle.gix_refspec_text.proofs.lemmas.texts.TestedLemmas.{IsName-tested}

pub ref_names : IsRefName (codes "refs/heads/main") × IsRefName (codes "HEAD")
ref_names = (inl (search rules, IsName-tested (codes "refs/heads/main") refl), inr refl)

pub no_ref_names : ¬ (IsRefName (codes "main")) × ¬ (IsRefName (codes "HEADS")) × ¬ (IsRefName (codes "refs/../x"))
no_ref_names =
    let dots : ¬ (IsRefName (codes "refs/../x")) = λ ref. name_of_ref (codes "refs/../x") ref RepeatedDot
    (record { before = codes "refs/"; after = codes "/x"; here = refl }) in
    ((λ ref. search rules), (λ ref. search rules), dots)

abbrev pub good : List ℕ
good = codes "refs/heads/main"

-- ids and missing destinations are valid, and so is `HEAD`, on both sides
pub without_names : IsValidSource (id []) × IsValidDestination None × ¬ (IsValidDestination (Some (codes "refs/../x")))
    × HasRefNames (mapping 0 (codes "HEAD") (Some (codes "HEAD")) 0)
without_names = (tt, tt, no_ref_names.2, search rules)

abbrev pub kept : Mapped
kept = mapping 0 good (Some good) 0

abbrev from_bad : Mapped
from_bad = mapping 1 (codes "refs/../x") (Some good) 0

abbrev pub to_bad : Mapped
to_bad = mapping 2 good (Some (codes "refs/../x")) 0

abbrev all_bad : Mapped
all_bad = mapping 3 (codes "refs/../x") (Some (codes "refs/../x")) 0

-- each invalid mapping has its side, and no other
pub no_other_sides : HasRefNames kept × IsInvalidAt Source from_bad × IsInvalidAt Destination to_bad
    × IsInvalidAt Both all_bad
    × ¬ (IsInvalidAt Both from_bad) × ¬ (IsInvalidAt Source all_bad) × ¬ (IsInvalidAt Source to_bad)
    × ¬ (IsInvalidAt Destination all_bad) × ¬ (IsInvalidAt Destination kept)
no_other_sides = search (rules, ref_names, no_ref_names)

-- one of four is kept, and the others are listed in order, each with its side
pub parted : KeepsRefNames (from_bad ∷ kept ∷ to_bad ∷ all_bad ∷ []) (kept ∷ [])
    (record { mapping = from_bad; side = Source } ∷ record { mapping = to_bad; side = Destination }
    ∷ record { mapping = all_bad; side = Both } ∷ [])
parted =
    let source : IsLeftOut from_bad (record { mapping = from_bad; side = Source }) =
    record { same = refl; bad = no_other_sides.1 } in
    let destination : IsLeftOut to_bad (record { mapping = to_bad; side = Destination }) =
    record { same = refl; bad = no_other_sides.2 } in
    let both : IsLeftOut all_bad (record { mapping = all_bad; side = Both }) =
    record { same = refl; bad = no_other_sides.3 } in record {
      named = (
        None,
        _,
        (λ m made. no_ref_names.2 made.1.source),
        (
          Some kept,
          [],
          (refl, no_other_sides.0),
          (None, [], (λ m made. no_ref_names.2 made.1.destination), search (rules, no_ref_names.2), refl),
          refl,
        ),
        refl,
      );
      others = (
        Some _,
        _,
        source,
        (
          None,
          _,
          (λ out is. bad_unnamed out.side kept is.bad no_other_sides.0),
          (Some _, _, destination, (Some _, [], both, refl, refl), refl),
          refl,
        ),
        refl,
      );
    }

pub none_lost : ¬ (HaveRefNames (kept ∷ []) []) × ¬ (AreLeftOut (to_bad ∷ []) [])
    × ((b : InvalidMapping) → ((left_out_of b).mapping ≡ mapped_of b.mapping) × ((left_out_of b).side ≡ b.side))
none_lost =
    let destination = no_other_sides.2 in (
      (λ are. search (rules, no_other_sides.0)),
      (λ are. nothing_made (λ k m made. IsLeftOut m made) 0 [] to_bad []
          (record { mapping = to_bad; side = Destination }) are (search (rules, destination))),
      λ b. (refl, refl),
    )

-- paths with `..`, an empty component or a control character, and those outside `refs/`, don't stay among refs, and ref
-- names do
pub leads_away : ¬ (StaysAmongRefs (codes "refs/../x")) × ¬ (StaysAmongRefs (codes "refs//x"))
    × ¬ (StaysAmongRefs (codes "x")) × ¬ (StaysAmongRefs (codes "refs/" ++ 31 ∷ []))
    × ¬ (StaysAmongRefs (codes "refs/" ++ 127 ∷ []))
    × StaysAmongRefs good × StaysAmongRefs (codes "HEAD")
leads_away =
    let dots : ¬ (StaysAmongRefs (codes "refs/../x")) =
    λ stays. (stays.components (codes "refs" ∷ codes ".." ∷ codes "x" ∷ []) (search rules)).1.0.1 (search rules) in
    let empty : ¬ (StaysAmongRefs (codes "refs//x")) =
    λ stays. (stays.components (codes "refs" ∷ [] ∷ codes "x" ∷ []) (search rules)).1.0.0 refl in (
      dots,
      empty,
      (λ stays. search rules),
      (λ stays. search rules),
      (λ stays. search rules),
      stays_among_refs good ref_names.0,
      stays_among_refs (codes "HEAD") ref_names.1,
    )

-- by the law no mapping to an invalid ref name remains, whichever of the two calls is first, nor do two with the same
-- destination, if they came from items, and mappings that fit still do
pub none_to_bad : (items : List Ref) (g : List Reading) → WritesRefs g items
    → (l named : List Mapped) (out : List LeftOut)
    → ((rest : List Mapped) (fixes : List Removed) → KeepsRefNames l named out
    → ¬ (IsValidated g named (to_bad ∷ rest) fixes)
    × (AreKeptForward g items l → ¬ (IsValidated g named (kept ∷ kept ∷ rest) fixes)))
    × ((rest : List Mapped) (fixes : List Removed) → IsValidated g l named fixes
    → ¬ (KeepsRefNames named (to_bad ∷ rest) out)
    × (AreKeptForward g items l → ¬ (KeepsRefNames named (kept ∷ kept ∷ rest) out)))
    × (KeepsRefNames l named out → IndexesFit g l → AllByRecursion (ForwardIndexes g items) l → IndexesFit g named
    × AllByRecursion (ForwardIndexes g items) named)
none_to_bad items g law l named out = (
  (λ rest fixes keeps. (
    (λ valid. no_ref_names.2 ((law.before l named _ out fixes keeps valid).0.0 (codes "refs/../x") refl).0),
    λ are valid. ((law.before l named _ out fixes keeps valid).1 are).0.0 (good, refl, refl),
  )),
  (λ rest fixes valid. (
    (λ keeps. no_ref_names.2 ((law.after l named _ fixes out valid keeps).0.0 (codes "refs/../x") refl).0),
    λ are keeps. ((law.after l named _ fixes out valid keeps).1 are).0.0 (good, refl, refl),
  )),
  λ keeps fit indexes. (law.fits l named out keeps fit, law.indexes l named out keeps indexes),
)

-- full names and others, components that end with a part of `.lock`, and the bytes next to the special ones are plain.
-- Not so the empty text, an empty component, and each of the special bytes in a text that isn't a name
pub plain : (list_all is_plain_name (codes "refs/heads/main" ∷ codes "refs/remotes/origin/HEAD" ∷ codes "HEAD"
    ∷ codes "k/lock" ∷ codes "@" ∷ codes "-" ∷ codes "!)+-09;>@Z]_z|}" ∷ (128 ∷ 255 ∷ []) ∷ []) ≡ true)
    × (list_any is_plain_name ([] ∷ codes "/a" ∷ codes "a/" ∷ codes "a//a" ∷ codes ".b/a" ∷ codes "a/.b"
    ∷ codes "b.lock/a" ∷ codes "a/b.lock" ∷ codes "a/b." ∷ codes "..a"
    ∷ codes "@{1}" ∷ codes "*a" ∷ codes "a b" ∷ codes "a~" ∷ codes "a^"
    ∷ codes "a:" ∷ codes "a?" ∷ codes "a[" ∷ codes "a\\" ∷ (97 ∷ 31 ∷ []) ∷ (97 ∷ 127 ∷ []) ∷ []) ≡ false)
plain = (refl, refl)

-- of two texts that differ in a slash, the law covers one, and the other isn't a name. No component contains a slash,
-- even between plain ones. Some names are not plain: those with a dot or a brace.
-- By the law a literal is shown by computation to be a name, and a plain name below `refs/heads/` is a valid ref name
pub at_the_border : (is_plain_name (codes "a/a") ≡ true) × (is_plain_name (codes "a//a") ≡ false)
    × ¬ (IsName (codes "a//a")) × (is_plain_component (codes "a-a") ≡ true) × (is_plain_component (codes "a/a") ≡ false)
    × (list_any is_plain_name (codes "v1.0" ∷ codes "a@b{c}" ∷ []) ≡ false) × IsName (codes "v1.0")
    × IsName (codes "a@b{c}")
    × (PlainNames → IsName (codes "refs/heads/work")
    × ((x : List ℕ) → IsTrue (is_plain_name x) → IsRefName (codes "refs/heads/" ++ x)))
at_the_border =
    let others = names_close_to_faults.1.1.1.1.1 in (
      refl,
      refl,
      no_names.3,
      refl,
      refl,
      refl,
      names_close_to_faults.0,
      others.0,
      λ law. (law _ refl, λ x plain. inl (record { after = codes "heads/" ++ x; here = refl }, law _ plain)),
    )
