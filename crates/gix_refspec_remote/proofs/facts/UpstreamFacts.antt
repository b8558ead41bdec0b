-- Examples of the definition of upstreams, as Git 2.39.5 takes them: what is stored, excluded and compared.
use Rattle.gix_refspec_remote.proofs.Common.{[], ◌∷◌, ◌≡◌, ℕ, zero, suc, List, None, Some, codes, refl, sym, subst}
use Rattle.gix_refspec_remote.proofs.Common.{arith, inl, inr, ◌++◌, same_Some, lacks_no_pattern, Lacks, IsSplit, star}
use Rattle.gix_refspec_remote.proofs.Common.{Reading, AsksFor, AsksForExcluded, Fetches, HasAt, HasNo, IsExcluded}
use Rattle.gix_refspec_remote.proofs.Common.{IsFirstAt, IsExcludedAt, IsText, IsUpstream, Names, Stores, StoresSome}
use Rattle.gix_refspec_remote.proofs.Common.{Turns, excluded, not_fetched, not_stored, tracked, IsExcludedBy}
use Rattle.gix_refspec_remote.proofs.lemmas.WrittenLemmas.{name_text, pattern_text}
use Rattle.gix_refspec_text.proofs.readers.Texts.{Lacks-tested, begins_not}
use Rattle.gix_refspec_text.proofs.facts.FitFacts.{every, heads_split, origin_split}
use Rattle.gix_refspec_text.specs.Matching.Side.{the_name}
use Rattle.gix_refspec_text.specs.Specs.Grammar.{fetched}
use Rattle.gix_refspec_text.specs.Specs.Reading.{Normal, Forced, Negative}

abbrev main : List ℕ
main = codes "refs/heads/main"

abbrev stored : List ℕ
stored = codes "refs/remotes/origin/main"

-- `^refs/heads/main`
abbrev no_main : Reading
no_main = fetched Negative main None

-- `+refs/heads/main:refs/x/main`
abbrev only_main : Reading
only_main = fetched Forced main (Some (codes "refs/x/main"))

alone : (P : Reading → Type 0) (q : Reading) → ¬ (P q) → HasNo (q ∷ []) P
alone P q never zero has = never (subst P (sym (same_Some _ _ has.1)) has.2)
alone P q never (suc k) has = absurd (cc (has.1))

both : (P : Reading → Type 0) (q r : Reading) → ¬ (P q) → ¬ (P r) → HasNo (q ∷ r ∷ []) P
both P q r never none zero has = never (subst P (sym (same_Some _ _ has.1)) has.2)
both P q r never none (suc k) has = alone P r none k has

first : (g : List Reading) (P : Reading → Type 0) → HasAt g 0 P → IsFirstAt g 0 P
first g P has = (has, λ j below. absurd (omega (arith, below)))

plain_main : Lacks star main
plain_main = Lacks-tested star main refl

plain_short : Lacks star (codes "main")
plain_short = Lacks-tested star (codes "main") refl

reads_main : IsText (codes "refs/heads/*") main (Some (codes "main"))
reads_main = (codes "refs/heads/", [], heads_split, refl)

makes_main : IsText (codes "refs/remotes/origin/*") stored (Some (codes "main"))
makes_main = (codes "refs/remotes/origin/", [], origin_split, refl)

-- a pattern fetches what its source matches, and stores it with the same word
pub stores_main : Stores main stored every
stores_main = record {
  fetches = record { positive = tt; source = _; is = refl; word = Some (codes "main"); reads = reads_main };
  destination = _;
  is = refl;
  makes = makes_main;
}

-- a name is fetched as it is written alone
pub compares_texts : Fetches (codes "main") (fetched Normal (codes "main") None)
    × ¬ (Fetches main (fetched Normal (codes "main") None))
compares_texts = (
  record { positive = tt; source = _; is = refl; word = None; reads = (plain_short, refl) },
  λ fetches. let is = name_text (codes "main") main fetches.word plain_short
      (subst (λ x. IsText x main fetches.word) (sym (same_Some _ _ fetches.is)) fetches.reads) in
      absurd (cc (is.1)),
)

every_asks_nothing : (s : List ℕ) → ¬ (AsksFor main s every)
every_asks_nothing s (inl asked) = lacks_no_pattern (codes "refs/heads/*") (codes "refs/heads/") []
    (subst (Lacks star) (sym (same_Some _ _ asked.0.source)) asked.0.plain) heads_split
every_asks_nothing s (inr turns) =
    let (w, is, fits) = pattern_text (codes "refs/remotes/origin/*") (codes "refs/remotes/origin/") [] main
    (Some turns.word) origin_split
    (subst (λ y. IsText y main (Some turns.word)) (sym (same_Some _ _ turns.to)) turns.reads) in
    begins_not (codes "refs/remotes/origin/") main refl (record { after = w ++ []; here = fits })

no_main_asks_nothing : (s : List ℕ) → ¬ (AsksFor main s no_main)
no_main_asks_nothing s (inl asked) = asked.0.positive
no_main_asks_nothing s (inr turns) = turns.positive

-- the ref below refs/remotes/ is the upstream, even if a negative spec names the merged ref
pub tracked_beside_an_exclusion : IsUpstream (every ∷ no_main ∷ []) main (tracked stored 0)
tracked_beside_an_exclusion =
    let g : List Reading = every ∷ no_main ∷ [] in (
      both (AsksForExcluded g main) every no_main (λ asks. every_asks_nothing asks.0 asks.1)
          (λ asks. no_main_asks_nothing asks.0 asks.1),
      first g (StoresSome main) (every, refl, (stored, stores_main)),
      (every, refl, stores_main),
    )

-- but it isn't, if a source without a star is the excluded ref
pub excluded_by_name : IsUpstream (only_main ∷ no_main ∷ []) main (excluded 0 1)
excluded_by_name =
    let g : List Reading = only_main ∷ no_main ∷ [] in
    let asks : AsksFor main main only_main =
    inl (record { positive = tt; source = refl; plain = plain_main }, refl) in
    let by : IsExcludedBy main no_main =
    record { negative = refl; text = main; source = refl; excludes = the_name plain_main refl } in (
      first g (AsksForExcluded g main) (only_main, refl, (main, asks, inr (inl by))),
      (only_main, refl, (main, asks, (no_main, refl, by))),
    )

-- and then no ref is the upstream
pub excluded_before_tracked : ¬ (IsUpstream (only_main ∷ no_main ∷ []) main (tracked (codes "refs/x/main") 0))
excluded_before_tracked is = is.0 0 excluded_by_name.0.0

-- a source alone is fetched and not stored; a negative spec fetches nothing
pub without_destination : IsUpstream (fetched Normal main None ∷ []) main (not_stored 0)
    × IsUpstream (no_main ∷ []) main not_fetched
without_destination =
    let only : Reading = fetched Normal main None in (
      (
        alone (AsksForExcluded (only ∷ []) main) only
            (λ asks. elim asks.2 [ inl by ↦ absurd (cc (by.negative)) | inr none ↦ none ]),
        alone (StoresSome main) only (λ stores. absurd (cc (stores.1.is))),
        first (only ∷ []) (Fetches main) (
          only,
          refl,
          record { positive = tt; source = main; is = refl; word = None; reads = (plain_main, refl) },
        ),
      ),
      (
        alone (AsksForExcluded (no_main ∷ []) main) no_main (λ asks. no_main_asks_nothing asks.0 asks.1),
        alone (Fetches main) no_main (λ fetches. fetches.positive),
      ),
    )
