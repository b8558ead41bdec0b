-- Whether a given spec is the only one, the texts of the specs of a wish, and updates in each form.
use Rattle.std.proofs.Common.{◌≡◌, ◌<◌, ◌+◌, ◌^◌, ℕ, Bool, true, false, List, [], ◌∷◌, ◌++◌, None, Some, ap, arith}
use Rattle.std.proofs.Common.{codes, length, refl, sym}
use Rattle.std.proofs.lemmas.Bool.{false≢true, true≢false}
use Rattle.bstr.specs.Owned.{bstring_bytes}
use Rattle.bstr.specs.declared.bstring.BString.{BString}
use Rattle.gix_refspec.specs.Specs.Grammar.{fetched}
use Rattle.gix_refspec.specs.Specs.Reading.{Normal, Reading}
use Rattle.gix_refspec_plan.specs.Matching.Plan.{Wish}
use Rattle.refspec_io.specs.declared.call.Form.TheVariants as form
use Rattle.refspec_io.proofs.facts.GivenFacts.{vec_with}
use Rattle.refspec_fetch.specs.declared.origins.SpecTexts.{SpecTexts}
use Rattle.refspec_fetch.specs.Origins.{AreTextsOf, IsAlone}
use Rattle.refspec_fetch.specs.Report.{AddsLongOrGroups, AddsUpdates}
use Rattle.refspec_fetch.specs.Updates.{object_with}
use Rattle.refspec_fetch.proofs.facts.GroupFacts.{groups, not_groups}
use Rattle.refspec_fetch.proofs.facts.UpdateFacts.{by_default, lines}

abbrev pub a_spec : Reading
a_spec = fetched Normal (codes "a") None

-- a wish with these given specs, these configured ones, and all tags or not
abbrev pub wish_for : List Reading → List Reading → Bool → Wish
wish_for given configured tags = record { given = given; configured = configured; merges = []; tags = tags }

-- a given spec is alone, whatever is merged
pub alone : IsAlone (wish_for (a_spec ∷ []) [] false)
    × IsAlone (record (wish_for (a_spec ∷ []) [] false) { merges = codes "refs/heads/a" ∷ [] })
alone = (record { one = refl; configured = refl; tags = refl }, record { one = refl; configured = refl; tags = refl })

-- but not beside another given one, a configured one or all tags, and a configured one isn't
pub not_alone : ¬ (IsAlone (wish_for (a_spec ∷ a_spec ∷ []) [] false))
    × ¬ (IsAlone (wish_for (a_spec ∷ []) (a_spec ∷ []) false))
    × ¬ (IsAlone (wish_for (a_spec ∷ []) [] true)) × ¬ (IsAlone (wish_for [] (a_spec ∷ []) false))
not_alone = (
  (λ is. omega (arith, is.one)),
  (λ is. omega (arith, ap length is.configured)),
  (λ is. true≢false is.tags),
  λ is. omega (arith, is.one),
)

-- texts of a given and a configured spec, and of what is merged
abbrev pub texts_with : SpecTexts → (given configured merges : List BString)
    → length given + length configured + length merges < 2 ^ 63 → Bool → SpecTexts
texts_with texts given configured merges few is_alone = record texts {
  given = vec_with texts.given given (omega (arith, few));
  configured = vec_with texts.configured configured (omega (arith, few));
  merges = vec_with texts.merges merges (omega (arith, few));
  is_alone = is_alone;
}

-- each spec has its canonical text, and each merged ref itself
pub are_texts : (texts : SpecTexts) (a : BString) → bstring_bytes a ≡ codes "a"
    → AreTextsOf (wish_for (a_spec ∷ []) [] false) (texts_with texts (a ∷ []) [] [] (omega arith) true)
    × AreTextsOf (record (wish_for [] (a_spec ∷ []) false) { merges = codes "a" ∷ [] })
    (texts_with texts [] (a ∷ []) (a ∷ []) (omega arith) false)
are_texts texts a is = (
  record { given = (ap Some (sym is), tt); configured = tt; merges = refl; alone = (λ yes. alone.0, λ yes. refl) },
  record {
    given = tt;
    configured = (
      ap Some (sym is),
      tt,
    );
    merges = ap (λ (l : List ℕ). l ∷ []) is;
    alone = (
      λ none. absurd (false≢true none),
      λ yes. absurd (omega (arith, yes.one)),
    );
  },
)

-- no text is lost or belongs to no spec, and a spec is called alone exactly if it is
pub not_texts : (texts : SpecTexts) (a : BString) → bstring_bytes a ≡ codes "a"
    → ¬ (AreTextsOf (wish_for (a_spec ∷ []) [] false) (texts_with texts [] [] [] (omega arith) true))
    × ¬ (AreTextsOf (wish_for [] (a_spec ∷ []) false) (texts_with texts (a ∷ []) [] [] (omega arith) false))
    × ¬ (AreTextsOf (record (wish_for [] [] false) { merges = codes "a" ∷ [] })
    (texts_with texts [] [] [] (omega arith) false))
    × ¬ (AreTextsOf (wish_for (a_spec ∷ []) [] false) (texts_with texts (a ∷ []) [] [] (omega arith) false))
    × ¬ (AreTextsOf (wish_for [] [] false) (texts_with texts [] [] [] (omega arith) true))
not_texts texts a is = (
  (λ are. are.given),
  (λ are. are.given),
  (λ are. omega (arith, ap length are.merges)),
  (λ are. false≢true (are.alone.1 alone.0)),
  λ are. omega (arith, (are.alone.0 refl).one),
)

-- each update with its spec, or grouped below it
pub long_or_groups : (texts : SpecTexts)
    → AddsLongOrGroups true texts (by_default ∷ by_default ∷ []) (codes "x\n")
    (codes "x\nHEAD  FETCH_HEAD  HEAD (default)\nHEAD  FETCH_HEAD  HEAD (default)\n")
    × AddsLongOrGroups false (texts_with texts [] [] [] (omega arith) true) (by_default ∷ []) (codes "x\n")
    (codes "x\nHEAD  FETCH_HEAD\n")
    × AddsLongOrGroups false (texts_with texts [] [] [] (omega arith) false) (by_default ∷ by_default ∷ []) []
    (codes "HEAD (default)\n  HEAD  FETCH_HEAD\n  HEAD  FETCH_HEAD\n")
long_or_groups texts = ((lines texts).1, (groups texts).0, (groups (texts_with texts [] [] [] (omega arith) false)).1)

-- and none is lost
pub not_long_or_groups : (texts : SpecTexts) → ¬ (AddsLongOrGroups true texts (by_default ∷ []) [] [])
    × ¬ (AddsLongOrGroups false (texts_with texts [] [] [] (omega arith) true) (by_default ∷ []) [] [])
not_long_or_groups texts = ((lines texts).3, (not_groups texts).1)

-- updates in lines, in records of four fields whatever the lines are like, and as objects
pub updates : (texts : SpecTexts) (long : Bool)
    → AddsUpdates true form.Lines texts (by_default ∷ by_default ∷ []) (codes "x\n")
    (codes "x\nHEAD  FETCH_HEAD  HEAD (default)\nHEAD  FETCH_HEAD  HEAD (default)\n")
    × AddsUpdates long form.Zeros texts (by_default ∷ []) (codes "x")
    (codes "xHEAD" ++ (0 ∷ 0 ∷ codes "HEAD" ++ (0 ∷ codes "default" ++ (0 ∷ []))))
    × AddsUpdates long form.Json texts (by_default ∷ []) (codes "x\n")
    (codes "x\n" ++ (object_with (codes "HEAD") by_default ++ []))
updates texts long = ((lines texts).1, refl, refl)

pub not_updates : (texts : SpecTexts) (long : Bool) → ¬ (AddsUpdates true form.Lines texts (by_default ∷ []) [] [])
    × ¬ (AddsUpdates long form.Zeros texts (by_default ∷ []) [] [])
    × ¬ (AddsUpdates long form.Zeros texts [] [] (codes "x"))
not_updates texts long = (
  (lines texts).3,
  (λ same. omega (arith, ap length same)),
  λ same. omega (
    arith,
    ap length same,
  ),
)
