-- Specs and refused texts.
use Rattle.std.proofs.Common.{◌≡◌, ℕ, true, false, List, [], ◌∷◌, ◌++◌, None, Some, unwrap_or, inl, inr, codes, length}
use Rattle.std.proofs.Common.{refl, sym, ap, arith}
use Rattle.std.specs.List.{AllZip}
use Rattle.std.proofs.lemmas.Bool.{false≢true}
use Rattle.gix_refspec_text.specs.declared.name.Error.TheVariants.{InvalidByte}
use Rattle.gix_refspec_text.specs.declared.parsing.Error.TheVariants as error
use Rattle.gix_refspec_text.specs.declared.parsing.Operation.TheVariants.{Push, Fetch}
use Rattle.gix_refspec_text.specs.declared.types.Mode.TheVariants as mode
use Rattle.gix_refspec.specs.Specs.Grammar.{fetched}
use Rattle.gix_refspec.specs.Specs.Reading.{Normal, Reading}
use Rattle.gix_refspec.specs.Specs.Refusal.{Empty, ReferenceName}
use Rattle.gix_refspec_text.proofs.facts.FitFacts.{other_byte, push_is_none}
use Rattle.gix_refspec_text.proofs.facts.GrammarFacts.{fetches_head, fetches_main}
use Rattle.gix_refspec_text.proofs.facts.UnreadFacts.{bad_sources, nothing_pushed}
use Rattle.gix_refspec_text.proofs.facts.ViewFacts.{Accepted, spec_of}
use Rattle.refspec_io.specs.declared.call.Form.TheVariants as form
use Rattle.refspec_io.specs.declared.checked.Checked.{Checked}
use Rattle.refspec_io.specs.declared.checked.Checked.TheVariants as checked
use Rattle.refspec_io.specs.declared.texts.Text.{Text}
use Rattle.refspec_io.specs.Read.{AddsIfGood, AddsIfRead, AreGood, AreRead, HasBad, HasRefused, IsChecked, IsSpec}
use Rattle.refspec_io.specs.Read.{DecidesRefused}
use Rattle.refspec_io.specs.Texts.{argument_at}
use Rattle.refspec_io.proofs.facts.TextFacts.{text_for}

-- the readings of `main` and of an empty text in a fetch
abbrev pub main : Reading
main = fetched Normal (codes "main") None

abbrev pub head : Reading
head = fetched Normal (codes "HEAD") None

-- ---- texts

-- an empty text is `HEAD` in a fetch, and refused in a push
pub read : AreRead ((Fetch, codes "main") ∷ (Fetch, []) ∷ []) (main ∷ head ∷ [])
    × HasRefused ((Fetch, codes "main") ∷ (Push, []) ∷ [])
    × HasRefused ((Fetch, codes "a b") ∷ (Fetch, codes "main") ∷ [])
read = (
  (fetches_main.0, (fetches_head.0, tt)),
  inr (inl (Empty, nothing_pushed)),
  inl (ReferenceName (InvalidByte 32), bad_sources.0),
)

-- specs aren't refused, refused texts aren't read, and each spec has exactly one reading
pub not_read : ¬ (HasRefused ((Fetch, codes "main") ∷ (Fetch, []) ∷ []))
    × ((g : List Reading) → ¬ (AreRead ((Fetch, codes "main") ∷ (Push, []) ∷ []) g))
    × ¬ (AreRead ((Fetch, codes "main") ∷ []) []) × ¬ (AreRead ((Fetch, codes "main") ∷ []) (main ∷ main ∷ []))
not_read = (none, unread, (λ are. are), λ are. are.1)
  where
    none : ¬ (HasRefused ((Fetch, codes "main") ∷ (Fetch, []) ∷ []))
    none (inl (e, is)) = is.unread main fetches_main.0
    none (inr (inl (e, is))) = is.unread head fetches_head.0
    none (inr (inr never)) = never

    unread : (g : List Reading) → ¬ (AreRead ((Fetch, codes "main") ∷ (Push, []) ∷ []) g)
    unread [] are = are
    unread (r ∷ []) are = are.1
    unread (r ∷ q ∷ g) are = nothing_pushed.unread q are.1.0

-- the flag says whether a text is refused
pub reported : DecidesRefused false ((Fetch, codes "main") ∷ (Fetch, []) ∷ [])
    × DecidesRefused true ((Fetch, codes "main") ∷ (Push, []) ∷ []) × DecidesRefused false []
reported = ((main ∷ head ∷ [], read.0), read.1, ([], tt))

pub not_reported : ¬ (DecidesRefused true ((Fetch, codes "main") ∷ (Fetch, []) ∷ []))
    × ¬ (DecidesRefused false ((Fetch, codes "main") ∷ (Push, []) ∷ [])) × ¬ (DecidesRefused true [])
not_reported = (not_read.0, (λ reads. not_read.1 reads.0 reads.1), λ refuses. refuses)

-- ---- results

-- the results for specs, here an x
abbrev AddsX : List Reading → List ℕ → List ℕ → Type 0
AddsX g old new = new ≡ old ++ codes "x"

-- what holds of refusals, here anything true
abbrev RefusalsHold : Type 0
RefusalsHold = codes "no" ≡ codes "no"

-- if a text is refused, the results stay, else they grow
pub grown : AddsIfRead AddsX RefusalsHold form.Lines false (argument_at Fetch 1 (codes "main") ∷ []) (codes "a")
    (codes "ax")
    × AddsIfRead AddsX RefusalsHold form.Lines true (argument_at Fetch 1 (codes "main") ∷ argument_at Push 2 [] ∷ [])
    (codes "a") (codes "a")
grown = (inl (main ∷ [], (fetches_main.0, tt), refl), inr (read.1, refl, refl, refl))

-- and not the other way round, nor is the flag wrong
pub not_grown :
    ¬ (AddsIfRead AddsX RefusalsHold form.Lines false (argument_at Fetch 1 (codes "main") ∷ argument_at Fetch 2 [] ∷ [])
    (codes "a") (codes "a"))
    × ¬ (AddsIfRead AddsX RefusalsHold form.Lines true (argument_at Fetch 1 (codes "main") ∷ argument_at Push 2 [] ∷ [])
    (codes "a") (codes "ax"))
    × ¬ (AddsIfRead AddsX RefusalsHold form.Lines false
    (argument_at Fetch 1 (codes "main") ∷ argument_at Push 2 [] ∷ []) (codes "a") (codes "a"))
not_grown = (stayed, spoiled, unsaid)
  where
    stayed : ¬ (AddsIfRead AddsX RefusalsHold form.Lines false
        (argument_at Fetch 1 (codes "main") ∷ argument_at Fetch 2 [] ∷ []) (codes "a") (codes "a"))
    stayed (inl (g, are, same)) = omega (arith, ap length same)
    stayed (inr (has, same, refused, reported)) = not_read.0 has

    spoiled : ¬ (AddsIfRead AddsX RefusalsHold form.Lines true
        (argument_at Fetch 1 (codes "main") ∷ argument_at Push 2 [] ∷ []) (codes "a") (codes "ax"))
    spoiled (inl (g, are, same)) = not_read.1 g are
    spoiled (inr (has, same, refused, reported)) = omega (arith, ap length same)

    unsaid : ¬ (AddsIfRead AddsX RefusalsHold form.Lines false
        (argument_at Fetch 1 (codes "main") ∷ argument_at Push 2 [] ∷ []) (codes "a") (codes "a"))
    unsaid (inl (g, are, same)) = not_read.1 g are
    unsaid (inr (has, same, refused, reported)) = false≢true refused

-- ---- checked texts

-- `main` in a fetch, and an empty text in a push; that `main` is a spec is a premise
abbrev pub good : Accepted Fetch mode.Normal (Some (codes "main")) None → Checked
good accepted = checked.Good (text_for Fetch (codes "main"))
    (spec_of Fetch mode.Normal (Some (codes "main")) None accepted)

abbrev pub bad : Checked
bad = checked.Bad (text_for Push []) error.Empty

module _ (accepted : Accepted Fetch mode.Normal (Some (codes "main")) None) where
  -- a text is read, or refused for its reason
  pub was_checked : IsChecked (text_for Fetch (codes "main")) (good accepted) × IsChecked (text_for Push []) bad
  was_checked = ((refl, fetches_main.0), (refl, (Empty, refl, nothing_pushed)))

  -- a refused text isn't read, a spec isn't refused, running out of memory isn't a reason, and the text is the same
  pub not_checked : ¬ (IsChecked (text_for Push []) (good accepted)) × ¬ (IsChecked (text_for Fetch []) bad)
      × ¬ (IsChecked (text_for Push []) (checked.Bad (text_for Push []) error.Memory))
      × ¬ (IsChecked (text_for Push []) (checked.Bad (text_for Fetch []) error.Empty))
  not_checked = (
    (λ is. nothing_pushed.unread main is.1),
    (λ is. is.1.2.unread head fetches_head.0),
    (λ is. is.1.1),
    λ is. push_is_none (sym (ap (λ (t : Text). t.operation) is.0)),
  )

  -- a spec has only its own reading, and a refused text has none
  pub specs : IsSpec (good accepted) main × ¬ (IsSpec (good accepted) head) × ¬ (IsSpec bad main)
  specs = (
    refl,
    (λ is. other_byte 0 (codes "HEAD") (codes "main") (λ byte. omega (
      arith,
      byte,
    )) (ap (λ (r : Reading). unwrap_or r.source []) is)),
    λ is. is,
  )

  -- one refused text is enough, wherever it is
  pub some_bad : HasBad (good accepted ∷ bad ∷ []) × HasBad (bad ∷ good accepted ∷ [])
      × ¬ (HasBad (good accepted ∷ good accepted ∷ [])) × ¬ (HasBad [])
  some_bad = (tt, tt, (λ is. is), λ is. is)

  pub all_good : AreGood (good accepted ∷ good accepted ∷ []) × AreGood [] × ¬ (AreGood (good accepted ∷ bad ∷ []))
      × ¬ (AreGood (bad ∷ good accepted ∷ []))
  all_good = (tt, tt, (λ are. are), λ are. are)

  -- the results grow as above
  pub grown_of : AddsIfGood AddsX RefusalsHold form.Lines false (good accepted ∷ []) (codes "a") (codes "ax")
      × AddsIfGood AddsX RefusalsHold form.Lines true (good accepted ∷ bad ∷ []) (codes "a") (codes "a")
  grown_of = (inl (main ∷ [], (refl, tt), refl), inr (tt, refl, refl, refl))

  pub not_grown_of : ¬ (AddsIfGood AddsX RefusalsHold form.Lines false (good accepted ∷ []) (codes "a") (codes "a"))
      × ¬ (AddsIfGood AddsX RefusalsHold form.Lines true (bad ∷ []) (codes "a") (codes "ax"))
      × ¬ (AddsIfGood AddsX RefusalsHold form.Lines false (bad ∷ []) (codes "a") (codes "a"))
  not_grown_of = (stayed, spoiled, unsaid)
    where
      stayed : ¬ (AddsIfGood AddsX RefusalsHold form.Lines false (good accepted ∷ []) (codes "a") (codes "a"))
      stayed (inl (g, are, same)) = omega (arith, ap length same)
      stayed (inr (has, same, refused, reported)) = has

      no_specs : (g : List Reading) → ¬ (AllZip IsSpec (bad ∷ []) g)
      no_specs [] are = are
      no_specs (r ∷ g) are = are.0

      spoiled : ¬ (AddsIfGood AddsX RefusalsHold form.Lines true (bad ∷ []) (codes "a") (codes "ax"))
      spoiled (inl (g, are, same)) = no_specs g are
      spoiled (inr (has, same, refused, reported)) = omega (arith, ap length same)

      unsaid : ¬ (AddsIfGood AddsX RefusalsHold form.Lines false (bad ∷ []) (codes "a") (codes "a"))
      unsaid (inl (g, are, same)) = no_specs g are
      unsaid (inr (has, same, refused, reported)) = false≢true refused
