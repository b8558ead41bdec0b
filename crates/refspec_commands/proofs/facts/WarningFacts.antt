-- Which warnings there are, where they go, and what they do to the exit status.
use Rattle.std.proofs.Common.{◌≡◌, ◌++◌, true, false, ℕ, List, [], ◌∷◌, arith, ap, codes, inl, inr, length}
use Rattle.std.proofs.Common.{length-append, refl, sym, subst, ◌∙◌}
use Rattle.refspec_io.specs.declared.call.Form.TheVariants as form
use Rattle.refspec_io.specs.declared.report.Report.{Report}
use Rattle.refspec_io.specs.Read.{AreGood, HasBad}
use Rattle.refspec_io.specs.Texts.{at_argument}
use Rattle.refspec_commands.specs.declared.checking.Answer.{Answer}
use Rattle.refspec_commands.specs.declared.warnings.Warning.{Warning}
use Rattle.refspec_commands.specs.Warned.{AddsSaid, AreInTurn, Said, nothing_asked}
use Rattle.refspec_commands.specs.Warnings.{IsStatus, IsStrictStatus, WarnsIf}

-- a warning with this name
abbrev warning : List ℕ → Said
warning name = record { name = name; spot = at_argument 1; texts = []; message = [] }

-- what lines warn of is open, and nothing is warned of if that isn't asked for
pub asked : WarnsIf true form.Lines (λ key. nothing_asked) [] (warning (codes "partial_source") ∷ [])
    × WarnsIf false form.Lines (λ key. nothing_asked) [] []
asked = (tt, refl)

pub not_asked : ¬ (WarnsIf false form.Lines (λ key. nothing_asked) [] (warning (codes "partial_source") ∷ []))
not_asked = λ none. omega (arith, ap length none)

-- the warnings of keys are in the order of these
pub in_turn : AreInTurn (λ key some. some ≡ warning key ∷ []) (codes "a" ∷ codes "b" ∷ [])
    (warning (codes "a") ∷ warning (codes "b") ∷ [])
in_turn = (_, _, refl, (_, [], refl, refl, refl), refl)

pub not_in_turn : ¬ (AreInTurn (λ key some. some ≡ warning key ∷ []) (codes "a" ∷ []) [])
not_in_turn (one, rest, is, none, all) = omega (arith, ap length all, ap length (sym is), length-append one rest)

-- without refused texts the status is 0, and with a warning that of a strict call is 1
pub statuses : (a : Answer) → a.checked.items ≡ [] → a.warnings.items ≡ []
    → IsStatus a 0 × IsStrictStatus a 0 × ¬ (IsStatus a 1) × ¬ (IsStrictStatus a 1)
statuses a good none = (
  inr (refl, subst AreGood (sym good) tt),
  inr (refl, subst AreGood (sym good) tt, none),
  (λ is. elim is [ inl bad ↦ subst HasBad good bad.1 | inr zero ↦ omega (arith, zero.0) ]),
  λ is. elim is [
    | inl (one, inl bad) ↦ subst HasBad good bad
    | inl (one, inr some) ↦ some none
    | inr zero ↦ omega (arith, zero.0)
  ],
)

pub warned : (a : Answer) (w : Warning) → a.checked.items ≡ [] → a.warnings.items ≡ w ∷ []
    → IsStatus a 0 × IsStrictStatus a 1 × ¬ (IsStrictStatus a 0)
warned a w good some = (
  inr (refl, subst AreGood (sym good) tt),
  inl (refl, inr (λ none. omega (arith, ap length (sym some ∙ none)))),
  λ is. elim is [ inl one ↦ omega (arith, one.0) | inr zero ↦ omega (arith, ap length (sym some ∙ zero.2)) ],
)

-- the lines of a warning are behind the earlier messages
pub appended : (s : Said) (p q : Report) → p.messages.items ≡ codes "a\n"
    → q.messages.items ≡ codes "a\nwarning: b\n" → q.results.items ≡ p.results.items → AddsSaid form.Lines (s ∷ []) p q
appended s p q first last same = (
  same,
  (
    codes "warning: b\n",
    (codes "warning: b\n", [], record { after = codes "b\n"; here = refl }, refl, refl),
    last ∙ ap (λ l. l ++ codes "warning: b\n") (sym first),
  ),
)

-- they aren't among the results, nor missing
pub not_appended : (s : Said) (p q : Report) → q.messages.items ≡ p.messages.items
    → ¬ (AddsSaid form.Lines (s ∷ []) p q)
    × (q.results.items ≡ codes "warning: b\n" → p.results.items ≡ [] → ¬ (AddsSaid form.Lines (s ∷ []) p q))
not_appended s p q kept = (missing, λ some none adds. omega (arith, ap length (sym some ∙ (adds.0 ∙ none))))
  where
    missing : ¬ (AddsSaid form.Lines (s ∷ []) p q)
    missing (same, (lines, (one, rest, begins, more, all), wrote)) = omega (
      arith,
      ap length (sym kept ∙ wrote),
      length-append p.messages.items lines,
      ap length all,
      length-append one rest,
      ap length begins.here,
    )
