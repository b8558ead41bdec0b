-- Which records are origins, which keys are those of refspecs, and settings of two records each.
use Rattle.std.proofs.Common.{◌≢◌, ℕ, List, [], ◌∷◌, Bor, None, Some, inl, inr, codes, get_or, length, refl, sym, ap}
use Rattle.std.proofs.Common.{arith, length-append}
use Rattle.gix_refspec_text.specs.declared.parsing.Operation.TheVariants as operation
use Rattle.gix_refspec.specs.Texts.Words.{BeginsWith}
use Rattle.gix_refspec_text.proofs.facts.ManualFacts.{Lacks-tested}
use Rattle.refspec_io.specs.declared.settings.Setting.{Setting}
use Rattle.refspec_io.specs.Settings.{ArePairs, HoldsSpecs, IsOrigin, LacksValue}
use Rattle.refspec_io.specs.Texts.{AreValues, Given, at_setting}

-- the four kinds of origins
pub origins : IsOrigin (codes "file:.git/config") × IsOrigin (codes "standard input:") × IsOrigin (codes "blob:x")
    × IsOrigin (codes "command line:")
origins = (
  inl (record { after = codes ".git/config"; here = refl }),
  inr (inl (record { after = []; here = refl })),
  inr (inr (inl (record { after = codes "x"; here = refl }))),
  inr (inr (inr (record { after = []; here = refl }))),
)

-- neither a scope nor a key is an origin
pub no_origins : ¬ (IsOrigin (codes "local")) × ¬ (IsOrigin (codes "remote.o.fetch\na"))
no_origins = (scope, key)
  where
    other : (w o : List ℕ) → get_or w 0 0 ≢ get_or o 0 0 → length w ≢ 0 → ¬ (BeginsWith w o)
    other [] o first full begins = full refl
    other (b ∷ w) o first full begins = first (sym (ap (λ (l : List ℕ). get_or l 0 0) begins.here))

    scope : IsOrigin (codes "local") → ⊥
    scope (inl is) = other (codes "file:") (codes "local") (λ same. omega (arith, same)) (λ none. omega (arith, none))
        is
    scope (inr (inl is)) = other (codes "standard input:") (codes "local") (λ same. omega (arith, same))
        (λ none. omega (arith, none)) is
    scope (inr (inr (inl is))) = other (codes "blob:") (codes "local") (λ same. omega (arith, same))
        (λ none. omega (arith, none)) is
    scope (inr (inr (inr is))) = other (codes "command line:") (codes "local") (λ same. omega (arith, same))
        (λ none. omega (arith, none)) is

    key : IsOrigin (codes "remote.o.fetch\na") → ⊥
    key (inl is) = other (codes "file:") (codes "remote.o.fetch\na") (λ same. omega (arith, same))
        (λ none. omega (arith, none)) is
    key (inr (inl is)) = other (codes "standard input:") (codes "remote.o.fetch\na") (λ same. omega (arith, same))
        (λ none. omega (arith, none)) is
    key (inr (inr (inl is))) = other (codes "blob:") (codes "remote.o.fetch\na") (λ same. omega (arith, same))
        (λ none. omega (arith, none)) is
    key (inr (inr (inr is))) = other (codes "command line:") (codes "remote.o.fetch\na") (λ same. omega (arith, same))
        (λ none. omega (arith, none)) is

-- the keys of the refspecs of a remote, also of one with an empty name
pub keys : HoldsSpecs (codes "remote.o.fetch") operation.Fetch
    × HoldsSpecs (codes "remote.a.push.fetch") operation.Fetch × HoldsSpecs (codes "remote.o.push") operation.Push
    × HoldsSpecs (codes "remote..fetch") operation.Fetch
keys = ((codes "o", refl), (codes "a.push", refl), (codes "o", refl), ([], refl))

-- other keys: in another section, and without a name
pub no_keys : ¬ (HoldsSpecs (codes "branch.main.fetch") operation.Fetch)
    × ¬ (HoldsSpecs (codes "remote.fetch") operation.Fetch)
no_keys = (branch, short)
  where
    branch : HoldsSpecs (codes "branch.main.fetch") operation.Fetch → ⊥
    branch (name, same) = omega (arith, ap (λ (l : List ℕ). get_or l 0 0) same)

    short : HoldsSpecs (codes "remote.fetch") operation.Fetch → ⊥
    short (name, same) = omega (arith, ap length same, length-append name (codes ".fetch"))

abbrev pub lent : List ℕ → Bor (List ℕ)
lent bytes = record { ref_ptr = (0, 0); now = bytes }

-- a key of refspecs without a value lacks it, and adds no text; with a value it adds the text
abbrev pub alone : Setting
alone = record { origin = lent (codes "file:c"); key = lent (codes "remote.o.fetch"); value = None }

abbrev pub whole : Setting
whole = record { origin = lent (codes "file:c"); key = lent (codes "remote.o.push"); value = Some (lent (codes ":")) }

abbrev pushed : Given
pushed = record {
  spot = at_setting (codes "file:c") (codes "remote.o.push");
  operation = operation.Push;
  bytes =
      codes ":";
}

pub values : LacksValue alone × AreValues (alone ∷ (whole ∷ [])) (pushed ∷ [])
values = (
  (operation.Fetch, (codes "o", refl), refl),
  inr (
    (λ text is. is.value),
    inl (
      pushed,
      [],
      record { holds = (codes "o", refl); at = refl; value = refl },
      refl,
      refl,
    ),
  ),
)

-- the records of both settings, and a record that is left over
pub pairs : ArePairs (codes "file:c" ∷ (codes "remote.o.fetch" ∷ (codes "file:c" ∷ (codes "remote.o.push\n:" ∷ []))))
    (alone ∷ (whole ∷ [])) × ((settings : List Setting) → ¬ (ArePairs (codes "file:c" ∷ []) settings))
pairs = (
  (
    alone,
    whole ∷ [],
    record {
      from = inl (record { after = codes "c"; here = refl });
      is_origin = refl;
      key =
          Lacks-tested 10 (codes "remote.o.fetch") refl;
      value = refl;
    },
    (
      whole,
      [],
      record {
        from = inl (record { after = codes "c"; here = refl });
        is_origin = refl;
        key =
            Lacks-tested 10 (codes "remote.o.push") refl;
        value = refl;
      },
      refl,
      refl,
    ),
    refl,
  ),
  λ settings is. is,
)
