-- The remotes by whose values refs are looked up, one after the other.
use Rattle.std.proofs.Common.{◌∙◌, ◌+◌, ◌++◌, ◌<◌, ℕ, Bor, List, [], ◌∷◌, ap, get_or, inl, inr, length}
use Rattle.std.proofs.Common.{refl, subst, sym, take}
use Rattle.std.proofs.lemmas.List.{take_more}
use Rattle.std.specs.Global.{Vec}
use Rattle.gix_refspec.specs.Specs.Reading.{Reading}
use Rattle.refspec_commands.specs.declared.tracking.question.Remote.{Remote}
use Rattle.refspec_io.specs.declared.settings.Setting.{Setting}
use Rattle.refspec_git.specs.Tracking.{AddsRemote, AddsSpec, AreRemotesIn, AreSpecsIn}

-- one value more
pub AreSpecsIn-more : (values : List Setting) (s : Setting) (old new : List Reading) → AddsSpec s old new
    → AreSpecsIn values old → AreSpecsIn (values ++ s ∷ []) new
AreSpecsIn-more [] s old new (inl (r, reads, grown)) none =
    inl (r, [], reads, refl, grown ∙ ap (λ l. l ++ r ∷ []) none)
AreSpecsIn-more [] s old new (inr (unread, same)) none = inr (unread, same ∙ none)
AreSpecsIn-more (v ∷ values) s old new adds (inr (unread, are)) =
    inr (unread, AreSpecsIn-more values s old new adds are)
AreSpecsIn-more (v ∷ values) s old new (inl (r, reads, grown)) (inl (first, rest, read, are, is)) = inl (
  first,
  rest ++ r ∷ [],
  read,
  AreSpecsIn-more values s rest (rest ++ r ∷ []) (inl (r, reads, refl)) are,
  grown ∙ ap (λ l. l ++ r ∷ []) is,
)
AreSpecsIn-more (v ∷ values) s old new (inr (unread, same)) (inl (first, rest, read, are, is)) = inl (
  first,
  rest,
  read,
  AreSpecsIn-more values s rest rest (inr (unread, refl)) are,
  same ∙ is,
)

-- the same in a loop
pub AreSpecsIn-next : (values : List Setting) (i : ℕ) (d : Setting) (old new : List Reading) → i < length values
    → AddsSpec (get_or values i d) old new → AreSpecsIn (take i values) old → AreSpecsIn (take (i + 1) values) new
AreSpecsIn-next values i d old new below adds so_far =
    subst (λ (l : List Setting). AreSpecsIn l new) (sym (take_more values i d below))
    (AreSpecsIn-more (take i values) (get_or values i d) old new adds so_far)

-- one entry more
pub AreRemotesIn-more : (entries : List (Bor (List ℕ) × Vec Setting)) (e : Bor (List ℕ) × Vec Setting)
    (old new : List Remote) → AddsRemote e.0 e.1.items old new → AreRemotesIn entries old
    → AreRemotesIn (entries ++ e ∷ []) new
AreRemotesIn-more [] e old new (inl (r, some, is, grown)) none =
    inl (r, [], some, is, refl, grown ∙ ap (λ l. l ++ r ∷ []) none)
AreRemotesIn-more [] e old new (inr (bare, same)) none = inr (bare, same ∙ none)
AreRemotesIn-more (d ∷ entries) e old new adds (inr (bare, are)) =
    inr (bare, AreRemotesIn-more entries e old new adds are)
AreRemotesIn-more (d ∷ entries) e old new (inl (r, some, is, grown)) (inl (first, rest, has, read, are, here)) =
    inl (
      first,
      rest ++ r ∷ [],
      has,
      read,
      AreRemotesIn-more entries e rest (rest ++ r ∷ []) (inl (r, some, is, refl)) are,
      grown ∙ ap (λ l. l ++ r ∷ []) here,
    )
AreRemotesIn-more (d ∷ entries) e old new (inr (bare, same)) (inl (first, rest, has, read, are, here)) = inl (
  first,
  rest,
  has,
  read,
  AreRemotesIn-more entries e rest rest (inr (bare, refl)) are,
  same ∙ here,
)
