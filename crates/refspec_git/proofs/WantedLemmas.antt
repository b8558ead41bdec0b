-- The specs of a fetch.
use Rattle.std.proofs.Common.{◌≡◌, ◌≢◌, ◌∙◌, ℕ, Bool, Global, List, Option, Vec, [], ◌∷◌, ap, arith, cond}
use Rattle.std.proofs.Common.{false, length, map, refl, subst, sym, true, ◌&&◌}
use Rattle.std.proofs.lemmas.List.{nil_from_length}
use Rattle.refspec_io.specs.declared.settings.Setting.{Setting}
use Rattle.refspec_io.specs.Texts.{Given}
use Rattle.refspec_request.specs.declared.arguments.Subcommand.{Subcommand}
use Rattle.refspec_request.specs.declared.choice.Repository.{Repository}
use Rattle.refspec_git.specs.Configured.{IsIfOn, fetch_texts, pruning_setting}
use Rattle.refspec_git.specs.Wanted.{AddsAllTags, AreWanted, is_stale, mapping_texts, refmap_text, some}

-- a vector of no elements
pub none_in : {A : Type 0} (v : Vec A Global) → v.len ≡ 0 → v.items ≡ []
none_in v zero = nil_from_length v.items (omega (arith, zero, v.ok.0, v.ok.1))

-- of some
pub some_in : {A : Type 0} (v : Vec A Global) → v.len ≢ 0 → v.items ≢ []
some_in v long none = omega (arith, long, ap length none, v.ok.0, v.ok.1)

-- what is made of some is some
pub made_some : {A : Type 0} (f : A → List ℕ) (xs : List A) → xs ≢ [] → map f xs ≢ []
made_some f [] long none = long refl
made_some f (x ∷ xs) long none = omega (arith, ap length none)

-- specs are named in the arguments
pub wanted_named : (r : Repository) (remote : List ℕ) (named given : List (List ℕ)) (configured : List Given)
    → named ≢ [] → given ≡ named → configured ≡ fetch_texts r.settings.now remote
    → AreWanted r remote named given configured
wanted_named r remote [] given configured long same all = absurd (long refl)
wanted_named r remote (a ∷ named) given configured long same all = (same, all)

-- none is
pub wanted_alone : (r : Repository) (remote : List ℕ) (named given : List (List ℕ)) (configured : List Given)
    (prunes : Option Setting) → named ≡ [] → IsIfOn (pruning_setting r.settings.now remote) prunes
    → AddsAllTags r remote prunes given configured → AreWanted r remote named given configured
wanted_alone r remote named given configured prunes none is adds =
    subst (λ l. AreWanted r remote l given configured) (sym none) (prunes, is, adds)

-- whether there are some
pub is_some : (xs : List (List ℕ)) → xs ≢ [] → some xs ≡ true
is_some [] long = absurd (long refl)
is_some (x ∷ xs) long = refl

pub is_none : (xs : List (List ℕ)) → xs ≡ [] → some xs ≡ false
is_none xs none = ap some none

module _ (c : Subcommand) (given refmap : List (List ℕ)) (configured : List Given) where
  -- given specs prune alone
  pub texts_alone : is_stale c ≡ true → some given ≡ true → [] ≡ mapping_texts c given refmap configured
  texts_alone stale long = sym (ap (λ b. cond b [] (cond (some refmap) (map refmap_text refmap) configured))
      (ap (λ b. b && some given) stale ∙ long))

  -- they don't for another command, or without any
  pub other_command : is_stale c ≡ false → (is_stale c && some given) ≡ false
  other_command other = ap (λ b. b && some given) other

  pub none_given : given ≡ [] → (is_stale c && some given) ≡ false
  none_given none = by (is_stale c) (is_none given none)
    where
      by : (b : Bool) → some given ≡ false → (b && some given) ≡ false
      by true none = none
      by false none = refl

  -- else specs of --refmap are in the place of the others
  pub texts_of_refmap : (is_stale c && some given) ≡ false → some refmap ≡ true
      → map refmap_text refmap ≡ mapping_texts c given refmap configured
  texts_of_refmap other long = sym (ap (λ b. cond b [] (cond (some refmap) (map refmap_text refmap) configured)) other
      ∙ ap (λ b. cond b (map refmap_text refmap) configured) long)

  -- without any the others stay
  pub texts_kept : (is_stale c && some given) ≡ false → some refmap ≡ false
      → configured ≡ mapping_texts c given refmap configured
  texts_kept other none = sym (ap (λ b. cond b [] (cond (some refmap) (map refmap_text refmap) configured)) other
      ∙ ap (λ b. cond b (map refmap_text refmap) configured) none)
