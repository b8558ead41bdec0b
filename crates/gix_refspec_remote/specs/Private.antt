-- Steps of the functions of this crate. Only private functions cite this.
use Rattle.std.specs.Prelude.{◌≡◌, ℕ, List, Option, Some, IsSome, option_map}
use Rattle.bstr.specs.BStr.{bstr_bytes}
use Rattle.gix_refspec_text.specs.Texts.Name.{HasSeveralStars}
use Rattle.gix_refspec_text.specs.Specs.Reading.{Reading}
use Rattle.gix_refspec_text.specs.Specs.Grammar.{IsPositive}
use Rattle.gix_refspec_remote.specs.Upstream.{Upstream, tracked, excluded, not_stored, not_fetched, IsUpstream}
use Rattle.gix_refspec_remote.specs.Upstream.{IsFirstAt, HasAt, HasNo, Stores, StoresSome, Fetches}
use Rattle.gix_refspec_remote.specs.declared.written.WrittenSides.{WrittenSides}

-- the reading isn't positive, or has no source
abbrev pub HasNoSource : Reading → Type 0
HasNoSource r = (source : List ℕ) → IsPositive r.mode → ¬ (r.source ≡ Some source)

-- these are the sides of a positive reading, each with one star at most
pub record AreWrittenIn (r : Reading) (sides : WrittenSides) : Type 0 where
  pub positive : IsPositive r.mode
  pub source : r.source ≡ Some (bstr_bytes sides.source)
  pub destination : r.destination ≡ option_map bstr_bytes sides.destination
  pub few : ¬ (HasSeveralStars (bstr_bytes sides.source))
  pub few_after : (d : List ℕ) → r.destination ≡ Some d → ¬ (HasSeveralStars d)

-- the answer is that a spec is asked for an excluded ref, the first that is
abbrev pub IsExclusion : List Reading → List ℕ → Upstream → Type 0
IsExclusion g n (excluded k by) = IsUpstream g n (excluded k by)
IsExclusion g n _ = ⊥

-- the answer is the ref in which the first spec that can stores n
abbrev pub IsTracked : List Reading → List ℕ → Upstream → Type 0
IsTracked g n (tracked d k) = IsFirstAt g k (StoresSome n) × HasAt g k (Stores n d)
IsTracked g n _ = ⊥

-- the answer is the first spec that fetches n, or that none does
abbrev pub IsUntracked : List Reading → List ℕ → Upstream → Type 0
IsUntracked g n (not_stored k) = IsFirstAt g k (Fetches n)
IsUntracked g n not_fetched = HasNo g (Fetches n)
IsUntracked g n _ = ⊥
