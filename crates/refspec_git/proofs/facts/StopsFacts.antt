-- The settings at which Git 2.39.5 stops, and others.
use Rattle.std.proofs.Common.{ℕ, List, ap, codes, get_or, inl, inr, refl, arith}
use Rattle.gix_refspec_text.proofs.readers.Texts.{Lacks-tested}
use Rattle.refspec_request.specs.declared.arguments.Subcommand.TheVariants as command
use Rattle.refspec_request.specs.declared.refusal.Refusal.TheVariants as refusal
use Rattle.refspec_git.specs.Stops.{Fetches, IsReadAsBoolean, StopsAt}
use Rattle.refspec_git.proofs.facts.ConfiguredFacts.{bare, lent, valued}

-- a remote without the value of its URL
pub url : StopsAt command.Track (bare (codes "remote.o.url"))
    (refusal.NoValue (lent (codes "file:c")) (lent (codes "remote.o.url")))
url = (
  refl,
  inr (inr (inr (
    codes "o",
    codes "url",
    record { parts = refl; last = Lacks-tested 46 (codes "url") refl },
    inl refl,
  ))),
  refl,
  refl,
)

no_boolean : ¬ (IsReadAsBoolean command.Track (valued (codes "fetch.prune") (codes "maybe")))
no_boolean (inl (name, variable, is, what)) = omega (arith, ap (λ (l : List ℕ). get_or l 0 0) is.parts)
no_boolean (inr of_fetches) = of_fetches.0

-- the booleans of a fetch are read by a plan, and not by `git branch --track`
pub of_fetches : IsReadAsBoolean command.Plan (valued (codes "fetch.prune") (codes "maybe"))
    × ¬ (IsReadAsBoolean command.Track (valued (codes "fetch.prune") (codes "maybe")))
of_fetches = (inr (tt, inl refl), no_boolean)

-- nor are they where Git looks up an upstream
pub of_upstreams : Fetches command.Stale × ¬ (Fetches command.Upstream)
of_upstreams = (tt, λ is. is)
