-- Each entry adds its remote.
use Rattle.std.proofs.Common.{◌≡◌, ◌∷◌, [], map, subst, sym, rules}
use Rattle.std.proofs.lemmas.List.{map-append}
use Rattle.std.proofs.lemmas.Map.Iter.{iter_end}
use Rattle.std.specs.Map.Iter.{deref_pair}
use Rattle.refspec_git.specs.Tracking.{AreRemotesIn, AddsRemote}
use Rattle.refspec_git.proofs.TrackingLemmas.{AreRemotesIn-more}
use Rattle.refspec_git.proofs.remotes.with_values.Goals as goal

pub loop-name-preserved : goal.loop-name-preserved
loop-name-preserved c =
    let e = deref_pair (c.in-Some.name, c.in-Some.values) in
    subst (λ l. AreRemotesIn l c.add_remote.new.remotes.items)
    (sym (map-append deref_pair c.loop-name.yielded ((c.in-Some.name, c.in-Some.values) ∷ [])))
    (AreRemotesIn-more (map deref_pair c.loop-name.yielded) e c.loop-name.remotes.items c.add_remote.new.remotes.items
    (subst (λ l. AddsRemote e.0 l c.loop-name.remotes.items c.add_remote.new.remotes.items) c.as_slice.ensures.value
    c.in_ok-add_remote.ensures)
    c.loop-name.invariant)

pub returns : goal.returns
returns c =
    let whole : map deref_pair c.loop-name.yielded ≡ c.in_ok-items.field-0.entries = search (rules, iter_end) in (
      c.in_ok-items.field-0,
      c.in_ok-items.ensures,
      subst (λ l. AreRemotesIn l c.loop-name.remotes.items) whole c.loop-name.invariant,
    )
