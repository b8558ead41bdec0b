-- Each name adds one ref.
use Rattle.std.proofs.Common.{ℕ, List, [], Bor, ◌∙◌}
use Rattle.gix_refspec.specs.Views.Group.{ref_of}
use Rattle.refspec_io.proofs.TextLemmas.{seen_next}
use Rattle.refspec_commands.specs.Track.{named}
use Rattle.refspec_commands.proofs.TrackLemmas.{named_of}
use Rattle.refspec_commands.proofs.track.items_named.Goals as goal

pub loop-name-preserved : goal.loop-name-preserved
loop-name-preserved c =
    let none : Bor (List ℕ) = record { ref_ptr = (0, 0); now = [] } in
    seen_next named (λ (n : Bor (List ℕ)). n.now) ref_of c.args.names.now c.loop-name.name-index none []
    c.loop-name.items.items c.push.new.self.items _ c.loop-name-test.true c.in_ok-push.ensures.items
    (named_of _ _ _ (c.new.ensures ∙ c.as_bytes.ensures.value) c.requires) c.loop-name.invariant
