-- Each member is that of the ref.
use Rattle.std.proofs.Common.{codes, ◌∙◌}
use Rattle.refspec_io.proofs.ShownLemmas.{on_ok}
use Rattle.refspec_fetch.specs.Stale.{kept_of}
use Rattle.refspec_fetch.proofs.StaleLemmas.{WritesKept-of}
use Rattle.refspec_fetch.proofs.stale.write_kept_object.Goals as goal

pub returns : goal.returns
returns c = on_ok c.write_line.result _ _ c.write_line.ensures
    (WritesKept-of (kept_of c.args.kept.now) c.as_str.result.now c.as_str-2.result.now
    (codes "A spec excludes a ref from which it is written, so a pruning fetch should keep it.") c.args.out.now.items
    c.write_line.new.out.items (c.as_str.ensures.value ∙ c.in_ok-name.ensures)
    (c.as_str-2.ensures.value ∙ c.in_ok-spec.ensures))
