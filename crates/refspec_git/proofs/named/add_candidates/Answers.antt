-- Each candidate is one name more.
use Rattle.std.proofs.Common.{◌∙◌, ◌++◌, ap, drop, map, take, ◌-◌, length}
use Rattle.bstr.specs.Owned.{bstring_bytes}
use Rattle.refspec_git.proofs.NamedLemmas.{copy_next, tail_all}
use Rattle.refspec_git.proofs.named.add_candidates.Goals as goal

pub loop-candidate-preserved : goal.loop-candidate-preserved
loop-candidate-preserved c =
    copy_next (take (length c.as_slice.result.now - 1) (drop 1 c.as_slice.result.now)) c.loop-candidate.candidate-index
    c.candidate-item.result c.args.names.now.items c.loop-candidate.names.items c.push.new.self.items
    c.in_ok-from_slice.field-0
    c.loop-candidate-test.true c.candidate-item.is c.in_ok-push.ensures.items
    (c.in_ok-from_slice.ensures.items ∙ c.as_bytes.ensures) c.loop-candidate.invariant

pub returns : goal.returns
returns c = c.loop-candidate.invariant
    ∙ ap (λ l. map (λ n. n.items) c.args.names.now.items ++ l)
    (tail_all c.as_slice.result.now c.loop-candidate.candidate-index c.loop-candidate-test.false
    ∙ ap (drop 1) (ap (map bstring_bytes) c.as_slice.ensures.value ∙ c.in_ok-all.ensures))
