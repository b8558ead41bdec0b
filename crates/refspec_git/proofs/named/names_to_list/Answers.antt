-- Each argument adds its names.
use Rattle.std.proofs.Common.{◌∙◌, ◌++◌, ap, map, take_all}
use Rattle.std.specs.List.{flat_map}
use Rattle.refspec_git.specs.declared.named.NamedRef.{NamedRef}
use Rattle.refspec_git.specs.Named.{listed_for}
use Rattle.refspec_git.proofs.NamedLemmas.{listed_next}
use Rattle.refspec_git.proofs.named.names_to_list.Goals as goal

pub loop-one-preserved : goal.loop-one-preserved
loop-one-preserved c =
    listed_next c.args.named.now c.loop-one.one-index c.one-item.result (map (λ n. n.items) c.loop-one.names.items)
    (map (λ n. n.items) c.add_listed.new.names.items) c.loop-one-test.true
    (c.in_ok-add_listed.ensures
    ∙ ap (λ (n : NamedRef). map (λ n. n.items) c.loop-one.names.items ++ listed_for n) c.one-item.is)
    c.loop-one.invariant

pub returns : goal.returns
returns c = c.loop-one.invariant
    ∙ ap (flat_map listed_for) (take_all c.loop-one.one-index c.args.named.now c.loop-one-test.false)
