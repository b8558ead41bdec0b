-- Each merged ref adds a text or none.
use Rattle.std.proofs.Common.{Bor, List, ap, map, subst, sym, take, take_all, ℕ}
use Rattle.std.proofs.lemmas.List.{map_more}
use Rattle.refspec_io.specs.Texts.{given_of}
use Rattle.refspec_git.specs.Asked.{AreMergedTexts}
use Rattle.refspec_git.proofs.specs.merged_texts.Goals as goal

abbrev now : Bor (List ℕ) → List ℕ
now it = it.now

pub loop-merge-init : goal.loop-merge-init
loop-merge-init c = ap (map given_of) c.in_ok-texts.ensures.items

pub loop-merge-preserved : goal.loop-merge-preserved
loop-merge-preserved c =
    let merges = c.args.merges.now in
    let i = c.loop-merge.merge-index in
    subst (λ l. AreMergedTexts l (map given_of c.add_merged.new.texts.items))
    (sym (map_more now merges i _ c.loop-merge-test.true))
    (c.in_ok-add_merged.ensures (map now (take i merges)) c.loop-merge.invariant)

pub returns : goal.returns
returns c = subst (λ (l : List (Bor (List ℕ))). AreMergedTexts (map now l) (map given_of c.loop-merge.texts.items))
    (take_all c.loop-merge.merge-index c.args.merges.now c.loop-merge-test.false) c.loop-merge.invariant
