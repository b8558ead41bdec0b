use Rattle.gix_refspec_diff.proofs.lists.compared.Goals as goal

pub returns : goal.returns
returns c = record {
  lost = c.in_ok-lost.ensures _ _ c.args.letter c.in_ok-old.ensures c.in_ok-new.ensures c.requires.old c.requires.new
      (rw c.as_slice-5.ensures.value c.in_ok-words.ensures);
  gained = c.in_ok-gained.ensures _ _ c.args.letter c.in_ok-new.ensures c.in_ok-old.ensures c.requires.new
      c.requires.old (rw c.as_slice-6.ensures.value c.in_ok-words.ensures);
  merges = c.in_ok-merges.ensures _ _ c.in_ok-old.ensures c.in_ok-new.ensures;
}
