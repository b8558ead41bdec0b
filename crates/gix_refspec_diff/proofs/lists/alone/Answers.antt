use Rattle.gix_refspec_diff.proofs.lists.alone.Goals as goal

pub returns : goal.returns
returns c g h z one other free clear words =
    c.fetched_alone.ensures g h (record {
      one = one;
      other = other;
      known = rw c.as_slice.ensures.value c.in_ok-is_known.ensures;
      exclusions = rw c.as_slice-2.ensures.value c.in_ok-exclusions.ensures;
      letter = z;
      free = free;
      clear = clear;
      words = words;
    })
