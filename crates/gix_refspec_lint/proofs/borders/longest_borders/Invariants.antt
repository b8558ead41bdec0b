use Rattle.gix_refspec_lint.proofs.Common.{◌≡◌, ◌+◌, length, min, vec_len, AreLongestTo}

abbrev pub invariant-loop-len : Rattle.gix_refspec_lint.proofs.borders.longest_borders.Given.invariant-loop-len
invariant-loop-len l =
    record {
      long : vec_len l.table ≡ length l.text + 1;
      longest : AreLongestTo l.text l.table.items
          (min l.len (length l.text));
    }
