use Rattle.gix_refspec_lint.proofs.Common.{◌+◌, arith, cases_eq, get_or-set_same, get_or-set_other}

pub loop-len-preserved : Rattle.gix_refspec_lint.proofs.borders.longest_borders.Goals.loop-len-preserved
loop-len-preserved c =
    let len = c.loop-len.len in
    let table = c.loop-len.table.items in
    let border = c.next_border-border.result in
    record {
      long = c.loop-len.invariant.long;
      longest = λ k some l. grind (
        arith,
        cases_eq k (len + 1),
        get_or-set_same table (len + 1) border 0,
        get_or-set_other table (len + 1) k border 0,
        c.next_border-border.ensures,
        c.loop-len.invariant.longest k some,
      );
    }
