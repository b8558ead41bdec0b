use Rattle.gix_refspec_lint.proofs.alike.are_alike.Goals as goal

pub returns : goal.returns
returns c same = record {
  sign = c.have_same_sign.ensures c.if-not-have_same_sign.false;
  source = (c.have_same_sides.ensures same).0;
  destination = (c.have_same_sides.ensures same).1;
}
