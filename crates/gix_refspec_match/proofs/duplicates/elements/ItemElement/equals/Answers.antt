use Rattle.gix_refspec_match.proofs.Common.{common_steps, arith, texts_ties, equal_told}

pub returns : Rattle.gix_refspec_match.proofs.duplicates.elements.ItemElement.equals.Goals.returns
returns c = grind (arith, common_steps, texts_ties, equal_told, c.as_bytes.ensures, c.as_bytes-2.ensures, c.eq.ensures)
