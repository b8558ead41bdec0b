use Rattle.gix_refspec.proofs.Common.{all_zip_more, rules}

pub loop-mapping-preserved : Rattle.gix_refspec.proofs.match_group.types.clone_all.Goals.loop-mapping-preserved
loop-mapping-preserved c = search (rules, all_zip_more)
