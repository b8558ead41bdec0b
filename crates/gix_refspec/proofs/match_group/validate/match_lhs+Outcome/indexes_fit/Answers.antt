use Rattle.gix_refspec.proofs.Common.{arith, ◌<◌, length, mapped_of, readings_of, length-map, reading_of}
use Rattle.gix_refspec.proofs.lemmas.MadeLemmas.{none_of_all}

pub returns-then-mapping-len :
    Rattle.gix_refspec.proofs.match_group.validate.match_lhs+Outcome.indexes_fit.Goals.returns-then-mapping-len
returns-then-mapping-len c =
    let group = c.args.self.now.group in
    rw (← c.deref-mapping-items.ensures.value)
    (none_of_all mapped_of (λ m. m.spec < length (readings_of group)) c.deref-mapping-items.result.now
    c.loop-mapping.mapping-index c.mapping-item.result c.loop-mapping-test.true c.mapping-item.is
    (λ inside. omega (
      arith,
      inside,
      c.if-mapping-len.true,
      c.len.ensures,
      group.specs.ok.0,
      group.specs.ok.1,
      length-map group.specs.items reading_of,
    )))
