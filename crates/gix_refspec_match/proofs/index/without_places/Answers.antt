use Rattle.gix_refspec_match.proofs.Common.{◌∙◌, map_next, list_of, name_bytes}
use Rattle.gix_refspec_match.proofs.lemmas.index.IndexLemmas.{one_more_name}

pub loop-name-preserved : Rattle.gix_refspec_match.proofs.index.without_places.Goals.loop-name-preserved
loop-name-preserved c =
    rw (
      map_next name_bytes c.args.names.now c.loop-name.name-index c.name-item.result c.loop-name-test.true
          c.name-item.is,
      ← c.as_bytes-name.ensures ∙ c.as_bstr.ensures,
    )
    (one_more_name _ c.as_bytes-name.result.now c.new.result (list_of c.loop-name.places) _ c.new.ensures.items
    (λ q. c.in_ok-insert.ensures.updates.0 (record { name = record c.as_bytes-name.result { now = q } }))
    c.loop-name.invariant)
