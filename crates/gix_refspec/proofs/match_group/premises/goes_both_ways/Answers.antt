-- Both sides have a star exactly if the source has one.
use Rattle.gix_refspec.proofs.Common.{List, ℕ, Some, option_map, sym, ap, ◌∙◌, bstr_bytes, reading_of, rules}
use Rattle.gix_refspec.proofs.lemmas.hits.TransposeLemmas.{goes_below_refs, goes_by_star}
use Rattle.gix_refspec.proofs.match_group.premises.goes_both_ways.Goals as goal

pub returns-then-contains : goal.returns-then-contains
returns-then-contains c = search (rules, goes_by_star)

pub returns-else-contains : goal.returns-else-contains
returns-else-contains c =
    goes_below_refs (reading_of c.args.spec.now) c.as_bytes-source.result.now c.as_bytes-destination.result.now
    c.are_below_refs.result c.if-is_negative.ensures
    (sym c.source.ensures ∙ ap (option_map bstr_bytes) c.in-Some-Some.is-0 ∙ ap (λ (x : List ℕ). Some x)
    (sym c.as_bytes-source.ensures))
    (sym c.destination.ensures ∙ ap (option_map bstr_bytes) c.in-Some-Some.is-1 ∙ ap (λ (x : List ℕ). Some x)
    (sym c.as_bytes-destination.ensures))
    c.if-contains.ensures c.are_below_refs.ensures
