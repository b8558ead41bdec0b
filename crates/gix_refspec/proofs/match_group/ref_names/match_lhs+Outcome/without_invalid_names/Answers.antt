-- if none is listed, all have ref names; otherwise those that the filter keeps have, and the others are listed
use Rattle.gix_refspec.proofs.Common.{◌≡◌, [], refl, sym, ◌∙◌, arith, rules, eqb-true, HasRefNames, nil_from_length}
use Rattle.gix_refspec.proofs.lemmas.validate.AfterLemmas.{filtered_so, kept_whole}
use Rattle.gix_refspec.proofs.match_group.ref_names.match_lhs+Outcome.without_invalid_names.Goals as goal

pub returns-then-is_empty-clause-ok : goal.returns-then-is_empty-clause-ok
returns-then-is_empty-clause-ok c =
    let bad = c.in-Ok.bad in
    let empty : bad.items ≡ [] = nil_from_length bad.items
    (let none = eqb-true _ _ (sym c.is_empty.ensures ∙ c.if-is_empty.true) in omega
    (arith, none, bad.ok.0, bad.ok.1)) in (
      refl,
      record {
        named = kept_whole HasRefNames 0 _ (rw c.as_slice.ensures.value at (c.in-Ok.ensures.none empty));
        others = rw c.as_slice.ensures.value at c.in-Ok.ensures.ok;
      },
    )

pub returns-clause-ok : goal.returns-clause-ok
returns-clause-ok c = (
  refl,
  record {
    named = filtered_so HasRefNames _ (λ p m b q told. search rules) _ c.args.self.mappings.items
        c.retain.new.self.items c.retain.ensures.filtered;
    others = rw c.as_slice.ensures.value at c.in-Ok.ensures.ok;
  },
)
