-- By the destinations of the two specs: one without a star is the only one.
use Rattle.gix_refspec_lint.proofs.Common.{Some, option_map, sym, ap, ◌∙◌, IfOk-weaker, bstr_bytes}
use Rattle.gix_refspec_lint.proofs.lemmas.FoundLemmas.{fetches_only, none_fetched}
use Rattle.gix_refspec_lint.proofs.lemmas.NestFoundLemmas.{destination_at, only_plain, pattern_at, plain_below}
use Rattle.gix_refspec_lint.proofs.lemmas.NestFoundLemmas.{plain_both, plain_sources}
use Rattle.gix_refspec_lint.specs.Views.Lint.{nesting_of}
use Rattle.gix_refspec_lint.proofs.nestings.nesting_between.Goals as goal

pub returns-in_default : goal.returns-in_default
returns-in_default c g is have d e told s t k =
    let group = c.args.two.now.group.now in
    none_fetched g group is c.args.two.now.upper c.spec_at.result.now c.requires.within.0
    (destination_at group.specs.now c.args.two.now.upper c.spec_at.result.now _ c.spec_at.ensures
    (sym c.destination.ensures ∙ ap (option_map bstr_bytes) c.in_default.is)) _ _ _ k.upper

pub returns-in_default-destination : goal.returns-in_default-destination
returns-in_default-destination c g is have d e told s t k =
    let group = c.args.two.now.group.now in
    none_fetched g group is c.args.two.now.lower c.spec_at-2.result.now c.requires.within.1
    (destination_at group.specs.now c.args.two.now.lower c.spec_at-2.result.now _ c.spec_at-2.ensures
    (sym c.destination-2.ensures ∙ ap (option_map bstr_bytes) c.in_default-destination.is)) _ _ _ k.lower

pub returns-in-None-None : goal.returns-in-None-None
returns-in-None-None c g is have =
    let two = c.args.two.now in
    let group = two.group.now in
    let one = destination_at group.specs.now two.upper c.spec_at.result.now _ c.spec_at.ensures
    (sym c.destination.ensures ∙ ap (option_map bstr_bytes) c.in-Some.is
    ∙ ap Some (sym c.as_bytes-directory.ensures)) in
    let other = destination_at group.specs.now two.lower c.spec_at-2.result.now _ c.spec_at-2.ensures
    (sym c.destination-2.ensures ∙ ap (option_map bstr_bytes) c.in-Some-destination.is
    ∙ ap Some (sym c.as_bytes-nested.ensures)) in
    IfOk-weaker c.nesting_at.result _ _
    (λ found told. plain_both g two.upper two.lower _ _ (option_map nesting_of found)
    (fetches_only g group is two.upper c.spec_at.result.now c.requires.within.0 _ have c.in-None-None.is-0 _ one)
    (fetches_only g group is two.lower c.spec_at-2.result.now c.requires.within.1 _ have c.in-None-None.is-1 _ other)
    told)
    (c.nesting_at.ensures g is)

pub returns-in-Some-None : goal.returns-in-Some-None
returns-in-Some-None c g is have =
    let two = c.args.two.now in
    let group = two.group.now in
    let other = destination_at group.specs.now two.lower c.spec_at-2.result.now _ c.spec_at-2.ensures
    (sym c.destination-2.ensures ∙ ap (option_map bstr_bytes) c.in-Some-destination.is
    ∙ ap Some (sym c.as_bytes-nested.ensures)) in
    IfOk-weaker c.nesting_above.result _ _
    (λ found told. plain_below g two.upper two.lower _ (option_map nesting_of found)
    (fetches_only g group is two.lower c.spec_at-2.result.now c.requires.within.1 _ have c.in-Some-None.is-1 _ other)
    told)
    (c.nesting_above.ensures g is)

pub returns-in-None-Some : goal.returns-in-None-Some
returns-in-None-Some c g is have =
    let two = c.args.two.now in
    let group = two.group.now in
    let one = destination_at group.specs.now two.upper c.spec_at.result.now _ c.spec_at.ensures
    (sym c.destination.ensures ∙ ap (option_map bstr_bytes) c.in-Some.is
    ∙ ap Some (sym c.as_bytes-directory.ensures)) in
    IfOk-weaker c.nesting_below.result _ _
    (λ found told. only_plain g two.upper two.lower _ (option_map nesting_of found)
    (fetches_only g group is two.upper c.spec_at.result.now c.requires.within.0 _ have c.in-None-Some.is-0 _ one) told)
    (c.nesting_below.ensures g is (plain_sources g group is two.upper c.spec_at.result.now c.requires.within.0 _ have
    c.in-None-Some.is-0 _ one)
    (pattern_at g group two.lower c.spec_at-2.result.now c.requires.within.1 _ have _ c.in-None-Some.is-1))

pub returns-in-Some-Some : goal.returns-in-Some-Some
returns-in-Some-Some c g is have =
    let two = c.args.two.now in
    let group = two.group.now in
    c.nesting_of_patterns.ensures g is
    (pattern_at g group two.upper c.spec_at.result.now c.requires.within.0 _ have _ c.in-Some-Some.is-0)
    (pattern_at g group two.lower c.spec_at-2.result.now c.requires.within.1 _ have _ c.in-Some-Some.is-1)
