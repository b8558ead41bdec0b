use Rattle.gix_refspec_remote.proofs.Common.{codes, ◌∙◌, ap, sym, refl, Some, option_map, bstr_bytes, bstring_bytes}
use Rattle.gix_refspec_remote.proofs.Common.{reading_of, false≢true, starts_is, Decides-eqb}
use Rattle.gix_refspec_remote.proofs.prefetching.prefetched.Goals as goal
use Rattle.gix_refspec_remote.specs.Prefetch.{kept, moved}
use Rattle.gix_refspec_text.specs.Specs.Grammar.{fetched}
use Rattle.gix_refspec_text.specs.Specs.Reading.{Forced}

pub returns-then-is_negative : goal.returns-then-is_negative
returns-then-is_negative c = (reading_of c.args.spec.now, kept c.if-is_negative.ensures refl, c.in_ok-text.ensures)

pub returns : goal.returns
returns c = (
  fetched Forced (bstr_bytes c.in-Some.source) (Some (bstring_bytes c.in_ok-stored.stored)),
  moved (record {
    positive = c.if-is_negative.ensures;
    source = bstr_bytes c.in-Some.source;
    from = sym c.source.ensures ∙ ap (option_map bstr_bytes) c.in-Some.is;
    no_tags = λ begins. false≢true (sym c.if-starts_with.false
        ∙ (starts_is Decides-eqb c.as_bytes.result.now (codes "refs/tags/") c.starts_with.result
        c.starts_with.ensures.value).1 begins.after (c.as_bytes.ensures ∙ begins.here));
    destination = bstr_bytes c.in-Some-destination.destination;
    to = sym c.destination.ensures ∙ ap (option_map bstr_bytes) c.in-Some-destination.is;
    stored = bstring_bytes c.in_ok-stored.stored;
    at = rw c.as_bytes-2.ensures at c.in_ok-stored.ensures;
    is = refl;
  }),
  ap Some (rw c.as_bstr.ensures at (sym c.in_ok-text-2.ensures)),
)
