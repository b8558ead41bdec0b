-- The entries of the side on the remote were appended. Without entries no memory is needed.
use Rattle.gix_refspec_text.proofs.Common.{map-append, inl, map, arith, on_ok_weaker, on_err_weaker, bstring_bytes}
use Rattle.gix_refspec_text.proofs.Common.{reading_of}
use Rattle.gix_refspec_text.proofs.lemmas.prefixes.PrefixLemmas.{asked_nothing, on_any_error, no_entries}
use Rattle.gix_refspec_text.proofs.spec.RefSpecRef.expand_prefixes.Goals as goal

pub returns-clause-ok : goal.returns-clause-ok
returns-clause-ok c =
    on_ok_weaker c.append.result
    (λ appended. record {
      list = map bstring_bytes c.in_ok-entries.entries.items;
      is =
          inl (c.in-Some.side.now, c.in-Some.ensures.0, c.in_ok-entries.ensures.ok);
      appended = appended;
    })
    (let items = c.append.ensures.items in grind (arith, map-append))

pub returns-in_err-entries-clause-memory : goal.returns-in_err-entries-clause-memory
returns-in_err-entries-clause-memory c =
    on_any_error c.from_residual.result
    (λ nothing. c.in_err-entries.ensures.memory
    (asked_nothing (reading_of c.args.self.now) c.in-Some.side.now c.in-Some.ensures.0 nothing))

pub returns-clause-memory : goal.returns-clause-memory
returns-clause-memory c =
    let out = c.args.out.now in
    let entries = c.in_ok-entries.entries in
    on_err_weaker c.append.result
    (λ full nothing. omega (
      arith,
      full,
      out.ok.1,
      entries.ok.0,
      no_entries bstring_bytes (reading_of c.args.self.now)
          c.in-Some.side.now entries.items c.in-Some.ensures.0 c.in_ok-entries.ensures.ok nothing,
    ))
    c.append.ensures.full
