-- The input is split at the byte that ends records.
use Rattle.std.proofs.Common.{ℕ, List, ◌++◌, Bor, map, ap, ◌∙◌, subst}
use Rattle.refspec_io.specs.Input.{AreRecords}
use Rattle.refspec_io.specs.Texts.{given_of, numbered, record_at}
use Rattle.refspec_io.proofs.ShownLemmas.{on_ok}
use Rattle.refspec_io.proofs.texts.add_texts.Goals as goal

pub returns : goal.returns
returns c =
    let op = c.args.call.now.operation in
    let read = map (λ (r : Bor (List ℕ)). r.now) c.in_ok-records.records.items in
    let split = subst (λ (e : ℕ). AreRecords e read c.args.input.now) c.end_of.ensures c.in_ok-records.ensures in
    on_ok c.add_records.result _ _ c.add_records.ensures (λ write. (
      read,
      split,
      write ∙ ap (λ (l : List (Bor (List ℕ))). map given_of c.args.texts.now.items ++ numbered
          (record_at c.args.name.now op) 1 (map (λ (r : Bor (List ℕ)). r.now) l)) c.as_slice.ensures.value,
    ))
