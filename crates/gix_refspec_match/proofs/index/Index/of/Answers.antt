-- What is listed of the slices is listed of the names, and without names there is nothing to list.
use Rattle.gix_refspec_match.proofs.Common.{List, [], None, ◌≡◌, ℕ, sym, ◌∙◌, arith, ap, length, map, Vec, bytes_eq}
use Rattle.gix_refspec_match.proofs.Common.{HashMap, eqb-true, nil_from_length, IsEmpty, lookup, vec_len, list_of}
use Rattle.gix_refspec_match.proofs.Common.{name_bytes, Key, NameRef}
use Rattle.gix_refspec_match.proofs.index.Index.of.Goals as goal

unnamed : (names : Vec NameRef) → vec_len names ≡ 0 → map name_bytes names.items ≡ []
unnamed names empty = ap (λ (l : List NameRef). map name_bytes l)
    (nil_from_length names.items (omega (arith, empty, names.ok.0, names.ok.1)))

unlisted : {S : Type 0} (m : HashMap Key (Vec ℕ) S) → IsEmpty m → (n : List ℕ) → list_of m n ≡ None
unlisted m empty n = ap (lookup (λ k. bytes_eq n k.name.now)) empty

pub returns : goal.returns
returns c =
    let names = c.args.names.now in
    record {
      full = elim c.if-is_empty.branch [
        | goal.then-is_empty w ↦
            rw w.full-is (record {
              each = λ n there. let (k, inside, is) =
                  there in absurd
                  (omega (
                    arith,
                    inside,
                    ap length (unnamed names.full (eqb-true _ _ (sym c.is_empty.ensures ∙ w.if-is_empty.true))),
                  ));
              others = λ n _. unlisted w.new-full.result w.new-full.ensures.empty n;
            })
        | goal.else-is_empty+in_ok-full w ↦ rw (w.full-is, ← w.as_slice.ensures.value) w.in_ok-full.ensures
      ];
      partial = elim c.if-is_empty-2.branch [
        | goal.then-is_empty-2 w ↦
            (λ x there. let (k, inside, is) =
            rw (unnamed names.partial (eqb-true _ _ (sym c.is_empty-2.ensures ∙ w.if-is_empty-2.true))) at there in
            absurd (omega (arith, inside)))
        | goal.else-is_empty-2+in_ok-partials w ↦ rw (w.partials-is, ← w.as_slice-else-is_empty-2.ensures.value)
            w.in_ok-partials.ensures
      ];
      prefixes = elim c.if-len-lt-MANY.branch [
        | goal.then-len-lt-MANY w ↦
            rw w.prefixes-is (λ prefix v is. let none = unlisted w.new-prefixes.result w.new-prefixes.ensures.empty
            prefix in absurd (cc (none)))
        | goal.else-len-lt-MANY+in_ok-prefixes w ↦ rw w.prefixes-is w.in_ok-prefixes.ensures
      ];
    }
