-- a source without a star excludes its name, and one with a star the names of its pattern
use Rattle.gix_refspec_match.proofs.Common.{◌≡◌, sym, ◌∙◌, arith, inl, inr, ap, rules, option_map, bstr_bytes}
use Rattle.gix_refspec_match.proofs.Common.{reading_of, FitsName, index_of, Pattern}
use Rattle.gix_refspec_match.proofs.lemmas.keep.ExclusionLemmas.{Any-push-cases, index_more, name_excludes}
use Rattle.gix_refspec_match.proofs.lemmas.keep.ExclusionLemmas.{pattern_excludes}
use Rattle.gix_refspec_match.proofs.exclusions.Exclusions.add.Goals as goal

pub returns-in_ok-insert-in-None : goal.returns-in_ok-insert-in-None
returns-in_ok-insert-in-None c =
    let excludes = name_excludes (reading_of c.args.spec) _ (search rules)
    (sym c.source.ensures ∙ ap (option_map bstr_bytes) c.in-Some.is) (rw c.as_bytes.ensures at c.in-None.ensures) in
    let more = index_more (index_of c.args.self.now.names) (index_of c.insert.new.self) c.as_bytes-name.result.now
    c.args.spec_index
    (λ q. c.in_ok-insert-in-None.ensures.updates.0 (record { name = record c.as_bytes-name.result { now = q } })) in
    record {
      names = λ n. grind (arith, excludes n, rw c.as_bytes-name.ensures at (more n).0);
      indexes = λ n k at. elim at [
        | inl found ↦ elim ((more n).1 k found) [
          | inl was ↦ inl (inl was)
          | inr (same, is) ↦
              inr (same, (excludes n).0 (is ∙ c.as_bytes-name.ensures))
        ]
        | inr fitted ↦ inl (inr fitted)
      ];
    }

pub returns-in_ok-push-in-Some-split_at_first_star : goal.returns-in_ok-push-in-Some-split_at_first_star
returns-in_ok-push-in-Some-split_at_first_star c =
    let source = sym c.source.ensures ∙ ap (option_map bstr_bytes) c.in-Some.is in
    let cut = c.in-Some-split_at_first_star in
    let excludes = pattern_excludes (reading_of c.args.spec) _ _ _ c.args.spec.accepted (search rules) source
    (sym c.as_bytes.ensures ∙ cut.ensures.0) cut.ensures.1 in
    let p : Pattern = record { before = cut.before; after = cut.after; spec_index = c.args.spec_index } in
    record {
      names = λ n. rw c.in_ok-push-in-Some-split_at_first_star.ensures.items
          (grind (arith, excludes n, Any-push-cases (λ p. FitsName p n) c.args.self.now.patterns.items p));
      indexes = λ n k. let fitted = Any-push-cases (λ q. (q.spec_index ≡ k) × FitsName q n)
          c.args.self.now.patterns.items p in
          rw c.in_ok-push-in-Some-split_at_first_star.ensures.items (λ at. elim at [
            | inl found ↦ inl (inl found)
            | inr any ↦ elim (fitted.0 any) [
              | inl was ↦ inl (inr was)
              | inr (same, fits) ↦
                  inr (sym same, (excludes n).0 fits)
            ]
          ]);
    }
