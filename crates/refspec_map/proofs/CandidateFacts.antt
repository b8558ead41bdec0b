-- A whole run of `plan` for a branch and a tag of the same short name: a partial source takes the tag.
use Rattle.std.proofs.Common.{◌≡◌, ◌≢◌, ◌<◌, inl, inr, ℕ, zero, suc, length, false, List, [], ◌∷◌, ◌++◌, None, Some}
use Rattle.std.proofs.Common.{codes, refl, sym, ap, ◌∙◌, subst, arith}
use Rattle.std.specs.Fmt.{digits}
use Rattle.std.specs.List.{Contains}
use Rattle.std.specs.List.Sorted.{IsStrictlySortedBy}
use Rattle.std.proofs.lemmas.Bool.{eqb-false}
use Rattle.gix_refspec_text.specs.declared.parsing.Operation.TheVariants.{Fetch}
use Rattle.gix_refspec.specs.Texts.Bytes.{star, plus, caret, colon}
use Rattle.gix_refspec.specs.Texts.ObjectId.{IsIdText}
use Rattle.gix_refspec.specs.Specs.Reading.{Normal, Reading}
use Rattle.gix_refspec.specs.Specs.Grammar.{Reads, fetched, updates}
use Rattle.gix_refspec.specs.Matching.Side.{partial, full_name, HasKind}
use Rattle.gix_refspec.specs.Laws.Readings.{FirstCandidate}
use Rattle.gix_refspec.specs.Laws.Names.{PlainNames}
use Rattle.gix_refspec.specs.Matching.Match.{HasName, IsFirstCandidate, Takes}
use Rattle.gix_refspec.specs.Matching.Mappings.{Mapped, IsExcluded}
use Rattle.gix_refspec.specs.Matching.Hits.{Ends, Hit, IsHit, AreForward, AreKeptForward, IsIdMapping}
use Rattle.gix_refspec.specs.Matching.Validation.{HasConflictAt, IsValidated, IsWritable}
use Rattle.refspec_map.specs.declared.command.Command.TheVariants as command
use Rattle.refspec_map.specs.Input.{newline}
use Rattle.refspec_map.specs.Line.{reading, ref}
use Rattle.refspec_map.specs.Run.{Answers}
use Rattle.refspec_map.proofs.FormFacts.{no_length, ref_lines}
use Rattle.refspec_map.proofs.LineFacts.{Lacks-tested}
use Rattle.refspec_map.proofs.MatchFacts.{not_negative, taken_by_first}
use Rattle.refspec_map.proofs.RunFacts.{some_once}
use Rattle.refspec_map.proofs.ConflictFacts.{the_tag, the_head, target, target_kind, named, the_refs, tag_mapping}
use Rattle.refspec_map.proofs.ConflictFacts.{apart, spec_line, ref_line, refs_after, refs_split}

-- a partial name, for which both refs are candidates
abbrev main : List ℕ
main = codes "main"

abbrev the_spec : Reading
the_spec = fetched Normal main (Some target)

main_no_id : (i : List ℕ) → ¬ (IsIdText main i)
main_no_id i is = no_length 4 is.kind (omega arith) is.digits

not_refs : (after : List ℕ) → main ≢ codes "refs/" ++ after
not_refs after same = cc

main_kind : HasKind main (partial main)
main_kind = (refl, Lacks-tested star main refl, λ begins. not_refs begins.after begins.here, λ is. main_no_id is.0 is.1)

-- ---- the tag alone is mapped

shorter : (n : List ℕ) → length n < 14 → ¬ (HasName the_refs n)
shorter n less (inl same) = let size : 14 ≡ length n = ap length same in omega (arith, size, less)
shorter n less (inr (inl same)) = let size : 15 ≡ length n = ap length same in omega (arith, size, less)
shorter n less (inr (inr none)) = none

tag_first : IsFirstCandidate the_refs main the_tag
tag_first = record {
  earlier = main ∷ codes "refs/main" ∷ [];
  later = the_head ∷ codes "refs/remotes/main" ∷ codes "refs/remotes/main/HEAD" ∷ [];
  here = refl;
  absent = (shorter main (omega arith), (shorter (codes "refs/main") (omega arith), tt));
  present = inl refl;
}

abbrev tag_hit : Hit
tag_hit = record { spec = 0; item = 0; near = the_tag; far = Some target }

abbrev ends : Ends
ends = record { near = main; far = Some target }

tag_taken : IsHit (Takes the_refs) ends 0 0 (named the_tag) tag_hit
tag_taken = record {
  word = None;
  takes = taken_by_first the_refs main (named the_tag) main_kind tag_first;
  far =
      (full_name target, target_kind, refl);
  near = refl;
  spec = refl;
  item = refl;
}

-- by the law the first candidate is unique
head_not_taken : FirstCandidate main the_refs → (hit : Hit) → ¬ (IsHit (Takes the_refs) ends 0 1 (named the_head) hit)
head_not_taken law hit is =
    apart ((law main_kind.1 main_kind.2 main_kind.3).one the_tag the_head tag_first (is.takes.first main main_kind))

no_id_mapped : (m : Mapped) → ¬ (IsIdMapping 0 the_spec m)
no_id_mapped m is =
    main_no_id is.bytes (subst (λ (x : List ℕ). IsIdText x is.bytes) (sym (some_once main is.text is.side)) is.object.2)

mapped : FirstCandidate main the_refs → AreForward (the_spec ∷ []) the_refs (tag_mapping ∷ [])
mapped law = record {
  ids = [];
  hits = tag_hit ∷ [];
  are_ids = (None, [], no_id_mapped, refl, refl);
  are_hits = (
    tag_hit ∷ [],
    [],
    inl (
      ends,
      record { positive = tt; near = refl; far = refl; no_object = λ i kind. main_no_id i kind.2 },
      (Some tag_hit, [], tag_taken, (None, [], head_not_taken law, refl, refl), refl),
    ),
    refl,
    refl,
  );
  all = refl;
}

not_excluded : (n : List ℕ) → ¬ (IsExcluded (the_spec ∷ []) n)
not_excluded n (inl by) = not_negative by.negative
not_excluded n (inr none) = none

kept : FirstCandidate main the_refs → AreKeptForward (the_spec ∷ []) the_refs (tag_mapping ∷ [])
kept law = record {
  all = tag_mapping ∷ [];
  forward = mapped law;
  is =
      (Some tag_mapping, [], (refl, record { first = λ pair. pair; included = not_excluded the_tag }), refl, refl);
}

-- ---- so there is no conflict, and no fix

only : (m : Mapped) → Contains (tag_mapping ∷ []) m → tag_mapping ≡ m
only m (zero, below, is) = is
only m (suc k, below, is) = absurd (omega (arith, below))

not_contested : (d : List ℕ) → ¬ (HasConflictAt (tag_mapping ∷ []) d)
not_contested d is =
    is.differ (ap (λ (m : Mapped). m.source) (sym (only is.one is.has_one) ∙ only is.other is.has_other))

writable : IsWritable target
writable = inl (record { after = codes "x"; here = refl })

validated : IsValidated (the_spec ∷ []) (tag_mapping ∷ []) (tag_mapping ∷ []) []
unfolding IsStrictlySortedBy
validated = record {
  free = record { each = tt; every = λ d is. absurd (not_contested d is); order = tt };
  survive = (Some tag_mapping, [], (refl, writable), refl, refl);
  fixed = (
    None,
    [],
    (λ fix is. is.unwritable (subst IsWritable (some_once target fix.destination is.goes) writable)),
    refl,
    refl,
  );
}

-- ---- which is what `plan` writes

abbrev the_input : List ℕ
the_input = codes
    "spec main:refs/x\nref e69de29bb2d1d6434b8b29ae775ad8c2e48c5391 refs/tags/main\nref e69de29bb2d1d6434b8b29ae775ad8c2e48c5391 refs/heads/main\n"

main_reads : PlainNames → Reads Fetch (codes "main:refs/x") the_spec
main_reads names = updates Normal main target refl tt
    (record {
      signed = (refl, (eqb-false 109 plus refl, eqb-false 109 caret refl));
      last =
          Lacks-tested colon target refl;
    }) (inl (names main refl, names target refl)) refl

pub tag_planned : FirstCandidate main the_refs → PlainNames → Answers command.Plan (Some the_input) (Some []) (Some [])
    (Some (codes "map\t0\t0\trefs/tags/main\trefs/x\n")) 0
unfolding digits
tag_planned law names = record {
  input = the_input;
  output = codes "map\t0\t0\trefs/tags/main\trefs/x\n";
  refusal = false;
  read = record { taken = refl; ended = refl; within = omega arith };
  is = record {
    lines = spec_line main ∷ ref_line the_tag ∷ ref_line the_head ∷ [];
    entries = reading the_spec ∷ ref (named the_tag) ∷ ref (named the_head) ∷ [];
    split = (Lacks-tested newline (spec_line main) refl, inl (refs_after, refl, refs_split));
    given = ((codes "main:refs/x", refl, main_reads names), (ref_lines the_tag, (ref_lines the_head, tt)));
    is = record {
      mappings = tag_mapping ∷ [];
      kept = kept law;
      shows =
          record { rest = tag_mapping ∷ []; fixes = []; fixed = []; is = validated; are = refl; written = refl };
    };
  };
  written = refl;
  tells = refl;
}
