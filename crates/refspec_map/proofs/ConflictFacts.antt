-- A whole run of `plan` whose mappings have a conflict, from the bytes of its input to those of its output.
use Rattle.std.proofs.Common.{◌≡◌, ◌≢◌, inl, inr, ℕ, zero, suc, true, List, [], ◌∷◌, ◌++◌, Option, None, Some, length}
use Rattle.std.proofs.Common.{codes, refl, sym, ap, ◌∙◌, subst, arith}
use Rattle.std.proofs.lemmas.Bool.{eqb-false}
use Rattle.std.specs.List.{Contains}
use Rattle.std.specs.List.Sorted.{IsStrictlySortedBy}
use Rattle.gix_refspec_text.specs.declared.parsing.Operation.TheVariants.{Fetch}
use Rattle.gix_refspec.specs.Texts.Words.{BeginsWith, Lacks}
use Rattle.gix_refspec.specs.Texts.Bytes.{star, plus, caret, colon}
use Rattle.gix_refspec.specs.Specs.Reading.{Normal, Reading}
use Rattle.gix_refspec.specs.Specs.Grammar.{Reads, fetched, updates}
use Rattle.gix_refspec.specs.Matching.Side.{SideKind, pattern, full_name, object, partial, HasKind}
use Rattle.gix_refspec.specs.Matching.Match.{Ref, MatchesAs, Takes}
use Rattle.gix_refspec.specs.Matching.Mappings.{Source, name, id, Mapped, HasPair, IsExcluded}
use Rattle.gix_refspec.specs.Matching.Hits.{Ends, AreForwardEnds, Hit, IsHit, AreForward, AreKeptForward, IsIdMapping}
use Rattle.gix_refspec.specs.Matching.Validation.{Conflict, HasConflictAt, IsFirstTo, IsConflict, AreConflicts}
use Rattle.gix_refspec.specs.Laws.Names.{PlainNames}
use Rattle.refspec_map.specs.declared.command.Command.TheVariants as command
use Rattle.refspec_map.specs.Input.{newline, AreLines}
use Rattle.refspec_map.specs.Line.{reading, ref}
use Rattle.refspec_map.specs.Run.{Answers}
use Rattle.refspec_map.proofs.FormFacts.{blob, ref_lines}
use Rattle.refspec_map.proofs.LineFacts.{Lacks-tested}
use Rattle.refspec_map.proofs.MatchFacts.{not_negative}
use Rattle.refspec_map.proofs.RunFacts.{some_once}
use Rattle.gix_refspec_text.proofs.lemmas.lists.LacksLemmas.{Lacks-here}

-- a tag and a branch, and a spec for each of them
abbrev pub the_tag : List ℕ
the_tag = codes "refs/tags/main"

abbrev pub the_head : List ℕ
the_head = codes "refs/heads/main"

abbrev pub target : List ℕ
target = codes "refs/x"

abbrev spec_of : List ℕ → Reading
spec_of n = fetched Normal n (Some target)

abbrev both_specs : List Reading
both_specs = spec_of the_tag ∷ spec_of the_head ∷ []

abbrev pub named : List ℕ → Ref
named n = record { name = n; target = blob; object = None }

abbrev pub the_refs : List Ref
the_refs = named the_tag ∷ named the_head ∷ []

-- ---- both are mapped to one destination

abbrev hit_of : ℕ → List ℕ → Hit
hit_of k n = record { spec = k; item = k; near = n; far = Some target }

abbrev pub mapping_of : ℕ → List ℕ → Mapped
mapping_of k n = record { item = Some k; source = name n; destination = Some target; spec = k }

abbrev pub tag_mapping : Mapped
tag_mapping = mapping_of 0 the_tag

abbrev head_mapping : Mapped
head_mapping = mapping_of 1 the_head

abbrev both : List Mapped
both = tag_mapping ∷ head_mapping ∷ []

tag_kind : HasKind the_tag (full_name the_tag)
tag_kind = (refl, Lacks-tested star the_tag refl, record { after = codes "tags/main"; here = refl })

head_kind : HasKind the_head (full_name the_head)
head_kind = (refl, Lacks-tested star the_head refl, record { after = codes "heads/main"; here = refl })

pub target_kind : HasKind target (full_name target)
target_kind = (refl, Lacks-tested star target refl, record { after = codes "x"; here = refl })

abbrev ends_of : List ℕ → Ends
ends_of n = record { near = n; far = Some target }

are_ends : (n : List ℕ) → HasKind n (full_name n) → AreForwardEnds (spec_of n) (ends_of n)
are_ends n kind = record { positive = tt; near = refl; far = refl; no_object = λ i is. is.1 kind.2 }

-- each spec takes the ref of its name
taken : (k : ℕ) (n : List ℕ) → HasKind n (full_name n) → IsHit (Takes the_refs) (ends_of n) k k (named n) (hit_of k n)
taken k n kind = record {
  word = None;
  takes = record {
    matches = record { kind = full_name n; of = kind; is = (refl, refl) };
    first =
        λ m short. absurd (short.2 kind.2);
  };
  far = (full_name target, target_kind, refl);
  near = refl;
  spec = refl;
  item = refl;
}

-- and not the other one, since a full name matches only the ref of that name
full_matches : (n m : List ℕ) (k : SideKind) (word : Option (List ℕ)) → HasKind n (full_name n) → HasKind n k
    → MatchesAs k (named m) word → m ≡ n
full_matches n m (pattern before after) word kind of is =
    absurd (Lacks-here star before after (subst (Lacks star) of.starred kind.1))
full_matches n m (full_name x) word kind of is = is.1 ∙ of.0
full_matches n m (object i) word kind of is = absurd (of.1 kind.2)
full_matches n m (partial x) word kind of is = absurd (of.2 kind.2)

other_taken : (k j : ℕ) (n m : List ℕ) (hit : Hit) → HasKind n (full_name n) → IsHit (Takes the_refs) (ends_of n) k j
    (named m) hit → m ≡ n
other_taken k j n m hit kind is = let matches = is.takes.matches in full_matches n m matches.kind is.word kind
    matches.of matches.is

no_id_mapped : (k : ℕ) (n : List ℕ) → HasKind n (full_name n) → (m : Mapped) → ¬ (IsIdMapping k (spec_of n) m)
no_id_mapped k n kind m is = is.object.1 (subst (BeginsWith (codes "refs/")) (some_once n is.text is.side) kind.2)

-- their names differ, and so do their sources
pub apart : the_tag ≢ the_head
apart same = omega (arith, ap length same)

text_of_start : Source → List ℕ
text_of_start (name n) = n
text_of_start (id i) = i

differ : name the_tag ≢ name the_head
unfolding text_of_start
differ same = apart (ap text_of_start same)

mapped : AreForward both_specs the_refs both
mapped = record {
  ids = [];
  hits = hit_of 0 the_tag ∷ hit_of 1 the_head ∷ [];
  are_ids = (
    None,
    [],
    no_id_mapped 0 the_tag tag_kind,
    (None, [], no_id_mapped 1 the_head head_kind, refl, refl),
    refl,
  );
  are_hits = (
    hit_of 0 the_tag ∷ [],
    hit_of 1 the_head ∷ [],
    inl (
      ends_of the_tag,
      are_ends the_tag tag_kind,
      (
        Some (hit_of 0 the_tag),
        [],
        taken 0 the_tag tag_kind,
        (None, [], (λ hit is. apart (sym (other_taken 0 1 the_tag the_head hit tag_kind is))), refl, refl),
        refl,
      ),
    ),
    (
      hit_of 1 the_head ∷ [],
      [],
      inl (
        ends_of the_head,
        are_ends the_head head_kind,
        (
          None,
          hit_of 1 the_head ∷ [],
          (λ hit is. apart (other_taken 1 0 the_head the_tag hit head_kind is)),
          (Some (hit_of 1 the_head), [], taken 1 the_head head_kind, refl, refl),
          refl,
        ),
      ),
      refl,
      refl,
    ),
    refl,
  );
  all = refl;
}

not_excluded : (n : List ℕ) → ¬ (IsExcluded both_specs n)
not_excluded n (inl by) = not_negative by.negative
not_excluded n (inr (inl by)) = not_negative by.negative
not_excluded n (inr (inr none)) = none

no_pair_before : ¬ (HasPair (tag_mapping ∷ []) head_mapping)
no_pair_before (inl same) = differ same.source
no_pair_before (inr none) = none

kept : AreKeptForward both_specs the_refs both
kept = record {
  all = both;
  forward = mapped;
  is = (
    Some tag_mapping,
    head_mapping ∷ [],
    (refl, record { first = λ pair. pair; included = not_excluded the_tag }),
    (Some head_mapping, [], (refl, record { first = no_pair_before; included = not_excluded the_head }), refl, refl),
    refl,
  );
}

-- ---- so they are one conflict

abbrev the_conflict : Conflict
the_conflict = record {
  destination = target;
  sources = name the_tag ∷ name the_head ∷ [];
  texts =
      codes "refs/tags/main:refs/x" ∷ codes "refs/heads/main:refs/x" ∷ [];
}

tag_first : IsFirstTo target both 0 tag_mapping
tag_first = record { goes = refl; first = λ pair. pair }

head_first : IsFirstTo target both 1 head_mapping
head_first = record { goes = refl; first = no_pair_before }

is_conflict : IsConflict both_specs both the_conflict
is_conflict = record {
  contested = record {
    one = tag_mapping;
    other = head_mapping;
    has_one = (0, omega arith, refl);
    has_other =
        (1, omega arith, refl);
    one_to = refl;
    other_to = refl;
    differ = differ;
  };
  sources = (
    Some (name the_tag),
    name the_head ∷ [],
    (tag_first, refl),
    (Some (name the_head), [], (head_first, refl), refl, refl),
    refl,
  );
  texts = (
    Some (codes "refs/tags/main:refs/x"),
    codes "refs/heads/main:refs/x" ∷ [],
    (tag_first, (spec_of the_tag, refl, refl)),
    (Some (codes "refs/heads/main:refs/x"), [], (head_first, (spec_of the_head, refl, refl)), refl, refl),
    refl,
  );
}

-- all mappings go there
goes : (m : Mapped) → Contains both m → m.destination ≡ Some target
goes m (zero, below, is) = ap (λ (x : Mapped). x.destination) (sym is)
goes m (suc zero, below, is) = ap (λ (x : Mapped). x.destination) (sym is)
goes m (suc (suc k), below, is) = absurd (omega (arith, below))

no_other : (d : List ℕ) → HasConflictAt both d → target ≡ d
no_other d is = some_once target d (sym (goes is.one is.has_one) ∙ is.one_to)

conflicts : AreConflicts both_specs both (the_conflict ∷ [])
unfolding IsStrictlySortedBy
conflicts = record { each = (is_conflict, tt); every = λ d is. (0, omega arith, no_other d is); order = (tt, tt) }

-- ---- which is what `plan` writes

abbrev pub spec_line : List ℕ → List ℕ
spec_line n = codes "spec " ++ (n ++ codes ":refs/x")

abbrev pub ref_line : List ℕ → List ℕ
ref_line n = codes "ref e69de29bb2d1d6434b8b29ae775ad8c2e48c5391 " ++ n

abbrev the_input : List ℕ
the_input = codes
    "spec refs/tags/main:refs/x\nspec refs/heads/main:refs/x\nref e69de29bb2d1d6434b8b29ae775ad8c2e48c5391 refs/tags/main\nref e69de29bb2d1d6434b8b29ae775ad8c2e48c5391 refs/heads/main\n"

-- the lines of both refs, which end an input
abbrev pub refs_after : List ℕ
refs_after = codes
    "ref e69de29bb2d1d6434b8b29ae775ad8c2e48c5391 refs/tags/main\nref e69de29bb2d1d6434b8b29ae775ad8c2e48c5391 refs/heads/main\n"

pub refs_split : AreLines (ref_line the_tag ∷ ref_line the_head ∷ []) refs_after
refs_split = (
  Lacks-tested newline (ref_line the_tag) refl,
  inl (
    ref_line the_head ++ (newline ∷ []),
    refl,
    (Lacks-tested newline (ref_line the_head) refl, inl ([], refl, refl)),
  ),
)

lines_split : AreLines (spec_line the_tag ∷ spec_line the_head ∷ ref_line the_tag ∷ ref_line the_head ∷ []) the_input
lines_split = (
  Lacks-tested newline (spec_line the_tag) refl,
  inl (
    spec_line the_head ++ (newline ∷ refs_after),
    refl,
    (Lacks-tested newline (spec_line the_head) refl, inl (refs_after, refl, refs_split)),
  ),
)

tag_reads : PlainNames → Reads Fetch (codes "refs/tags/main:refs/x") (spec_of the_tag)
tag_reads law = updates Normal the_tag target refl tt
    (record {
      signed = (refl, (eqb-false 114 plus refl, eqb-false 114 caret refl));
      last =
          Lacks-tested colon target refl;
    }) (inl (law the_tag refl, law target refl)) refl

head_reads : PlainNames → Reads Fetch (codes "refs/heads/main:refs/x") (spec_of the_head)
head_reads law = updates Normal the_head target refl tt
    (record {
      signed = (refl, (eqb-false 114 plus refl, eqb-false 114 caret refl));
      last =
          Lacks-tested colon target refl;
    }) (inl (law the_head refl, law target refl)) refl

pub conflict_planned : PlainNames → Answers command.Plan (Some the_input) (Some []) (Some [])
    (Some (codes "conflict\trefs/x\trefs/tags/main\trefs/tags/main:refs/x\trefs/heads/main\trefs/heads/main:refs/x\n"))
    1
conflict_planned law = record {
  input = the_input;
  output = codes "conflict\trefs/x\trefs/tags/main\trefs/tags/main:refs/x\trefs/heads/main\trefs/heads/main:refs/x\n";
  refusal = true;
  read = record { taken = refl; ended = refl; within = omega arith };
  is = record {
    lines = spec_line the_tag ∷ spec_line the_head ∷ ref_line the_tag ∷ ref_line the_head ∷ [];
    entries = reading (spec_of the_tag) ∷ reading (spec_of the_head) ∷ ref (named the_tag) ∷ ref (named the_head) ∷ [];
    split = lines_split;
    given = (
      (codes "refs/tags/main:refs/x", refl, tag_reads law),
      ((codes "refs/heads/main:refs/x", refl, head_reads law), (ref_lines the_tag, (ref_lines the_head, tt))),
    );
    is = record {
      mappings = both;
      kept = kept;
      shows = record {
        conflicts = the_conflict ∷ [];
        are = conflicts;
        some =
            λ none. cc;
        written = refl;
      };
    };
  };
  written = refl;
  tells = refl;
}
