-- Whole runs of the matching commands, from the bytes of an input to those of its output, and runs that are
-- ruled out, so that a wrong rule in specs/ doesn't check.
use Rattle.std.proofs.Common.{◌≡◌, ◌≢◌, inl, inr, ℕ, zero, suc, MatchBool, Bool, true, false, List, [], ◌∷◌, ◌++◌}
use Rattle.std.proofs.Common.{Option, None, Some, length, codes, refl, sym, ap, ◌∙◌, subst, length-append, arith}
use Rattle.std.specs.Fmt.{digits}
use Rattle.std.specs.Prelude.{if◌then◌else◌}
use Rattle.std.specs.List.{Contains}
use Rattle.std.specs.List.Sorted.{IsStrictlySortedBy}
use Rattle.std.specs.List.{flat_map}
use Rattle.gix_refspec.specs.Texts.Bytes.{star, head}
use Rattle.gix_refspec.specs.Texts.ObjectId.{IsIdText}
use Rattle.gix_refspec.specs.Specs.Reading.{Normal, Negative, Reading}
use Rattle.gix_refspec.specs.Specs.Grammar.{fetched}
use Rattle.gix_refspec.specs.Matching.Side.{partial, HasKind}
use Rattle.gix_refspec.specs.Matching.Match.{Ref, IsFirstCandidate, Takes}
use Rattle.gix_refspec.specs.Matching.Mappings.{name, Mapped, IsExcluded}
use Rattle.gix_refspec.specs.Matching.Hits.{Ends, AreForwardEnds, AreBackwardEnds, Hit, AreForward, AreKeptForward}
use Rattle.gix_refspec.specs.Matching.Hits.{AreKeptBackward, IsIdMapping}
use Rattle.gix_refspec.specs.Matching.Validation.{Conflict, HasConflictAt, IsValidated}
use Rattle.refspec_map.specs.declared.command.Command.{Command}
use Rattle.refspec_map.specs.declared.command.Command.TheVariants as command
use Rattle.refspec_map.specs.Input.{newline, AreLines}
use Rattle.refspec_map.specs.Line.{Entry, reading, ref, readings_in}
use Rattle.refspec_map.specs.Matching.{AreMapLines, IsMatching}
use Rattle.refspec_map.specs.Plan.{conflict_line, ShowsConflicts, IsPlan}
use Rattle.refspec_map.specs.Run.{Answers, IsOutput}
use Rattle.refspec_map.proofs.FormFacts.{blob, no_length, ref_lines}
use Rattle.refspec_map.proofs.LineFacts.{Lacks-tested}
use Rattle.refspec_map.proofs.RunFacts.{none_some, nothing_reads, some_once}

-- ---- an empty input

-- the empty input maps nothing
pub nothing_mapped : Answers command.Lhs (Some []) (Some []) (Some []) (Some []) 0
nothing_mapped = record {
  input = [];
  output = [];
  refusal = false;
  read = record { taken = refl; ended = refl; within = omega arith };
  is = record {
    lines = [];
    entries = [];
    split = refl;
    given = tt;
    is = record {
      mappings = [];
      kept =
          record {
            all = [];
            forward = record { ids = []; hits = []; are_ids = refl; are_hits = refl; all = refl };
            is =
                refl;
          };
      written = refl;
      tells = refl;
    };
  };
  written = refl;
  tells = refl;
}

-- `lhs` and `rhs` refuse nothing
pub lhs_ends_well : (old new before after : Option (List ℕ)) (status : ℕ)
    → Answers command.Lhs old new before after status → status ≡ 0
lhs_ends_well old new before after status a = a.tells ∙ ap (λ (b : Bool). if b then 1 else 0) a.is.is.tells

pub rhs_ends_well : (old new before after : Option (List ℕ)) (status : ℕ)
    → Answers command.Rhs old new before after status → status ≡ 0
rhs_ends_well old new before after status a = a.tells ∙ ap (λ (b : Bool). if b then 1 else 0) a.is.is.tells

-- ---- a spec and a ref

-- a fetch of `HEAD`, and the ref of this name
abbrev the_spec : Reading
the_spec = fetched Normal head None

abbrev the_ref : Ref
the_ref = record { name = head; target = blob; object = None }

abbrev the_input : List ℕ
the_input = codes "spec \nref e69de29bb2d1d6434b8b29ae775ad8c2e48c5391 HEAD\n"

abbrev the_entries : List Entry
the_entries = reading the_spec ∷ ref the_ref ∷ []

abbrev the_lines : List (List ℕ)
the_lines = codes "spec " ∷ codes "ref e69de29bb2d1d6434b8b29ae775ad8c2e48c5391 HEAD" ∷ []

lines_split : AreLines the_lines the_input
lines_split = (
  Lacks-tested newline (codes "spec ") refl,
  inl (
    codes "ref e69de29bb2d1d6434b8b29ae775ad8c2e48c5391 HEAD\n",
    refl,
    (Lacks-tested newline (codes "ref e69de29bb2d1d6434b8b29ae775ad8c2e48c5391 HEAD") refl, inl ([], refl, refl)),
  ),
)

not_refs : (after : List ℕ) → head ≢ codes "refs/" ++ after
not_refs after same = cc

-- `HEAD` is a partial name, and not an id
no_id : (i : List ℕ) → ¬ (IsIdText head i)
no_id i is = no_length 4 is.kind (omega arith) is.digits

head_kind : HasKind head (partial head)
head_kind = (refl, Lacks-tested star head refl, λ begins. not_refs begins.after begins.here, λ is. no_id is.0 is.1)

-- the ref is mapped, by the only spec and the only item
abbrev the_mapping : Mapped
the_mapping = record { item = Some 0; source = name head; destination = None; spec = 0 }

abbrev the_hit : Hit
the_hit = record { spec = 0; item = 0; near = head; far = None }

no_id_mapped : (m : Mapped) → ¬ (IsIdMapping 0 the_spec m)
no_id_mapped m is =
    no_id is.bytes (subst (λ (x : List ℕ). IsIdText x is.bytes) (sym (some_once head is.text is.side)) is.object.2)

ends : AreForwardEnds the_spec (record { near = head; far = None })
ends = record { positive = tt; near = refl; far = refl; no_object = λ i kind. no_id i kind.2 }

-- a partial name takes the refs that have the first existing one of its candidates
pub taken_by_first : (refs : List Ref) (x : List ℕ) (r : Ref) → HasKind x (partial x) → IsFirstCandidate refs x r.name
    → Takes refs x r None
taken_by_first refs x r kind first = record {
  matches = record {
    kind = partial x;
    of = kind;
    is =
        (refl, record { earlier = first.earlier; later = first.later; here = first.here });
  };
  first = λ n also. subst (λ (y : List ℕ). IsFirstCandidate refs y r.name) (sym also.0) first;
}

head_first : IsFirstCandidate (the_ref ∷ []) head head
head_first = record {
  earlier = [];
  later = codes "refs/HEAD" ∷ codes "refs/tags/HEAD" ∷ codes "refs/heads/HEAD" ∷ codes "refs/remotes/HEAD"
      ∷ codes "refs/remotes/HEAD/HEAD" ∷ [];
  here = refl;
  absent = tt;
  present = inl refl;
}

mapped : AreForward (the_spec ∷ []) (the_ref ∷ []) (the_mapping ∷ [])
mapped = record {
  ids = [];
  hits = the_hit ∷ [];
  are_ids = (None, [], no_id_mapped, refl, refl);
  are_hits = (
    the_hit ∷ [],
    [],
    inl (
      record { near = head; far = None },
      ends,
      (
        Some the_hit,
        [],
        record {
          word = None;
          takes = taken_by_first (the_ref ∷ []) head the_ref head_kind head_first;
          far = refl;
          near = refl;
          spec = refl;
          item = refl;
        },
        refl,
        refl,
      ),
    ),
    refl,
    refl,
  );
  all = refl;
}

pub not_negative : Normal ≢ Negative
not_negative same = cc

-- no negative spec excludes it
not_excluded : ¬ (IsExcluded (the_spec ∷ []) head)
not_excluded (inl by) = not_negative by.negative
not_excluded (inr none) = none

kept : AreKeptForward (the_spec ∷ []) (the_ref ∷ []) (the_mapping ∷ [])
kept = record {
  all = the_mapping ∷ [];
  forward = mapped;
  is =
      (Some the_mapping, [], (refl, record { first = λ pair. pair; included = not_excluded }), refl, refl);
}

-- a run that reads the input answers it if its output is an output for the spec and the ref
answered : (command : Command) (Writes : List Reading → List Ref → List ℕ → Bool → Type 0) (output : List ℕ)
    → (IsMatching Writes the_input output false → IsOutput command the_input output false)
    → Writes (the_spec ∷ []) (the_ref ∷ []) output false → Answers command (Some the_input) (Some []) (Some [])
    (Some output) 0
answered command Writes output is_output writes = record {
  input = the_input;
  output = output;
  refusal = false;
  read = record { taken = refl; ended = refl; within = omega arith };
  is = is_output
      (record {
        lines = the_lines;
        entries = the_entries;
        split = lines_split;
        given =
            (([], refl, nothing_reads), (ref_lines head, tt));
        is = writes;
      });
  written = refl;
  tells = refl;
}

-- `lhs` writes the line of the mapping
pub head_mapped : Answers command.Lhs (Some the_input) (Some []) (Some []) (Some (codes "map\t0\t0\tHEAD\n")) 0
unfolding digits
head_mapped = answered command.Lhs (AreMapLines AreKeptForward) (codes "map\t0\t0\tHEAD\n") (λ is. is)
    (record { mappings = the_mapping ∷ []; kept = kept; written = refl; tells = refl })

-- and `rhs` writes nothing, since the spec has no destination
no_backward_ends : (e : Ends) → ¬ (AreBackwardEnds the_spec e)
no_backward_ends e is = none_some e.near is.near

pub nothing_mapped_back : Answers command.Rhs (Some the_input) (Some []) (Some []) (Some []) 0
nothing_mapped_back = answered command.Rhs (AreMapLines AreKeptBackward) [] (λ is. is)
    (record {
      mappings = [];
      kept =
          record {
            all = [];
            backward = record {
              hits = [];
              are_hits = ([], [], inr (no_backward_ends, refl), refl, refl);
              all = refl;
            };
            is = refl;
          };
      written = refl;
      tells = refl;
    })

-- ---- a plan

-- a list of one mapping contains no other
only : (m : Mapped) → Contains (the_mapping ∷ []) m → the_mapping ≡ m
only m (zero, below, is) = is
only m (suc k, below, is) = absurd (omega (arith, below))

-- a single mapping has no conflict, and without a destination it survives
not_contested : (d : List ℕ) → ¬ (HasConflictAt (the_mapping ∷ []) d)
not_contested d is = none_some d (ap (λ (m : Mapped). m.destination) (only is.one is.has_one) ∙ is.one_to)

validated : IsValidated (the_spec ∷ []) (the_mapping ∷ []) (the_mapping ∷ []) []
unfolding IsStrictlySortedBy
validated = record {
  free = record { each = tt; every = λ d is. absurd (not_contested d is); order = tt };
  survive = (Some the_mapping, [], (refl, tt), refl, refl);
  fixed = (None, [], λ fix is. none_some fix.destination is.goes, refl, refl);
}

-- so a plan writes the same line
pub head_planned : Answers command.Plan (Some the_input) (Some []) (Some []) (Some (codes "map\t0\t0\tHEAD\n")) 0
unfolding digits
head_planned = answered command.Plan IsPlan (codes "map\t0\t0\tHEAD\n") (λ is. is)
    (record {
      mappings = the_mapping ∷ [];
      kept = kept;
      shows =
          record { rest = the_mapping ∷ []; fixes = []; fixed = []; is = validated; are = refl; written = refl };
    })

-- a plan has exit status 1 only if it writes conflicts
nothing_more : (b : ℕ) (rest output before : List ℕ) → output ≡ b ∷ rest → before ≢ before ++ output
nothing_more b rest output before is same = omega (arith, ap length is, ap length same, length-append before output)

no_conflict : (conflicts : List Conflict) (output before : List ℕ) → conflicts ≢ []
    → output ≡ flat_map conflict_line conflicts → before ≢ before ++ output
no_conflict [] output before some written same = some refl
no_conflict (c ∷ conflicts) output before some written same = nothing_more 99 _ output before written same

of_status : (conflicting : Bool) (P Q : Type 0) → ◌≡◌ {A = ℕ} 1 (if conflicting then 1 else 0)
    → MatchBool conflicting P Q → P
of_status true P Q tells shows = shows
of_status false P Q tells shows = absurd (omega (arith, tells))

pub no_plan_of_nothing : (old new : Option (List ℕ)) (before : List ℕ)
    → ¬ (Answers command.Plan old new (Some before) (Some before) 1)
no_plan_of_nothing old new before a =
    let plan = a.is.is in
    let shows = of_status a.refusal (ShowsConflicts (readings_in a.is.entries) plan.mappings a.output) _ a.tells
    plan.shows in
    no_conflict shows.conflicts a.output before shows.some shows.written a.written
