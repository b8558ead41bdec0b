-- The lines of updates, grouped below their specs, in order.
use Rattle.std.proofs.Common.{◌≡◌, ◌≢◌, ℕ, Bool, true, false, MatchBool, cond, List, [], ◌∷◌, ◌++◌, codes, unwrap_or}
use Rattle.std.proofs.Common.{Option, Some, None, inl, inr, refl, sym, ap, ◌∙◌, subst, append_assoc}
use Rattle.std.proofs.lemmas.List.{append-nil}
use Rattle.gix_refspec_plan.specs.declared.Origin.{Origin}
use Rattle.gix_refspec_plan.specs.Matching.Plan.{Planned}
use Rattle.refspec_io.specs.Rows.{WritesCell, source_text}
use Rattle.refspec_io.specs.Shown.{WritesQuoted}
use Rattle.refspec_io.proofs.ShownLemmas.{behind}
use Rattle.refspec_fetch.specs.declared.origins.SpecTexts.{SpecTexts}
use Rattle.refspec_fetch.specs.Groups.{AddsBelow, AddsShort, AreBelow, AreShort, IsBelow, IsHead, WritesBelow}
use Rattle.refspec_fetch.specs.Groups.{WritesShort}
use Rattle.refspec_fetch.specs.Origins.{text_of}
use Rattle.refspec_fetch.specs.Updates.{WritesHeading}
use Rattle.refspec_fetch.specs.Verdicts.{is_written}

-- a cell, the destination and a newline are a line
pub WritesShort-of : (p : Planned) (old a b new : List ℕ) → WritesCell (source_text p.source) old a
    → WritesQuoted (unwrap_or p.destination (codes "FETCH_HEAD")) a b → new ≡ b ++ 10 ∷ [] → WritesShort p old new
WritesShort-of p old a b new cell q ended =
    let nl = 10 ∷ [] in
    let both : b ≡ old ++ (cell.0 ++ q.0) = behind old cell.0 a q.0 b cell.2 q.2 in (
      cell.0 ++ (q.0 ++ nl),
      record { cell = cell.0; last = q.0; is_cell = cell.1; is_last = q.1; is = refl },
      behind old (cell.0 ++ q.0) b nl new both ended ∙ ap (λ l. old ++ l) (append_assoc cell.0 q.0 nl),
    )

AreShort-append : (ps qs : List Planned) (front back : List ℕ) → AreShort ps front → AreShort qs back
    → AreShort (ps ++ qs) (front ++ back)
AreShort-append [] qs front back none more = subst (λ (l : List ℕ). AreShort qs (l ++ back)) (sym none) more
AreShort-append (x ∷ ps) qs front back (first, rest, here, others, all) more = (
  first,
  rest ++ back,
  here,
  AreShort-append ps qs rest back others more,
  ap (λ l. l ++ back) all
      ∙ append_assoc first rest back,
)

pub AddsShort-start : (old : List ℕ) → AddsShort [] old old
AddsShort-start old = ([], refl, sym (append-nil old))

pub AddsShort-one : (p : Planned) (old new : List ℕ) → WritesShort p old new → AddsShort (p ∷ []) old new
AddsShort-one p old new (line, short, write) = (line, (line, [], short, refl, sym (append-nil line)), write)

-- the lines of more updates
pub AddsShort-append : (ps qs : List Planned) (old mid new : List ℕ) → AddsShort ps old mid → AddsShort qs mid new
    → AddsShort (ps ++ qs) old new
AddsShort-append ps qs old mid new (lines, are, so_far) (more, others, write) =
    (lines ++ more, AreShort-append ps qs lines more are others, behind old lines mid more new so_far write)

-- the origin of the last update
abbrev pub last_origin : Option Origin → List Planned → Option Origin
last_origin before [] = before
last_origin before (p ∷ ps) = last_origin (Some p.origin) ps

last_origin-push : (before : Option Origin) (ps : List Planned) (p : Planned)
    → last_origin before (ps ++ p ∷ []) ≡ Some p.origin
last_origin-push before [] p = refl
last_origin-push before (x ∷ ps) p = last_origin-push (Some x.origin) ps p

AreBelow-push : (texts : SpecTexts) (before : Option Origin) (ps : List Planned) (p : Planned) (lines one : List ℕ)
    → AreBelow texts before ps lines → IsBelow texts (last_origin before ps) p one
    → AreBelow texts before (ps ++ p ∷ []) (lines ++ one)
AreBelow-push texts before [] p lines one none is = (one, [], is, refl, ap (λ l. l ++ one) none ∙ sym (append-nil one))
AreBelow-push texts before (x ∷ ps) p lines one (first, rest, here, more, all) is = (
  first,
  rest ++ one,
  here,
  AreBelow-push texts (Some x.origin) ps p rest one more is,
  ap (λ l. l ++ one) all
      ∙ append_assoc first rest one,
)

-- the lines of the updates so far were written, and before is the origin of the last one
pub record GroupedSoFar (texts : SpecTexts) (ps : List Planned) (before : Option Origin) (old new : List ℕ) :
    Type 0 where
  pub lines : List ℕ
  pub are : AreBelow texts None ps lines
  pub last : before ≡ last_origin None ps
  pub write : new ≡ old ++ lines

pub GroupedSoFar-start : (texts : SpecTexts) (old : List ℕ) → GroupedSoFar texts [] None old old
GroupedSoFar-start texts old = record { lines = []; are = refl; last = refl; write = sym (append-nil old) }

-- the heading before a line, if needed
pub record WritesHead (texts : SpecTexts) (before : Option Origin) (p : Planned) (old new : List ℕ) : Type 0 where
  pub head : List ℕ
  pub is : IsHead texts before p head
  pub write : new ≡ old ++ head

pub WritesHead-none : (texts : SpecTexts) (before : Option Origin) (p : Planned) (old : List ℕ) → before ≡ Some p.origin
    → WritesHead texts before p old old
WritesHead-none texts before p old same = record { head = []; is = inl (same, refl); write = sym (append-nil old) }

pub WritesHead-some : (texts : SpecTexts) (before : Option Origin) (p : Planned) (text old new : List ℕ)
    → before ≢ Some p.origin → text ≡ text_of texts p.origin → WritesHeading text p.origin old new
    → WritesHead texts before p old new
WritesHead-some texts before p text old new other same (line, heading, write) =
    record { head = line; is = inr (other, rw same at heading); write = write }

-- the lines of one update
pub WritesBelow-of : (texts : SpecTexts) (before : Option Origin) (p : Planned) (old a b new : List ℕ)
    → WritesHead texts before p old a → b ≡ a ++ codes "  " → WritesShort p b new → WritesBelow texts before p old new
WritesBelow-of texts before p old a b new head margin (line, short, write) = (
  head.head ++ (codes "  " ++ line),
  record { head = head.head; line = line; is_head = head.is; is_line = short; is = refl },
  behind old (head.head ++ codes "  ") b line new (behind old head.head a (codes "  ") b head.write margin) write
      ∙ ap (λ l. old ++ l) (append_assoc head.head (codes "  ") line),
)

-- an update that is written or not
pub GroupedSoFar-next : (texts : SpecTexts) (ps more : List Planned) (p : Planned) (b : Bool)
    (before next : Option Origin) (old mid new : List ℕ) → is_written p.verdict ≡ b → more ≡ ps ++ cond b (p ∷ []) []
    → GroupedSoFar texts ps before old mid → AddsBelow texts p before next mid new
    → GroupedSoFar texts more next old new
GroupedSoFar-next texts ps more p true before next old mid new is grown so_far adds =
    let (lines, below, write) =
    (subst (λ (x : Bool). MatchBool x (WritesBelow texts before p mid new × (next ≡ Some p.origin))
    ((new ≡ mid) × (next ≡ before))) is adds).0 in
    let same = (subst (λ (x : Bool). MatchBool x (WritesBelow texts before p mid new × (next ≡ Some p.origin))
    ((new ≡ mid) × (next ≡ before))) is adds).1 in
    subst (λ (l : List Planned). GroupedSoFar texts l next old new) (sym grown) (record {
      lines = so_far.lines ++ lines;
      are = AreBelow-push texts None ps p so_far.lines lines so_far.are
          (subst (λ (o : Option Origin). IsBelow texts o p lines) so_far.last below);
      last = same ∙ sym (last_origin-push None ps p);
      write = behind old so_far.lines mid lines new so_far.write write;
    })
GroupedSoFar-next texts ps more p false before next old mid new is grown so_far adds =
    let kept = subst (λ (x : Bool). MatchBool x (WritesBelow texts before p mid new × (next ≡ Some p.origin))
    ((new ≡ mid) × (next ≡ before))) is adds in
    subst (λ (l : List Planned). GroupedSoFar texts l next old new) (sym (grown ∙ append-nil ps)) (record {
      lines = so_far.lines;
      are = so_far.are;
      last = kept.1 ∙ so_far.last;
      write = kept.0 ∙ so_far.write;
    })
