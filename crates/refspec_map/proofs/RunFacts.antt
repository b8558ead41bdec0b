-- Whole runs, from the bytes of an input to those of its output, and that no other run answers such an
-- input. So a wrong rule in specs/ doesn't check.
use Rattle.std.proofs.Common.{◌≡◌, ◌≢◌, inl, inr, ℕ, Bool, true, List, [], ◌∷◌, ◌++◌, None, Some, flat_map, codes, refl}
use Rattle.std.proofs.Common.{sym, ap, ◌∙◌, subst, arith}
use Rattle.std.specs.Prelude.{if◌then◌else◌}
use Rattle.std.specs.List.{AllZip}
use Rattle.std.proofs.lemmas.Bool.{eqb-false}
use Rattle.std.proofs.lemmas.List.{append-nil}
use Rattle.gix_refspec_text.specs.declared.parsing.Operation.{Operation}
use Rattle.gix_refspec_text.specs.declared.parsing.Operation.TheVariants.{Push, Fetch}
use Rattle.gix_refspec.specs.Texts.Bytes.{plus, caret, head}
use Rattle.gix_refspec.specs.Texts.Words.{Lacks}
use Rattle.gix_refspec.specs.Specs.Reading.{Normal, Negative, Reading}
use Rattle.gix_refspec.specs.Laws.Readings.{IsSameReason, OneRefusal, ReadsOrRefused}
use Rattle.gix_refspec.specs.Laws.Reasons.{ReasonRefuses}
use Rattle.gix_refspec.specs.Specs.Grammar.{Reads, fetched, fetches_nothing_named, fetches_colon}
use Rattle.gix_refspec.specs.Specs.Refusal.{Refusal, Empty, NegativeEmpty, IsFirstReason, IsRefused}
use Rattle.gix_refspec.specs.Specs.Refusal.{NoReasonBeforeSource}
use Rattle.gix_refspec.specs.Specs.Meaning.{printed}
use Rattle.refspec_map.specs.declared.command.Command.TheVariants as command
use Rattle.refspec_map.specs.Fault.{name_of}
use Rattle.refspec_map.specs.Input.{newline, ReadsToEnd}
use Rattle.refspec_map.specs.Output.{Answer, accepted, refused, IsAnswer, answer_line, is_refused, any_refused, IsCanon}
use Rattle.refspec_map.specs.Run.{Answers}
use Rattle.refspec_map.proofs.LineFacts.{Lacks-tested, lines_once}
use Rattle.refspec_map.proofs.OutputLemmas.{or_false}

-- a missing text differs from every text
pub none_some : (x : List ℕ) → None ≢ Some x
none_some x same = cc

-- and `Some` is injective
pub some_once : (x y : List ℕ) → Some x ≡ Some y → x ≡ y
some_once x y same = cc

-- ---- canon fetch

-- an empty line, and a colon, are specs that fetch `HEAD`
pub nothing_reads : Reads Fetch [] (fetched Normal head None)
nothing_reads = fetches_nothing_named Normal refl tt (record { signed = (refl, tt); last = tt }) refl

colon_reads : Reads Fetch (codes ":") (fetched Normal head None)
colon_reads = fetches_colon Normal refl tt
    (record { signed = (refl, (eqb-false 58 plus refl, eqb-false 58 caret refl)); last = tt }) refl

-- a caret alone excludes nothing, and no earlier reason applies to it
caret_reaches : NoReasonBeforeSource Fetch Negative [] None
caret_reaches = (
  λ e h. let i = h.unsigned in absurd (cc),
  λ e h. let i = h.colon in absurd (cc),
  λ e h. let i =
      h.nowhere in absurd (cc),
)

caret_reason : IsFirstReason Fetch Negative [] None NegativeEmpty
caret_reason =
    inr (
      caret_reaches.0,
      inr (
        caret_reaches.1,
        inr (
          caret_reaches.2,
          inr (
            λ e bad. bad.source refl,
            inr (
              λ e bad. none_some bad.word bad.is,
              inr (λ e bad. bad.positive, inl (record { negative = refl; no_source = refl; refusal = refl })),
            ),
          ),
        ),
      ),
    )

-- so it is refused, by the law on the first reason
pub caret_refused : ReasonRefuses Fetch (codes "^") → IsRefused Fetch (codes "^") NegativeEmpty
caret_refused law = law Negative [] None NegativeEmpty (record { signed = refl; last = tt }) caret_reason

-- three lines, the last without a newline; the output follows what was written before
pub answers_for_a_fetch : ReasonRefuses Fetch (codes "^") → Answers command.CanonFetch (Some (codes "\n^\n:")) (Some [])
    (Some (codes "old\n")) (Some (codes "old\nok HEAD\nerr NegativeEmpty\nok HEAD\n")) 1
answers_for_a_fetch law = record {
  input = codes "\n^\n:";
  output = codes "ok HEAD\nerr NegativeEmpty\nok HEAD\n";
  refusal = true;
  read = record { taken = refl; ended = refl; within = omega arith };
  is = record {
    lines = [] ∷ codes "^" ∷ codes ":" ∷ [];
    answers = accepted (codes "HEAD") ∷ refused NegativeEmpty ∷ accepted (codes "HEAD") ∷ [];
    split = (
      tt,
      inl (
        codes "^\n:",
        refl,
        (
          Lacks-tested newline (codes "^") refl,
          inl (codes ":", refl, (Lacks-tested newline (codes ":") refl, inr (λ none. cc, refl, refl))),
        ),
      ),
    );
    told = (
      (fetched Normal head None, nothing_reads, refl),
      (caret_refused law, ((fetched Normal head None, colon_reads, refl), tt)),
    );
    written = refl;
    tells = refl;
  };
  written = refl;
  tells = refl;
}

-- ---- the answer of a run is unique

-- the answer to the only line of an input
record OneAnswer (op : Operation) (line output : List ℕ) (refusal : Bool) : Type 0 where
  answer : Answer
  is : IsAnswer op line answer
  written : output ≡ answer_line answer
  tells : refusal ≡ is_refused answer

one_answer_by : (op : Operation) (line output : List ℕ) (refusal : Bool) (answers : List Answer)
    → AllZip (IsAnswer op) (line ∷ []) answers → output ≡ flat_map answer_line answers → refusal ≡ any_refused answers
    → OneAnswer op line output refusal
one_answer_by op line output refusal [] told written tells = absurd told
one_answer_by op line output refusal (a ∷ []) told written tells =
    record {
      answer = a;
      is = told.0;
      written = written ∙ append-nil (answer_line a);
      tells = tells
          ∙ or_false (is_refused a);
    }
one_answer_by op line output refusal (a ∷ b ∷ answers) told written tells = absurd told.1

one_answer : (op : Operation) (line output : List ℕ) (refusal : Bool) → Lacks newline line
    → IsCanon op (line ++ (newline ∷ [])) output refusal → OneAnswer op line output refusal
one_answer op line output refusal lacks is =
    let one = lines_once is.lines (line ∷ []) (line ++ (newline ∷ [])) is.split (lacks, inl ([], refl, refl)) in
    one_answer_by op line output refusal is.answers
    (subst (λ (ls : List (List ℕ)). AllZip (IsAnswer op) ls is.answers) one is.told) is.written is.tells

-- every answer to the line has the same output line, and the same refusal
abbrev IsOnly : Operation → List ℕ → Answer → Type 0
IsOnly op line a = (b : Answer) → IsAnswer op line b → (answer_line b ≡ answer_line a) × (is_refused b ≡ is_refused a)

one_reading : (op : Operation) (line : List ℕ) (q r : Reading) → ReadsOrRefused op line → Reads op line q
    → Reads op line r → q ≡ r
one_reading op line q r (inl once) reads also = once.only q reads ∙ sym (once.only r also)
one_reading op line q r (inr is) reads also = absurd (is.1.unread q reads)

only_read : (op : Operation) (line : List ℕ) (r : Reading) (text : List ℕ) → ReadsOrRefused op line → Reads op line r
    → printed r ≡ Some text → IsOnly op line (accepted text)
only_read op line r text law reads prints (accepted other) (q, also, prints_other) =
    let same = some_once other text
    (sym prints_other ∙ (ap printed (one_reading op line q r law also reads) ∙ prints)) in
    (ap (λ t. answer_line (accepted t)) same, refl)
only_read op line r text law reads prints (refused e) is = absurd (is.unread r reads)

same_name : (e f : Refusal) → IsSameReason e f → name_of e ≡ name_of f
same_name e f (inl same) = ap name_of same
same_name e f (inr (a, b, first, second)) = ap name_of first ∙ sym (ap name_of second)

only_refused : (op : Operation) (line : List ℕ) (e : Refusal) → OneRefusal op line → IsRefused op line e
    → IsOnly op line (refused e)
only_refused op line e law is (accepted other) (r, reads, prints) = absurd (is.unread r reads)
only_refused op line e law is (refused f) also =
    (ap (λ n. codes "err " ++ (n ++ (newline ∷ []))) (same_name f e (law f e also is)), refl)

-- what a run over an input of one line leaves in the reader, what it writes, and its exit status
record Ends (rest before after : List ℕ) (status : ℕ) (a : Answer) : Type 0 where
  pub left : rest ≡ []
  pub written : after ≡ before ++ answer_line a
  pub tells : status ≡ (if is_refused a then 1 else 0)

ends_by : (op : Operation) (line : List ℕ) (a : Answer) (input output rest before after : List ℕ) (refusal : Bool)
    (status : ℕ) → Lacks newline line → IsOnly op line a → ReadsToEnd (Some (line ++ (newline ∷ []))) (Some rest) input
    → IsCanon op input output refusal → after ≡ before ++ output → status ≡ (if refusal then 1 else 0)
    → Ends rest before after status a
ends_by op line a input output rest before after refusal status lacks only read is written tells =
    let whole : input ≡ line ++ (newline ∷ []) =
    sym (read.taken ∙ (ap (λ x. input ++ x) read.ended ∙ append-nil input)) in
    let one = one_answer op line output refusal lacks (subst (λ (x : List ℕ). IsCanon op x output refusal) whole is) in
    let same = only one.answer one.is in
    record {
      left = read.ended;
      written = written ∙ ap (λ x. before ++ x) (one.written ∙ same.0);
      tells = tells ∙ ap (λ (b : Bool). if b then 1 else 0) (one.tells ∙ same.1);
    }

-- for a fetch the empty line has this output and exit status, and no other, by the laws on texts
pub empty_line_fetched : ReadsOrRefused Fetch [] → (rest before after : List ℕ) (status : ℕ)
    → Answers command.CanonFetch (Some (codes "\n")) (Some rest) (Some before) (Some after) status → (rest ≡ [])
    × (after ≡ before ++ codes "ok HEAD\n") × (status ≡ 0)
empty_line_fetched law rest before after status a =
    let ends = ends_by Fetch [] (accepted (codes "HEAD")) a.input a.output rest before after a.refusal status tt
    (only_read Fetch [] (fetched Normal head None) (codes "HEAD") law nothing_reads refl) a.read a.is a.written
    a.tells in
    (ends.left, ends.written, ends.tells)

-- and so for a caret
pub caret_fetched : ReasonRefuses Fetch (codes "^") → OneRefusal Fetch (codes "^")
    → (rest before after : List ℕ) (status : ℕ) → Answers command.CanonFetch (Some (codes "^\n")) (Some rest)
    (Some before) (Some after) status → (rest ≡ []) × (after ≡ before ++ codes "err NegativeEmpty\n") × (status ≡ 1)
caret_fetched refuses one rest before after status a =
    let ends = ends_by Fetch (codes "^") (refused NegativeEmpty) a.input a.output rest before after a.refusal status
    (Lacks-tested newline (codes "^") refl)
    (only_refused Fetch (codes "^") NegativeEmpty one (caret_refused refuses)) a.read a.is a.written a.tells in
    (ends.left, ends.written, ends.tells)

-- a push of the empty line is refused
nothing_refused : ReasonRefuses Push [] → IsRefused Push [] Empty
nothing_refused law = law Normal [] None Empty (record { signed = (refl, tt); last = tt })
    (inl (record { push = refl; unsigned = refl; no_source = refl; no_colon = refl; refusal = refl }))

pub empty_line_pushed : ReasonRefuses Push [] → OneRefusal Push [] → (rest before after : List ℕ) (status : ℕ)
    → Answers command.CanonPush (Some (codes "\n")) (Some rest) (Some before) (Some after) status → (rest ≡ [])
    × (after ≡ before ++ codes "err Empty\n") × (status ≡ 1)
empty_line_pushed refuses one rest before after status a =
    let ends = ends_by Push [] (refused Empty) a.input a.output rest before after a.refusal status tt
    (only_refused Push [] Empty one (nothing_refused refuses)) a.read a.is a.written a.tells in
    (ends.left, ends.written, ends.tells)
