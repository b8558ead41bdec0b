-- Lines of refs, lines of peeled tags, and bad lines.
use Rattle.std.proofs.Common.{◌≡◌, ◌≢◌, ℕ, ◌+◌, ◌<◌, ◌==◌, ◌++◌, false, true, List, [], ◌∷◌, Option, Some, None}
use Rattle.std.proofs.Common.{unwrap_or, inl, inr, codes, drop, get_or, length, map, reverse, refl, sym, ap, ◌∙◌, subst}
use Rattle.std.proofs.Common.{arith, length-append}
use Rattle.std.specs.List.{list_any}
use Rattle.std.proofs.Common.{append_assoc}
use Rattle.std.proofs.lemmas.List.{append_cancel_left, append_cancel_right, reverse-append}
use Rattle.gix_refspec.specs.Matching.Match.{Ref}
use Rattle.gix_refspec.specs.Texts.ObjectId.{digits_of}
use Rattle.gix_refspec_text.specs.declared.oid.Kind.{Kind}
use Rattle.gix_refspec_text.specs.declared.oid.Kind.TheVariants.{Sha1, Sha256}
use Rattle.gix_refspec_text.proofs.facts.ObjectIdFacts.{empty_blob, IsIdText-empty_blob}
use Rattle.gix_refspec_text.proofs.facts.FitFacts.{other_byte}
use Rattle.gix_refspec_text.proofs.facts.ManualFacts.{Lacks-tested, full, named}
use Rattle.refspec_io.specs.Refs.{AddsLine, AddsRefs, AddsListed, HasLast, IsIdThen, IsLast, IsNoRefLine, IsOneWord}
use Rattle.refspec_io.specs.Refs.{IsPeeledLine, IsRefLine, IsTagLine, ListsNames, ListsRefs, ListsName, bad_bytes}
use Rattle.refspec_io.specs.Refs.{peeled}
use Rattle.refspec_io.proofs.RefLemmas.{AddsListed-elsewhere, AddsListed-peeled, space_at}
use Rattle.refspec_io.proofs.facts.InputFacts.{records_once}
use Rattle.gix_refspec_text.proofs.lemmas.lists.LacksLemmas.{Lacks-here}

-- the line of a ref, and of a peeled tag, as Git prints them
abbrev head_line : List ℕ
head_line = codes "e69de29bb2d1d6434b8b29ae775ad8c2e48c5391 HEAD"

abbrev tag_line : List ℕ
tag_line = codes "e69de29bb2d1d6434b8b29ae775ad8c2e48c5391\trefs/tags/v1^{}"

-- a text that isn't empty and contains no white space
pub plain_word : (n : List ℕ) → 0 < length n → list_any (λ c. c == 9) n ≡ false → list_any (λ c. c == 10) n ≡ false
    → list_any (λ c. c == 13) n ≡ false → list_any (λ c. c == 32) n ≡ false → IsOneWord n
plain_word n some tab newline return space = (
  λ none. omega (arith, some, ap length none),
  Lacks-tested 9 n tab,
  Lacks-tested 10 n newline,
  Lacks-tested 13 n return,
  Lacks-tested 32 n space,
)

-- the names in these lines
word_head : IsOneWord (codes "HEAD")
word_head = plain_word (codes "HEAD") (omega arith) refl refl refl refl

word_v1 : IsOneWord (codes "refs/tags/v1")
word_v1 = plain_word (codes "refs/tags/v1") (omega arith) refl refl refl refl

word_tag : IsOneWord (codes "refs/tags/v1^{}")
word_tag = plain_word (codes "refs/tags/v1^{}") (omega arith) refl refl refl refl

says_head : IsIdThen head_line empty_blob (codes "HEAD")
says_head = record {
  digits = codes "e69de29bb2d1d6434b8b29ae775ad8c2e48c5391";
  space = 32;
  spelled =
      IsIdText-empty_blob;
  is_space = inr refl;
  named = word_head;
  here = refl;
}

says_tag : IsIdThen tag_line empty_blob (codes "refs/tags/v1^{}")
says_tag = record {
  digits = codes "e69de29bb2d1d6434b8b29ae775ad8c2e48c5391";
  space = 9;
  spelled = IsIdText-empty_blob;
  is_space = inl refl;
  named = word_tag;
  here = refl;
}

-- a line that doesn't end with `}` isn't that of a peeled tag
abbrev last_byte : List ℕ → ℕ
last_byte l = get_or (reverse l) 0 0

no_tag : (line : List ℕ) (old : List Ref) → last_byte line ≡ 68 → IsTagLine line old → ⊥
no_tag line old ends is =
    let split : line ≡ (is.says.digits ++ (is.says.space ∷ is.tag)) ++ peeled = is.says.here
    ∙ sym (append_assoc is.says.digits (is.says.space ∷ is.tag) peeled) in
    let brace : last_byte line ≡ 125 = ap last_byte split ∙ ap (λ (l : List ℕ). get_or l 0 0)
    (reverse-append (is.says.digits ++ (is.says.space ∷ is.tag)) peeled) in
    omega (arith, ends, brace)

-- the line of HEAD is never bad, whatever is before it
pub head_kept : (old new : List Ref) (bad : List (List ℕ)) → AddsLine head_line old new bad → bad ≡ []
head_kept old new bad (inl is) = is.3
head_kept old new bad (inr (inl is)) = is.1
head_kept old new bad (inr (inr (inl tag, same, all))) = absurd (no_tag head_line old refl tag)
head_kept old new bad (inr (inr (inr none, same, all))) = absurd (none empty_blob (codes "HEAD") says_head)

-- lines that are too short for an id are bad
pub no_refs : IsNoRefLine (codes "ref: refs/heads/a\tHEAD") × IsNoRefLine (codes "e69de29b refs/heads/a")
    × IsNoRefLine []
no_refs = (
  short (codes "ref: refs/heads/a\tHEAD") (omega arith),
  short (codes "e69de29b refs/heads/a") (omega arith),
  short [] (omega arith),
)
  where
    short : (line : List ℕ) → length line < 41 → IsNoRefLine line
    short line few id name says = by_kind says.spelled.kind says.spelled.digits
      where
        long : length line ≡ length says.digits + length (says.space ∷ name)
        long = ap length says.here ∙ length-append says.digits (says.space ∷ name)

        by_kind : (kind : Kind) → length says.digits ≡ digits_of kind → ⊥
        by_kind Sha1 is = omega (arith, few, long, is)
        by_kind Sha256 is = omega (arith, few, long, is)

-- so are lines whose id has 39 or 41 digits, or is followed by neither a space nor a tab
pub no_ids : IsNoRefLine (codes "e69de29bb2d1d6434b8b29ae775ad8c2e48c539\trefs/heads/a")
    × IsNoRefLine (codes "e69de29bb2d1d6434b8b29ae775ad8c2e48c53911\tHEAD")
    × IsNoRefLine (codes "e69de29bb2d1d6434b8b29ae775ad8c2e48c5391,HEAD")
no_ids = (
  unspaced (codes "e69de29bb2d1d6434b8b29ae775ad8c2e48c539\trefs/heads/a") (omega arith) (λ tab. omega (
    arith,
    tab,
  )) (λ space. omega (arith, space)),
  unspaced (codes "e69de29bb2d1d6434b8b29ae775ad8c2e48c53911\tHEAD") (omega arith) (λ tab. omega (
    arith,
    tab,
  )) (λ space. omega (arith, space)),
  unspaced (codes "e69de29bb2d1d6434b8b29ae775ad8c2e48c5391,HEAD") (omega arith) (λ tab. omega (
    arith,
    tab,
  )) (λ space. omega (arith, space)),
)
  where
    unspaced : (line : List ℕ) → length line < 65 → get_or line 40 0 ≢ 9 → get_or line 40 0 ≢ 32 → IsNoRefLine line
    unspaced line few no_tab no_space id name says = by_kind says.spelled.kind says.spelled.digits
      where
        by_kind : (kind : Kind) → length says.digits ≡ digits_of kind → ⊥
        by_kind Sha1 is =
            let at : get_or line 40 0 ≡ says.space = (space_at line says.digits name says.space 40 is says.here).1 in
            elim says.is_space [ inl tab ↦ no_tab (at ∙ tab) | inr space ↦ no_space (at ∙ space) ]
        by_kind Sha256 is = omega (arith, few, ap length says.here, length-append says.digits (says.space ∷ name), is)

-- so are lines with an id and something other than one word: the type of an object before the name, two spaces, no
-- name, two lines, a carriage return
abbrev id_then : List ℕ → List ℕ
id_then rest = codes "e69de29bb2d1d6434b8b29ae775ad8c2e48c5391" ++ rest

pub no_words : IsNoRefLine (id_then (codes " commit\trefs/heads/a")) × IsNoRefLine (id_then (codes "  refs/heads/a"))
    × IsNoRefLine (id_then (codes " ")) × IsNoRefLine (id_then (codes "\ta\nb")) × IsNoRefLine (id_then (codes "\ta\r"))
no_words = (
  other (codes " commit\trefs/heads/a") (omega arith)
      (λ word. Lacks-here 9 (codes "commit") (codes "refs/heads/a") word.1),
  other (codes "  refs/heads/a") (omega arith) (λ word. Lacks-here 32 [] (codes "refs/heads/a") word.4),
  other (codes " ") (omega arith) (λ word. word.0 refl),
  other (codes "\ta\nb") (omega arith) (λ word. Lacks-here 10 (codes "a") (codes "b") word.2),
  other (codes "\ta\r") (omega arith) (λ word. Lacks-here 13 (codes "a") [] word.3),
)
  where
    other : (rest : List ℕ) → length (id_then rest) < 64 → ¬ (IsOneWord (drop 1 (drop 40 (id_then rest))))
        → IsNoRefLine (id_then rest)
    other rest few none id name says = by_kind says.spelled.kind says.spelled.digits
      where
        by_kind : (kind : Kind) → length says.digits ≡ digits_of kind → ⊥
        by_kind Sha1 is =
            none (subst IsOneWord
            (sym (ap (drop 1) (space_at (id_then rest) says.digits name says.space 40 is says.here).3)) says.named)
        by_kind Sha256 is = omega (arith, few, (space_at (id_then rest) says.digits name says.space 64 is says.here).0)

-- the name in the line of a peeled tag includes the suffix, after a tab as after a space
pub reported : ListsName head_line (codes "HEAD") × ListsName tag_line (codes "refs/tags/v1" ++ peeled)
reported = ((empty_blob, says_head), (empty_blob, says_tag))

-- ---- refs

abbrev pub line_of : List ℕ → List ℕ
line_of n = codes "e69de29bb2d1d6434b8b29ae775ad8c2e48c5391 " ++ n

abbrev pub blob_ref : List ℕ → Ref
blob_ref n = record { name = n; target = empty_blob; object = None }

-- a name that doesn't end with `}` is that of a ref
pub ref_line : (n : List ℕ) → IsOneWord n → last_byte n ≢ 125 → IsRefLine (line_of n) (blob_ref n)
ref_line n word other = record {
  says = record {
    digits = codes "e69de29bb2d1d6434b8b29ae775ad8c2e48c5391";
    space = 32;
    spelled = IsIdText-empty_blob;
    is_space = inr refl;
    named = word;
    here = refl;
  };
  whole = λ tag same. other (ap last_byte same ∙ ap (λ (l : List ℕ). get_or l 0 0) (reverse-append tag peeled));
  object = refl;
}

head_ref : IsRefLine head_line (blob_ref (codes "HEAD"))
head_ref = ref_line (codes "HEAD") word_head (λ same. omega (arith, same))

abbrev bad_line : List ℕ
bad_line = codes "ref: refs/heads/a\tHEAD"

abbrev tag : Ref
tag = blob_ref (codes "refs/tags/v1")

abbrev joined : Ref
joined = record tag { object = Some empty_blob }

-- ---- the last ref

pub last : IsLast (blob_ref (codes "HEAD") ∷ tag ∷ []) tag × HasLast (tag ∷ []) (codes "refs/tags/v1")
    × ¬ (HasLast (tag ∷ blob_ref (codes "HEAD") ∷ []) (codes "refs/tags/v1")) × ¬ (HasLast [] (codes "refs/tags/v1"))
last = (refl, (tag, refl, refl), first, λ has. let none : None ≡ Some has.0 = has.1 in cc)
  where
    first : ¬ (HasLast (tag ∷ blob_ref (codes "HEAD") ∷ []) (codes "refs/tags/v1"))
    first (r, is, named) =
        other_byte 0 (codes "HEAD") (codes "refs/tags/v1") (λ byte. omega (
          arith,
          byte,
        )) (ap (λ (o : Option Ref). (unwrap_or o tag).name) is ∙ named)

-- the line of the peeled tag has no other name
reports_tag : (id n : List ℕ) → IsIdThen tag_line id n → n ≡ codes "refs/tags/v1" ++ peeled
reports_tag id n says = by_kind says.spelled.kind says.spelled.digits
  where
    by_kind : (kind : Kind) → length says.digits ≡ digits_of kind → n ≡ codes "refs/tags/v1" ++ peeled
    by_kind Sha1 long =
        let same = (space_at tag_line says.digits n says.space 40 long says.here).2 in
        let here : tag_line ≡ codes "e69de29bb2d1d6434b8b29ae775ad8c2e48c5391" ++ (says.space ∷ n) = says.here
        ∙ ap (λ (d : List ℕ). d ++ (says.space ∷ n)) (sym same) in
        sym (ap (drop 1) (append_cancel_left (codes "e69de29bb2d1d6434b8b29ae775ad8c2e48c5391")
        (9 ∷ (codes "refs/tags/v1" ++ peeled)) (says.space ∷ n) here))
    by_kind Sha256 long = absurd (omega (arith, ap length says.here, length-append says.digits (says.space ∷ n), long))

-- if the tag is the last ref, this gets the object; else the line is bad
pub peels : IsPeeledLine tag_line (blob_ref (codes "HEAD") ∷ tag ∷ []) (blob_ref (codes "HEAD") ∷ joined ∷ [])
    × IsTagLine tag_line [] × IsTagLine tag_line (tag ∷ blob_ref (codes "HEAD") ∷ [])
peels = (
  record { tag = tag; id = empty_blob; says = says_tag; last = refl; joined = refl },
  record { tag = codes "refs/tags/v1"; id = empty_blob; says = says_tag; elsewhere = last.3 },
  record { tag = codes "refs/tags/v1"; id = empty_blob; says = says_tag; elsewhere = last.2 },
)

pub peels_no_other : ¬ (IsTagLine tag_line (tag ∷ []))
    × ((new : List Ref) → ¬ (IsPeeledLine tag_line (tag ∷ blob_ref (codes "HEAD") ∷ []) new))
    × ¬ (IsPeeledLine tag_line (tag ∷ []) (tag ∷ [])) × ¬ (IsRefLine tag_line (blob_ref (codes "refs/tags/v1^{}")))
peels_no_other = (right_before, not_before, unchanged, λ is. is.whole (codes "refs/tags/v1") refl)
  where
    right_before : ¬ (IsTagLine tag_line (tag ∷ []))
    right_before is = is.elsewhere (
      tag,
      refl,
      append_cancel_right (codes "refs/tags/v1") is.tag peeled (sym (reports_tag is.id (is.tag ++ peeled) is.says)),
    )

    not_before : (new : List Ref) → ¬ (IsPeeledLine tag_line (tag ∷ blob_ref (codes "HEAD") ∷ []) new)
    not_before new is =
        let named : codes "HEAD" ≡ is.tag.name = ap (λ (o : Option Ref). (unwrap_or o tag).name) is.last in
        other_byte 0 (codes "HEAD" ++ peeled) (codes "refs/tags/v1" ++ peeled) (λ byte. omega (
          arith,
          byte,
        )) (ap (λ (n : List ℕ). n ++ peeled) named ∙ reports_tag is.id (is.tag.name ++ peeled) is.says)

    unchanged : ¬ (IsPeeledLine tag_line (tag ∷ []) (tag ∷ []))
    unchanged is = let none : None ≡ Some is.id = ap (λ (l : List Ref). (get_or l 0 tag).object) is.joined in cc

-- ---- what lines make of the refs before them

pub added : AddsLine head_line (tag ∷ []) (tag ∷ blob_ref (codes "HEAD") ∷ []) []
    × AddsLine tag_line (tag ∷ []) (joined ∷ []) [] × AddsLine tag_line [] [] (tag_line ∷ [])
    × AddsLine bad_line (tag ∷ []) (tag ∷ []) (bad_line ∷ [])
added = (
  inl (blob_ref (codes "HEAD"), head_ref, refl, refl),
  inr (inl (record { tag = tag; id = empty_blob; says = says_tag; last = refl; joined = refl }, refl)),
  inr (inr (inl peels.1, refl, refl)),
  inr (inr (inr no_refs.0, refl, refl)),
)

-- a bad line is never lost, and the line of the last ref, peeled, isn't bad
pub not_added : ((old new : List Ref) → ¬ (AddsLine bad_line old new []))
    × ((new : List Ref) → ¬ (AddsLine tag_line (tag ∷ []) new (tag_line ∷ [])))
not_added = (bad_lost, good_reported)
  where
    bad_lost : (old new : List Ref) → ¬ (AddsLine bad_line old new [])
    bad_lost old new (inl (r, is, grown, none)) = no_refs.0 r.target r.name is.says
    bad_lost old new (inr (inl (is, none))) = no_refs.0 is.id (is.tag.name ++ peeled) is.says
    bad_lost old new (inr (inr (is, same, none))) = omega (arith, ap length none)

    good_reported : (new : List Ref) → ¬ (AddsLine tag_line (tag ∷ []) new (tag_line ∷ []))
    good_reported new (inl (r, is, grown, none)) = omega (arith, ap length none)
    good_reported new (inr (inl (is, none))) = omega (arith, ap length none)
    good_reported new (inr (inr (inl is, same, bad))) = peels_no_other.0 is
    good_reported new (inr (inr (inr is, same, bad))) = is empty_blob (codes "refs/tags/v1^{}") says_tag

-- several lines, with the bad ones in order
pub adds : AddsRefs (head_line ∷ bad_line ∷ line_of (codes "refs/tags/v1") ∷ tag_line ∷ [] ∷ []) []
    (blob_ref (codes "HEAD") ∷ joined ∷ []) (bad_line ∷ [] ∷ [])
adds =
    let refs = blob_ref (codes "HEAD") ∷ joined ∷ [] in
    let empty : AddsRefs ([] ∷ []) refs refs ([] ∷ []) = (
      refs,
      [] ∷ [],
      [],
      inr (inr (inr no_refs.2, refl, refl)),
      (refl, refl),
      refl,
    ) in
    let of_tag : AddsRefs (tag_line ∷ [] ∷ []) (blob_ref (codes "HEAD") ∷ tag ∷ []) refs ([] ∷ []) =
    (refs, [], [] ∷ [], inr (inl (peels.0, refl)), empty, refl) in (
      blob_ref (codes "HEAD") ∷ [],
      [],
      bad_line ∷ [] ∷ [],
      inl (blob_ref (codes "HEAD"), head_ref, refl, refl),
      (
        blob_ref (codes "HEAD") ∷ [],
        bad_line ∷ [],
        [] ∷ [],
        inr (inr (inr no_refs.0, refl, refl)),
        (
          blob_ref (codes "HEAD") ∷ tag ∷ [],
          [],
          [] ∷ [],
          inl (tag, ref_line (codes "refs/tags/v1") word_v1 (λ same. omega (arith, same)), refl, refl),
          of_tag,
          refl,
        ),
        refl,
      ),
      refl,
    )

pub none_lost : (new : List Ref) → ¬ (AddsRefs (bad_line ∷ []) [] new [])
none_lost new (more, one, rest, line, none, same) =
    not_added.0 [] more (subst (AddsLine bad_line [] more) (nothing one rest (sym same)) line)
  where
    nothing : (one rest : List (List ℕ)) → one ++ rest ≡ [] → one ≡ []
    nothing [] rest all = refl
    nothing (x ∷ one) rest all = absurd (omega (arith, ap length all))

-- the records of an input
pub report : ListsRefs 10 (head_line ++ (10 ∷ bad_line)) (blob_ref (codes "HEAD") ∷ []) (bad_line ∷ [])
    × ListsRefs 10 [] [] [] × ((refs : List Ref) → ¬ (ListsRefs 10 (bad_line ++ (10 ∷ [])) refs []))
report = (
  (
    head_line ∷ bad_line ∷ [],
    (Lacks-tested 10 head_line refl, inl (bad_line, refl, (Lacks-tested 10 bad_line refl, inr (full _ _, refl, refl)))),
    (
      blob_ref (codes "HEAD") ∷ [],
      [],
      bad_line ∷ [],
      inl (blob_ref (codes "HEAD"), head_ref, refl, refl),
      (blob_ref (codes "HEAD") ∷ [], bad_line ∷ [], [], inr (inr (inr no_refs.0, refl, refl)), (refl, refl), refl),
      refl,
    ),
  ),
  ([], refl, (refl, refl)),
  λ refs reports. none_lost refs
      (subst (λ (l : List (List ℕ)). AddsRefs l [] refs [])
      (records_once 10 reports.0 (bad_line ∷ []) (bad_line ++ (10 ∷ [])) reports.1 (
        Lacks-tested 10 bad_line refl,
        inl ([], refl, refl),
      )) reports.2),
)

-- ---- the same by names

-- the refs have the same names, whatever their ids are; bad records are appended
pub by_names : AddsListed tag_line (named (codes "refs/tags/v1") ∷ []) (named (codes "refs/tags/v1") ∷ []) ([] ∷ [])
    ([] ∷ [])
    × AddsListed tag_line [] [] ([] ∷ []) ([] ∷ tag_line ∷ []) × ListsNames 10 head_line (named (codes "HEAD") ∷ []) []
by_names = (
  AddsListed-peeled tag_line (codes "refs/tags/v1") (named (codes "refs/tags/v1") ∷ [])
      (named (codes "refs/tags/v1") ∷ []) ([] ∷ []) ([] ∷ []) (empty_blob, says_tag) (
        named (codes "refs/tags/v1"),
        refl,
        refl,
      ) refl refl,
  AddsListed-elsewhere tag_line (codes "refs/tags/v1") [] [] ([] ∷ []) ([] ∷ tag_line ∷ []) (
    empty_blob,
    says_tag,
  ) last.3 refl refl,
  (
    blob_ref (codes "HEAD") ∷ [],
    (
      head_line ∷ [],
      (Lacks-tested 10 head_line refl, inr (full _ _, refl, refl)),
      (_, [], [], inl (blob_ref (codes "HEAD"), head_ref, refl, refl), (refl, refl), refl),
    ),
    refl,
  ),
)

-- neither a ref nor a bad record is lost
pub ref_kept : ¬ (ListsNames 10 head_line [] [])
ref_kept (refs, (records, split, adds), same) =
    lost refs (nothing refs (sym same))
    (subst (λ (l : List (List ℕ)). AddsRefs l [] refs []) (records_once 10 records (head_line ∷ []) head_line split
    (Lacks-tested 10 head_line refl, inr (full _ _, refl, refl))) adds)
  where
    nothing : (refs : List Ref) → map (λ (r : Ref). r.name) refs ≡ [] → refs ≡ []
    nothing [] names = refl
    nothing (r ∷ refs) names = absurd (omega (arith, ap length names))

    lost : (refs : List Ref) → refs ≡ [] → ¬ (AddsRefs (head_line ∷ []) [] refs [])
    lost refs empty (more, one, rest, inl (r, is, grown, none), (last_one, no_more), all) =
        omega (arith, ap length (sym empty ∙ (last_one ∙ grown)))
    lost refs empty (more, one, rest, inr (inl (is, none)), (last_one, no_more), all) = let none : None ≡ Some is.tag =
        is.last in cc
    lost refs empty (more, one, rest, inr (inr (is, stays, bad)), (last_one, no_more), all) =
        omega (arith, ap length (all ∙ ap (λ (l : List (List ℕ)). l ++ rest) bad))

pub not_by_names : ((named : List Ref) → ¬ (ListsNames 10 (bad_line ++ (10 ∷ [])) named []))
    × ¬ (AddsListed bad_line [] [] [] [])
not_by_names = (
  (λ named reports. report.2 reports.0 reports.1),
  λ reported. not_added.0 [] (reported.1 [] refl).0
      (subst (AddsLine bad_line [] (reported.1 [] refl).0) (sym reported.2) (reported.1 [] refl).1),
)

-- the bytes of a bad record
pub bytes_of_bad : bad_bytes (record {
  number = 2;
  bytes = record { ref_ptr = (0, 0); now = codes "x" };
  is_peeled = true;
}) ≡ codes "x"
bytes_of_bad = refl
