-- What warnings say, on which texts, and where: of a conflict the two sources and their destination, each once, and in
-- this order.
use Rattle.std.proofs.Common.{◌≡◌, ◌∷◌, [], None, ap, arith, codes, get_or, inl, inr, length, length-append, refl}
use Rattle.std.proofs.Common.{subst, List, ℕ}
use Rattle.std.specs.List.{AllZip}
use Rattle.gix_refspec_text.specs.Texts.Bytes.{star}
use Rattle.gix_refspec_text.specs.declared.parsing.Operation.TheVariants as operation
use Rattle.gix_refspec_match.specs.Matching.Mappings.{Source, name}
use Rattle.gix_refspec_lint.specs.Matching.Lint.{Example, Nesting}
use Rattle.gix_refspec_lint.specs.declared.Reason.TheVariants as reason
use Rattle.refspec_io.specs.Texts.{Given, at_argument, at_setting}
use Rattle.refspec_commands.specs.Seen.{HasUnread, Seen, of_key}
use Rattle.refspec_commands.specs.Warned.{AreAt, FoundOrNone, AreSaidOf, AreSources, AreWithin, IsAmong, IsAtFirst}
use Rattle.refspec_commands.specs.Warned.{IsExampleMessage, IsForFetch, IsNestingMessage, IsOtherSaid, MayBeFull, Said}
use Rattle.refspec_commands.specs.Warned.{idle_name, nothing_asked, other_of}

abbrev example : Example
example = record {
  first = 0;
  second = 1;
  one = name (codes "refs/heads/a");
  other = name
      (codes "refs/tags/a");
  destination = codes "refs/x/a";
}

pub says : IsExampleMessage example
    (codes
    "A remote with refs/heads/a and refs/tags/a would write both to refs/x/a, and git fetch would write nothing.")
says = record {
  first = codes "refs/heads/a";
  second = codes "refs/tags/a";
  destination = codes "refs/x/a";
  is_first = inl refl;
  is_second = inl refl;
  is_destination = inl refl;
  is = refl;
}

pub says_something : ¬ (IsExampleMessage example [])
says_something = λ m. omega (arith, ap length m.is)

-- both specs are among two, and not among one
pub among_two : IsAmong 2 example
among_two = record { first = omega arith; second = omega arith }

pub not_among_one : ¬ (IsAmong 1 example)
not_among_one = λ among. omega (arith, among.second)

-- of a directory conflict the two sources, or the one that both are, and both destinations
abbrev nesting : Source → Nesting
nesting other = record {
  upper = 0;
  lower = 1;
  one = name (codes "refs/heads/a");
  other = other;
  directory = codes "refs/x/a";
  nested = codes "refs/x/a/b";
}

pub says_directory : IsNestingMessage (nesting (name (codes "refs/tags/b")))
    (codes
    "A remote with refs/heads/a and refs/tags/b would write refs/x/a and refs/x/a/b: one is a directory of the other, so git fetch would write one of them, and end with status 1.")
says_directory = record {
  sources = codes "A remote with refs/heads/a and refs/tags/b";
  directory = codes "refs/x/a";
  nested = codes "refs/x/a/b";
  of_sources = (
    codes "refs/heads/a",
    inl refl,
    inr (λ same. omega (arith, ap length same), codes "refs/tags/b", inl refl, refl),
  );
  is_directory = inl refl;
  is_nested = inl refl;
  is = refl;
}

pub says_one_source : AreSources (nesting (name (codes "refs/heads/a"))) (codes "A remote with refs/heads/a")
says_one_source = (codes "refs/heads/a", inl refl, inl (refl, refl))

pub says_some_source : ¬ (AreSources (nesting (name (codes "refs/tags/b"))) [])
says_some_source (first, is_first, inl (same, is)) = omega (arith, ap length is)
says_some_source (first, is_first, inr (differ, second, is_second, is)) = omega (arith, ap length is)

-- both specs are among two, and not among one
pub within_two : AreWithin 2 (nesting (name (codes "refs/tags/b")))
    × ¬ (AreWithin 1 (nesting (name (codes "refs/tags/b"))))
within_two = (record { upper = omega arith; lower = omega arith }, λ within. omega (arith, within.lower))

abbrev text : Given
text = record { spot = at_argument 1; operation = operation.Fetch; bytes = codes "main" }

-- texts by their indexes, and none beyond them
pub at_first : AreAt (text ∷ []) (0 ∷ []) (text ∷ []) × ¬ (AreAt (text ∷ []) (0 ∷ []) [])
at_first = ((refl, tt), λ are. are)

pub for_fetch : IsForFetch (text ∷ []) × ¬ (IsForFetch [])
for_fetch = (refl, λ is. is)

-- ---- idle specs

-- each reason has its name, and the index that it gives
pub named : (idle_name reason.Invalid ≡ codes "idle_invalid") × (idle_name (reason.Excluded 1) ≡ codes "idle_excluded")
    × (idle_name (reason.Duplicate 1) ≡ codes "idle_duplicate") × (idle_name reason.Duplicates ≡ codes "idle_duplicate")
named = (refl, refl, refl, refl)

pub others : (other_of reason.Invalid ≡ []) × (other_of (reason.Excluded 1) ≡ 1 ∷ [])
    × (other_of (reason.Duplicate 1) ≡ 1 ∷ [])
    × (other_of reason.Duplicates ≡ [])
others = (refl, refl, refl, refl)

-- a warning is at the location of the first of its texts
abbrev warning : Said
warning = record { name = codes "idle_exclusion"; spot = at_argument 1; texts = text ∷ []; message = [] }

pub at_its_text : IsAtFirst warning
at_its_text = (text, [], refl, refl)

pub nowhere : ¬ (IsAtFirst (record { name = []; spot = at_argument 1; texts = []; message = [] }))
nowhere = λ at. omega (arith, ap length at.2)

-- a branch and a pattern for all names may be full, a short name isn't
pub may_be_full : MayBeFull (codes "refs/heads/a") × MayBeFull (codes "HEAD") × MayBeFull (codes "*")
may_be_full = (
  inr (inl (record { after = codes "heads/a"; here = refl })),
  inl refl,
  inr (inr ([], [], refl, tt, inl (record { after = codes "refs/"; here = refl }))),
)

pub not_full : ¬ (MayBeFull (codes "a"))
not_full (inl is) = omega (arith, ap length is)
not_full (inr (inl begins)) = omega (arith, ap length begins.here)
not_full (inr (inr ([], after, is, lacks, either))) = omega (arith, ap (λ l. get_or l 0 0) is)
not_full (inr (inr (x ∷ before, after, is, lacks, either))) =
    omega (arith, ap length is, length-append before (star ∷ after))

-- other warnings have three names
pub other_said : IsOtherSaid (record { name = codes "partial_source"; spot = at_argument 1; texts = []; message = [] })
    × ¬ (IsOtherSaid warning)
other_said = (
  inr (inr refl),
  λ said. elim said [
    | inl is ↦ omega (arith, ap length is)
    | inr (inl is) ↦ omega (arith, ap length is)
    | inr (inr is) ↦ omega (arith, ap (λ l. get_or l 0 0) is)
  ],
)

-- what was found is reported where a byte is free
pub reported :
    ¬ (FoundOrNone [] (λ (found : List ℕ). found ≡ 7 ∷ []) (λ found said. AllZip (λ n s. Unit {0}) found said) [])
reported (inl (found, is, zipped)) = subst (λ (l : List ℕ). AllZip {A = ℕ} {B = Said} (λ n s. Unit {0}) l []) is zipped
reported (inr (free, none)) = free 255 (record { byte = omega arith; usable = refl; lacks = tt })

-- ---- keys

abbrev value : Seen
value = record {
  text = record { spot = at_setting [] (codes "remote.o.fetch"); operation = operation.Fetch; bytes = codes "main" };
  reading = None;
}

abbrev other : Seen
other = record { text = text; reading = None }

-- the values of a key are together, in order, and arguments have the empty one
pub by_key : (of_key (codes "remote.o.fetch") (value ∷ other ∷ value ∷ []) ≡ value ∷ value ∷ [])
    × (of_key [] (value ∷ other ∷ []) ≡ other ∷ []) × (of_key (codes "remote.p.fetch") (value ∷ other ∷ []) ≡ [])
by_key = (refl, refl, refl)

-- a refused text is noticed, and there is no warning on its group
pub unread : HasUnread (value ∷ []) × ¬ (HasUnread [])
unread = (inl refl, λ has. has)

pub silent : AreSaidOf nothing_asked (value ∷ []) []
silent = inl (inl refl, refl)
