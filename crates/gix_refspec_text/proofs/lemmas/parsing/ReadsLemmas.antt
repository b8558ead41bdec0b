-- A text with valid parts has the reading with their sides, and each text with a reading has valid parts.
use Rattle.gix_refspec_text.proofs.Common.{[], arith, ◌≡◌, ◌≢◌, inl, inr, ℕ, List, ◌∷◌, Option, None, Some, option_map}
use Rattle.gix_refspec_text.proofs.Common.{unwrap_or, refl, ap, subst, Empty, Operation, Push, Fetch, Shape, Plain}
use Rattle.gix_refspec_text.proofs.Common.{Pattern, IsName, IsPattern, Mode, Normal, Forced, Negative, Reading, Refusal}
use Rattle.gix_refspec_text.proofs.Common.{Never, IsFirstReason, IsRefused, MayNeedMemory, named_by, IsPositive}
use Rattle.gix_refspec_text.proofs.Common.{IsNameOrPattern, LooksLikeObjectHash, AreAlike, AreParts, fetched, pushed}
use Rattle.gix_refspec_text.proofs.Common.{Reads, fetches_nothing_named, fetches_colon, fetches, updates}
use Rattle.gix_refspec_text.proofs.Common.{updates_from_head, fetch_excludes, pushes_plus, pushes_colon, pushes}
use Rattle.gix_refspec_text.proofs.Common.{deletes, pushes_pattern, pushes_to, push_excludes, mode_of, IsErrorOf}
use Rattle.gix_refspec_text.proofs.Common.{HasShape, HasCheckedShape, side_of, named_or_head, destination_of, HasParts}
use Rattle.gix_refspec_text.proofs.Common.{IsErrorAgainst, bstr_bytes}
use Rattle.gix_refspec_text.proofs.lemmas.parsing.SideLemmas.{checked_starred, empty_no_pattern}
use Rattle.gix_refspec_text.proofs.lemmas.parsing.PartsLemmas.{parts_once}
use Rattle.gix_refspec_text.proofs.lemmas.parsing.ReasonLemmas.{MemoryOr-map, fetch_source_fine, push_source_fine}
use Rattle.gix_refspec_text.proofs.lemmas.parsing.ReasonLemmas.{alone_fine, destination_fine, sides_balanced}
use Rattle.gix_refspec_text.specs.Private.Sides.{AreSidesOf}
use Rattle.gix_refspec_text.specs.declared.parsing.Error.{Error}
use Rattle.gix_refspec_text.specs.declared.parsing.reading.Parts.{Parts}
use Rattle.gix_refspec_text.specs.declared.parsing.reading.Sides.{Sides}

pub side_of-named : (b : ℕ) (bs : List ℕ) → side_of (named_by (b ∷ bs)) ≡ Some (named_by (b ∷ bs))
side_of-named b bs = grind arith

pub fetch_reads : (m : Mode) (s : List ℕ) (d : Option (List ℕ)) (k : Shape) (text : List ℕ) → IsPositive m
    → HasCheckedShape s k → HasCheckedShape (unwrap_or d []) k → AreParts m s d text
    → Reads Fetch text (fetched m (named_or_head s) (side_of (unwrap_or d [])))
fetch_reads m [] None k text pos a b parts = fetches_nothing_named m refl pos parts refl
fetch_reads m [] (Some []) k text pos a b parts = fetches_colon m refl pos parts refl
fetch_reads m [] (Some (c ∷ cs)) Plain text pos a b parts = updates_from_head m (c ∷ cs) refl pos parts b refl
fetch_reads m (x ∷ xs) None Plain text pos a b parts = fetches m (x ∷ xs) refl pos (inl parts) a refl
fetch_reads m (x ∷ xs) (Some []) Plain text pos a b parts = fetches m (x ∷ xs) refl pos (inr parts) a refl
fetch_reads m (x ∷ xs) (Some (c ∷ cs)) Plain text pos a b parts = updates m (x ∷ xs) (c ∷ cs) refl pos parts
    (inl (a, b)) refl
fetch_reads m (x ∷ xs) (Some (c ∷ cs)) Pattern text pos a b parts = updates m (x ∷ xs) (c ∷ cs) refl pos parts
    (inr (a, b)) refl
fetch_reads m s d k text pos a b parts = absurd (search empty_no_pattern)

checked_name_or_pattern : (b : ℕ) (bs : List ℕ) (k : Shape) → HasCheckedShape (b ∷ bs) k → IsNameOrPattern (b ∷ bs)
checked_name_or_pattern b bs k fine = grind arith

pub push_alone_reads : (m : Mode) (s : List ℕ) (k : Shape) (text : List ℕ) → IsPositive m → (s ≡ [] → m ≡ Normal → ⊥)
    → HasCheckedShape s k → AreParts m s None text → Reads Push text (pushed m (side_of (named_by s)) None)
push_alone_reads Normal [] k text pos full a parts = absurd (full refl refl)
push_alone_reads Forced [] k text pos full a parts = pushes_plus refl parts refl
push_alone_reads Negative [] k text pos full a parts = absurd pos
push_alone_reads m (x ∷ xs) k text pos full a parts = pushes m (x ∷ xs) refl pos parts
    (checked_name_or_pattern x xs k a) (ap (λ (s : Option (List ℕ)). pushed m s None) (side_of-named x xs))

pub push_reads : (m : Mode) (s d : List ℕ) (k : Shape) (text : List ℕ) → IsPositive m → (s ≢ [] → d ≡ [] → ⊥)
    → HasShape s k → HasCheckedShape d k → AreParts m s (Some d) text
    → Reads Push text (pushed m (side_of (named_by s)) (side_of d))
push_reads m [] [] k text pos somewhere a b parts = pushes_colon m refl pos parts refl
push_reads m [] (c ∷ cs) Plain text pos somewhere a b parts = deletes m (c ∷ cs) refl pos parts b refl
push_reads m [] (c ∷ cs) Pattern text pos somewhere a b parts = absurd (empty_no_pattern a)
push_reads m (x ∷ xs) [] k text pos somewhere a b parts = absurd (somewhere (λ e. cc) refl)
push_reads m (x ∷ xs) (c ∷ cs) Plain text pos somewhere a b parts = pushes_to m (x ∷ xs) (c ∷ cs) refl pos parts
    (λ e. cc) a b (ap (λ (s : Option (List ℕ)). pushed m s (Some (c ∷ cs))) (side_of-named x xs))
push_reads m (x ∷ xs) (c ∷ cs) Pattern text pos somewhere a b parts = pushes_pattern m (x ∷ xs) (c ∷ cs) refl pos parts
    a b (ap (λ (s : Option (List ℕ)). pushed m s (Some (c ∷ cs))) (side_of-named x xs))

pub negative_reads : (op : Operation) (s : List ℕ) (k : Shape) (text : List ℕ) → s ≢ [] → HasCheckedShape s k
    → ¬ (LooksLikeObjectHash s) → AreParts Negative s None text
    → Reads op text (record { operation = op; mode = Negative; source = side_of (named_by s); destination = None })
negative_reads op [] k text full a hash parts = absurd (full refl)
negative_reads Push (x ∷ xs) k text full a hash parts = push_excludes (x ∷ xs) refl parts
    (checked_name_or_pattern x xs k a) hash (ap (λ (s : Option (List ℕ)). pushed Negative s None) (side_of-named x xs))
negative_reads Fetch (x ∷ xs) k text full a hash parts = fetch_excludes (x ∷ xs) refl parts
    (checked_name_or_pattern x xs k a) hash
    (ap (λ (s : Option (List ℕ)). record { operation = Fetch; mode = Negative; source = s; destination = None })
    (side_of-named x xs))

-- parts that have a reading: of a positive fetch with sides of one shape, of a positive push of a source alone or with
-- sides of one shape, and of a negative spec whose source doesn't look like an object hash
pub data AreFine (op : Operation) (m : Mode) (s : List ℕ) (d : Option (List ℕ)) : Type 0 where
  fine_fetch : (k : Shape) → op ≡ Fetch → IsPositive m → HasCheckedShape s k → HasCheckedShape (unwrap_or d []) k
      → AreFine op m s d
  fine_alone : (k : Shape) → op ≡ Push → IsPositive m → d ≡ None → (s ≡ [] → m ≡ Normal → ⊥) → HasCheckedShape s k
      → AreFine op m s d
  fine_push : (k : Shape) (t : List ℕ) → op ≡ Push → IsPositive m → d ≡ Some t → (s ≢ [] → t ≡ [] → ⊥) → HasShape s k
      → HasCheckedShape t k → AreFine op m s d
  fine_negative : (k : Shape) → m ≡ Negative → d ≡ None → s ≢ [] → HasCheckedShape s k → ¬ (LooksLikeObjectHash s)
      → AreFine op m s d

-- the source of the reading that parts make, and that reading
abbrev pub source_of : Operation → List ℕ → Option (List ℕ)
source_of Fetch s = Some (named_or_head s)
source_of Push s = side_of (named_by s)

abbrev pub made : Operation → Mode → List ℕ → Option (List ℕ) → Reading
made op m s d = record { operation = op; mode = m; source = source_of op s; destination = side_of (unwrap_or d []) }

pub source_named : (op : Operation) (s : List ℕ) → s ≢ [] → source_of op s ≡ side_of (named_by s)
source_named op s full = grind arith

pub fine_reads : (op : Operation) (m : Mode) (s : List ℕ) (d : Option (List ℕ)) (text : List ℕ)
    → AreFine op m s d → AreParts m s d text → Reads op text (made op m s d)
fine_reads op m s d x (fine_fetch k fetch pos a b) p = rw fetch (fetch_reads m s d k x pos a b p)
fine_reads op m s d x (fine_alone k push pos none full a) p =
    rw (push, none) (push_alone_reads m s k x pos full a (rw none at p))
fine_reads op m s d x (fine_push k t push pos is somewhere a b) p =
    rw (push, is) (push_reads m s t k x pos somewhere a b (rw is at p))
fine_reads op m s d x (fine_negative k minus none full a hash) p =
    rw (minus, none, source_named op s full) (negative_reads op s k x full a hash (rw (minus, none) at p))

pub sides_read : (p : Parts) (sides : Sides) → AreFine p.operation (mode_of p.mode) p.source.now (destination_of p)
    → option_map bstr_bytes sides.source ≡ source_of p.operation p.source.now
    → option_map bstr_bytes sides.destination ≡ side_of (unwrap_or (destination_of p) []) → AreSidesOf p sides
sides_read p sides fine source destination text parts = rw (source, destination)
    (fine_reads p.operation (mode_of p.mode) p.source.now (destination_of p) text fine parts)

pub checked_name : (x : List ℕ) → IsName x → HasCheckedShape x Plain
checked_name x name = grind arith

checked_from_pattern : (x : List ℕ) → IsPattern x → HasCheckedShape x Pattern
checked_from_pattern x pattern = grind arith

checked_either : (x : List ℕ) → IsNameOrPattern x → (k : Shape) × HasCheckedShape x k
checked_either x either = grind arith

pub name_not_empty : (x : List ℕ) → IsName x → x ≢ []
name_not_empty x name empty = name Empty empty

pub pattern_not_empty : (x : List ℕ) → IsPattern x → x ≢ []
pattern_not_empty x pattern empty = empty_no_pattern (subst IsPattern empty pattern)

pub either_not_empty : (x : List ℕ) → IsNameOrPattern x → x ≢ []
either_not_empty x (inl name) = name_not_empty x name
either_not_empty x (inr pattern) = pattern_not_empty x pattern

pub alike_full : (s d : List ℕ) → AreAlike s d → (s ≢ []) × (d ≢ [])
alike_full s d (inl names) = (name_not_empty s names.0, name_not_empty d names.1)
alike_full s d (inr patterns) = (pattern_not_empty s patterns.0, pattern_not_empty d patterns.1)

alike_fine : (op : Operation) (m : Mode) (s d : List ℕ) → op ≡ Fetch → IsPositive m → AreAlike s d
    → AreFine op m s (Some d)
alike_fine op m s d fetch pos (inl names) = fine_fetch Plain fetch pos (checked_name s names.0) (checked_name d names.1)
alike_fine op m s d fetch pos (inr patterns) = fine_fetch Pattern fetch pos (checked_from_pattern s patterns.0)
    (checked_from_pattern d patterns.1)

-- a text with its parts, which are valid and make the reading r
abbrev pub FineParts : Operation → List ℕ → Reading → Type 0
FineParts op text r = (m : Mode) × (s : List ℕ) × (d : Option (List ℕ)) × AreParts m s d text × AreFine op m s d
    × (r ≡ made op m s d)

source_full : (op : Operation) (s : List ℕ) → s ≢ [] → source_of op s ≡ Some (named_by s)
source_full op s full = grind arith

pub side_of-full : (s : List ℕ) → s ≢ [] → side_of s ≡ Some s
side_of-full s full = grind arith

pub fine_parts : (op : Operation) (text : List ℕ) (r : Reading) → Reads op text r → FineParts op text r
fine_parts op x r (fetches_nothing_named m f pos p is) = (m, [], None, p, fine_fetch Plain f pos tt tt, rw f is)
fine_parts op x r (fetches_colon m f pos p is) = (m, [], Some [], p, fine_fetch Plain f pos tt tt, rw f is)
fine_parts op x r (fetches m s f pos (inl p) name is) = (
  m,
  s,
  None,
  p,
  fine_fetch Plain f pos (checked_name s name) tt,
  rw (source_full op s (name_not_empty s name), f) is,
)
fine_parts op x r (fetches m s f pos (inr p) name is) = (
  m,
  s,
  Some [],
  p,
  fine_fetch Plain f pos (checked_name s name) tt,
  rw (source_full op s (name_not_empty s name), f)
      is,
)
fine_parts op x r (updates m s d f pos p alike is) =
    let full = alike_full s d alike in
    (m, s, Some d, p, alike_fine op m s d f pos alike, rw (source_full op s full.0, side_of-full d full.1, f) is)
fine_parts op x r (updates_from_head m d f pos p name is) = (
  m,
  [],
  Some d,
  p,
  fine_fetch Plain f pos tt (checked_name d name),
  rw (side_of-full d (name_not_empty d name), f) is,
)
fine_parts op x r (fetch_excludes s f p either hash is) =
    let full = either_not_empty s either in
    let side = checked_either s either in
    (Negative, s, None, p, fine_negative side.0 refl refl full side.1 hash, rw (source_full op s full, f) is)
fine_parts op x r (pushes_plus f p is) = (Forced, [], None, p, fine_alone Plain f tt refl (λ _ forced. cc) tt, rw f is)
fine_parts op x r (pushes_colon m f pos p is) =
    (m, [], Some [], p, fine_push Plain [] f pos refl (λ full _. full refl) tt tt, rw f is)
fine_parts op x r (pushes m s f pos p either is) =
    let full = either_not_empty s either in
    let side = checked_either s either in
    (m, s, None, p, fine_alone side.0 f pos refl (λ empty _. full empty) side.1, rw (source_full op s full, f) is)
fine_parts op x r (deletes m d f pos p name is) = (
  m,
  [],
  Some d,
  p,
  fine_push Plain d f pos refl (λ full _. full refl) tt (checked_name d name),
  rw (side_of-full d (name_not_empty d name), f) is,
)
fine_parts op x r (pushes_pattern m s d f pos p of_s of_d is) =
    let full = pattern_not_empty d of_d in (
      m,
      s,
      Some d,
      p,
      fine_push Pattern d f pos refl (λ _ empty. full empty) of_s (checked_from_pattern d of_d),
      rw (source_full op s (pattern_not_empty s of_s), side_of-full d full, f) is,
    )
fine_parts op x r (pushes_to m s d f pos p some plain name is) =
    let full = name_not_empty d name in (
      m,
      s,
      Some d,
      p,
      fine_push Plain d f pos refl (λ _ empty. full empty) plain (checked_name d name),
      rw (source_full op s some, side_of-full d full, f) is,
    )
fine_parts op x r (push_excludes s f p either hash is) =
    let full = either_not_empty s either in
    let side = checked_either s either in
    (Negative, s, None, p, fine_negative side.0 refl refl full side.1 hash, rw (source_full op s full, f) is)

pub no_reason : (op : Operation) (m : Mode) (s : List ℕ) (d : Option (List ℕ)) → AreFine op m s d
    → Never (IsFirstReason op m s d)
no_reason op m s d h e = grind (
  arith,
  destination_fine,
  sides_balanced,
  checked_starred,
  alone_fine,
  push_source_fine,
  fetch_source_fine,
)

pub refused : (op : Operation) (m : Mode) (s : List ℕ) (d : Option (List ℕ)) (text : List ℕ) (e : Refusal)
    → AreParts m s d text → IsFirstReason op m s d e → IsRefused op text e
refused op m s d text e parts first =
    let unread = λ (r : Reading) (reads : Reads op text r).
    let (n, t, g, again, fine, is) = fine_parts op text r reads in
    let same = parts_once m n s t d g text parts again in
    no_reason op n t g fine e (rw (same.mode, same.source, same.destination) at first) in
    record { unread = unread; mode = m; source = s; destination = d; parts = parts; first = first }

pub error_of_text : (p : Parts) (bytes text : List ℕ) (e : Error) → bytes ≡ text → HasParts bytes p → IsErrorAgainst p e
    → IsErrorOf p.operation text e
error_of_text p bytes text e same split told =
    let parts = subst (λ (x : List ℕ). HasParts x p) same split in
    MemoryOr-map _ (MayNeedMemory p.operation text) _ (IsRefused p.operation text) e
    (λ reaches. record {
      mode = mode_of p.mode;
      source = p.source.now;
      destination = destination_of p;
      parts = parts;
      reaches = reaches;
    }) (λ f first. refused p.operation _ _ _ text f parts first) told
