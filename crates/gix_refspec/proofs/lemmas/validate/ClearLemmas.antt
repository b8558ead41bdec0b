-- Canonical texts of fetches contain no control character, nor do mappings, if no name of an item does.
use Rattle.gix_refspec.proofs.Common.{all_left, all_right, all_join, at, fetches_nothing_named, fetches_colon, fetches}
use Rattle.gix_refspec.proofs.Common.{updates, updates_from_head, fetch_excludes, ◌≡◌, ◌≢◌, ℕ, ◌<◌, ◌==◌, ◌||◌, Bool}
use Rattle.gix_refspec.proofs.Common.{true, false, IsTrue, if◌then◌else◌, List, [], ◌∷◌, ◌++◌, Option, None, Some}
use Rattle.gix_refspec.proofs.Common.{codes, get_or, sym, ap, ◌∙◌, subst, nat_eq, arith, AllByRecursion, list_any}
use Rattle.gix_refspec.proofs.Common.{starts_with, eqb-true, false≢true, lt-leb, lt-ltb, Lacks, star, is_refused_byte}
use Rattle.gix_refspec.proofs.Common.{IsIdText, is_lower_digit, lower_of, Reading, SideKind, pattern, full_name, object}
use Rattle.gix_refspec.proofs.Common.{partial, HasKind, filled, Ref, MatchesAs, Mapped, IsFilled, AreKeptForward}
use Rattle.gix_refspec.proofs.Common.{LacksIn, MappedLacks, NoControlCharacter, SidesLack, SourceLacks, same_Some, head}
use Rattle.gix_refspec.proofs.Common.{colon, letter, Mode, Reads, named_by, Fetch, printed, sign, begins_with_plus}
use Rattle.gix_refspec.proofs.Common.{IsPattern, IsName, InvalidByte, Normal, Forced, Negative, by_cases, some_none}
use Rattle.gix_refspec.proofs.Common.{Lacks-from_absent, Lacks-from_indexes, lower_of-digits, IsName-head, rules}
use Rattle.gix_refspec.proofs.Common.{MakesForwardOf, Source, keeps_operation, name, all_weaker, pushes_plus}
use Rattle.gix_refspec.proofs.Common.{pushes_colon, pushes, deletes, pushes_pattern, pushes_to, push_excludes}
use Rattle.gix_refspec.proofs.Common.{push_is_none, Operation, id}
use Rattle.gix_refspec.proofs.lemmas.MadeLemmas.{all_at, ForwardAt, made_at_indexes}

either_way : (b : ℕ) (v : Bool) (x y : List ℕ) → Lacks b x → Lacks b y → Lacks b (if v then x else y)
either_way b v x y first second = grind arith

module _ (b : ℕ) (below : b < 32) (refused : IsTrue (is_refused_byte b)) where
  name_lacks : (x : List ℕ) → IsName x → Lacks b x
  name_lacks x named = Lacks-from_absent b x (λ holds. named (InvalidByte b) (holds, refused))

  pattern_lacks : (x : List ℕ) → IsPattern x → Lacks b x
  pattern_lacks x starred =
      let r = starred.replaces in
      let lacks = subst (Lacks b) r.replaced (name_lacks starred.with_letter starred.name) in
      subst (Lacks b) (sym r.split.starred)
      (all_join (λ c. c ≢ b) r.before (star ∷ r.after) (all_left (λ c. c ≢ b) r.before (letter ∷ r.after) lacks)
      ((λ same. omega (arith, same, below)), (all_right (λ c. c ≢ b) r.before (letter ∷ r.after) lacks).1))

  head_lacks : Lacks b head
  head_lacks = name_lacks head IsName-head

  named_lacks : (s : List ℕ) → Lacks b s → Lacks b (named_by s)
  named_lacks [] lacks = tt
  named_lacks (c ∷ []) lacks = either_way b (c == at) head (c ∷ []) head_lacks lacks
  named_lacks (c ∷ d ∷ s) lacks = lacks

  sign_lacks : (forced : Bool) → Lacks b (sign forced)
  sign_lacks forced = grind arith

  forced_lacks : (forced : Bool) (s d : List ℕ) → Lacks b s → Lacks b d → Lacks b (sign forced ++ (s ++ (colon ∷ d)))
  forced_lacks forced s d source destination = all_join (λ c. c ≢ b) (sign forced) (s ++ (colon ∷ d))
      (sign_lacks forced)
      (all_join (λ c. c ≢ b) s (colon ∷ d) source ((λ same. omega (arith, same, below)), destination))

  fetch_lacks : (mode : Mode) (s d : Option (List ℕ)) (t : List ℕ) → LacksIn b s → LacksIn b d
      → printed (record { operation = Fetch; mode = mode; source = s; destination = d }) ≡ Some t → Lacks b t
  fetch_lacks Negative (Some s) None t source destination is = subst (Lacks b) (same_Some _ t is)
      ((λ same. omega (arith, same, below)), source)
  fetch_lacks Normal (Some s) (Some d) t source destination is = subst (Lacks b) (same_Some _ t is)
      (forced_lacks false s d source destination)
  fetch_lacks Forced (Some s) (Some d) t source destination is = subst (Lacks b) (same_Some _ t is)
      (forced_lacks true s d source destination)
  fetch_lacks Normal (Some s) None t source destination is = subst (Lacks b) (same_Some _ t is)
      (all_join (λ c. c ≢ b) (sign (begins_with_plus s)) s (sign_lacks (begins_with_plus s)) source)
  fetch_lacks Forced (Some s) None t source destination is = subst (Lacks b) (same_Some _ t is)
      (all_join (λ c. c ≢ b) (sign (begins_with_plus s)) s (sign_lacks (begins_with_plus s)) source)
  fetch_lacks mode s d t source destination is = absurd (cc)

  sides_lack : (text : List ℕ) (r : Reading) → Reads Fetch text r → SidesLack b r
  sides_lack text r (fetches_nothing_named mode op positive parts is) = rw is (head_lacks, tt)
  sides_lack text r (fetches_colon mode op positive parts is) = rw is (head_lacks, tt)
  sides_lack text r (fetches mode s op positive parts named is) = rw is (named_lacks s (name_lacks s named), tt)
  sides_lack text r (updates mode s d op positive parts alike is) =
      rw is (by_cases alike (λ both. (named_lacks s (name_lacks s both.0), name_lacks d both.1))
      (λ both. (named_lacks s (pattern_lacks s both.0), pattern_lacks d both.1)))
  sides_lack text r (updates_from_head mode d op positive parts named is) = rw is (head_lacks, name_lacks d named)
  sides_lack text r (fetch_excludes s op parts either unlike is) =
      rw is (named_lacks s (by_cases either (name_lacks s) (pattern_lacks s)), tt)
  sides_lack text r (pushes_plus op parts is) = absurd (push_is_none (sym op))
  sides_lack text r (pushes_colon mode op positive parts is) = absurd (push_is_none (sym op))
  sides_lack text r (pushes mode s op positive parts either is) = absurd (push_is_none (sym op))
  sides_lack text r (deletes mode d op positive parts named is) = absurd (push_is_none (sym op))
  sides_lack text r (pushes_pattern mode s d op positive parts source destination is) = absurd (push_is_none (sym op))
  sides_lack text r (pushes_to mode s d op positive parts full lacks named is) = absurd (push_is_none (sym op))
  sides_lack text r (push_excludes s op parts either unlike is) = absurd (push_is_none (sym op))

  printed_lacks : (text : List ℕ) (r : Reading) (t : List ℕ) → Reads Fetch text r → printed r ≡ Some t → Lacks b t
  printed_lacks text r t reads prints =
      let sides = sides_lack text r reads in
      fetch_lacks r.mode r.source r.destination t sides.0 sides.1
      (subst (λ (op : Operation). printed
      (record { operation = op; mode = r.mode; source = r.source; destination = r.destination }) ≡ Some t)
      (keeps_operation Fetch text r reads) prints)

module _ (b : ℕ) (below : b < 32) (no_digit : is_lower_digit b ≡ false) where
  lower_lacks : (t i : List ℕ) → IsIdText t i → Lacks b (lower_of i)
  lower_lacks t i text =
      let lower = lower_of-digits t i text in
      Lacks-from_indexes b (lower_of i)
      (λ k inside same. false≢true
      (sym no_digit ∙ ap is_lower_digit (sym (eqb-true (get_or (lower_of i) k 0) b same)) ∙ lower k 0 inside))

  filled_lacks : (x : List ℕ) (kind : SideKind) (word : Option (List ℕ)) → HasKind x kind → Lacks b x → LacksIn b word
      → Lacks b (filled kind word)
  filled_lacks x (pattern before after) None split lacks clear = subst (Lacks b) split.starred lacks
  filled_lacks x (pattern before after) (Some w) split lacks clear =
      let all = subst (Lacks b) split.starred lacks in
      all_join (λ c. c ≢ b) before (w ++ after) (all_left (λ c. c ≢ b) before (star ∷ after) all)
      (all_join (λ c. c ≢ b) w after clear (all_right (λ c. c ≢ b) before (star ∷ after) all).1)
  filled_lacks x (full_name n) word has lacks clear = subst (Lacks b) (sym has.0) lacks
  filled_lacks x (object i) word has lacks clear = all_join (λ c. c ≢ b) (codes "refs/heads/") (lower_of i)
      (search arith) (lower_lacks x i has.2)
  filled_lacks x (partial n) word has lacks clear =
      let named = subst (Lacks b) (sym has.0) lacks in
      either_way b (starts_with nat_eq n (codes "tags/") || starts_with nat_eq n (codes "remotes/"))
      (codes "refs/" ++ n) (codes "refs/heads/" ++ n)
      (all_join (λ c. c ≢ b) (codes "refs/") n (search arith) named)
      (all_join (λ c. c ≢ b) (codes "refs/heads/") n (search arith) named)

  word_lacks : (kind : SideKind) (r : Ref) (word : Option (List ℕ)) → MatchesAs kind r word → Lacks b r.name
      → LacksIn b word
  word_lacks kind r None is lacks = tt
  word_lacks (pattern before after) r (Some w) is lacks = all_left (λ c. c ≢ b) w after
      (all_right (λ c. c ≢ b) before (w ++ after) (subst (Lacks b) is lacks))
  word_lacks kind r (Some w) is lacks = absurd (some_none w is.0)

  far_lacks : (far word n : Option (List ℕ)) → IsFilled far word n → LacksIn b far → LacksIn b word → LacksIn b n
  far_lacks None word n is lacks clear = subst (LacksIn b) (sym is) tt
  far_lacks (Some x) word n (kind, has, is) lacks clear = subst (LacksIn b) (sym is)
      (filled_lacks x kind word has lacks clear)

  made_lacks : (items : List Ref) (item : Option ℕ) (s : Source) (far : Option (List ℕ)) (r : Reading)
      → AllByRecursion (λ x. Lacks b x.name) items → SidesLack b r
      → MakesForwardOf items item s far r → SourceLacks b s × LacksIn b far
  made_lacks items item (name n) far r names sides at =
      let clear = all_at (λ x. Lacks b x.name) items at.index at.ref names at.stands in
      let word = word_lacks at.paired.takes.matches.kind at.ref at.paired.word at.paired.takes.matches.is clear in (
        subst (Lacks b) at.paired.name clear,
        far_lacks at.ends.far at.paired.word far at.paired.becomes
            (subst (LacksIn b) at.has.far sides.1) word,
      )
  made_lacks items item (id i) far r names sides (none, made) =
      (lower_lacks made.text i made.object.2, far_lacks r.destination None far made.becomes sides.1 tt)

  kept_lacks : (g : List Reading) (items : List Ref) (l : List Mapped) → AllByRecursion (SidesLack b) g
      → AllByRecursion (λ r. Lacks b r.name) items → AreKeptForward g items l → AllByRecursion (MappedLacks b) l
  kept_lacks g items l sides names kept =
      all_weaker (ForwardAt g items) (MappedLacks b)
      (λ m (r, is, at). made_lacks items m.item m.source m.destination r names
      (all_at (SidesLack b) g m.spec r sides is) at) l ((made_at_indexes g items).forward l kept)

-- a name contains no control character, and no digit is one
control_refused : (b : ℕ) → b < 32 → IsTrue (is_refused_byte b)
control_refused b below = ap (λ t. t || b == 127 || list_any (λ c. b == c) (codes " ~^:?[\\")) (lt-ltb b 32 below)

control_no_digit : (b : ℕ) → b < 32 → is_lower_digit b ≡ false
control_no_digit b below = search (rules, is_lower_digit, lt-leb)

pub no_control_character : NoControlCharacter
no_control_character = search (rules, sides_lack, printed_lacks, kept_lacks, control_refused, control_no_digit)
