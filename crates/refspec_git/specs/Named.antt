-- The refs that the arguments of `git refspec track` name, by gitrevisions(7), and what Git is asked to find them.
use Rattle.std.specs.Prelude.{◌≡◌, ◌≢◌, ◌⊎◌, ◌↔◌, ◌+◌, ℕ, Bool, true, false, IsTrue, List, [], ◌∷◌, ◌++◌, MatchOption}
use Rattle.std.specs.Prelude.{Option, None, Some, codes, cond, drop, is_some, map, option_map, ⊤}
use Rattle.std.specs.BTreeMap.{BTreeMap}
use Rattle.std.specs.BTreeSet.{contains_by}
use Rattle.std.specs.Borrow.{Bor}
use Rattle.std.specs.Char.{is_whitespace}
use Rattle.std.specs.Cmp.Lexicographic.{slice_cmp}
use Rattle.std.specs.Global.{Vec}
use Rattle.std.specs.List.{All, AllZip, Any, Contains, flat_map}
use Rattle.std.specs.Ordering.{nat_cmp}
use Rattle.bstr.specs.Trim.{trim_end_by}
use Rattle.gix_refspec_text.specs.Matching.Side.{candidates}
use Rattle.gix_refspec_text.specs.Texts.Words.{BeginsWith}
use Rattle.refspec_commands.specs.declared.tracking.question.Remote.{Remote}
use Rattle.refspec_request.specs.declared.ask.GitCall.TheVariants as call
use Rattle.refspec_request.specs.declared.refusal.Refusal.{Refusal}
use Rattle.refspec_request.specs.declared.refusal.Refusal.TheVariants as refusal
use Rattle.refspec_request.specs.Calls.{in_lines, refs_arguments, requested}
use Rattle.refspec_git.specs.declared.answer.Stop.{Stop}
use Rattle.refspec_git.specs.declared.answer.Stop.TheVariants as stop
use Rattle.refspec_git.specs.declared.named.NamedRef.{NamedRef}
use Rattle.refspec_git.specs.declared.named.Names.{Names}
use Rattle.refspec_git.specs.declared.refs.Meaning.{Meaning}
use Rattle.refspec_git.specs.declared.refs.Meaning.TheVariants as meaning
use Rattle.refspec_git.specs.Refs.{AreExisting, IsLookedUp, IsMeant, ref_at}

-- the first of some elements for which P holds; for those before it Q does
pub record HasFirst {X : Type 0} (Q P : X → Type 0) (xs : List X) : Type 0 where
  pub before : List X
  pub at : X
  pub behind : List X
  pub parts : xs ≡ before ++ at ∷ behind
  pub passed : All Q before
  pub holds : P at

-- what an argument names; Git prints something for an expression alone
pub record IsNamed (a : Bor (List ℕ)) (n : NamedRef) : Type 0 where
  pub argument : n.argument ≡ a
  pub meant : IsMeant a.now n.meaning
  pub good : n.meaning ≢ meaning.Bad
  pub printed : (n.meaning ≡ meaning.Expression) ⊎ (n.printed ≡ None)

-- it can't name a ref
abbrev pub IsBad : Bor (List ℕ) → Type 0
IsBad a = IsMeant a.now meaning.Bad

-- why an argument is refused, unless a file fails, or memory runs out
abbrev pub RefusesName : Bor (List ℕ) → Stop → Type 0
RefusesName a (stop.Refused e) = (e ≡ refusal.NoRefName a) × IsBad a
RefusesName a (stop.Failed fault) = ⊤

-- the same for the first of all arguments that is refused
abbrev pub RefusesNamed : List (Bor (List ℕ)) → Stop → Type 0
RefusesNamed arguments (stop.Refused e) =
    HasFirst (λ a. ¬ (IsBad a)) (λ a. RefusesName a (stop.Refused e)) arguments
RefusesNamed arguments (stop.Failed fault) = ⊤

-- Git is still to be asked for the full name of an argument
abbrev pub needs : Meaning → Bool
needs meaning.Expression = true
needs _ = false

abbrev pub needs_name : NamedRef → Bool
needs_name n = cond (is_some n.printed) false (needs n.meaning)

-- the lines that ask for it
abbrev pub name_lines : ℕ → NamedRef → List ℕ
name_lines k n = cond (needs_name n) (requested (call.FullName k n.argument)) []

-- the same for all arguments, of which the first has this index
abbrev pub name_lines_from : ℕ → List NamedRef → List ℕ
name_lines_from k [] = []
name_lines_from k (n ∷ named) = name_lines k n ++ name_lines_from (k + 1) named

-- the names of the refs that an argument may mean: a full name itself, and what Git completes a partial one to
abbrev pub listed_as : Meaning → List ℕ → List (List ℕ)
listed_as meaning.Full a = a ∷ []
listed_as meaning.Short a = drop 1 (candidates a)
listed_as _ a = []

abbrev pub listed_for : NamedRef → List (List ℕ)
listed_for n = listed_as n.meaning n.argument.now

-- the lines that ask for refs of these names, if there are any
abbrev pub refs_lines : List (List ℕ) → List ℕ
refs_lines [] = []
refs_lines (n ∷ names) = in_lines (refs_arguments (n ∷ names)) ++ (10 ∷ [])

-- the lines that ask for what Git hasn't printed
abbrev pub asked_lines : List NamedRef → Option (List ℕ) → List ℕ
asked_lines named (Some refs) = name_lines_from 0 named
asked_lines named None = name_lines_from 0 named ++ refs_lines (flat_map listed_for named)

-- white space, of which a full name has none
abbrev pub name_in : Option (List ℕ) → List ℕ
name_in None = []
name_in (Some printed) = trim_end_by is_whitespace printed

-- the name that Git printed for an argument; nothing before it was asked, or if there is none
abbrev pub name_printed : NamedRef → List ℕ
name_printed n = name_in (option_map (λ p. p.items) n.printed)

abbrev pub IsPrinted : NamedRef → List ℕ → Type 0
IsPrinted n name = (name ≡ name_printed n) × (name ≢ [])

-- whether there is a ref of this name
abbrev pub has_ref : BTreeMap (Bor (List ℕ)) (Bor (List ℕ)) → List ℕ → Bool
has_ref refs name = is_some (ref_at name refs)

-- the first of some names that a ref has
abbrev pub first_in : BTreeMap (Bor (List ℕ)) (Bor (List ℕ)) → List (List ℕ) → Option (List ℕ)
first_in refs [] = None
first_in refs (n ∷ names) = cond (has_ref refs n) (Some n) (first_in refs names)

-- a partial name that begins with the name of a folder
abbrev pub IsBelow : List ℕ → Type 0
IsBelow a = BeginsWith (codes "heads/") a ⊎ BeginsWith (codes "tags/") a ⊎ BeginsWith (codes "remotes/") a

-- a path is the name of a remote, a slash and this
abbrev pub IsBranchBelow : List ℕ → Remote → List ℕ → Type 0
IsBranchBelow path remote branch =
    MatchOption remote.name ⊥ (λ name. (path ≡ name.now ++ (47 ∷ branch)) × (branch ≢ []))

abbrev pub IsAbove : List ℕ → Remote → Type 0
IsAbove path remote = (branch : List ℕ) × IsBranchBelow path remote branch

-- the folder in which a ref would be whose partial name this is
abbrev pub IsFolder : List Remote → List ℕ → List ℕ → Type 0
IsFolder remotes a folder =
    (IsBelow a × (folder ≡ codes "refs/"))
    ⊎ (¬ (IsBelow a) × Any (IsAbove a) remotes × (folder ≡ codes "refs/remotes/"))
    ⊎ (¬ (IsBelow a) × All (λ r. ¬ (IsAbove a r)) remotes × (folder ≡ codes "refs/heads/"))

-- what Git completes a partial name to: the first candidate that is a ref, or its target; else a name in this folder
abbrev pub IsCompleted : BTreeMap (Bor (List ℕ)) (Bor (List ℕ)) → List Remote → List ℕ → List ℕ → Type 0
IsCompleted refs remotes a name = MatchOption (first_in refs (candidates a))
    ((folder : List ℕ) × IsFolder remotes a folder × (name ≡ folder ++ a))
    (λ first. IsLookedUp refs first name)

-- the full name of the ref that an argument names
abbrev pub IsFoundAs : Meaning → BTreeMap (Bor (List ℕ)) (Bor (List ℕ)) → List Remote → NamedRef → List ℕ → Type 0
IsFoundAs meaning.Expression refs remotes n name = IsPrinted n name
IsFoundAs meaning.Short refs remotes n name = IsCompleted refs remotes n.argument.now name
IsFoundAs _ refs remotes n name = IsLookedUp refs n.argument.now name

abbrev pub IsFound : BTreeMap (Bor (List ℕ)) (Bor (List ℕ)) → List Remote → NamedRef → List ℕ → Type 0
IsFound refs remotes n name = IsFoundAs n.meaning refs remotes n name

-- the texts of a list that are neither among these nor before in the list, in order
abbrev pub AreNew : List (List ℕ) → List (List ℕ) → List (List ℕ) → Type 0
AreNew before [] new = new ≡ []
AreNew before (x ∷ xs) new =
    (Contains before x × AreNew before xs new)
    ⊎ (¬ (Contains before x) × (rest : List (List ℕ)) × AreNew (before ++ x ∷ []) xs rest × (new ≡ x ∷ rest))

-- the full names that arguments name, each once
abbrev pub AreNames : List ℕ → List Remote → List NamedRef → List (List ℕ) → Type 0
AreNames printed remotes named names = (refs : BTreeMap (Bor (List ℕ)) (Bor (List ℕ))) × AreExisting printed refs
    × (all : List (List ℕ)) × AllZip (IsFound refs remotes) named all × AreNew [] all names

-- the names of a list, each once, and a set of the same
pub record AreSeen (all : List (List ℕ)) (names : Names) : Type 0 where
  pub new : AreNew [] all (map (λ n. n.items) names.all.items)
  pub seen : (name : Vec ℕ) → IsTrue (contains_by (λ n. slice_cmp nat_cmp name.items n.items) names.seen)
      ↔ Contains (map (λ n. n.items) names.all.items) name.items

-- an expression that means no ref
abbrev pub IsNothing : NamedRef → Type 0
IsNothing n = (n.meaning ≡ meaning.Expression) × (name_printed n ≡ [])

abbrev pub IsNoRef : NamedRef → Refusal → Type 0
IsNoRef n (refusal.NotARef text) = (text ≡ n.argument) × IsNothing n
IsNoRef n _ = ⊥

-- the refusal of the first argument that means no ref, unless memory runs out
abbrev pub RefusesNaming : List NamedRef → Refusal → Type 0
RefusesNaming named refusal.Memory = ⊤
RefusesNaming named e = HasFirst (λ n. ¬ (IsNothing n)) (λ n. IsNoRef n e) named
