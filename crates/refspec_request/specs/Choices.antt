-- Which argument of a call is a remote. This project's own rule, where `git fetch` takes any first argument for one.
use Rattle.std.specs.Prelude.{◌≡◌, ◌≢◌, ◌⊎◌, ℕ, ◌<◌, IsTrue, IsSome, List, [], ◌∷◌, Option, None, Some, codes, map}
use Rattle.std.specs.Prelude.{option_map, ⊤}
use Rattle.std.specs.List.{Any}
use Rattle.gix_refspec_text.specs.Texts.Words.{ContainsText, Lacks}
use Rattle.refspec_request.specs.declared.arguments.Request.{Request}
use Rattle.refspec_request.specs.declared.choice.Choice.{Choice}
use Rattle.refspec_request.specs.declared.choice.Looks.TheVariants as looks
use Rattle.refspec_request.specs.declared.choice.Repository.{Repository}
use Rattle.refspec_request.specs.declared.refusal.Refusal.{Refusal}
use Rattle.refspec_request.specs.declared.refusal.Refusal.TheVariants as refusal
use Rattle.refspec_request.specs.Remotes.{IsConfigured, IsDefault, IsGroup, IsInFile, Rewrites, SaysWhere}
use Rattle.refspec_request.specs.Remotes.{folder_of}
use Rattle.refspec_request.specs.Words.{LooksLike}

-- the name of a remote, in the configuration or of a file
abbrev pub NamesRemote : Repository → List ℕ → Type 0
NamesRemote r argument = IsConfigured r.settings.now argument ⊎ IsInFile r.old.now argument

-- an existing path, unless it looks like a spec
abbrev pub IsGivenPath : Repository → List ℕ → Type 0
IsGivenPath r argument = IsTrue r.is_path × ¬ (LooksLike argument looks.Spec)

-- certainly a remote: the name of one, a URL that Git rewrites, or an existing path
abbrev pub IsCertainlyRemote : Repository → List ℕ → Type 0
IsCertainlyRemote r argument = NamesRemote r argument ⊎ Any (Rewrites argument) r.settings.now ⊎ IsGivenPath r argument

-- a remote that may exist: Git takes a plain word that names none for a path
abbrev pub MayBeFetched : Repository → List ℕ → Type 0
MayBeFetched r remote = IsCertainlyRemote r remote ⊎ ¬ (LooksLike remote looks.Plain)

-- some argument precedes `--`
abbrev pub PrecedesDashes : Option ℕ → Type 0
PrecedesDashes None = ⊥
PrecedesDashes (Some before) = 0 < before

-- the first argument is a remote: certainly, or as it precedes `--`, or by its looks
abbrev pub IsTakenForRemote : Option ℕ → Repository → List ℕ → Type 0
IsTakenForRemote dashes r argument = IsCertainlyRemote r argument ⊎ PrecedesDashes dashes ⊎ LooksLike argument looks.Url
    ⊎ ((dashes ≡ None) × LooksLike argument looks.Plain)

-- it is a spec: by its looks or, behind `--`, in doubt
abbrev pub IsTakenForSpec : Option ℕ → Repository → List ℕ → Type 0
IsTakenForSpec dashes r argument = ¬ (IsCertainlyRemote r argument) × ¬ (PrecedesDashes dashes)
    × (LooksLike argument looks.Spec ⊎ (IsSome dashes ×
    (LooksLike argument looks.Either ⊎ LooksLike argument looks.Plain)))

-- it may be either, and is refused
abbrev pub IsInDoubt : Option ℕ → Repository → List ℕ → Refusal → Type 0
IsInDoubt dashes r argument (refusal.UrlOrSpec text) =
    (text.now ≡ argument) × ¬ (IsCertainlyRemote r argument) × (dashes ≡ None) × LooksLike argument looks.Either
IsInDoubt dashes r argument _ = ⊥

-- the refusal of a remote that has a file, and no location in the configuration
abbrev pub IsOldForm : Repository → List ℕ → Refusal → Type 0
IsOldForm r name (refusal.OldForm text folder) =
    (text.now ≡ name) × ¬ (Any (SaysWhere name) r.settings.now) × (folder_of name r.old.now ≡ Some folder.now)
IsOldForm r name _ = ⊥

-- there is none, as it has a location, or no file
abbrev pub HasNoOldForm : Repository → List ℕ → Type 0
HasNoOldForm r name = Any (SaysWhere name) r.settings.now ⊎ (folder_of name r.old.now ≡ None)

-- the remote that the arguments of a call name, if they name one, and the specs: `--remote` names it, or the first
-- argument
abbrev pub AreNamed : Option ℕ → Repository → Option (List ℕ) → List (List ℕ) → Option (List ℕ) × List (List ℕ) → Type 0
AreNamed dashes r (Some remote) arguments named = named ≡ (Some remote, arguments)
AreNamed dashes r None [] named = named ≡ (None, [])
AreNamed dashes r None (first ∷ rest) named = (IsTakenForRemote dashes r first × (named ≡ (Some first, rest)))
    ⊎ (IsTakenForSpec dashes r first × (named ≡ (None, first ∷ rest)))

-- the first argument is in doubt, and no option names the remote
abbrev pub AreInDoubt : Option ℕ → Repository → Option (List ℕ) → List (List ℕ) → Refusal → Type 0
AreInDoubt dashes r None (first ∷ rest) e = IsInDoubt dashes r first e
AreInDoubt dashes r _ _ e = ⊥

-- the named remote, or the default without one; a group of remotes is none
abbrev pub IsChosen : Repository → Option (List ℕ) → List ℕ → Type 0
IsChosen r (Some name) remote = (remote ≡ name) × ¬ (IsGroup r.settings.now name)
IsChosen r None remote = IsDefault r.settings.now r.branch.now r.old.now (Some remote)

-- it isn't empty, as that of a branch may be, and contains no newline
pub record IsFetchedFrom (r : Repository) (named : Option (List ℕ)) (remote : List ℕ) : Type 0 where
  pub chosen : IsChosen r named remote
  pub full : remote ≢ []
  pub line : Lacks 10 remote

-- why there is no remote
abbrev pub RefusesRemote : Repository → Option (List ℕ) → Refusal → Type 0
RefusesRemote r named (refusal.Group name settings) =
    (named ≡ Some name.now) × IsGroup r.settings.now name.now × (settings.now ≡ r.settings.now)
RefusesRemote r named refusal.NoDefault =
    ((named ≡ None) × IsDefault r.settings.now r.branch.now r.old.now None) ⊎ IsChosen r named []
RefusesRemote r named (refusal.Newline remote) = IsChosen r named remote.now × ContainsText (codes "\n") remote.now
RefusesRemote r named _ = ⊥

-- the remote and the specs of a request
abbrev pub Chooses : Repository → Request → Choice → Type 0
Chooses r request choice = (named : Option (List ℕ))
    × AreNamed request.dashes r (option_map (λ text. text.now) request.remote)
    (map (λ text. text.now) request.arguments.items)
    (named, map (λ text. text.now) choice.specs.items)
    × IsFetchedFrom r named choice.remote.now

-- why a request has none, unless memory runs out
abbrev pub RefusesChoice : Repository → Request → Refusal → Type 0
RefusesChoice r request refusal.Memory = ⊤
RefusesChoice r request e =
    AreInDoubt request.dashes r (option_map (λ text. text.now) request.remote)
    (map (λ text. text.now) request.arguments.items) e
    ⊎ ((named : Option (List ℕ)) × (specs : List (List ℕ))
    × AreNamed request.dashes r (option_map (λ text. text.now) request.remote)
    (map (λ text. text.now) request.arguments.items) (named, specs)
    × RefusesRemote r named e)
