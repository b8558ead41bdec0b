-- The specs of a fetch: those among the arguments, by git-fetch(1), and what the configuration adds.
use Rattle.std.specs.Prelude.{◌≡◌, ◌≢◌, ◌⊎◌, ◌&&◌, ℕ, Bool, List, [], ◌∷◌, ◌++◌, Option, None, Some, codes, cond, false}
use Rattle.std.specs.Prelude.{map, true}
use Rattle.std.specs.List.{Contains}
use Rattle.std.specs.Str.{IsUtf8}
use Rattle.gix_refspec_text.specs.declared.parsing.Operation.TheVariants as operation
use Rattle.refspec_io.specs.declared.fault.Fault.TheVariants as fault
use Rattle.refspec_io.specs.declared.settings.Setting.{Setting}
use Rattle.refspec_io.specs.Texts.{Given, at_setting, given_of}
use Rattle.refspec_request.specs.declared.arguments.Request.{Request}
use Rattle.refspec_request.specs.declared.arguments.Subcommand.{Subcommand}
use Rattle.refspec_request.specs.declared.arguments.Subcommand.TheVariants as command
use Rattle.refspec_request.specs.declared.choice.Choice.{Choice}
use Rattle.refspec_request.specs.declared.choice.Repository.{Repository}
use Rattle.refspec_request.specs.declared.refusal.Refusal.{Refusal}
use Rattle.refspec_request.specs.declared.refusal.Refusal.TheVariants as refusal
use Rattle.refspec_request.specs.Remotes.{IsConfigured}
use Rattle.refspec_git.specs.Configured.{AreMerges, IsIfOn, configured_tags, fetch_texts, pruning_setting}
use Rattle.refspec_git.specs.declared.answer.Stop.{Stop}
use Rattle.refspec_git.specs.declared.answer.Stop.TheVariants as stop
use Rattle.refspec_git.specs.declared.specs.Specs.{Specs}
use Rattle.refspec_git.specs.Texts.{value_at}

-- the spec of one tag, and that of all
abbrev pub tag_spec : List ℕ → List ℕ
tag_spec name = codes "refs/tags/" ++ (name ++ (codes ":refs/tags/" ++ name))

abbrev pub all_tags : List ℕ
all_tags = codes "refs/tags/*:refs/tags/*"

-- the specs in arguments: `tag <name>` is the spec of a tag, and each other argument is a spec
abbrev pub AreSpecs : List (List ℕ) → List (List ℕ) → Type 0
AreSpecs [] specs = specs ≡ []
AreSpecs (a ∷ []) specs = (a ≢ codes "tag") × (specs ≡ a ∷ [])
AreSpecs (a ∷ (b ∷ rest)) specs =
    ((a ≡ codes "tag") × (more : List (List ℕ)) × AreSpecs rest more × (specs ≡ tag_spec b ∷ more))
    ⊎ ((a ≢ codes "tag") × (more : List (List ℕ)) × AreSpecs (b ∷ rest) more × (specs ≡ a ∷ more))

-- why arguments are no specs: one isn't UTF-8, or the last is `tag`, without a name
abbrev pub RefusesSpecs : List (List ℕ) → Refusal → Type 0
RefusesSpecs arguments (refusal.NotUtf8 text) = Contains arguments text.now × ¬ (IsUtf8 text.now)
RefusesSpecs arguments refusal.NoTagName =
    (front : List (List ℕ)) × (specs : List (List ℕ)) × AreSpecs front specs × (arguments ≡ front ++ codes "tag" ∷ [])
RefusesSpecs arguments _ = ⊥

-- why a call has no specs, unless memory runs out
abbrev pub RefusesGiven : List (List ℕ) → Stop → Type 0
RefusesGiven arguments (stop.Refused e) = RefusesSpecs arguments e
RefusesGiven arguments (stop.Failed f) = f ≡ fault.Memory

-- a setting that prunes tags adds a spec for all tags: to the configured ones of a remote in the configuration, and
-- else to the given ones
abbrev pub AddsAllTags : Repository → List ℕ → Option Setting → List (List ℕ) → List Given → Type 0
AddsAllTags r remote None given configured = (given ≡ []) × (configured ≡ fetch_texts r.settings.now remote)
AddsAllTags r remote (Some s) given configured =
    (IsConfigured r.settings.now remote × (given ≡ [])
    × (configured ≡ fetch_texts r.settings.now remote ++ value_at s operation.Fetch all_tags ∷ []))
    ⊎ (¬ (IsConfigured r.settings.now remote) × (given ≡ all_tags ∷ [])
    × (configured ≡ fetch_texts r.settings.now remote))

-- the given and the configured specs, by the specs in the arguments. Where there are none, pruned tags count
abbrev pub AreWanted : Repository → List ℕ → List (List ℕ) → List (List ℕ) → List Given → Type 0
AreWanted r remote [] given configured = (prunes : Option Setting)
    × IsIfOn (pruning_setting r.settings.now remote) prunes × AddsAllTags r remote prunes given configured
AreWanted r remote (a ∷ named) given configured =
    (given ≡ a ∷ named) × (configured ≡ fetch_texts r.settings.now remote)

-- the specs of a fetch of the chosen remote
pub record AreSpecsOf (r : Repository) (choice : Choice) (s : Specs) : Type 0 where
  pub named : List (List ℕ)
  pub given : AreSpecs (map (λ text. text.now) choice.specs.items) named
  pub wanted : AreWanted r choice.remote.now named (map (λ t. t.bytes.items) s.given.items)
      (map given_of s.configured.items)
  pub merges : AreMerges r choice.remote.now (map (λ m. m.now) s.merges.items)
  pub tags : s.tags ≡ configured_tags r.settings.now choice.remote.now

-- the texts of `--refmap`, as values of one setting
abbrev pub refmap_text : List ℕ → Given
refmap_text spec = record {
  spot = at_setting (codes "command line:") (codes "remote.--refmap.fetch");
  operation = operation.Fetch;
  bytes = spec;
}

abbrev pub is_stale : Subcommand → Bool
is_stale command.Stale = true
is_stale _ = false

-- there are some
abbrev pub some : List (List ℕ) → Bool
some [] = false
some (a ∷ all) = true

-- the configured specs that a command maps refs by: those of `--refmap` take the place of the configured ones, and by
-- given specs the others prune nothing
abbrev pub mapping_texts : Subcommand → List (List ℕ) → List (List ℕ) → List Given → List Given
mapping_texts c given refmap configured =
    cond (is_stale c && some given) [] (cond (some refmap) (map refmap_text refmap) configured)

-- the specs that a request maps refs by
pub record MapsBy (r : Repository) (request : Request) (choice : Choice) (s : Specs) : Type 0 where
  pub all : Specs
  pub are : AreSpecsOf r choice all
  pub given : s.given ≡ all.given
  pub merges : s.merges ≡ all.merges
  pub tags : s.tags ≡ all.tags
  pub configured : map given_of s.configured.items
      ≡ mapping_texts request.command (map (λ t. t.bytes.items) all.given.items)
      (map (λ text. text.now) request.refmap.items) (map given_of all.configured.items)

-- why a request maps no refs, unless memory runs out: `--refmap` without specs among the arguments, or as they are
-- refused
abbrev pub RefusesMapping : Request → Choice → Stop → Type 0
RefusesMapping request choice (stop.Refused refusal.IdleRefmap) =
    (request.refmap.items ≢ []) × AreSpecs (map (λ text. text.now) choice.specs.items) []
RefusesMapping request choice s = RefusesGiven (map (λ text. text.now) choice.specs.items) s
