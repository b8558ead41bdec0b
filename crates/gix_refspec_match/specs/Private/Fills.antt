-- The mappings that hits and ids become. Only private functions cite these words.
use Rattle.std.specs.Prelude.{◌≡◌, ◌⊎◌, ℕ, List, [], ◌∷◌, ◌++◌, Option, None, Some}
use Rattle.std.specs.List.{slice_get}
use Rattle.gix_refspec_match.specs.declared.hits.Hit.{Hit as DeclaredHit}
use Rattle.gix_refspec_match.specs.declared.exclusions.Exclusions.{Exclusions}
use Rattle.gix_refspec_match.specs.declared.matcher.Candidates.{Candidates}
use Rattle.gix_refspec_match.specs.declared.matcher.Candidates.TheVariants.{First, All}
use Rattle.gix_refspec_match.specs.declared.matcher.Matcher.{Matcher}
use Rattle.gix_refspec_match.specs.declared.matcher.ObjectSpec.{ObjectSpec}
use Rattle.gix_refspec_text.specs.Texts.ObjectId.{id_bytes}
use Rattle.gix_refspec_text.specs.Specs.Reading.{Reading}
use Rattle.gix_refspec_text.specs.Matching.Match.{Ref}
use Rattle.gix_refspec_text.specs.Private.SideViews.{kind_of_side}
use Rattle.gix_refspec_match.specs.Matching.Lists.{IsMadeFrom}
use Rattle.gix_refspec_match.specs.Matching.Mappings.{Mapped, id, HasPair, IsSourceExcluded}
use Rattle.gix_refspec_match.specs.Matching.Hits.{Hit, forward_of, backward_of, AreKeptForward, AreKeptBackward}
use Rattle.gix_refspec_match.specs.Private.Kept.{ExcludeStart}
use Rattle.gix_refspec_match.specs.Private.Needles.{filled_side, word_in}

-- a hit of the matcher on the ref at index j: its spec, its item, the item's name, and what the other side becomes
abbrev pub hit_by : Matcher → ℕ → Ref → Hit
hit_by m j r = record {
  spec = m.spec_index;
  item = j;
  near = r.name;
  far =
      filled_side m.other (word_in (kind_of_side m.needle) r.name);
}

-- where there are such a matcher and such a ref
abbrev pub hit_of_both : Option Matcher → Option Ref → ℕ → Hit
hit_of_both None r j = record { spec = 0; item = j; near = []; far = None }
hit_of_both (Some m) None j = record { spec = 0; item = j; near = []; far = None }
hit_of_both (Some m) (Some r) j = hit_by m j r

abbrev pub hit_of : List Matcher → List Ref → DeclaredHit → Hit
hit_of ms items h = hit_of_both (slice_get ms h.matcher) (slice_get items h.item) h.item

-- what a hit makes: from left to right by a matched source, from right to left by a matched destination
abbrev pub mapping_of : Candidates → Hit → Mapped
mapping_of First hit = forward_of hit
mapping_of All hit = backward_of hit

-- what a hit makes whose source isn't excluded
abbrev pub IsMappedHit : Candidates → Exclusions → List Matcher → List Ref → ℕ → DeclaredHit → Mapped → Type 0
IsMappedHit which es ms items k h m = (m ≡ mapping_of which (hit_of ms items h)) × ¬ (ExcludeStart es m.source)

-- behind the old mappings is what the hits make
pub record AddsMapped (which : Candidates) (es : Exclusions) (ms : List Matcher) (items : List Ref)
    (hits : List DeclaredHit) (old new : List Mapped) : Type 0 where
  pub made : List Mapped
  pub are : IsMadeFrom (IsMappedHit which es ms items) 0 hits made
  pub all : new ≡ old ++ made

-- the mapping of an object that is asked for
abbrev pub object_mapping : ObjectSpec → Mapped
object_mapping o = record {
  item = None;
  source = id (id_bytes o.id);
  destination = filled_side o.destination None;
  spec = o.spec_index;
}

-- a mapping that may be left out after others: one of them has its pair, or readings of the group exclude it
abbrev pub MayGo : List Reading → List Mapped → Mapped → Type 0
MayGo g before m = HasPair before m ⊎ ¬ (¬ (IsSourceExcluded g m.source))

-- some of the mappings, which follow others: those that are left out may be
abbrev pub Thins : List Reading → List Mapped → List Mapped → List Mapped → Type 0
Thins g before [] some = some ≡ []
Thins g before (m ∷ l) some =
    ((rest : List Mapped) × (some ≡ m ∷ rest) × Thins g (before ++ m ∷ []) l rest)
    ⊎ (MayGo g before m × Thins g (before ++ m ∷ []) l some)

-- the mappings that are kept, from left to right or from right to left
abbrev pub AreKept : Candidates → List Reading → List Ref → List Mapped → Type 0
AreKept First g items kept = AreKeptForward g items kept
AreKept All g items kept = AreKeptBackward g items kept
