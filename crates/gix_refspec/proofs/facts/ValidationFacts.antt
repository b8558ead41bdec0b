-- Examples of the definitions on validation, for mappings to one destination and to others.
use Rattle.gix_refspec.proofs.Common.{by_cases, nothing_made, none_some, of_element, mapping, tag_to_x, branch_to_x}
use Rattle.gix_refspec.proofs.Common.{tag_again, tag_to_foo, tag_alone, ◌≡◌, ℕ, List, [], ◌∷◌, None, Some, codes, refl}
use Rattle.gix_refspec.proofs.Common.{sym, ◌∙◌, inl, inr, arith, IsStrictlySortedBy, Normal, Forced, Reading, fetched}
use Rattle.gix_refspec.proofs.Common.{name, Mapped, IndexesFit, HasConflictAt, IsFirstTo, IsTextAt, Conflict}
use Rattle.gix_refspec.proofs.Common.{IsConflict, AreConflicts, IsWritable, Survives, AreSurvivors, Removed, IsFix}
use Rattle.gix_refspec.proofs.Common.{AreFixes, IsValidated, DestinationsHaveOneSource, ShareDestination}
use Rattle.gix_refspec.proofs.Common.{HaveDistinctDestinations, false, nat_eq, starts_with, false≢true, bytes_eq, head}
use Rattle.gix_refspec.proofs.Common.{◌≢◌, map, Mapping, Outcome, mapped_of, AreMappingCopies, readings_of}
use Rattle.gix_refspec.proofs.Common.{OneValidation, IsOutcomeCopy, CopiedOutcome, IsMadeFrom, rules}
use Rattle.gix_refspec.proofs.lemmas.validate.ConflictLemmas.{no_conflicts}

abbrev tags_to_x : Reading
tags_to_x = fetched Normal (codes "refs/tags/*") (Some (codes "refs/x/*"))

abbrev heads_to_x : Reading
heads_to_x = fetched Forced (codes "refs/heads/*") (Some (codes "refs/x/*"))

abbrev pub both_to_x : List Reading
both_to_x = tags_to_x ∷ heads_to_x ∷ []

-- two sources of one destination, the first with a duplicate, and another destination
abbrev pub meeting : List Mapped
meeting = mapping 3 (codes "refs/heads/b") (Some (codes "refs/x/b")) 1 ∷ tag_to_x ∷ branch_to_x ∷ tag_again ∷ []

-- the sources are in the order of the mappings, without duplicates, with the canonical texts of their specs
abbrev pub conflict : Conflict
conflict = record {
  destination = codes "refs/x/a";
  sources = name (codes "refs/tags/a") ∷ name (codes "refs/heads/a")
      ∷ [];
  texts = codes "refs/tags/*:refs/x/*" ∷ codes "+refs/heads/*:refs/x/*" ∷ [];
}

pub unequal : {x y : List ℕ} → x ≡ y → bytes_eq x y ≡ false → ⊥
unequal {x} {y} same other = false≢true (search rules)

at_x : HasConflictAt meeting (codes "refs/x/a")
at_x = record {
  one = tag_to_x;
  other = branch_to_x;
  has_one = (1, omega arith, refl);
  has_other =
      (2, omega arith, refl);
  one_to = refl;
  other_to = refl;
  differ = λ same. search rules;
}

-- the only conflict is at one destination, and can't be missing, so that nothing is validated. A destination with one
-- source, even if mapped twice, isn't a conflict, whatever its texts are
pub only_x : ((d : List ℕ) → HasConflictAt meeting d → d ≡ codes "refs/x/a")
    × ((c : Conflict) → c.destination ≡ codes "refs/x/b" → ¬ (IsConflict both_to_x meeting c))
    × ((d : List ℕ) → ¬ (HasConflictAt (tag_to_x ∷ tag_to_foo ∷ tag_alone ∷ tag_again ∷ []) d))
    × ¬ (AreConflicts both_to_x meeting [])
    × ((rest : List Mapped) (fixes : List Removed) → ¬ (IsValidated both_to_x meeting rest fixes))
only_x =
    let at_a : (d : List ℕ) → HasConflictAt meeting d → d ≡ codes "refs/x/a" =
    λ d contested. search (rules, of_element) in
    let one_source : (d : List ℕ) → ¬ (HasConflictAt (tag_to_x ∷ tag_to_foo ∷ tag_alone ∷ tag_again ∷ []) d) =
    λ d at. search (rules, of_element) in
    let listed : ¬ (AreConflicts both_to_x meeting []) = λ are. of_element (λ d. ⊥) [] _ tt
    (are.every (codes "refs/x/a") at_x) in (
      at_a,
      (λ c is conflicts. unequal (sym is ∙ at_a c.destination conflicts.contested) refl),
      one_source,
      listed,
      λ rest fixes is. listed is.free,
    )

of_firsts : {Y : Type 0} (Q : Mapped → Y → Type 0) (y z : Y) → Q tag_to_x y → Q branch_to_x z
    → IsMadeFrom (λ k m made. IsFirstTo (codes "refs/x/a") meeting k m × Q m made) 0 meeting (y ∷ z ∷ [])
of_firsts Q y z tag branch = (
  None,
  _,
  (λ made is. search rules),
  (Some y, _, (search rules, tag), (Some z, [], (search rules, branch), search rules, refl), refl),
  refl,
)

pub conflicts_at_x : AreConflicts both_to_x meeting (conflict ∷ [])
unfolding IsStrictlySortedBy
conflicts_at_x =
    let at_a : IsConflict both_to_x meeting conflict =
    record {
      contested = at_x;
      sources = of_firsts (λ m source. source ≡ m.source) _ _ refl refl;
      texts =
          of_firsts (λ m text. IsTextAt both_to_x m.spec text) _ _ (tags_to_x, refl, refl) (heads_to_x, refl, refl);
    } in
    record { each = (at_a, tt); every = λ d contested. search (rules, only_x.0 d contested); order = (tt, tt) }

pub rising : (g : List Reading) (l : List Mapped) (c d : Conflict) → c.destination ≡ codes "refs/x/b"
    → d.destination ≡ codes "refs/x/aa" → ¬ (AreConflicts g l (c ∷ d ∷ [])) × ¬ (AreConflicts g l (c ∷ c ∷ []))
unfolding IsStrictlySortedBy
rising g l c d to_b to_aa = ((λ are. search rules), λ are. cc (rw to_b at are.order.0.0))

-- a text that computes to begin otherwise, and not to be `HEAD`, can't be written
pub writable : IsWritable (codes "refs/x") × IsWritable (codes "HEAD") × ¬ (IsWritable (codes "refs"))
    × ¬ (IsWritable (codes "HEADS")) × ¬ (IsWritable (codes "foo"))
    × ((d : List ℕ) → starts_with nat_eq d (codes "refs/") ≡ false → bytes_eq d head ≡ false → ¬ (IsWritable d))
writable = (
  search rules,
  inr refl,
  search rules,
  search rules,
  search rules,
  λ d elsewhere other is. by_cases is
      (λ begins. search rules) (λ is_head. unequal is_head other),
)

abbrev pub foo_fix : Removed
foo_fix = record { destination = codes "foo"; spec = heads_to_x }

pub fixes : IsFix both_to_x tag_to_foo foo_fix
    × ((fix : Removed) → ¬ (IsFix both_to_x tag_to_x fix) × ¬ (IsFix both_to_x tag_alone fix))
    × ¬ (IsFix both_to_x tag_to_foo (record { destination = codes "foo"; spec = tags_to_x }))
    × ¬ (AreFixes both_to_x (tag_to_foo ∷ []) [])
    × (Survives tag_alone × Survives tag_to_x × ¬ (Survives tag_to_foo)
    × ¬ (AreSurvivors (tag_to_foo ∷ []) (tag_to_foo ∷ [])) × ¬ (AreSurvivors (tag_alone ∷ []) []))
fixes =
    let foo : IsFix both_to_x tag_to_foo foo_fix = record { goes = refl; unwritable = writable.4; spec = refl } in (
      foo,
      search rules,
      search rules,
      (λ are. nothing_made (λ k m fix. IsFix both_to_x m fix) 0 [] tag_to_foo [] foo_fix are foo),
      (tt, inl (search rules), writable.4, (λ are. search rules), λ are. search rules),
    )

abbrev of_one_tag : List Mapped
of_one_tag = tag_to_x ∷ tag_to_foo ∷ tag_alone ∷ []

pub validated : IsValidated both_to_x of_one_tag (tag_to_x ∷ tag_alone ∷ []) (foo_fix ∷ [])
validated = record {
  free = no_conflicts both_to_x of_one_tag (search rules);
  survive = (
    Some tag_to_x,
    _,
    (refl, inl (search rules)),
    (None, _, (λ m made. writable.4 made.1), (Some tag_alone, [], (refl, tt), refl, refl), refl),
    refl,
  );
  fixed = (None, _, (λ fix made. (fixes.1 fix).0 made), (Some foo_fix, [], fixes.0, search rules, refl), refl);
}

-- which indexes fit, and the canonical texts of the specs at them
pub indexes : IndexesFit both_to_x (tag_to_x ∷ tag_again ∷ [])
    × ¬ (IndexesFit both_to_x (tag_to_x ∷ mapping 0 (codes "a") None 2 ∷ []))
    × IsTextAt both_to_x 0 (codes "refs/tags/*:refs/x/*")
    × IsTextAt (fetched Forced (codes "main") None ∷ []) 0 (codes "main")
    × ¬ (IsTextAt both_to_x 1 (codes "refs/tags/*:refs/x/*")) × ((text : List ℕ) → ¬ (IsTextAt both_to_x 2 text))
indexes = (
  search rules,
  (λ fit. search rules),
  (tags_to_x, refl, refl),
  (fetched Forced (codes "main") None, refl, refl),
  (λ (r, is, prints). search rules),
  λ text (r, is, prints). cc,
)

-- mappings without a destination share none. One source may be mapped twice to a destination, which then isn't distinct
pub meet : ShareDestination tag_to_x branch_to_x × ¬ (ShareDestination tag_to_x tag_to_foo)
    × ¬ (ShareDestination tag_alone tag_alone) × DestinationsHaveOneSource (tag_to_x ∷ tag_again ∷ [])
    × ¬ (DestinationsHaveOneSource meeting) × HaveDistinctDestinations
    (tag_to_x ∷ tag_to_foo ∷ tag_alone ∷ tag_alone ∷ [])
    × ¬ (HaveDistinctDestinations (tag_to_x ∷ tag_alone ∷ tag_again ∷ []))
unfolding at_x
meet = (
  search rules,
  (λ at. search rules),
  (λ at. none_some at.0 at.1),
  search rules,
  (λ one. at_x.differ (one _ _ _ at_x.has_one at_x.has_other refl refl)),
  search rules,
  λ never. search rules,
)

-- the conflict of two specs is the only one, and exactly one of three mappings is removed, with one fix
pub one_at_x : (OneValidation both_to_x meeting → (cs : List Conflict) → AreConflicts both_to_x meeting cs
    → cs ≡ conflict ∷ [])
    × (OneValidation both_to_x of_one_tag → (rest : List Mapped) (fixes : List Removed)
    → IsValidated both_to_x of_one_tag rest fixes → (rest ≡ tag_to_x ∷ tag_alone ∷ []) × (fixes ≡ foo_fix ∷ []))
one_at_x = (
  (λ law cs are. law.conflicts cs _ are conflicts_at_x),
  λ law rest fixes is. (
    law.survivors rest _ is.survive validated.survive,
    law.fixes fixes _ is.fixed validated.fixed,
  ),
)

-- a copy has the same specs and copies of the mappings, not one less, one more, or other specs, and so the conflicts,
-- survivors and fixes of its original
pub outcome_copies :
    ((o copy : Outcome 1)
    → (copy.group.specs.items ≡ o.group.specs.items → AreMappingCopies o.mappings.items copy.mappings.items
    → IsOutcomeCopy o copy)
    × ((m : Mapping) → o.mappings.items ≡ m ∷ [] → copy.mappings.items ≡ [] → ¬ (IsOutcomeCopy o copy))
    × ((m : Mapping) → o.mappings.items ≡ [] → copy.mappings.items ≡ m ∷ [] → ¬ (IsOutcomeCopy o copy))
    × (copy.group.specs.items ≢ o.group.specs.items → ¬ (IsOutcomeCopy o copy)))
    × ((o copy : Outcome 0) → CopiedOutcome o copy → IsOutcomeCopy o copy
    → (readings_of copy.group ≡ readings_of o.group)
    × (map mapped_of copy.mappings.items ≡ map mapped_of o.mappings.items))
outcome_copies = ((λ o copy. search rules), λ o copy law is. ((law is).readings, (law is).mappings))

pub validated_alike : (o copy : Outcome 1) → CopiedOutcome o copy → IsOutcomeCopy o copy
    → (readings_of o.group ≡ both_to_x → map mapped_of o.mappings.items ≡ meeting → (cs : List Conflict)
    → AreConflicts (readings_of copy.group) (map mapped_of copy.mappings.items) cs → cs ≡ conflict ∷ [])
    × (map mapped_of o.mappings.items ≡ of_one_tag → (rest : List Mapped)
    → AreSurvivors (map mapped_of copy.mappings.items) rest → rest ≡ tag_to_x ∷ tag_alone ∷ [])
    × (readings_of o.group ≡ both_to_x → map mapped_of o.mappings.items ≡ of_one_tag → (fixes : List Removed)
    → AreFixes (readings_of copy.group) (map mapped_of copy.mappings.items) fixes → fixes ≡ foo_fix ∷ [])
validated_alike o copy law is = let same =
    (law is).validated in (search (rules, conflicts_at_x), search (rules, validated), search (rules, validated))
