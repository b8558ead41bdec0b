-- What the settings of a remote and of a branch say.
use Rattle.std.proofs.Common.{◌≡◌, ℕ, Bor, List, None, Some, [], ◌∷◌, codes, inl, map, refl}
use Rattle.refspec_fetch.specs.declared.question.Tags.TheVariants as tags
use Rattle.refspec_io.specs.declared.settings.Setting.{Setting}
use Rattle.refspec_io.specs.Texts.{Given}
use Rattle.refspec_git.specs.Configured.{IsIfOn, configured_tags, fetch_texts, pruning_setting, tags_said}

abbrev pub lent : List ℕ → Bor (List ℕ)
lent bytes = record { ref_ptr = (0, 0); now = bytes }

-- a setting of a file, with a value or without one
abbrev pub valued : List ℕ → List ℕ → Setting
valued key value = record { origin = lent (codes "file:c"); key = lent key; value = Some (lent value) }

abbrev pub bare : List ℕ → Setting
bare key = record { origin = lent (codes "file:c"); key = lent key; value = None }

abbrev option_of_o : List ℕ → Setting
option_of_o value = valued (codes "remote.o.tagopt") value

abbrev values : List Setting
values = valued (codes "remote.o.fetch") (codes "b") ∷ (valued (codes "remote.p.fetch") (codes "c")
    ∷ (bare (codes "remote.o.fetch") ∷ (valued (codes "remote.o.push") (codes "d")
    ∷ (valued (codes "remote.o.fetch") (codes "a") ∷ []))))

-- the fetch values of a remote are in the order of the configuration; others and missing ones are none
pub fetched : (map (λ (g : Given). g.bytes) (fetch_texts values (codes "o")) ≡ codes "b" ∷ (codes "a" ∷ []))
    × (fetch_texts values (codes "q") ≡ [])
fetched = (refl, refl)

-- the last word that Git knows decides
pub tags_by_words : (configured_tags (option_of_o (codes "--no-tags") ∷ (option_of_o (codes "--tags") ∷ [])) (codes "o")
    ≡ tags.All)
    × (configured_tags (option_of_o (codes "--no-tags") ∷ (option_of_o (codes "-t") ∷ [])) (codes "o") ≡ tags.Left)
    × (configured_tags (option_of_o (codes "--tags") ∷ []) (codes "p") ≡ tags.Followed)
    × (tags_said None ≡ None)
tags_by_words = (refl, refl, refl, refl)

abbrev of_fetches : Setting
of_fetches = valued (codes "fetch.prunetags") (codes "true")

abbrev of_o : Setting
of_o = valued (codes "remote.o.prunetags") (codes "false")

-- that of the remote decides before that of all fetches, wherever it stands
pub pruned_by : (pruning_setting (of_o ∷ (of_fetches ∷ [])) (codes "o") ≡ Some of_o)
    × (pruning_setting (of_o ∷ (of_fetches ∷ [])) (codes "p") ≡ Some of_fetches)
    × (pruning_setting (of_o ∷ []) (codes "p") ≡ None)
pruned_by = (refl, refl, refl)

-- a setting without a value is true
pub on : IsIfOn (Some (bare (codes "fetch.prunetags"))) (Some (bare (codes "fetch.prunetags"))) × IsIfOn None None
on = (inl (tt, refl), refl)
