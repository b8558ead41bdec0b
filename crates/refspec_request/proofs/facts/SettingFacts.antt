-- The values of keys in a configuration, as `git config --get` and `--get-all` print them.
use Rattle.std.proofs.Common.{◌≡◌, ℕ, List, [], ◌∷◌, Bor, None, Some, codes, map, refl}
use Rattle.refspec_io.specs.declared.settings.Setting.{Setting}
use Rattle.refspec_request.specs.Settings.{joined_key, settings_with, value_in, value_of_last}

abbrev pub lent : List ℕ → Bor (List ℕ)
lent bytes = record { ref_ptr = (0, 0); now = bytes }

-- a setting of a file, with a value or without one
abbrev pub valued : List ℕ → List ℕ → Setting
valued key value = record { origin = lent (codes "file:c"); key = lent key; value = Some (lent value) }

abbrev pub bare : List ℕ → Setting
bare key = record { origin = lent (codes "file:c"); key = lent key; value = None }

abbrev two_remotes : List Setting
two_remotes = valued (codes "remote.o.fetch") (codes "a") ∷
    (valued (codes "remote.p.fetch") (codes "c") ∷ (valued (codes "remote.o.tagopt") (codes "--tags")
    ∷ (valued (codes "remote.o.fetch") (codes "b") ∷ (bare (codes "remote.o.tagopt") ∷
    (valued (codes "remote.fetch") (codes "d") ∷ [])))))

abbrev of_o : List ℕ → List ℕ
of_o variable = joined_key (codes "remote") (codes "o") variable

-- the values of a key in the order of the configuration, and none of another name or section
pub values_in_order : (map value_in (settings_with (of_o (codes "fetch")) two_remotes)
    ≡ Some (codes "a") ∷ (Some (codes "b") ∷ []))
    × (map value_in (settings_with (of_o (codes "tagopt")) two_remotes) ≡ Some (codes "--tags") ∷ (None ∷ []))
    × (settings_with (of_o (codes "etch")) two_remotes ≡ [])
    × (settings_with (joined_key (codes "remote") [] (codes "fetch")) two_remotes ≡ [])
values_in_order = (refl, refl, refl, refl)

-- the last of them, also if it has no value after one that has
pub last_values : (value_of_last (settings_with (of_o (codes "fetch")) two_remotes) ≡ Some (codes "b"))
    × (value_of_last (settings_with (of_o (codes "tagopt")) two_remotes) ≡ None)
    × (value_of_last (settings_with (of_o (codes "url")) two_remotes) ≡ None)
last_values = (refl, refl, refl)
