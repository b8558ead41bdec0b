-- the texts of the settings so far
use Rattle.std.proofs.Common.{◌≡◌, filter_map, map, take}
use Rattle.refspec_io.specs.Texts.{given_of}
use Rattle.refspec_git.specs.Configured.{fetch_text}
use Rattle.refspec_git.proofs.configured.fetch_texts.Given as goal

abbrev pub invariant-loop-setting : goal.invariant-loop-setting
invariant-loop-setting l =
    map given_of l.values.items ≡ filter_map fetch_text (take l.setting-index l.setting-items)
