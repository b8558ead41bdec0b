use Rattle.gix_refspec_diff.proofs.Common.{Reading, bstring_bytes, map, reading_of, take}
use Rattle.gix_refspec_lint.specs.Private.Idles.{AreNamed}
use Rattle.gix_refspec_diff.specs.Private.Searches.{AreHadBeside}

abbrev pub invariant-loop-spec : Rattle.gix_refspec_diff.proofs.missing.lacks_any.Given.invariant-loop-spec
invariant-loop-spec l =
    (r : Reading) → AreNamed r (map bstring_bytes l.names)
    → AreHadBeside (map reading_of (take l.spec-index l.specs)) (map bstring_bytes l.names)
