-- The canonical text of an instruction that a caller gives by its parts.
use Rattle.std.specs.Prelude.{◌==◌, not, ℕ, List}
use Rattle.gix_refspec.specs.Specs.Meaning.{Meaning, push_all_matching, push_delete, push_matching, push_exclude}
use Rattle.gix_refspec.specs.Specs.Meaning.{fetch_only, fetch_exclude, fetch_and_update, text_of}
use Rattle.gix_refspec_c.specs.declared.printing.Kind.{Kind}
use Rattle.gix_refspec_c.specs.declared.printing.Kind.TheVariants as kind
use Rattle.gix_refspec_c.specs.Single.{PartsShown}

-- the number of a kind
abbrev pub kind_code : Kind → ℕ
kind_code kind.PushAllMatching = 1
kind_code kind.PushDelete = 2
kind_code kind.PushMatching = 3
kind_code kind.PushExclude = 4
kind_code kind.FetchOnly = 5
kind_code kind.FetchExclude = 6
kind_code kind.FetchAndUpdate = 7

-- what an instruction of this kind with these parts says to do. Any number but 0 forces it, and parts that the kind
-- lacks don't count
abbrev pub meaning_with : Kind → PartsShown → Meaning
meaning_with kind.PushAllMatching p = push_all_matching (not (p.forced == 0))
meaning_with kind.PushDelete p = push_delete p.destination
meaning_with kind.PushMatching p = push_matching p.source p.destination (not (p.forced == 0))
meaning_with kind.PushExclude p = push_exclude p.source
meaning_with kind.FetchOnly p = fetch_only p.source
meaning_with kind.FetchExclude p = fetch_exclude p.source
meaning_with kind.FetchAndUpdate p = fetch_and_update p.source p.destination (not (p.forced == 0))

-- its canonical text
abbrev pub text_with : Kind → PartsShown → List ℕ
text_with kind p = text_of (meaning_with kind p)
