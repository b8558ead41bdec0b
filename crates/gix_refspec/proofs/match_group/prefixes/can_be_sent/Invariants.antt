-- the ref prefixes so far aren't too long
use Rattle.gix_refspec.proofs.Common.{AllByRecursion, bstring_bytes, codes, length, map, take, ◌+◌, ◌≤◌}

abbrev pub invariant-loop-prefix :
    Rattle.gix_refspec.proofs.match_group.prefixes.can_be_sent.Given.invariant-loop-prefix
invariant-loop-prefix l = AllByRecursion (λ p. length (codes "ref-prefix ") + length p ≤ 65516)
    (map bstring_bytes (take l.prefix-index l.list))
