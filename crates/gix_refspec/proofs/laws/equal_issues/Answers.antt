-- Destinations and texts are compared by their bytes, sources as names and ids.
use Rattle.gix_refspec.proofs.Common.{◌≡◌, ◌↔◌, true, IsTrue, bstring_bytes, bytes_eq-Decides, SourceRef, Issue}
use Rattle.gix_refspec.proofs.Common.{start_of, conflict_of, same_keys, arith}
use Rattle.bstr.specs.contracts.bstring.BStringPartialEq.TheImpl.{ghosts as compared_texts}
use Rattle.gix_refspec.specs.contracts.match_group.validate.IssuePartialEq.TheImpl.{ghosts}
use Rattle.gix_refspec_match.specs.contracts.types.SourceRefPartialEq.TheImpl.{ghosts as compared_sources}
use Rattle.gix_refspec.specs.declared.match_group.validate.Issue.TheVariants as issue

same_source : (a b : SourceRef) → (compared_sources.eq a b ≡ true) ↔ (start_of a ≡ start_of b)
same_source a b = grind (arith, bytes_eq-Decides)

same_issue : (a b : Issue) → IsTrue (ghosts.eq a b) ↔ (conflict_of a ≡ conflict_of b)
same_issue (issue.Conflict d sources specs) (issue.Conflict e others texts) =
    let names = bytes_eq-Decides (bstring_bytes d) (bstring_bytes e) in
    let starts = same_keys compared_sources.eq start_of same_source sources.items others.items in
    let words = same_keys compared_texts.eq bstring_bytes
    (λ n m. let told = bytes_eq-Decides (bstring_bytes n) (bstring_bytes m) in (told.0, told.1)) specs.items
    texts.items in
    grind (arith, names, starts, words)

pub returns : Rattle.gix_refspec.proofs.laws.equal_issues.Goals.returns
returns c = same_issue c.args.a.now c.args.b.now
