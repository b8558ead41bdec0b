-- What the name begins with, and whether a ref has it.
use Rattle.std.proofs.Common.{List, MatchBool, codes, drop, length, subst}
use Rattle.std.proofs.lemmas.Bool.Decides.{Decides-eqb}
use Rattle.std.proofs.lemmas.Slice.Eq.{starts_is}
use Rattle.gix_refspec_match.specs.declared.types.Item.{Item}
use Rattle.refspec_git.specs.Fates.{IsListed, IsUnlisted}
use Rattle.refspec_git.proofs.FateLemmas.{local_or_remote}
use Rattle.refspec_git.proofs.fates.is_local.Goals as goal

pub returns : goal.returns
returns c =
    let name = c.args.name.now in
    let folder = codes "refs/remotes/" in
    let items = c.args.list.now.items.items in
    local_or_remote items name c.is_listed.result (record {
      after = drop (length folder) name;
      here = (starts_is Decides-eqb name folder c.starts_with.result c.starts_with.ensures.value).0
          c.if-not-starts_with.false;
    }) (subst (λ (l : List Item). MatchBool c.is_listed.result (IsListed l name) (IsUnlisted l name))
    c.as_slice.ensures.value c.is_listed.ensures)
