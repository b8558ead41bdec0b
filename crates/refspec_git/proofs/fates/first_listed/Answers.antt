-- The first name that a ref has.
use Rattle.std.proofs.Common.{◌≡◌, subst, take_all}
use Rattle.std.proofs.lemmas.List.Elements.{All-more}
use Rattle.std.specs.List.{All}
use Rattle.bstr.specs.Owned.{bstring_bytes}
use Rattle.bstr.specs.declared.bstring.BString.{BString}
use Rattle.refspec_git.specs.Fates.{IsListed, IsUnlisted}
use Rattle.refspec_git.proofs.NamedLemmas.{HasFirst-at}
use Rattle.refspec_git.proofs.fates.first_listed.Goals as goal

pub loop-name-preserved : goal.loop-name-preserved
loop-name-preserved c =
    All-more (λ (n : BString). IsUnlisted c.args.refs.now (bstring_bytes n)) c.args.names.now
    c.loop-name.name-index c.name-item.result c.loop-name-test.true c.loop-name.invariant
    (subst (λ (n : BString). IsUnlisted c.args.refs.now (bstring_bytes n)) c.name-item.is
    (subst (IsUnlisted c.args.refs.now) c.as_bytes.ensures (rw c.if-is_listed.false at c.is_listed.ensures)))

pub returns-then-is_listed : goal.returns-then-is_listed
returns-then-is_listed c =
    let shown = c.as_bytes-then-is_listed.result.now in
    HasFirst-at (λ (n : BString). IsUnlisted c.args.refs.now (bstring_bytes n))
    (λ (n : BString). IsListed c.args.refs.now (bstring_bytes n) × (shown ≡ bstring_bytes n)) c.args.names.now
    c.loop-name.name-index c.name-item.result c.loop-name-test.true c.loop-name.invariant
    (subst (λ (n : BString). IsListed c.args.refs.now (bstring_bytes n) × (shown ≡ bstring_bytes n)) c.name-item.is (
      subst (IsListed c.args.refs.now) c.as_bytes.ensures (rw c.if-is_listed.true at c.is_listed.ensures),
      c.as_bytes-then-is_listed.ensures,
    ))

pub returns : goal.returns
returns c =
    subst (All (λ (n : BString). IsUnlisted c.args.refs.now (bstring_bytes n)))
    (take_all c.loop-name.name-index c.args.names.now c.loop-name-test.false) c.loop-name.invariant
