-- The sides are those of the value.
use Rattle.std.proofs.Common.{ap, refl}
use Rattle.std.proofs.lemmas.Result.{IfErr-weaker, IfOk-weaker}
use Rattle.bstr.specs.BStr.{bstr_bytes}
use Rattle.gix_refspec_remote.specs.declared.remotes.Storage.TheVariants as storage
use Rattle.gix_refspec_remote.specs.declared.remotes.Reviews.TheVariants as reviews
use Rattle.gix_refspec_remote.specs.Remotes.{branch_destination, branch_source, reviews_destination, reviews_source}
use Rattle.gix_refspec_c.specs.declared.remotes.Value.TheVariants as value
use Rattle.gix_refspec_c.specs.Values.{HasValueSides, ValueSides}
use Rattle.gix_refspec_c.proofs.remotes.spec_of.Goals as goal

pub returns-in-Branch-clause-ok : goal.returns-in-Branch-clause-ok
returns-in-Branch-clause-ok c =
    let sides : ValueSides =
    record {
      source = branch_source (storage.Tracking c.new-remote.result) (bstr_bytes c.new-branch.result);
      destination = branch_destination (storage.Tracking c.new-remote.result) (bstr_bytes c.new-branch.result);
    } in
    let has : HasValueSides value.Branch c.args.remote.now c.args.branch.now sides = (
      c.new-remote.result,
      c.new-remote.ensures,
      ap (branch_source (storage.Tracking c.new-remote.result))
          c.new-branch.ensures,
      ap (branch_destination (storage.Tracking c.new-remote.result)) c.new-branch.ensures,
    ) in
    rw c.in-Branch.is (IfOk-weaker c.branch_spec.result _ _ (λ spec is. (sides, has, is)) c.branch_spec.ensures.ok)

pub returns-in-Branch-clause-refused : goal.returns-in-Branch-clause-refused
returns-in-Branch-clause-refused c =
    let sides : ValueSides =
    record {
      source = branch_source (storage.Tracking c.new-remote.result) (bstr_bytes c.new-branch.result);
      destination = branch_destination (storage.Tracking c.new-remote.result) (bstr_bytes c.new-branch.result);
    } in
    let has : HasValueSides value.Branch c.args.remote.now c.args.branch.now sides = (
      c.new-remote.result,
      c.new-remote.ensures,
      ap (branch_source (storage.Tracking c.new-remote.result))
          c.new-branch.ensures,
      ap (branch_destination (storage.Tracking c.new-remote.result)) c.new-branch.ensures,
    ) in
    rw c.in-Branch.is
    (IfErr-weaker c.branch_spec.result _ _ (λ e none. (sides, has, none)) c.branch_spec.ensures.refused)

pub returns-in-Mirror-clause-ok : goal.returns-in-Mirror-clause-ok
returns-in-Mirror-clause-ok c =
    let sides : ValueSides = record {
      source = branch_source storage.Mirror (bstr_bytes c.new-branch.result);
      destination = branch_destination storage.Mirror (bstr_bytes c.new-branch.result);
    } in
    let has : HasValueSides value.Mirror c.args.remote.now c.args.branch.now sides = (
      ap (branch_source storage.Mirror) c.new-branch.ensures,
      ap (branch_destination storage.Mirror) c.new-branch.ensures,
    ) in
    rw c.in-Mirror.is
    (IfOk-weaker c.branch_spec-in-Mirror.result _ _ (λ spec is. (sides, has, is))
    c.branch_spec-in-Mirror.ensures.ok)

pub returns-in-Mirror-clause-refused : goal.returns-in-Mirror-clause-refused
returns-in-Mirror-clause-refused c =
    let sides : ValueSides = record {
      source = branch_source storage.Mirror (bstr_bytes c.new-branch.result);
      destination = branch_destination storage.Mirror (bstr_bytes c.new-branch.result);
    } in
    let has : HasValueSides value.Mirror c.args.remote.now c.args.branch.now sides = (
      ap (branch_source storage.Mirror) c.new-branch.ensures,
      ap (branch_destination storage.Mirror) c.new-branch.ensures,
    ) in
    rw c.in-Mirror.is
    (IfErr-weaker c.branch_spec-in-Mirror.result _ _ (λ e none. (sides, has, none))
    c.branch_spec-in-Mirror.ensures.refused)

pub returns-in-PullRequests-clause-ok : goal.returns-in-PullRequests-clause-ok
returns-in-PullRequests-clause-ok c =
    let sides : ValueSides = record {
      source = reviews_source reviews.PullRequests;
      destination =
          reviews_destination reviews.PullRequests (bstr_bytes c.new-remote.result);
    } in
    let has : HasValueSides value.PullRequests c.args.remote.now c.args.branch.now sides =
    (refl, ap (reviews_destination reviews.PullRequests) c.new-remote.ensures) in
    rw c.in-PullRequests.is
    (IfOk-weaker c.reviews_spec.result _ _ (λ spec is. (sides, has, is)) c.reviews_spec.ensures.ok)

pub returns-in-PullRequests-clause-refused : goal.returns-in-PullRequests-clause-refused
returns-in-PullRequests-clause-refused c =
    let sides : ValueSides = record {
      source = reviews_source reviews.PullRequests;
      destination =
          reviews_destination reviews.PullRequests (bstr_bytes c.new-remote.result);
    } in
    let has : HasValueSides value.PullRequests c.args.remote.now c.args.branch.now sides =
    (refl, ap (reviews_destination reviews.PullRequests) c.new-remote.ensures) in
    rw c.in-PullRequests.is
    (IfErr-weaker c.reviews_spec.result _ _ (λ e none. (sides, has, none)) c.reviews_spec.ensures.refused)

pub returns-in-MergeRequests-clause-ok : goal.returns-in-MergeRequests-clause-ok
returns-in-MergeRequests-clause-ok c =
    let sides : ValueSides = record {
      source = reviews_source reviews.MergeRequests;
      destination =
          reviews_destination reviews.MergeRequests (bstr_bytes c.new-remote.result);
    } in
    let has : HasValueSides value.MergeRequests c.args.remote.now c.args.branch.now sides =
    (refl, ap (reviews_destination reviews.MergeRequests) c.new-remote.ensures) in
    rw c.in-MergeRequests.is (IfOk-weaker c.reviews_spec-in-MergeRequests.result _ _ (λ spec is. (sides, has, is))
    c.reviews_spec-in-MergeRequests.ensures.ok)

pub returns-in-MergeRequests-clause-refused : goal.returns-in-MergeRequests-clause-refused
returns-in-MergeRequests-clause-refused c =
    let sides : ValueSides = record {
      source = reviews_source reviews.MergeRequests;
      destination =
          reviews_destination reviews.MergeRequests (bstr_bytes c.new-remote.result);
    } in
    let has : HasValueSides value.MergeRequests c.args.remote.now c.args.branch.now sides =
    (refl, ap (reviews_destination reviews.MergeRequests) c.new-remote.ensures) in
    rw c.in-MergeRequests.is (IfErr-weaker c.reviews_spec-in-MergeRequests.result _ _ (λ e none. (sides, has, none))
    c.reviews_spec-in-MergeRequests.ensures.refused)
