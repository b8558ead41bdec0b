-- A merged ref is kept or not.
use Rattle.std.proofs.Common.{Bor, Global, List, Vec, [], ◌+◌, ◌∙◌, map, subst, sym, take, ℕ}
use Rattle.bstr.specs.BStr.{bstr_bytes}
use Rattle.bstr.specs.declared.bstr.BStr.{BStr}
use Rattle.refspec_git.specs.Fetch.{AreAmong}
use Rattle.refspec_git.proofs.FetchLemmas.{AreAmong-kept, AreAmong-skipped}
use Rattle.refspec_git.proofs.specs.kept_merges.Goals as goal
use Rattle.refspec_git.proofs.specs.kept_merges.Goals.{then-not-branch+in_ok-push, else-not-branch}

-- the kept ones are among the first merged refs
abbrev AreKept : List (Bor (List ℕ)) → ℕ → Vec BStr Global → Type 0
AreKept merges i kept = AreAmong (map (λ (m : Bor (List ℕ)). m.now) (take i merges)) (map bstr_bytes kept.items)

pub loop-merge-preserved : goal.loop-merge-preserved
loop-merge-preserved c =
    let merges = c.args.merges.now in
    let i = c.loop-merge.merge-index in
    elim c.if-not-branch.branch [
      | then-not-branch+in_ok-push w ↦ subst (AreKept merges (i + 1)) (sym w.kept-is)
          (AreAmong-kept merges i _ c.loop-merge.kept.items w.push.new.self.items w.new.result c.loop-merge-test.true
          w.in_ok-push.ensures.items (w.new.ensures ∙ w.merged_name.ensures) c.loop-merge.invariant)
      | else-not-branch w ↦ subst (AreKept merges (i + 1)) (sym w.kept-is)
          (AreAmong-skipped merges i (record { ref_ptr = (0, 0); now = [] }) _ c.loop-merge-test.true
          c.loop-merge.invariant)
    ]
