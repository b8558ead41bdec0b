-- The file with the name is found at its index.
use Rattle.std.proofs.Common.{refl}
use Rattle.std.proofs.lemmas.Bool.{false≢true}
use Rattle.refspec_request.proofs.RemoteLemmas.{file_at, none_in_file, none_in_files}
use Rattle.refspec_request.proofs.SettingLemmas.{not_so}
use Rattle.refspec_request.proofs.remotes.is_in_file.Goals as goal

pub returns-then-has_name : goal.returns-then-has_name
returns-then-has_name c = (
  (λ so. file_at c.args.files.now c.loop-file.file-index _ _ c.args.name.now c.loop-file-test.true c.file-item.is
      (c.if-has_name.ensures.0 refl)),
  λ some. refl,
)

pub loop-file-preserved : goal.loop-file-preserved
loop-file-preserved c = none_in_file c.args.files.now c.loop-file.file-index _ _ c.args.name.now c.loop-file-test.true
    c.file-item.is
    (not_so _ c.if-has_name.ensures) c.loop-file.invariant

pub returns : goal.returns
returns c = (
  (λ so. absurd (false≢true so)),
  λ some. absurd (none_in_files c.args.files.now c.loop-file.file-index c.args.name.now c.loop-file-test.false
      c.loop-file.invariant some),
)
