use Rattle.gix_refspec_lint.proofs.{Common.{[], map, take, bstring_bytes}, lemmas.NestFoundLemmas.AreNames}
use Rattle.gix_refspec_lint.proofs.nestings.deciding_names.Given as goal

abbrev pub invariant-loop-word : goal.invariant-loop-word
invariant-loop-word l = AreNames l.common.prefix.now l.common.suffix.now
    (map bstring_bytes (take l.word-index l.word-items)) [] (map bstring_bytes l.names.items)

abbrev pub invariant-loop-shared : goal.invariant-loop-shared
invariant-loop-shared l = AreNames l.common.prefix.now l.common.suffix.now (map bstring_bytes l.group.words.items)
    (take l.shared-index l.shared-items) (map bstring_bytes l.names.items)
