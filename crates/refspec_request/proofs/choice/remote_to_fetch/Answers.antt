-- The chosen remote passed both tests.
use Rattle.gix_refspec_text.proofs.lemmas.texts.TextLemmas.{Lacks-from_absent}
use Rattle.refspec_request.proofs.SettingLemmas.{not_so}
use Rattle.refspec_request.proofs.choice.remote_to_fetch.Goals as goal

pub returns-clause-ok : goal.returns-clause-ok
returns-clause-ok c = record {
  chosen = c.in_ok-remote.ensures.ok;
  full = not_so _ c.if-is_nothing.ensures;
  line = Lacks-from_absent 10 c.in_ok-remote.remote.now (not_so _ c.if-has_word.ensures);
}
