use Rattle.gix_refspec_remote.proofs.Common.{refl, false≢true, None, bstr_bytes, reading_of}
use Rattle.gix_refspec_remote.proofs.lemmas.SidesLemmas.{names_read, read_names}
use Rattle.gix_refspec_remote.proofs.lemmas.WrittenLemmas.{plain_no_word}
use Rattle.gix_refspec_remote.proofs.upstreams.names.Goals as goal

pub returns-in-None-read_by : goal.returns-in-None-read_by
returns-in-None-read_by c = (
  (λ true. absurd (false≢true true)),
  λ names. absurd ((rw c.as_bytes.ensures at c.in-None-read_by.ensures) None
      (names_read (reading_of c.args.spec.now) c.in-Some.sides c.in-Some.ensures (bstr_bytes c.args.merge) names)),
)

pub returns-in-None-word : goal.returns-in-None-word
returns-in-None-word c = (
  (λ true. read_names (reading_of c.args.spec.now) c.in-Some.sides c.in-Some.ensures (bstr_bytes c.args.merge)
      (rw (c.in-None-word.is, c.as_bytes.ensures) at c.in-Some-read_by.ensures)),
  λ names. refl,
)

pub returns-in-Some-word : goal.returns-in-Some-word
returns-in-Some-word c = (
  (λ true. absurd (false≢true true)),
  λ names. absurd (plain_no_word (bstr_bytes c.in-Some.sides.source) (bstr_bytes c.args.merge)
      (names_read (reading_of c.args.spec.now) c.in-Some.sides c.in-Some.ensures (bstr_bytes c.args.merge) names) _
      (rw (c.in-Some-word.is, c.as_bytes.ensures) at c.in-Some-read_by.ensures)),
)
