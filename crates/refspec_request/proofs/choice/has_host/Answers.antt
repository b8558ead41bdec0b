-- What precedes and follows the first colon is tested.
use Rattle.std.proofs.Common.{◌⊎◌, codes}
use Rattle.gix_refspec_text.specs.Texts.Words.{BeginsWith, ContainsText}
use Rattle.refspec_request.proofs.WordLemmas.{host_tested, no_host}
use Rattle.refspec_request.proofs.choice.has_host.Goals as goal

pub returns-in-None : goal.returns-in-None
returns-in-None c = no_host c.args.argument.now c.in-None.ensures

pub returns-in-Some : goal.returns-in-Some
returns-in-Some c = host_tested c.args.argument.now c.in-Some.before.now c.in-Some.after.now
    (λ before after. BeginsWith (codes "//") after ⊎ BeginsWith (codes ":") after ⊎ ContainsText (codes "@") before)
    c.tells_host.result c.in-Some.ensures.0 c.in-Some.ensures.1 (λ host. host.host)
    (λ host. record {
      before = c.in-Some.before.now;
      after = c.in-Some.after.now;
      parts = c.in-Some.ensures.0;
      first =
          c.in-Some.ensures.1;
      host = host;
    })
    c.tells_host.ensures
