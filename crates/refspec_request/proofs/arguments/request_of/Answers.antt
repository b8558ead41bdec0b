-- Each option is looked for.
use Rattle.std.proofs.Common.{refl}
use Rattle.refspec_request.proofs.arguments.request_of.Goals as goal

pub returns : goal.returns
returns c = λ lacks has. (
  refl,
  record {
    command = has;
    arguments = refl;
    form = c.form.ensures;
    verbose = c.has.ensures;
    push = c.has-2.ensures;
    patterns = c.has-3.ensures;
    head = c.has-4.ensures;
    long = c.has-5.ensures;
    all = c.has-6.ensures;
    prune = c.has-7.ensures;
    no_warnings = c.has-8.ensures;
    strict = c.has-9.ensures;
    refmap = refl;
    remote = refl;
    dashes = refl;
  },
)
