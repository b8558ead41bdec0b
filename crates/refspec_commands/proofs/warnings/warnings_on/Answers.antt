-- Behind the warnings on conflicts are those on directories, on idle specs, on exclusions, and on single specs.
use Rattle.std.proofs.Common.{map, sym, ◌∙◌}
use Rattle.std.proofs.lemmas.Bool.{false≢true}
use Rattle.gix_refspec_text.specs.Views.Spec.{reading_of}
use Rattle.refspec_io.specs.Texts.{given_of}
use Rattle.refspec_commands.specs.WarnedViews.{asked_of}
use Rattle.refspec_commands.proofs.WarnedLemmas.{behind_four, said_fetch, said_others}
use Rattle.refspec_commands.proofs.warnings.warnings_on.Goals as goal

pub returns : goal.returns
returns c json =
    let fetch = c.is_fetch.ensures.0 c.if-not-is_fetch.false in
    let conflicts = c.in_ok-found.found.items in
    let directories = c.in_ok-directories.directories.items in
    let idle = c.in_ok-idle.idle.items in
    let exclusions = c.in_ok-exclusions.exclusions.items in
    let others = c.in_ok-others.others.items in
    let all = behind_four conflicts directories idle exclusions others c.append.new.self.items c.append-2.new.self.items
    c.append-3.new.self.items c.append-4.new.self.items c.in_ok-append.ensures.items c.in_ok-append-2.ensures.items
    c.in_ok-append-3.ensures.items c.in_ok-append-4.ensures.items in
    said_fetch (asked_of c.args.beside.now) (map reading_of c.args.group.now.specs.items)
    (map given_of c.args.group.now.texts.items) conflicts directories idle exclusions others c.append-4.new.self.items
    fetch
    (c.in_ok-found.ensures json) (c.in_ok-directories.ensures json) c.in_ok-idle.ensures c.in_ok-exclusions.ensures
    c.in_ok-others.ensures all

pub returns-then-not-is_fetch : goal.returns-then-not-is_fetch
returns-then-not-is_fetch c json =
    said_others (asked_of c.args.beside.now) (map reading_of c.args.group.now.specs.items)
    (map given_of c.args.group.now.texts.items) c.faults_in.result
    (λ fetch. false≢true (sym c.if-not-is_fetch.true ∙ c.is_fetch.ensures.1 fetch)) c.faults_in.ensures
