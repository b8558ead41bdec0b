-- The name, the folder, and the name twice.
use Rattle.std.proofs.Common.{[], ◌++◌, ap, codes}
use Rattle.refspec_request.specs.Refusals.{about}
use Rattle.refspec_request.proofs.RefusalLemmas.{Writes-append, Writes-same}
use Rattle.refspec_request.proofs.refusal.write_old_form.Goals as goal

pub returns : goal.returns
returns c =
    let name = c.args.name.now in
    let unread = codes ", which is not read here; `git remote rename " in
    let first = about (codes "the remote ") name (codes " is configured in ") in
    let second = about [] c.args.folder.now unread in
    let third = about [] name (codes " ") in
    let last = about [] name (codes "` moves it into the configuration") in
    Writes-append first (second ++ (third ++ last)) _ _ _ c.in_ok-write_about.ensures
    (Writes-append second (third ++ last) _ _ _
    (Writes-same (about [] c.as_bytes.result.now unread) second _ _
    (ap (λ z. about [] z unread) c.as_bytes.ensures.value) c.in_ok-write_about-2.ensures)
    (Writes-append third last _ _ _ c.in_ok-write_about-3.ensures c.in_ok-write_about-4.ensures))
