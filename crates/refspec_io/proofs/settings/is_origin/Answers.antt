-- Each of the four prefixes is tested.
use Rattle.std.proofs.Common.{codes}
use Rattle.std.proofs.lemmas.Bool.Decides.{Decides-eqb}
use Rattle.std.proofs.lemmas.Slice.Eq.{starts_is}
use Rattle.refspec_io.proofs.SettingLemmas.{begins_if, origin_if}
use Rattle.refspec_io.proofs.settings.is_origin.Goals as goal

pub returns : goal.returns
returns c =
    let text = c.args.text.now in
    origin_if text c.starts_with.result c.starts_with-2.result c.starts_with-3.result c.starts_with-4.result
    (begins_if (codes "file:") text c.starts_with.result
    (starts_is Decides-eqb text (codes "file:") c.starts_with.result c.starts_with.ensures.value))
    (begins_if (codes "standard input:") text c.starts_with-2.result
    (starts_is Decides-eqb text (codes "standard input:") c.starts_with-2.result c.starts_with-2.ensures.value))
    (begins_if (codes "blob:") text c.starts_with-3.result
    (starts_is Decides-eqb text (codes "blob:") c.starts_with-3.result c.starts_with-3.ensures.value))
    (begins_if (codes "command line:") text c.starts_with-4.result
    (starts_is Decides-eqb text (codes "command line:") c.starts_with-4.result c.starts_with-4.ensures.value))
