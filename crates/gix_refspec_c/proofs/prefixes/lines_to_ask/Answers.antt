-- The lines are those of the ref prefixes.
use Rattle.std.proofs.Common.{map, ap, ◌∙◌}
use Rattle.bstr.specs.Owned.{bstring_bytes}
use Rattle.gix_refspec.specs.Views.Group.{readings_of}
use Rattle.gix_refspec_c.specs.Group.{lines_of}
use Rattle.gix_refspec_c.proofs.prefixes.lines_to_ask.Goals as goal

pub returns-in-Ok-joined-clause-ok : goal.returns-in-Ok-joined-clause-ok
returns-in-Ok-joined-clause-ok c = record {
  group = readings_of c.in-Ok.group;
  read = c.in-Ok.ensures.ok;
  names = map bstring_bytes c.in-Ok-Listed.names.items;
  lists = (rw c.in-Ok-Listed.field-0-is at c.in-Ok-Listed.ensures.ok).0;
  serves = rw c.in-Ok-Listed.field-0-is at c.in-Ok-Listed.ensures.serves;
  is = c.in-Ok-joined.ensures ∙ ap (λ ns. lines_of (map bstring_bytes ns)) c.as_slice.ensures.value;
}
