-- The upstream is that of the library, as it is shown.
use Rattle.std.proofs.Common.{inl, map}
use Rattle.std.proofs.lemmas.Result.{IfErr-weaker, on_ok_weaker}
use Rattle.gix_refspec.specs.Views.Group.{readings_of}
use Rattle.gix_refspec_remote.specs.Views.{shown}
use Rattle.gix_refspec_c.specs.Group.{bytes_of}
use Rattle.gix_refspec_c.specs.Upstreams.{IsUpstreamIn, shown_in}
use Rattle.gix_refspec_c.proofs.upstreams.find_upstream.Goals as goal

pub returns-in-Ok-upstream_of-clause-ok : goal.returns-in-Ok-upstream_of-clause-ok
returns-in-Ok-upstream_of-clause-ok c =
    let is : IsUpstreamIn (map bytes_of c.args.texts.now) c.args.merge.now (shown_in c.told_of.result) =
    record {
      group = readings_of c.in-Ok.group;
      read = c.in-Ok.ensures.ok;
      upstream = shown c.in-Ok-upstream_of.found;
      is = rw (c.as_slice.ensures.value, c.new.ensures) at c.in-Ok-upstream_of.ensures;
      show = c.told_of.ensures;
    } in
    on_ok_weaker c.write_upstream.result (λ told. (shown_in c.told_of.result, is, told)) c.write_upstream.ensures.ok

pub returns-in-Ok-upstream_of-clause-err : goal.returns-in-Ok-upstream_of-clause-err
returns-in-Ok-upstream_of-clause-err c =
    let is : IsUpstreamIn (map bytes_of c.args.texts.now) c.args.merge.now (shown_in c.told_of.result) =
    record {
      group = readings_of c.in-Ok.group;
      read = c.in-Ok.ensures.ok;
      upstream = shown c.in-Ok-upstream_of.found;
      is = rw (c.as_slice.ensures.value, c.new.ensures) at c.in-Ok-upstream_of.ensures;
      show = c.told_of.ensures;
    } in
    IfErr-weaker c.write_upstream.result _ _ (λ f small. inl (small.0, shown_in c.told_of.result, is, small.1))
    c.write_upstream.ensures.small
