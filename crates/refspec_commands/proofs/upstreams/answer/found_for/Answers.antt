-- The upstream is that of the library, and the text that of the spec which it names.
use Rattle.std.proofs.Common.{ℕ, List, Option, map, refl, subst}
use Rattle.bstr.specs.Owned.{bstring_bytes}
use Rattle.gix_refspec.specs.Views.Spec.{reading_of}
use Rattle.gix_refspec_remote.specs.Upstream.{IsUpstream}
use Rattle.gix_refspec_remote.specs.Views.{shown}
use Rattle.refspec_commands.specs.Upstreams.{IsTextAt}
use Rattle.refspec_commands.proofs.upstreams.answer.found_for.Goals as goal

pub returns : goal.returns
returns c =
    let g = map reading_of c.args.merged.now.specs.now in
    let u = c.in_ok-upstream.upstream in
    record {
      asked = refl;
      upstream = subst (λ (n : List ℕ). IsUpstream g n (shown u)) c.new.ensures c.in_ok-upstream.ensures;
      text = subst (λ (k : Option ℕ). IsTextAt g k (bstring_bytes c.in_ok-text.text)) c.spec_of.ensures
          c.in_ok-text.ensures;
    }
