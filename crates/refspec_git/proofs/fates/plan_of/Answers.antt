-- The first specs are given, and the others configured.
use Rattle.std.proofs.Common.{◌≡◌, ◌∙◌, Bor, List, ap, arith, drop, length, map, subst, sym, take, ℕ}
use Rattle.bstr.specs.BStr.{bstr_bytes}
use Rattle.gix_refspec.specs.Views.Group.{ref_of}
use Rattle.gix_refspec.specs.Views.Spec.{reading_of}
use Rattle.gix_refspec_plan.specs.Matching.Plan.{Wish}
use Rattle.refspec_fetch.proofs.FetchLemmas.{first_specs, other_specs}
use Rattle.refspec_git.specs.Fetch.{AreAmong}
use Rattle.refspec_git.proofs.FateLemmas.{PlansFor-of}
use Rattle.refspec_git.proofs.fates.plan_of.Goals as goal

pub returns : goal.returns
returns c =
    let s = c.args.wanted.now in
    let specs = c.args.specs.now in
    let given = s.given in
    let many : c.len.result ≡ length given.items = omega (arith, c.len.ensures, given.ok.0, given.ok.1) in
    let merges = map bstr_bytes c.in_ok-merges.merges.items in
    let wish : Wish = record {
      given = map reading_of c.split_at.result.0.now;
      configured = map reading_of c.split_at.result.1.now;
      merges = map bstr_bytes c.as_slice-2.result.now;
      tags = c.takes_all.result;
    } in
    PlansFor-of s (map reading_of specs) (map ref_of c.args.refs.now) wish c.plan_fetch.result
    (first_specs c.len.result specs c.split_at.result.0.now c.min.result c.min.ensures c.split_at.ensures.front
    ∙ ap (λ (n : ℕ). take n (map reading_of specs)) many)
    (other_specs c.len.result specs c.split_at.result.1.now c.min.result c.min.ensures c.split_at.ensures.back
    ∙ ap (λ (n : ℕ). drop n (map reading_of specs)) many)
    (subst (AreAmong (map (λ (m : Bor (List ℕ)). m.now) s.merges.items))
    (sym (ap (map bstr_bytes) c.as_slice-2.ensures.value))
    (subst (λ (l : List (Bor (List ℕ))). AreAmong (map (λ (m : Bor (List ℕ)). m.now) l) merges)
    c.as_slice.ensures.value c.in_ok-merges.ensures)) c.takes_all.ensures c.plan_fetch.ensures
