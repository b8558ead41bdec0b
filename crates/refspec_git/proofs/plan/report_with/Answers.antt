-- The first specs are given, and the others configured.
use Rattle.std.proofs.Common.{◌≡◌, ◌∙◌, Bor, List, ap, arith, drop, length, map, refl, subst, sym, take, ℕ}
use Rattle.bstr.specs.BStr.{bstr_bytes}
use Rattle.gix_refspec.specs.Views.Group.{ref_of}
use Rattle.gix_refspec.specs.Views.Spec.{reading_of}
use Rattle.refspec_fetch.proofs.FetchLemmas.{first_specs, other_specs}
use Rattle.refspec_git.specs.Fetch.{AreAmong}
use Rattle.refspec_git.proofs.FetchLemmas.{ReportsAnswer-of}
use Rattle.refspec_git.proofs.plan.report_with.Goals as goal

pub returns : goal.returns
returns c =
    let f = c.args.fetch.now in
    let specs = c.args.specs.now in
    let g = map reading_of specs in
    let refs = c.args.refs.now in
    let given = f.specs.given in
    let many : c.len.result ≡ length given.items = omega (arith, c.len.ensures, given.ok.0, given.ok.1) in
    let merges = map bstr_bytes c.in_ok-merges.merges.items in
    ReportsAnswer-of f g (map ref_of refs.remote.items.items) (map ref_of refs.local.items) c.status-status.result _
    c.in_ok-answer.answer c.args.report.now c.report_noted.new.report
    (record {
      subject = refl;
      given = first_specs c.len.result specs c.split_at.result.0.now c.min.result c.min.ensures c.split_at.ensures.front
          ∙ ap (λ (n : ℕ). take n g) many;
      configured = other_specs c.len.result specs c.split_at.result.1.now c.min.result c.min.ensures
          c.split_at.ensures.back
          ∙ ap (λ (n : ℕ). drop n g) many;
      merges = subst (AreAmong (map (λ (m : Bor (List ℕ)). m.now) f.specs.merges.items))
          (sym (ap (map bstr_bytes) c.as_slice-3.ensures.value))
          (subst (λ (l : List (Bor (List ℕ))). AreAmong (map (λ (m : Bor (List ℕ)). m.now) l) merges)
          c.as_slice-2.ensures.value c.in_ok-merges.ensures);
      tags = refl;
      remote = ap (map ref_of) c.as_slice-4.ensures.value;
      here = ap (map ref_of) c.as_slice-5.ensures.value;
      read = refl;
    })
    c.in_ok-answer.ensures.0 c.in_ok-answer.ensures.1 c.status-status.ensures c.in_ok-report_noted.ensures
