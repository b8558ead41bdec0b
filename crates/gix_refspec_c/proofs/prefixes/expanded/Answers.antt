-- The entries are appended to an empty vector, and each gets its newline.
use Rattle.std.proofs.Common.{◌∙◌, ◌++◌, List, ℕ, map, ap, subst, sym}
use Rattle.std.proofs.lemmas.Result.{IfOk-weaker}
use Rattle.bstr.specs.Owned.{bstring_bytes}
use Rattle.gix_refspec.specs.Views.Spec.{reading_of}
use Rattle.gix_refspec_text.specs.Matching.Prefix.{IsExpansion}
use Rattle.gix_refspec_c.specs.Group.{IsExpandedTo, lines_of}
use Rattle.gix_refspec_c.proofs.prefixes.expanded.Goals as goal

pub returns : goal.returns
returns c =
    let grown = c.in_ok-expand_prefixes.ensures.ok in
    let names = map bstring_bytes c.expand_prefixes.new.out.items in
    let is : IsExpansion (reading_of c.args.spec.now) names =
    subst (λ (ns : List (List ℕ)). IsExpansion (reading_of c.args.spec.now) ns)
    (sym (grown.appended ∙ ap (λ old. map bstring_bytes old ++ grown.list) c.new-names.ensures.items)) grown.is in
    IfOk-weaker c.joined.result _ (λ lines. IsExpandedTo (reading_of c.args.spec.now) lines.items)
    (λ lines described. (names, is, described ∙ ap (λ ns. lines_of (map bstring_bytes ns)) c.as_slice.ensures.value))
    c.joined.ensures
