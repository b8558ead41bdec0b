-- By whether there are configured specs.
use Rattle.std.proofs.Common.{◌++◌, ◌∙◌, Bor, List, ap, map, subst, sym, ℕ}
use Rattle.std.proofs.lemmas.Result.{IfOk-weaker}
use Rattle.refspec_io.specs.declared.texts.Text.{Text}
use Rattle.refspec_io.specs.Texts.{given_of}
use Rattle.refspec_git.specs.Asked.{AreConfiguredTexts, AreMergedOrHead, AreMergedTexts}
use Rattle.refspec_git.proofs.AskedLemmas.{configured_none, configured_some, empty, not_empty}
use Rattle.refspec_git.proofs.specs.configured_texts.Goals as goal

abbrev now : Bor (List ℕ) → List ℕ
now it = it.now

pub returns-then-is_empty : goal.returns-then-is_empty
returns-then-is_empty c =
    let s = c.args.specs.now in
    let none = sym c.as_slice-configured.ensures.value ∙ empty c.as_slice-configured.result.now c.if-is_empty.ensures in
    IfOk-weaker c.merged_or_head.result _ _
    (λ texts are. configured_none s.configured.items (map now s.merges.items) (map given_of texts.items) none
    (subst (λ (l : List (Bor (List ℕ))). AreMergedOrHead (map now l) (map given_of texts.items))
    c.as_slice-merges.ensures.value are)) c.merged_or_head.ensures

pub returns : goal.returns
returns c =
    let s = c.args.specs.now in
    let same = c.as_slice-configured.ensures.value in
    let some = not_empty c.as_slice-configured.result.now c.if-is_empty.ensures in
    let merged = c.in_ok-texts.texts.items in
    let all = c.append.new.self.items in
    let are = subst (λ (l : List (Bor (List ℕ))). AreMergedTexts (map now l) (map given_of merged))
    c.as_slice-merges.ensures.value c.in_ok-texts.ensures in
    let parts = c.in_ok-append.ensures.items ∙ ap (λ (l : List Text). l ++ merged) c.in_ok-all.ensures.items in
    subst (λ (l : List Text). AreConfiguredTexts (map given_of l) (map now s.merges.items) (map given_of all)) same
    (configured_some c.as_slice-configured.result.now merged all (map now s.merges.items) some are parts)
