-- A candidate is the partial name after a folder, or the head of a remote of this name.
use Rattle.gix_refspec_match.proofs.Common.{Some, codes, ◌≡◌, refl, sym, ◌∙◌, ap, Bor, List, ℕ, ◌++◌, arith, false≢true}
use Rattle.gix_refspec_match.proofs.Common.{strip_suffix_is, Decides-eqb, IsFolder, pointwise_decides, one_word}
use Rattle.gix_refspec_match.proofs.lemmas.hits.SingleLemmas.{folder_candidate, head_candidate, head_alone}
use Rattle.gix_refspec_match.proofs.single.is_candidate.Goals as goal

pub returns-then-is_folder : goal.returns-then-is_folder
returns-then-is_folder c =
    let cut = strip_suffix_is Decides-eqb c.args.name.now c.args.partial.now
    (Some c.in-Some.folder) c.in-Some.ensures.cases in
    ((λ yes. folder_candidate c.in-Some.folder.now _ _ (c.is_folder.ensures.0 c.if-is_folder.true) cut), λ one. refl)

pub returns-in-None : goal.returns-in-None
returns-in-None c =
    let cut = strip_suffix_is Decides-eqb c.args.name.now c.args.partial.now c.strip_suffix.result
    c.strip_suffix.ensures.cases in
    let others : (b : Bor (List ℕ)) → c.strip_suffix.result ≡ Some b → ¬ (IsFolder b.now) =
    elim c.match-strip_suffix.branch [
      | goal.in-Some+else-is_folder w ↦ λ b is folder. grind
          (arith, is, folder, w.in-Some.is, w.is_folder.ensures, w.if-is_folder.false)
      | goal.in_default w ↦ λ b is folder. w.in_default.not-Some b is
    ] in (
      (λ no. absurd (false≢true no)),
      λ one. absurd
          (c.in-None.ensures c.args.partial.now (head_alone c.args.partial.now c.args.name.now c.strip_suffix.result cut
          others one)),
    )

pub returns-in-Some-word_between : goal.returns-in-Some-word_between
returns-in-Some-word_between c =
    let remote = c.in-Some-word_between.remote.now in
    let partial = c.args.partial.now in
    let cut = strip_suffix_is Decides-eqb c.args.name.now partial c.strip_suffix.result c.strip_suffix.ensures.cases in
    let others : (b : Bor (List ℕ)) → c.strip_suffix.result ≡ Some b → ¬ (IsFolder b.now) =
    elim c.match-strip_suffix.branch [
      | goal.in-Some+else-is_folder w ↦ λ b is folder. grind
          (arith, is, folder, w.in-Some.is, w.is_folder.ensures, w.if-is_folder.false)
      | goal.in_default w ↦ λ b is folder. w.in_default.not-Some b is
    ] in
    let same = pointwise_decides Decides-eqb remote partial in (
      (λ yes. head_candidate partial c.args.name.now
          (c.in-Some-word_between.ensures ∙ ap (λ x. codes "refs/remotes/" ++ (x ++ codes "/HEAD"))
          (same.0 (sym c.eq.ensures ∙ yes)))),
      λ one. c.eq.ensures ∙ same.1 (one_word (codes "refs/remotes/")
          (codes "/HEAD") c.args.name.now remote partial c.in-Some-word_between.ensures
          (head_alone partial c.args.name.now c.strip_suffix.result cut others one)),
    )
