use Rattle.gix_refspec_lint.proofs.Common.{ℕ, List, [], ◌∷◌, ◌++◌, map, subst, AllByRecursion, bstring_bytes, name}
use Rattle.gix_refspec_lint.proofs.Common.{IfOk-weaker, MatchBool-at_false}
use Rattle.gix_refspec_lint.proofs.lemmas.{PruneLemmas.pattern_same, RemovalLemmas.told_else}
use Rattle.gix_refspec_lint.specs.Private.Removals.{IsSameAt, all_of, rest_of}
use Rattle.gix_refspec_lint.proofs.removal.pruning.pattern_prunes.Goals as goal

pub returns : goal.returns
returns c r are writes =
    let lists = c.args.lists.now in
    let P : List ℕ → Type 0 = λ w. IsSameAt (all_of lists) (rest_of lists) (c.args.far.0.now ++ (w ++ c.args.far.1.now))
    (name (c.args.near.0.now ++ (w ++ c.args.near.1.now)) ∷ []) in
    let tried : AllByRecursion P (map bstring_bytes lists.words.now) =
    MatchBool-at_false _ _ c.if-branch.false c.in_ok-word_prunes.ensures in
    IfOk-weaker c.excluded_prunes.result _ _
    (λ does. told_else _ _ _ does
    (pattern_same lists r are _ _ _ _ writes (subst (AllByRecursion P) are.words tried)))
    (c.excluded_prunes.ensures r are writes)
