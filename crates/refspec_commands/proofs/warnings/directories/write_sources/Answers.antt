-- The first source, and the second if it differs.
use Rattle.std.proofs.Common.{◌∙◌, ◌++◌, ℕ, List, codes, subst, sym}
use Rattle.std.proofs.lemmas.Bool.{false≢true}
use Rattle.std.proofs.lemmas.Bool.Decides.{Decides-eqb}
use Rattle.std.proofs.lemmas.Slice.Eq.{slice_eq-Decides}
use Rattle.gix_refspec_lint.specs.Views.Lint.{nesting_of}
use Rattle.refspec_io.specs.Shown.{WritesQuoted}
use Rattle.refspec_io.proofs.ShownLemmas.{on_ok}
use Rattle.refspec_commands.proofs.WarnedLemmas.{AreSources-both}
use Rattle.refspec_commands.proofs.warnings.directories.write_sources.Goals as goal

pub returns : goal.returns
returns c none =
    let start = c.args.out.now.items in
    let mid = c.say.new.out.items in
    let end = c.say-2.new.out.items in
    let same = slice_eq-Decides Decides-eqb c.in_ok-upper.upper.now c.in_ok-lower.lower.now c.eq.result c.eq.ensures in
    let first = subst (λ (t : List ℕ). WritesQuoted t (start ++ codes "A remote with ") mid) c.in_ok-upper.ensures
    c.in_ok-say.ensures in
    on_ok c.say-2.result _ _ c.say-2.ensures
    (λ wrote. AreSources-both (nesting_of c.args.conflict.now) start mid end none
    (λ equal. false≢true (sym c.if-eq.false ∙ same.1 (c.in_ok-upper.ensures ∙ (equal ∙ sym c.in_ok-lower.ensures))))
    first
    (subst (λ (t : List ℕ). WritesQuoted t (mid ++ codes " and ") end) c.in_ok-lower.ensures wrote))
