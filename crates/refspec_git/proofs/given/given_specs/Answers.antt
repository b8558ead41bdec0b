-- An argument is a spec, `tag`, or the name behind it.
use Rattle.std.proofs.Common.{◌∙◌, ◌++◌, Bor, Global, List, String, [], ◌∷◌, ap, codes, false, map, refl}
use Rattle.std.proofs.Common.{sym, take, take_all, true, ℕ}
use Rattle.std.proofs.lemmas.Bool.{false≢true}
use Rattle.std.proofs.lemmas.List.{map-append, map_more}
use Rattle.std.proofs.lemmas.Result.{err_from_is_err_and}
use Rattle.std.proofs.lemmas.Slice.Eq.{bytes_eq-Decides}
use Rattle.refspec_git.specs.Wanted.{tag_spec}
use Rattle.refspec_git.proofs.GivenLemmas.{contains_lent, so_far_as, so_far_tagged, spec_more}
use Rattle.refspec_git.proofs.given.given_specs.Goals as goal
use Rattle.refspec_git.proofs.given.given_specs.Goals.{else-is_tag+else-eq+in_ok-from_str+in_ok-push-2}
use Rattle.refspec_git.proofs.given.given_specs.Goals.{else-is_tag+then-eq, then-is_tag+in_ok-tag_spec+in_ok-push}

abbrev now : Bor (List ℕ) → List ℕ
now text = text.now

abbrev bytes_of : String Global → List ℕ
bytes_of t = t.bytes.items

pub loop-argument-preserved : goal.loop-argument-preserved
loop-argument-preserved c =
    let i = c.loop-argument.argument-index in
    let front = map now (take i c.args.arguments.now) in
    let specs = map bytes_of c.loop-argument.specs.items in
    let text = c.in_ok-text.text.now in
    let more = ap (λ t. front ++ t ∷ []) c.in_ok-text.ensures
    ∙ sym (map_more now c.args.arguments.now i _ c.loop-argument-test.true) in
    elim c.if-is_tag.branch [
      | then-is_tag+in_ok-tag_spec+in_ok-push w ↦
          so_far_as false c.if-is_tag.is_tag (front ++ text ∷ []) _ (specs ++ tag_spec text ∷ []) _
          (sym w.is_tag-is) more
          (sym (ap (λ v. map bytes_of v.items) w.specs-is ∙ (ap (map bytes_of) w.in_ok-push.ensures.items
          ∙ (map-append bytes_of c.loop-argument.specs.items (_ ∷ [])
          ∙ ap (λ t. specs ++ t ∷ []) w.in_ok-tag_spec.ensures))))
          (so_far_tagged front specs text
          (so_far_as _ true front front specs specs w.if-is_tag.true refl refl c.loop-argument.invariant))
      | else-is_tag+then-eq w ↦
          let is = (bytes_eq-Decides text (codes "tag")).0 (sym w.eq.ensures ∙ w.if-eq.true) in
          so_far_as true c.if-is_tag.is_tag (front ++ text ∷ []) _ specs _ (sym w.is_tag-is) more
          (sym (ap (λ v. map bytes_of v.items) w.specs-is)) (
            front,
            so_far_as _ false front front specs specs w.if-is_tag.false refl refl c.loop-argument.invariant,
            ap (λ t. front ++ t ∷ []) is,
          )
      | else-is_tag+else-eq+in_ok-from_str+in_ok-push-2 w ↦
          so_far_as false c.if-is_tag.is_tag (front ++ text ∷ []) _ (specs ++ text ∷ []) _
          (sym (w.is_tag-is ∙ w.if-is_tag.false)) more
          (sym (ap (λ v. map bytes_of v.items) w.specs-is ∙ (ap (map bytes_of) w.in_ok-push-2.ensures.items
          ∙ (map-append bytes_of c.loop-argument.specs.items (_ ∷ [])
          ∙ ap (λ t. specs ++ t ∷ []) w.in_ok-from_str.ensures.ok))))
          (spec_more front specs text
          (so_far_as _ false front front specs specs w.if-is_tag.false refl refl c.loop-argument.invariant)
          (λ is. false≢true (sym w.if-eq.false ∙ (w.eq.ensures ∙ (bytes_eq-Decides text (codes "tag")).1 is))))
    ]

pub returns-then-is_tag-2-clause-refused : goal.returns-then-is_tag-2-clause-refused
returns-then-is_tag-2-clause-refused c =
    let front = map now (take c.loop-argument.argument-index c.args.arguments.now) in
    let specs = map bytes_of c.loop-argument.specs.items in
    let tagged = so_far_as _ true front front specs specs c.if-is_tag-2.true refl refl c.loop-argument.invariant in (
      tagged.0,
      specs,
      tagged.1,
      sym (ap (map now) (take_all c.loop-argument.argument-index c.args.arguments.now c.loop-argument-test.false))
          ∙ tagged.2,
    )

pub returns-in_err-text-clause-refused : goal.returns-in_err-text-clause-refused
returns-in_err-text-clause-refused c =
    let q = err_from_is_err_and c.from_residual-in_err-text.result c.from_residual-in_err-text.ensures.1 in
    rw (q.1, q.2, c.in_err-text.ensures.0) (
      contains_lent c.args.arguments.now c.loop-argument.argument-index _ c.loop-argument-test.true,
      c.in_err-text.ensures.1,
    )
