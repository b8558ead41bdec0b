use Rattle.gix_refspec_remote.proofs.Common.{sym, subst, ◌∙◌, star, Lacks, bstr_bytes, pointwise_decides}
use Rattle.gix_refspec_remote.proofs.Common.{Decides-eqb, false≢true}
use Rattle.gix_refspec_remote.proofs.lemmas.WrittenLemmas.{name_text, pattern_text, split_of}
use Rattle.gix_refspec_remote.proofs.written.read_by.Goals as goal

pub returns-in-None-2 : goal.returns-in-None-2
returns-in-None-2 c word is =
    let lacks = subst (Lacks star) c.as_bytes-text.ensures c.in-None-2.ensures in
    let same = name_text (bstr_bytes c.args.side) c.args.name.now word lacks is in
    let tested = pointwise_decides Decides-eqb c.as_bytes-text.result.now c.args.name.now in
    false≢true (sym c.if-eq.false ∙ c.eq.ensures ∙ tested.1 (c.as_bytes-text.ensures ∙ sym same.1))

pub returns-in-None-word_between : goal.returns-in-None-word_between
returns-in-None-word_between c word is =
    let split = split_of (bstr_bytes c.args.side) c.in-Some.before.now c.in-Some.after.now c.requires
    (sym c.as_bytes-text.ensures ∙ c.in-Some.ensures.0) c.in-Some.ensures.1 in
    let (w, some, fits) = pattern_text (bstr_bytes c.args.side) c.in-Some.before.now c.in-Some.after.now
    c.args.name.now word split is in
    c.in-None-word_between.ensures w fits

pub returns-in-Some-word_between : goal.returns-in-Some-word_between
returns-in-Some-word_between c = (
  c.in-Some.before.now,
  c.in-Some.after.now,
  split_of (bstr_bytes c.args.side) c.in-Some.before.now c.in-Some.after.now c.requires
      (sym c.as_bytes-text.ensures ∙ c.in-Some.ensures.0) c.in-Some.ensures.1,
  c.in-Some-word_between.ensures,
)
