use Rattle.gix_refspec_remote.proofs.Common.{◌≡◌, ℕ, List, None, Bor, option_map, ap, sym, subst, ◌∙◌, star, Lacks}
use Rattle.gix_refspec_remote.proofs.Common.{bstr_bytes}
use Rattle.gix_refspec_remote.proofs.lemmas.WrittenLemmas.{name_text, pattern_text, split_of}
use Rattle.gix_refspec_remote.proofs.written.text_with.Goals as goal

pub returns-in-Some-word : goal.returns-in-Some-word
returns-in-Some-word c n is =
    let same = name_text (bstr_bytes c.args.side) n _ (subst (Lacks star) c.as_bytes.ensures c.in-None.ensures) is in
    absurd (cc (rw c.in-Some-word.is at same.0))

pub returns-in-None-word-2 : goal.returns-in-None-word-2
returns-in-None-word-2 c n is =
    let split = split_of (bstr_bytes c.args.side) c.in-Some.before.now c.in-Some.after.now c.requires
    (sym c.as_bytes.ensures ∙ c.in-Some.ensures.0) c.in-Some.ensures.1 in
    let (w, some, fits) = pattern_text (bstr_bytes c.args.side) c.in-Some.before.now c.in-Some.after.now n _ split is in
    let none : option_map (λ (b : Bor (List ℕ)). b.now) c.args.word ≡ None =
    ap (option_map (λ (b : Bor (List ℕ)). b.now)) c.in-None-word-2.is in
    absurd (cc (sym none ∙ some))

pub returns-in_ok-name-in-Some-word-2 : goal.returns-in_ok-name-in-Some-word-2
returns-in_ok-name-in-Some-word-2 c = rw c.in-Some-word-2.is (
  c.in-Some.before.now,
  c.in-Some.after.now,
  split_of (bstr_bytes c.args.side) c.in-Some.before.now c.in-Some.after.now c.requires
      (sym c.as_bytes.ensures ∙ c.in-Some.ensures.0) c.in-Some.ensures.1,
  c.in_ok-name-in-Some-word-2.ensures,
)
