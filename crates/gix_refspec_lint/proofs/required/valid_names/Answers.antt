use Rattle.gix_refspec_lint.proofs.{Common.{false≢true, refl}, lemmas.RequiredLemmas.{valid_more, valid_same}}
use Rattle.gix_refspec_lint.proofs.required.valid_names.Goals as goal

pub loop-name-preserved-in-Continue-1 : goal.loop-name-preserved-in-Continue-1
loop-name-preserved-in-Continue-1 c =
    let told = rw (c.as_bytes.ensures, c.as_bstr.ensures) at c.if-is_ref_name.ensures in
    valid_more c.loop-name.yielded c.in-Some.name c.loop-name.valid.items c.loop-name.invariant c.push.new.self.items
    c.in_ok-push.ensures.items (told.0 refl)

pub loop-name-preserved : goal.loop-name-preserved
loop-name-preserved c =
    let told = rw (c.as_bytes.ensures, c.as_bstr.ensures) at c.if-is_ref_name.ensures in
    valid_same c.loop-name.yielded c.in-Some.name c.loop-name.valid.items c.loop-name.invariant
    (λ good. false≢true (told.1 good))
