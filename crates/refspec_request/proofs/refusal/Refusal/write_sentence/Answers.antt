-- The sentence of the refusal, which the match tells.
use Rattle.std.proofs.Common.{OnOk, subst, sym}
use Rattle.refspec_request.specs.declared.refusal.Refusal.{Refusal}
use Rattle.refspec_request.specs.Refusals.{Writes, sentence_of}
use Rattle.refspec_request.proofs.refusal.Refusal.write_sentence.Goals as goal

pub returns-in-NoSuchCommand : goal.returns-in-NoSuchCommand
returns-in-NoSuchCommand c = subst
    (λ (s : Refusal). OnOk c.write_about.result
    (Writes (sentence_of s) c.args.out.now.items c.write_about.new.out.items))
    (sym c.in-NoSuchCommand.is) c.write_about.ensures

pub returns-in-NoSuchOption : goal.returns-in-NoSuchOption
returns-in-NoSuchOption c = subst
    (λ (s : Refusal). OnOk c.write_about-in-NoSuchOption.result
    (Writes (sentence_of s) c.args.out.now.items c.write_about-in-NoSuchOption.new.out.items))
    (sym c.in-NoSuchOption.is) c.write_about-in-NoSuchOption.ensures

pub returns-in-OldForm : goal.returns-in-OldForm
returns-in-OldForm c = subst
    (λ (s : Refusal). OnOk c.write_old_form.result
    (Writes (sentence_of s) c.args.out.now.items c.write_old_form.new.out.items))
    (sym c.in-OldForm.is) c.write_old_form.ensures

pub returns-in-Group : goal.returns-in-Group
returns-in-Group c = subst
    (λ (s : Refusal). OnOk c.write_group.result
    (Writes (sentence_of s) c.args.out.now.items c.write_group.new.out.items))
    (sym c.in-Group.is) c.write_group.ensures
