use Rattle.std.proofs.Common.{append_assoc}
use Rattle.std.proofs.lemmas.Result.{IfOk-equal}
use Rattle.picture_page.specs.Writing.{letter_alone}
use Rattle.picture_page.proofs.writing.put_letter_alone.Goals as goal

pub returns : goal.returns
unfolding letter_alone
returns c =
    IfOk-equal c.put_form-2.result _ _ _ c.put_form-2.ensures
    (rw (c.in_ok-put_letter.ensures, c.in_ok-put_form.ensures) (simp append_assoc))
