use Rattle.std.proofs.Common.{append_assoc}
use Rattle.std.proofs.lemmas.Result.{IfOk-equal}
use Rattle.picture_page.specs.Writing.{letter_text}
use Rattle.picture_page.proofs.writing.put_letter.Goals as goal

pub returns : goal.returns
unfolding letter_text
returns c =
    IfOk-equal c.put-2.result _ _ _ c.put-2.ensures
    (rw (c.in_ok-put_form.ensures, c.in_ok-put.ensures, c.font_of.ensures, c.base_of.ensures) (simp append_assoc))
