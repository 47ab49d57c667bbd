use Rattle.std.proofs.Common.{append_assoc}
use Rattle.std.proofs.lemmas.Result.{IfOk-equal}
use Rattle.picture_page.proofs.ship_rows.put_row_marks.Goals as goal

pub returns : goal.returns
returns c =
    IfOk-equal c.put_form-2.result _ _ _ c.put_form-2.ensures
    (rw (c.in_ok-put_present_line.ensures, c.in_ok-put_form.ensures) (simp append_assoc))
