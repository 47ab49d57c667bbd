use Rattle.std.proofs.Common.{append_assoc}
use Rattle.std.proofs.lemmas.Result.{IfOk-equal}
use Rattle.picture_page.proofs.shared.put_axis_shape.Goals as goal

pub returns : goal.returns
returns c =
    IfOk-equal c.put_form-2.result _ _ _ c.put_form-2.ensures
    (rw (c.in_ok-put_tick_texts.ensures, c.in_ok-put_form.ensures) (simp append_assoc))
