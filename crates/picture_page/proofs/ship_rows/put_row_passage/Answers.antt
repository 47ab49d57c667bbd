use Rattle.std.proofs.Common.{append_assoc}
use Rattle.std.proofs.lemmas.Result.{IfOk-equal}
use Rattle.picture_page.specs.ShipRows.{row_passage}
use Rattle.picture_page.proofs.ship_rows.put_row_passage.Goals as goal

pub returns : goal.returns
unfolding row_passage
returns c =
    IfOk-equal c.put_form-2.result _ _ _ c.put_form-2.ensures
    (rw (c.in_ok-put.ensures, c.in_ok-put_form.ensures, c.in_ok-put_row_span.ensures) (simp append_assoc))
