use Rattle.std.proofs.Common.{append_assoc}
use Rattle.std.proofs.lemmas.Result.{IfOk-equal}
use Rattle.picture_page.specs.ShipRows.{row_wait}
use Rattle.picture_page.proofs.ship_rows.put_row_wait.Goals as goal

pub returns : goal.returns
unfolding row_wait
returns c =
    IfOk-equal c.put_form.result _ _ _ c.put_form.ensures
    (rw (c.in_ok-put_time_after.ensures, c.saturating_sub-wait.ensures) (simp append_assoc))
