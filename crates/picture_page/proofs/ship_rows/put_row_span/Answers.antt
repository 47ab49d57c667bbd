use Rattle.std.proofs.Common.{append_assoc}
use Rattle.std.proofs.lemmas.Result.{IfOk-equal}
use Rattle.picture_page.specs.ShipRows.{row_span}
use Rattle.picture_page.proofs.ship_rows.put_row_span.Goals as goal

pub returns : goal.returns
unfolding row_span
returns c =
    IfOk-equal c.put_time_after-2.result _ _ _ c.put_time_after-2.ensures
    (rw (c.in_ok-put_time_after.ensures, c.end.ensures.value) (simp append_assoc))
