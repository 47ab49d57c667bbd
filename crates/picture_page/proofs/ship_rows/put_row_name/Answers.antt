use Rattle.std.proofs.Common.{append_assoc}
use Rattle.std.proofs.lemmas.Result.{IfOk-equal}
use Rattle.picture_page.specs.ShipRows.{row_name}
use Rattle.picture_page.proofs.ship_rows.put_row_name.Goals as goal

pub returns : goal.returns
unfolding row_name
returns c =
    IfOk-equal c.put_cargo.result _ _ _ c.put_cargo.ensures
    (rw (
      c.in_ok-put.ensures,
      c.in_ok-put_arrow.ensures,
      c.in_ok-put_form.ensures,
      c.as_slice.ensures.value,
    ) (simp append_assoc))
