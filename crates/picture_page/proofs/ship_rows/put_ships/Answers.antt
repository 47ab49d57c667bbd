use Rattle.std.proofs.Common.{append_assoc}
use Rattle.std.proofs.lemmas.Result.{IfOk-equal}
use Rattle.picture_page.specs.ShipRows.{ships_table}
use Rattle.picture_page.proofs.ship_rows.put_ships.Goals as goal

pub returns : goal.returns
unfolding ships_table
returns c =
    IfOk-equal c.put_number_between.result _ _ _ c.put_number_between.ensures
    (rw (
      c.in_ok-put_rows.ensures,
      c.in_ok-put_form.ensures,
      c.in_ok-put_axis.ensures,
      c.in_ok-put_plural_between.ensures,
      c.as_slice.ensures.value,
    ) (simp append_assoc))
