use Rattle.std.proofs.Common.{append_assoc}
use Rattle.std.proofs.lemmas.Result.{IfOk-equal}
use Rattle.picture_page.specs.ShipRows.{row_picture}
use Rattle.picture_page.proofs.ship_rows.put_row_picture.Goals as goal

pub returns : goal.returns
unfolding row_picture
returns c =
    IfOk-equal c.put_row_number.result _ _ _ c.put_row_number.ensures
    (rw (
      c.in_ok-put_row_marks.ensures,
      c.in_ok-put_passage_box.ensures,
      c.in_ok-put_wait_line.ensures,
      c.stretch_of.ensures,
      c.box_width.ensures.value,
      c.x-to.ensures.value,
      c.end.ensures.value,
      c.x-from.ensures.value,
      c.x-here.ensures.value,
    ) (simp append_assoc))
