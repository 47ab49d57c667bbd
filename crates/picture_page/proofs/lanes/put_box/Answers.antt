use Rattle.std.proofs.Common.{append_assoc}
use Rattle.std.proofs.lemmas.Result.{IfOk-equal}
use Rattle.picture_page.specs.Lanes.{lockage_box}
use Rattle.picture_page.proofs.lanes.put_box.Goals as goal

pub returns : goal.returns
unfolding lockage_box
returns c =
    IfOk-equal c.put_form.result _ _ _ c.put_form.ensures
    (rw (
      c.in_ok-put_begun_frame.ensures,
      c.in_ok-put_passage_box.ensures,
      c.in_ok-put_box_title.ensures,
      c.clock.ensures,
      c.box_width-width.ensures.value,
      c.has_begun-begun.ensures,
      c.x-from.ensures.value,
      c.x-to.ensures.value,
      c.end.ensures.value,
    ) (simp append_assoc))
