use Rattle.std.proofs.Common.{append_assoc}
use Rattle.std.proofs.lemmas.Result.{IfOk-equal}
use Rattle.picture_page.specs.Ground.{turn_box}
use Rattle.picture_page.proofs.ground.put_turn_box.Goals as goal

pub returns : goal.returns
unfolding turn_box
returns c =
    IfOk-equal c.put_form-2.result _ _ _ c.put_form-2.ensures
    (rw (
      c.in_ok-put_span.ensures,
      c.in_ok-put_form.ensures,
      c.clock.ensures,
      c.turn_form.ensures,
      c.has_begun.ensures,
      c.saturating_sub.ensures,
      c.x-left.ensures.value,
      c.x-right.ensures.value,
    ) (simp append_assoc))
