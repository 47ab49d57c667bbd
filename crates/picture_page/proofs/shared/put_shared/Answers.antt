use Rattle.std.proofs.Common.{append_assoc}
use Rattle.std.proofs.lemmas.Result.{IfOk-equal}
use Rattle.picture_page.specs.Shared.{shared}
use Rattle.picture_page.proofs.shared.put_shared.Goals as goal

pub returns : goal.returns
unfolding shared
returns c =
    IfOk-equal c.put_axis_shape.result _ _ _ c.put_axis_shape.ensures
    (rw (
      c.in_ok-put_present_flag.ensures,
      c.in_ok-put_torn.ensures,
      c.in_ok-put_grids.ensures,
      c.in_ok-put_form.ensures,
      c.clock.ensures,
    ) (simp append_assoc))
