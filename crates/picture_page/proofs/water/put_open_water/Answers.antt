use Rattle.std.proofs.Common.{append_assoc}
use Rattle.std.proofs.lemmas.Result.{IfOk-equal}
use Rattle.picture_page.specs.Ground.{open_water}
use Rattle.picture_page.proofs.water.put_open_water.Goals as goal

pub returns : goal.returns
unfolding open_water
returns c =
    IfOk-equal c.put_form-2.result _ _ _ c.put_form-2.ensures
    (rw (
      c.in_ok-put_waves.ensures,
      c.in_ok-put_form.ensures,
      c.in_ok-put_turns.ensures,
      c.x-2.ensures.value,
      c.last.ensures,
      c.x.ensures.value,
      c.water_at.ensures,
    ) (simp append_assoc))
