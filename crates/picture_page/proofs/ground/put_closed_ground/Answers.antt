use Rattle.std.proofs.Common.{append_assoc}
use Rattle.std.proofs.lemmas.Result.{IfOk-equal}
use Rattle.picture_page.specs.Ground.{closed_ground}
use Rattle.picture_page.proofs.ground.put_closed_ground.Goals as goal

pub returns : goal.returns
unfolding closed_ground
returns c =
    IfOk-equal c.put_form-2.result _ _ _ c.put_form-2.ensures
    (rw (c.in_ok-put_time.ensures, c.in_ok-put_form.ensures, c.clock.ensures, c.saturating_sub.ensures, c.x.ensures.value) (simp append_assoc))
