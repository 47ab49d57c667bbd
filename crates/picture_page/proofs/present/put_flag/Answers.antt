use Rattle.std.proofs.Common.{append_assoc}
use Rattle.std.proofs.lemmas.Result.{IfOk-equal}
use Rattle.picture_page.specs.Present.{flag}
use Rattle.picture_page.proofs.present.put_flag.Goals as goal

pub returns : goal.returns
unfolding flag
returns c =
    IfOk-equal c.put.result _ _ _ c.put.ensures
    (rw (c.in_ok-put_time.ensures, c.in_ok-put_form.ensures, c.flag_middle.ensures, c.half_flag.ensures) (simp append_assoc))
