use Rattle.std.proofs.Common.{append_assoc}
use Rattle.std.proofs.lemmas.Result.{IfOk-equal}
use Rattle.picture_page.specs.Page.{timetable}
use Rattle.picture_page.proofs.page.put_timetable.Goals as goal

pub returns : goal.returns
unfolding timetable
returns c =
    IfOk-equal c.put_legend.result _ _ _ c.put_legend.ensures
    (rw (c.in_ok-put_form-2.ensures, c.in_ok-put_ships.ensures, c.in_ok-put_chambers.ensures, c.in_ok-put_form.ensures) (simp append_assoc))
