use Rattle.std.proofs.Common.{append_assoc}
use Rattle.std.proofs.lemmas.Result.{IfOk-equal}
use Rattle.picture_page.specs.Lanes.{lane_end}
use Rattle.picture_page.proofs.lanes.put_lane_end.Goals as goal

pub returns : goal.returns
unfolding lane_end
returns c =
    IfOk-equal c.put_lane_words.result _ _ _ c.put_lane_words.ensures
    (rw (c.in_ok-put_present_line.ensures, c.in_ok-put_form.ensures) (simp append_assoc))
