use Rattle.std.proofs.Common.{append_assoc}
use Rattle.std.proofs.lemmas.Result.{IfOk-equal}
use Rattle.picture_page.specs.Lanes.{lane_name}
use Rattle.picture_page.proofs.lanes.put_lane_name.Goals as goal

pub returns : goal.returns
unfolding lane_name
returns c =
    IfOk-equal c.put_measures.result _ _ _ c.put_measures.ensures
    (rw (c.in_ok-put_between.ensures, c.as_slice-name.ensures.value) (simp append_assoc))
