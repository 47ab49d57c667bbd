use Rattle.std.proofs.Common.{append_assoc}
use Rattle.std.proofs.lemmas.Result.{IfOk-equal}
use Rattle.picture_page.specs.Lanes.{lane_words}
use Rattle.picture_page.proofs.lanes.put_lane_words.Goals as goal

pub returns : goal.returns
unfolding lane_words
returns c =
    IfOk-equal c.put_number_between.result _ _ _ c.put_number_between.ensures
    (rw (c.in_ok-put_opens.ensures, c.in_ok-put_labels.ensures) (simp append_assoc))
