use Rattle.std.proofs.Common.{append_assoc}
use Rattle.std.proofs.lemmas.Result.{IfOk-equal}
use Rattle.picture_page.specs.Lanes.{lane_title}
use Rattle.picture_page.proofs.lanes.put_lane_title.Goals as goal

pub returns : goal.returns
unfolding lane_title
returns c =
    IfOk-equal c.put_form.result _ _ _ c.put_form.ensures
    (rw (
      c.in_ok-put_closed.ensures,
      c.in_ok-put_count.ensures,
      c.in_ok-put_between-2.ensures,
      c.in_ok-put_time.ensures,
      c.in_ok-put_between.ensures,
      c.as_slice.ensures.value,
      c.stand_word.ensures,
    ) (simp append_assoc))
