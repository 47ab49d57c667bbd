use Rattle.std.proofs.Common.{append_assoc}
use Rattle.std.proofs.lemmas.Result.{IfOk-equal}
use Rattle.picture_page.specs.Lanes.{chambers_table}
use Rattle.picture_page.proofs.lanes.put_chambers.Goals as goal

pub returns : goal.returns
unfolding chambers_table
returns c =
    IfOk-equal c.put_form-2.result _ _ _ c.put_form-2.ensures
    (rw (
      c.in_ok-put_lanes.ensures,
      c.in_ok-put_form.ensures,
      c.in_ok-put_axis.ensures,
      c.in_ok-put_plural_between.ensures,
      c.as_slice.ensures.value,
    ) (simp append_assoc))
