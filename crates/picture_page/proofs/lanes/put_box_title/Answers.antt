use Rattle.std.proofs.Common.{append_assoc}
use Rattle.std.proofs.lemmas.Result.{IfOk-equal}
use Rattle.picture_page.specs.Lanes.{box_title}
use Rattle.picture_page.proofs.lanes.put_box_title.Goals as goal

pub returns : goal.returns
unfolding box_title
returns c =
    IfOk-equal c.put_form-3.result _ _ _ c.put_form-3.ensures
    (rw (
      c.in_ok-put_names.ensures,
      c.in_ok-put_form-2.ensures,
      c.in_ok-put_span.ensures,
      c.in_ok-put_begun_word.ensures,
      c.in_ok-put.ensures,
      c.in_ok-put_form.ensures,
      c.way_word.ensures,
      c.end.ensures.value,
      c.as_slice.ensures.value,
    ) (simp append_assoc))
