use Rattle.std.proofs.Common.{append_assoc}
use Rattle.std.proofs.lemmas.Result.{IfOk-equal}
use Rattle.picture_page.specs.Page.{summary}
use Rattle.picture_page.proofs.heads.put_summary.Goals as goal

pub returns : goal.returns
unfolding summary
returns c =
    IfOk-equal c.put_form.result _ _ _ c.put_form.ensures
    (rw (
      c.in_ok-put_next_count-3.ensures,
      c.in_ok-put_next_count-2.ensures,
      c.in_ok-put_next_count.ensures,
      c.in_ok-put_event_span.ensures,
      c.as_slice.ensures.value,
      c.as_slice-2.ensures.value,
    ) (simp append_assoc))
