use Rattle.std.proofs.Common.{append_assoc}
use Rattle.std.proofs.lemmas.Result.{IfOk-equal}
use Rattle.picture_page.proofs.page.put_opening.Goals as goal

pub returns : goal.returns
returns c =
    IfOk-equal c.put_heading.result _ _ _ c.put_heading.ensures
    (rw (c.in_ok-put_shared.ensures, c.in_ok-put_page_head.ensures, c.as_slice.ensures.value, c.in_ok-ticks.ensures) (simp append_assoc))
