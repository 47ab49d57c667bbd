use Rattle.std.proofs.Common.{append_assoc}
use Rattle.std.proofs.lemmas.Result.{IfOk-equal}
use Rattle.picture_page.specs.Labels.{opens_text}
use Rattle.picture_page.proofs.labels.put_opens_text.Goals as goal

pub returns : goal.returns
unfolding opens_text
returns c =
    IfOk-equal c.put-2.result _ _ _ c.put-2.ensures
    (rw (c.in_ok-put_time.ensures, c.in_ok-put.ensures, c.clock.ensures) (simp append_assoc))
