use Rattle.std.proofs.Common.{append_assoc}
use Rattle.std.proofs.lemmas.Result.{IfOk-equal}
use Rattle.picture_page.specs.Waters.{basin}
use Rattle.picture_page.proofs.waters.put_basin.Goals as goal

pub returns : goal.returns
unfolding basin
returns c =
    IfOk-equal c.put_gate-2.result _ _ _ c.put_gate-2.ensures
    (rw (c.in_ok-put_gate.ensures, c.in_ok-put_form.ensures, c.min-leaf.ensures) (simp append_assoc))
