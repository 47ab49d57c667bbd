use Rattle.std.proofs.Common.{refl}
use Rattle.std.proofs.lemmas.Result.{IfOk-equal}
use Rattle.picture_page.specs.Ties.{bollard}
use Rattle.picture_page.proofs.ties.put_bollard.Goals as goal

pub returns-in-Left : goal.returns-in-Left
unfolding bollard
returns-in-Left c =
    IfOk-equal c.put_form.result _ _ _ c.put_form.ensures
    (rw (c.in-Left.is, c.saturating_sub-left.ensures, c.saturating_sub.ensures, c.saturating_sub-in-Left.ensures) refl)

pub returns-in-Right : goal.returns-in-Right
unfolding bollard
returns-in-Right c =
    IfOk-equal c.put_form-in-Right.result _ _ _ c.put_form-in-Right.ensures
    (rw (c.in-Right.is, c.saturating_sub-left.ensures, c.saturating_sub-in-Right.ensures) refl)
