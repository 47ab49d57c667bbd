use Rattle.std.proofs.Common.{append_assoc}
use Rattle.std.proofs.lemmas.Result.{IfOk-equal}
use Rattle.picture_page.specs.Shared.{grids}
use Rattle.picture_page.proofs.shared.put_grids.Goals as goal

pub returns : goal.returns
unfolding grids
returns c =
    IfOk-equal c.put_grid-2.result _ _ _ c.put_grid-2.ensures
    (rw (c.in_ok-put_grid.ensures) (simp append_assoc))
