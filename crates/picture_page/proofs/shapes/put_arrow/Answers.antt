use Rattle.std.proofs.Common.{◌≡◌, ◌++◌, subst, sym}
use Rattle.std.specs.Result.{OnOk}
use Rattle.lock_model.specs.declared.way.Way.{Way}
use Rattle.picture_page.specs.Shapes.{arrow}
use Rattle.picture_page.proofs.shapes.put_arrow.Goals as goal

pub returns-in-Up : goal.returns-in-Up
unfolding arrow
returns-in-Up c = subst (λ (way : Way). OnOk c.put.result (c.put.new.out.items ≡ c.args.out.now.items ++ arrow way)) (sym c.in-Up.is) c.put.ensures

pub returns-in-Down : goal.returns-in-Down
unfolding arrow
returns-in-Down c =
    subst (λ (way : Way). OnOk c.put-in-Down.result (c.put-in-Down.new.out.items ≡ c.args.out.now.items ++ arrow way)) (sym c.in-Down.is) c.put-in-Down.ensures
