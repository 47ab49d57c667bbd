use Rattle.std.proofs.Common.{◌≡◌, ◌++◌, subst, sym}
use Rattle.std.specs.Result.{OnOk}
use Rattle.lock_model.specs.declared.way.Way.{Way}
use Rattle.picture_page.specs.Shapes.{arrow_at}
use Rattle.picture_page.proofs.shapes.put_arrow_at.Goals as goal

pub returns-in-Up : goal.returns-in-Up
unfolding arrow_at
returns-in-Up c =
    subst (λ (way : Way). OnOk c.put_form.result (c.put_form.new.out.items ≡ c.args.out.now.items ++ arrow_at way c.args.x c.args.y))
    (sym c.in-Up.is) c.put_form.ensures

pub returns-in-Down : goal.returns-in-Down
unfolding arrow_at
returns-in-Down c =
    subst (λ (way : Way). OnOk c.put_form-in-Down.result (c.put_form-in-Down.new.out.items ≡ c.args.out.now.items ++ arrow_at way c.args.x c.args.y))
    (sym c.in-Down.is) c.put_form-in-Down.ensures
