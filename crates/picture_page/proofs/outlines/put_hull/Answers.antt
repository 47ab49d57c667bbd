use Rattle.std.proofs.Common.{append_assoc}
use Rattle.std.proofs.lemmas.Result.{IfOk-equal}
use Rattle.picture_page.specs.Hulls.{hull_text}
use Rattle.picture_page.proofs.outlines.put_hull.Goals as goal

pub returns : goal.returns
unfolding hull_text
returns c =
    IfOk-equal c.put_outline.result _ _ _ c.put_outline.ensures
    (rw (
      c.in_ok-put_form.ensures,
      c.in_ok-put_berth.ensures,
      c.in_ok-put_measures.ensures,
      c.in_ok-put_between.ensures,
      c.hull_of.ensures,
      c.as_slice.ensures.value,
      c.ship_of-ship.ensures.value,
    ) (simp append_assoc))
