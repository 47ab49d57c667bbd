use Rattle.std.proofs.Common.{append_assoc}
use Rattle.std.proofs.lemmas.Result.{IfOk-equal}
use Rattle.picture_page.specs.Cards.{list_ship}
use Rattle.picture_page.proofs.cards.put_list_ship.Goals as goal

pub returns : goal.returns
unfolding list_ship
returns c =
    IfOk-equal c.put_measures.result _ _ _ c.put_measures.ensures
    (rw (
      c.in_ok-put_form-2.ensures,
      c.in_ok-put_cargo.ensures,
      c.in_ok-put.ensures,
      c.in_ok-put_between.ensures,
      c.in_ok-put_form.ensures,
      c.as_slice.ensures.value,
    ) (simp append_assoc))
