use Rattle.std.proofs.Common.{append_assoc}
use Rattle.std.proofs.lemmas.Result.{IfOk-equal}
use Rattle.picture_page.specs.Cards.{card_title}
use Rattle.picture_page.proofs.cards.put_title.Goals as goal

pub returns : goal.returns
unfolding card_title
returns c =
    IfOk-equal c.put_form-2.result _ _ _ c.put_form-2.ensures
    (rw (
      c.in_ok-put_title_ships.ensures,
      c.in_ok-put_between.ensures,
      c.in_ok-put_form.ensures,
      c.height_of.ensures.value,
    ) (simp append_assoc))
