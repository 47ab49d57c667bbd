use Rattle.std.proofs.Common.{append_assoc}
use Rattle.std.proofs.lemmas.Result.{IfOk-equal}
use Rattle.picture_page.specs.Cards.{card}
use Rattle.picture_page.proofs.cards.put_card.Goals as goal

pub returns : goal.returns
unfolding card
returns c =
    IfOk-equal c.put_form-2.result _ _ _ c.put_form-2.ensures
    (rw (
      c.in_ok-put_list_rows.ensures,
      c.in_ok-put_form.ensures,
      c.in_ok-put_deck_picture.ensures,
      c.in_ok-put_title.ensures,
      c.in_ok-put_head.ensures,
      c.as_slice-3.ensures.value,
      c.as_slice-2.ensures.value,
      c.drawn-width.ensures.value,
      c.deck_scale-scale.ensures,
      c.as_slice.ensures.value,
    ) (simp append_assoc))
