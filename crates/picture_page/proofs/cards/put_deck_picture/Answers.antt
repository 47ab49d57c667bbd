use Rattle.std.proofs.Common.{append_assoc}
use Rattle.std.proofs.lemmas.Result.{IfOk-equal}
use Rattle.picture_page.specs.Cards.{deck_picture}
use Rattle.picture_page.proofs.cards.put_deck_picture.Goals as goal

pub returns : goal.returns
unfolding deck_picture
returns c =
    IfOk-equal c.put_feet.result _ _ _ c.put_feet.ensures
    (rw (
      c.in_ok-put_writing.ensures,
      c.in_ok-put_ties.ensures,
      c.in_ok-put_hulls.ensures,
      c.in_ok-put_waters.ensures,
      c.drawn.ensures.value,
      c.height_of-height.ensures.value,
      c.drawn-width.ensures.value,
    ) (simp append_assoc))
