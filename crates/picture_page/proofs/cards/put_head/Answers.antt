use Rattle.std.proofs.Common.{append_assoc}
use Rattle.std.proofs.lemmas.Result.{IfOk-equal}
use Rattle.picture_page.specs.Cards.{card_head}
use Rattle.picture_page.proofs.cards.put_head.Goals as goal

pub returns : goal.returns
unfolding card_head
returns c =
    IfOk-equal c.put_form.result _ _ _ c.put_form.ensures
    (rw (
      c.in_ok-put_time_after-2.ensures,
      c.in_ok-put_time_after.ensures,
      c.end.ensures.value,
      c.in_ok-put_head_words.ensures,
    ) (simp append_assoc))
