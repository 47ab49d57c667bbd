use Rattle.std.proofs.Common.{append_assoc}
use Rattle.std.proofs.lemmas.Result.{IfOk-equal}
use Rattle.picture_page.specs.Cards.{head_words}
use Rattle.picture_page.proofs.cards.put_head_words.Goals as goal

pub returns : goal.returns
unfolding head_words
returns c =
    IfOk-equal c.put.result _ _ _ c.put.ensures
    (rw (
      c.in_ok-put_between.ensures,
      c.in_ok-put_arrow.ensures,
      c.in_ok-put_form.ensures,
      c.way_word.ensures,
    ) (simp append_assoc))
