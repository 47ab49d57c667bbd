use Rattle.std.proofs.Common.{append_assoc}
use Rattle.std.proofs.lemmas.Result.{IfOk-equal}
use Rattle.picture_page.specs.Page.{decks}
use Rattle.picture_page.proofs.page.put_decks.Goals as goal

pub returns : goal.returns
unfolding decks
returns c =
    IfOk-equal c.put_form.result _ _ _ c.put_form.ensures
    (rw (c.in_ok-put_cards.ensures, c.in_ok-put_plural_between.ensures) (simp append_assoc))
