use Rattle.std.proofs.Common.{append_assoc}
use Rattle.std.proofs.lemmas.Result.{IfOk-equal}
use Rattle.picture_page.specs.Page.{verdict}
use Rattle.picture_page.proofs.heads.put_verdict.Goals as goal

pub returns : goal.returns
unfolding verdict
returns c =
    IfOk-equal c.put_bound.result _ _ _ c.put_bound.ensures
    (rw (c.in_ok-put_count.ensures, c.in_ok-put-2.ensures, c.in_ok-put.ensures, c.known_word.ensures) (simp append_assoc))
