use Rattle.std.proofs.Common.{append_assoc}
use Rattle.std.proofs.lemmas.Result.{IfOk-equal}
use Rattle.picture_page.specs.Page.{heading}
use Rattle.picture_page.proofs.heads.put_heading.Goals as goal

pub returns : goal.returns
unfolding heading
returns c =
    IfOk-equal c.put_between.result _ _ _ c.put_between.ensures
    (rw (c.in_ok-put_verdict.ensures, c.in_ok-put_form.ensures, c.known_meaning.ensures) (simp append_assoc))
