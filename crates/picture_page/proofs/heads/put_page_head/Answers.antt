use Rattle.std.proofs.Common.{append_assoc}
use Rattle.std.proofs.lemmas.Result.{IfOk-equal}
use Rattle.picture_page.specs.Page.{page_head}
use Rattle.picture_page.proofs.heads.put_page_head.Goals as goal

pub returns : goal.returns
unfolding page_head
returns c =
    IfOk-equal c.put_form-3.result _ _ _ c.put_form-3.ensures
    (rw (
      c.in_ok-put_present_style.ensures,
      c.in_ok-put_form-2.ensures,
      c.in_ok-put_verdict.ensures,
      c.in_ok-put_form.ensures,
    ) (simp append_assoc))
