use Rattle.std.proofs.Common.{append_assoc}
use Rattle.std.proofs.lemmas.Result.{IfOk-equal}
use Rattle.picture_page.specs.Writing.{letter_name}
use Rattle.picture_page.proofs.writing.put_letter_name.Goals as goal

pub returns : goal.returns
unfolding letter_name
returns c =
    IfOk-equal c.put_form-3.result _ _ _ c.put_form-3.ensures
    (rw (
      c.in_ok-put_size_after.ensures,
      c.in_ok-put.ensures,
      c.in_ok-put_form-2.ensures,
      c.in_ok-put_letter.ensures,
      c.in_ok-put_form.ensures,
      c.as_slice.ensures.value,
    ) (simp append_assoc))
