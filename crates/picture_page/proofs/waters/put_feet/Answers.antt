use Rattle.std.proofs.Common.{append_assoc}
use Rattle.std.proofs.lemmas.Result.{IfOk-equal}
use Rattle.picture_page.specs.Waters.{feet}
use Rattle.picture_page.proofs.waters.put_feet.Goals as goal

pub returns : goal.returns
unfolding feet
returns c =
    IfOk-equal c.put_size_below.result _ _ _ c.put_size_below.ensures
    (rw (c.in_ok-put_form-2.ensures, c.in_ok-put_form.ensures) (simp append_assoc))
