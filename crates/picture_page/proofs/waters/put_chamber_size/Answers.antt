use Rattle.std.proofs.Common.{append_assoc}
use Rattle.std.proofs.lemmas.Result.{IfOk-equal}
use Rattle.picture_page.specs.Waters.{chamber_size}
use Rattle.picture_page.proofs.waters.put_chamber_size.Goals as goal

pub returns : goal.returns
unfolding chamber_size
returns c =
    IfOk-equal c.put_measures.result _ _ _ c.put_measures.ensures
    (rw (c.in_ok-put_form.ensures) (simp append_assoc))
