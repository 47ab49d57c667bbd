use Rattle.std.proofs.Common.{append_assoc}
use Rattle.std.proofs.lemmas.Result.{IfOk-equal}
use Rattle.picture_page.specs.Legend.{legend}
use Rattle.picture_page.proofs.legend.put_legend.Goals as goal

pub returns : goal.returns
unfolding legend
returns c =
    IfOk-equal c.put_form.result _ _ _ c.put_form.ensures
    (rw (c.in_ok-put_ship_entries.ensures, c.in_ok-put_chamber_entries.ensures, c.as_slice.ensures.value, c.as_slice-2.ensures.value) (simp append_assoc))
