use Rattle.std.proofs.Common.{append_assoc}
use Rattle.std.proofs.lemmas.Result.{IfOk-equal}
use Rattle.picture_page.specs.Legend.{ship_entries}
use Rattle.picture_page.proofs.legend.put_ship_entries.Goals as goal

pub returns : goal.returns
unfolding ship_entries
returns c =
    IfOk-equal c.put_shown_entry.result _ _ _ c.put_shown_entry.ensures
    (rw (
      c.in_ok-put_form-2.ensures,
      c.in_ok-put_break_entry.ensures,
      c.in_ok-put_form.ensures,
      c.breaks.ensures,
      c.has_cargo.ensures,
    ) (simp append_assoc))
