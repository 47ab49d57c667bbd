use Rattle.std.proofs.Common.{append_assoc}
use Rattle.std.proofs.lemmas.Result.{IfOk-equal}
use Rattle.picture_page.specs.Legend.{chamber_entries}
use Rattle.picture_page.proofs.legend.put_chamber_entries.Goals as goal

pub returns : goal.returns
unfolding chamber_entries
returns c =
    IfOk-equal c.put_shown_entry-2.result _ _ _ c.put_shown_entry-2.ensures
    (rw (
      c.in_ok-put_shown_entry.ensures,
      c.in_ok-put_present_entries.ensures,
      c.in_ok-put_form.ensures,
      c.has_closures.ensures,
      c.opens_later.ensures,
      c.first.ensures,
    ) (simp append_assoc))
