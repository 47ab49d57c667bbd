use Rattle.std.proofs.Common.{append_assoc}
use Rattle.picture_page.specs.Page.{page_on}
use Rattle.picture_page.proofs.page.page_with.Goals as goal

pub events_of-requires : goal.events_of-requires
events_of-requires c = c.requires.known.chambers

pub put_decks-requires : goal.put_decks-requires
put_decks-requires c = c.requires.known.known

pub returns : goal.returns
unfolding page_on
returns c =
    rw (
      c.in_ok-put_decks.ensures,
      c.in_ok-put_timetable.ensures,
      c.in_ok-put_summary.ensures,
      c.in_ok-put_opening.ensures,
      c.new-page.ensures.items,
      c.as_slice-2.ensures.value,
      c.in_ok-axis.ensures,
      c.as_slice.ensures.value,
      c.in_ok-events.ensures,
      c.cost-total.ensures.value,
    ) (simp append_assoc)
