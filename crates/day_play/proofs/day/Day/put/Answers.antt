use Rattle.std.proofs.Common.{ap, ◌∙◌}
use Rattle.day_play.specs.Order.{put_by, minute_of, no_beat}
use Rattle.day_play.proofs.OrderLemmas.{put_by-inserted}
use Rattle.day_play.proofs.day.Day.put.Goals as goal

pub returns : goal.returns
returns c =
    c.insert.ensures.items
    ∙ put_by-inserted minute_of c.args.beat no_beat c.as_slice.result.now c.self.inside.items.items c.first_after-at.result c.as_slice.ensures.value
    c.first_after-at.ensures.within c.first_after-at.ensures.before c.first_after-at.ensures.after
    ∙ ap (put_by minute_of c.args.beat) c.self.view_is
