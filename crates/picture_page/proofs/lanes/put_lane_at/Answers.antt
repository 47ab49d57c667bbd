use Rattle.std.proofs.Common.{All, subst, sym, ◌∙◌}
use Rattle.picture_page.specs.KnownPassages.{HasShips}
use Rattle.picture_page.proofs.LineLemmas.{All-line}
use Rattle.picture_page.proofs.lanes.put_lane_at.Goals as goal

pub put_lane-requires : goal.put_lane-requires
put_lane-requires c =
    subst (All (HasShips c.args.instance.now)) (sym (c.as_slice-2.ensures.value ∙ c.in_ok-line.ensures))
    (All-line (HasShips c.args.instance.now) c.args.number c.args.passages.now c.requires.known)
