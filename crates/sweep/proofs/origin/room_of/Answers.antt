use Rattle.std.proofs.Common.{SFits, w64, sym, subst, rules}
use Rattle.std.proofs.lemmas.Int.{to_z-of_z}
use Rattle.sweep.specs.Bounds.{IsRoom}
use Rattle.sweep.proofs.BoundLemmas.{room_wide}
use Rattle.sweep.proofs.origin.room_of.Goals as goal

pub returns : goal.returns
returns c =
    let room = c.in_ok-room.room in
    let fits : SFits w64 room = search rules in
    subst (IsRoom c.args.case.now c.args.from.now c.args.chamber c.args.goal) (sym (to_z-of_z w64 room fits))
    (room_wide c.args.case.now c.args.from.now c.args.chamber c.args.goal c.in_ok-sum_of.field-0 c.saturating_sub-beside.result c.in_ok-low.low c.in_ok-high.high room c.requires
    c.in_ok-sum_of.ensures (search rules) c.in_ok-low.ensures c.in_ok-high.ensures c.in_ok-room.ensures)
