use Rattle.std.proofs.Common.{IsTrue, ◌↔◌, subst}
use Rattle.ship_shapes.specs.Lanes.{Passage, IsJam}
use Rattle.ship_shapes.proofs.FirstLemmas.{row_tells}
use Rattle.ship_shapes.proofs.reason.is_row.Goals as goal

pub returns-clause-exact : goal.returns-clause-exact
returns-clause-exact c =
    let tells : Passage → Type 0 = λ lane. IsTrue c.is_jam.result ↔ IsJam lane c.args.ships.now in
    row_tells c.args.deck.now c.args.ships.now c.is_jam.result (subst tells c.row_lane.ensures.value c.is_jam.ensures)
