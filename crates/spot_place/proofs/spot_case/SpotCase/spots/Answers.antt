use Rattle.std.proofs.Common.{arith}
use Rattle.refute_rules.specs.Spots.{AreSpotsOfCase}
use Rattle.spot_place.specs.SpotCase.{case_on}
use Rattle.spot_place.proofs.KeptLemmas.{shown-way, shown-berths}
use Rattle.spot_place.proofs.SpotLemmas.{whole-berths, spots-are, spots-legal}
use Rattle.spot_place.proofs.spot_case.SpotCase.spots.Goals as goal

pub spot-requires-clause-ship : goal.spot-requires-clause-ship
spot-requires-clause-ship c =
    let i = c.self.inside in
    let s = c.args.self.now in
    let way = shown-way i.deck i.values i.berths.items i.places.items i.levels.items c.self.invariant s c.self.view_is in
    let shown = shown-berths i.deck i.values i.berths.items i.places.items i.levels.items c.self.invariant s c.self.view_is in
    let full = whole-berths s way c.requires in
    omega (arith, shown, full)

pub spot-requires-clause-way : goal.spot-requires-clause-way
spot-requires-clause-way c =
    let i = c.self.inside in
    shown-way i.deck i.values i.berths.items i.places.items i.levels.items c.self.invariant c.args.self.now c.self.view_is

are : (c : goal.After-loop-ship) → AreSpotsOfCase c.args.self.now.deck (case_on c.args.self.now) c.loop-ship.spots
are c =
    let i = c.self.inside in
    let s = c.args.self.now in
    let way = shown-way i.deck i.values i.berths.items i.places.items i.levels.items c.self.invariant s c.self.view_is in
    let shown = shown-berths i.deck i.values i.berths.items i.places.items i.levels.items c.self.invariant s c.self.view_is in
    let full = whole-berths s way c.requires in
    spots-are s way c.requires c.loop-ship.spots c.loop-ship.ship c.loop-ship.invariant.count (omega (arith, shown, full)) (omega (arith, shown, full)) c.loop-ship.invariant.each

pub returns-clause-spots : goal.returns-clause-spots
returns-clause-spots c = are c

pub returns-clause-legal : goal.returns-clause-legal
returns-clause-legal c =
    let i = c.self.inside in
    let s = c.args.self.now in
    spots-legal s (shown-way i.deck i.values i.berths.items i.places.items i.levels.items c.self.invariant s c.self.view_is) c.requires c.loop-ship.spots (are c)
