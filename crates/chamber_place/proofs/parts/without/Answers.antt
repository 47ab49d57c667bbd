use Rattle.std.proofs.Common.{rules, ◌≡◌, ◌<◌, take, length, arith}
use Rattle.std.proofs.lemmas.Grind.{common_steps}
use Rattle.chamber_place.proofs.PartLemmas.{pieces-rising}
use Rattle.chamber_place.proofs.parts.without.Goals as goal

pub push_all-requires-2-clause-rising : goal.push_all-requires-2-clause-rising
push_all-requires-2-clause-rising c =
    let front : c.push_all.new.ships ≡ take c.args.number c.as_slice-all.result.now = grind (arith, common_steps) in
    let less : c.args.number < length c.as_slice-all.result.now = search rules in
    pieces-rising c.as_slice-all.result.now c.push_all.new.ships c.args.number front less c.as_slice-all.ensures.rising
