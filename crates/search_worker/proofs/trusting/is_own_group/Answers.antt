use Rattle.std.proofs.Common.{◌≤◌, length, All, rules}
use Rattle.search_worker.specs.Owning.{IsOwnShip}
use Rattle.search_worker.proofs.OwnLemmas.{own_group, own_ships}
use Rattle.search_worker.proofs.trusting.is_own_group.Goals as goal

pub returns-then-count-most : goal.returns-then-count-most
returns-then-count-most c =
    let ships = c.as_slice-ships.result.now in
    let some : 1 ≤ length ships = search rules in
    let few : length ships ≤ c.args.most = search rules in (
      λ all.
          let own : All (IsOwnShip c.args.instance.now c.args.first.now c.args.group.now.way) ships = c.are_own_ships.ensures.0 all in
          own_group c.args.instance.now c.args.first.now c.args.most c.args.group.now ships c.as_slice-ships.ensures.value c.as_slice-ships.ensures.rising some few own,
      λ own. c.are_own_ships.ensures.1 (own_ships c.args.instance.now c.args.first.now c.args.most c.args.group.now ships c.as_slice-ships.ensures.value own),
    )
