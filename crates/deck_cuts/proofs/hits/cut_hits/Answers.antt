use Rattle.std.proofs.Common.{rules}
use Rattle.lock_model.specs.Fitting.{IsNoRoomier}
use Rattle.lock_model.specs.Fleet.{chamber_at}
use Rattle.refute_rules.specs.Cuts.{IsCut}
use Rattle.deck_cuts.specs.CutHits.{AreShipsHit}
use Rattle.deck_cuts.proofs.HitLemmas.{hits_whole, hits_ships}
use Rattle.deck_cuts.proofs.hits.cut_hits.Goals as goal

pub returns-then-is_tight-clause-exact : goal.returns-then-is_tight-clause-exact
returns-then-is_tight-clause-exact c =
    let kept : IsCut c.args.cut.now = search rules in
    let tight : IsNoRoomier (chamber_at c.args.instance.now c.args.chamber) c.args.cut.now.deck = search rules in (
      λ yes.
          let ships : AreShipsHit c.args.cut.now.ships c.args.cut.now.deck.ships c.args.instance.now c.args.ships.now = search rules in
          hits_whole c.args.cut.now c.args.instance.now c.args.chamber c.args.ships.now kept tight ships,
      λ hits.
          let ships = hits_ships c.args.cut.now c.args.instance.now c.args.chamber c.args.ships.now hits in
          search rules,
    )
