use Rattle.std.proofs.Common.{◌≡◌, map, take}
use Rattle.lock_model.specs.declared.chamber.Chamber.{Chamber}
use Rattle.first_plan.proofs.standing.Standings.first.Given as goal

abbrev pub invariant-loop-chamber : goal.invariant-loop-chamber
invariant-loop-chamber l = l.items.items ≡ map (λ (c : Chamber). record { stand = c.stands; from = c.opens }) (take l.chamber-index l.chamber-items)
