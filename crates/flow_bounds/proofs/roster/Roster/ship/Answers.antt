use Rattle.std.proofs.Common.{◌≡◌, ◌∙◌, ap, length, arith, slice_index_or}
use Rattle.lock_rules.specs.Arrival.{next_ship}
use Rattle.lock_rules.proofs.SplitLemmas.{length-order}
use Rattle.master_branch.proofs.ChildSteps.{ship-known}
use Rattle.flow_bounds.proofs.roster.Roster.ship.Goals as goal

pub bounds-as_slice-depth : goal.bounds-as_slice-depth
bounds-as_slice-depth c = omega (arith, ap length (c.as_slice.ensures.value ∙ ap (λ r. r.order) c.self.view_is ∙ c.requires.roster.order_is), length-order c.args.instance.now, c.requires.depth)

pub returns-clause-known : goal.returns-clause-known
returns-clause-known c =
    let next : slice_index_or c.as_slice.result.now c.args.depth 0 ≡ next_ship c.args.instance.now c.args.depth = ap (λ ships. slice_index_or ships c.args.depth 0) (c.as_slice.ensures.value ∙ ap (λ r. r.order) c.self.view_is ∙ c.requires.roster.order_is) in
    ship-known c.args.instance.now c.args.depth _ c.requires.depth next
