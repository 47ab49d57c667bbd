use Rattle.std.proofs.Common.{◌≡◌, arith, rules}
use Rattle.lock_rules.specs.Singles.{chosen_chamber}
use Rattle.lock_rules.proofs.SinglesLemmas.{choice-known}
use Rattle.first_plan.proofs.singles.chamber_for.Goals as goal

pub returns-clause-known : goal.returns-clause-known
returns-clause-known c =
    let known = choice-known c.args.instance.now c.args.ship c.args.standings.now c.requires.each c.requires.fit in
    let same : c.unwrap_or-chamber.result.0 ≡ chosen_chamber c.args.instance.now c.args.ship c.args.standings.now = search rules in
    omega (arith, known.0, same)
