use Rattle.std.proofs.Common.{◌-◌, IsTrue, nat_eq, rules, arith}
use Rattle.deck_cases.proofs.KnownLemmas.{leads_here, leads_later}
use Rattle.deck_cases.proofs.known.+leads_to.Goals as goal

pub returns-then-host-ship : goal.returns-then-host-ship
returns-then-host-ship t c =
    let yes : IsTrue (nat_eq c.in-Some.host c.args.ship) = search rules in
    let here = leads_here c.args.choices.now c.args.steps (c.args.steps - 1) c.args.from c.in-Some.host c.args.ship (omega arith) (search rules) c.if-host-ship.true in
    (λ told. here, λ has. yes)

pub returns-else-host-ship : goal.returns-else-host-ship
returns-else-host-ship t c =
    leads_later c.args.choices.now c.args.steps (c.args.steps - 1) c.args.from c.in-Some.host c.args.ship c.leads_to.result (omega arith) (search rules) c.if-host-ship.false c.leads_to.ensures
