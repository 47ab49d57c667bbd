use Rattle.std.proofs.Common.{◌+◌, ◌*◌, ap}
use borrow.Author.Tests.{ltb-true}
use Rattle.lock_model.specs.declared.chamber.Chamber.{Chamber}
use Rattle.price_groups.specs.Asked.{line_asked}
use Rattle.sweep_arcs.proofs.GroupLemmas.{brief-by}
use Rattle.sweep_arcs.proofs.way_groups.is_brief.Goals as goal

pub returns : goal.returns
returns c test =
    let case = c.args.case.now in
    let latest = c.latest_of-latest.result in
    brief-by (line_asked case) latest case.chamber.now.pass c.latest_of-latest.ensures (ap (λ (chamber : Chamber). chamber.pass) case.is) (ltb-true (latest.arrival + case.chamber.now.pass + latest.handling * 8) 10000 test)
