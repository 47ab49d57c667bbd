use Rattle.std.proofs.Common.{sym}
use Rattle.replan_command.proofs.KeepingLemmas.{left_fits}
use Rattle.replan_command.proofs.keeping.kept_answer.Goals as goal

pub search-requires-clause-fit : goal.search-requires-clause-fit
search-requires-clause-fit g c κs within = left_fits c.args.instance.now c.args.options.now.rest c.args.left.now c.requires.left c.in-Some.rest.now (sym c.in-Some.ensures.value) c.requires.fit
