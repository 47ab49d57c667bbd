use Rattle.std.proofs.Common.{◌≡◌, Some, None}
use Rattle.command_words.proofs.options.trial_options.Goals as goal

pub returns-in_err-nodes-clause-each : goal.returns-in_err-nodes-clause-each
returns-in_err-nodes-clause-each c given o rows gives =
    let some : c.number_of.result ≡ Some o.nodes = c.number_of.ensures.each given o.nodes rows gives.nodes in
    let none : c.number_of.result ≡ None = c.in_err-nodes.was in
    cc

pub returns-in_err-turns-clause-each : goal.returns-in_err-turns-clause-each
returns-in_err-turns-clause-each c given o rows gives =
    let some : c.number_of-2.result ≡ Some o.turns = c.number_of-2.ensures.each given o.turns rows gives.turns in
    let none : c.number_of-2.result ≡ None = c.in_err-turns.was in
    cc
