use Rattle.plan_text.proofs.ReadingLemmas.{text_if, fault_if, reads_each, refuses_each}
use Rattle.plan_text.proofs.reading.read_plan.Goals as goal

pub returns-clause-read : goal.returns-clause-read
returns-clause-read c = text_if c.args.instance.now c.args.bytes.now c.read_text.result c.read_text.ensures.read

pub returns-clause-bad : goal.returns-clause-bad
returns-clause-bad c = fault_if c.args.instance.now c.args.bytes.now c.read_text.result c.read_text.ensures.bad

pub returns-clause-each : goal.returns-clause-each
returns-clause-each c = reads_each c.args.instance.now c.args.bytes.now c.read_text.result c.read_text.ensures.read c.read_text.ensures.bad

pub returns-clause-each_bad : goal.returns-clause-each_bad
returns-clause-each_bad c = refuses_each c.args.instance.now c.args.bytes.now c.read_text.result c.read_text.ensures.read c.read_text.ensures.bad
