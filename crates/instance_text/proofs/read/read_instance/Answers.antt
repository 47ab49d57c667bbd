use Rattle.instance_text.proofs.ReadingLemmas.{means_if, defect_if, reads_each, refuses_each}
use Rattle.instance_text.proofs.read.read_instance.Goals as goal

pub returns-clause-read : goal.returns-clause-read
returns-clause-read c = means_if c.args.bytes.now c.read_text.result c.read_text.ensures.read

pub returns-clause-bad : goal.returns-clause-bad
returns-clause-bad c = defect_if c.args.bytes.now c.read_text.result c.read_text.ensures.bad

pub returns-clause-each : goal.returns-clause-each
returns-clause-each c = reads_each c.args.bytes.now c.read_text.result c.read_text.ensures.read c.read_text.ensures.bad

pub returns-clause-each_bad : goal.returns-clause-each_bad
returns-clause-each_bad c = refuses_each c.args.bytes.now c.read_text.result c.read_text.ensures.read c.read_text.ensures.bad
