use Rattle.std.proofs.Common.{rules}
use Rattle.lock_rules.specs.Node.{root}
use Rattle.cert_check.specs.Reading.{IsStuck, IsReadLow}
use Rattle.cert_check.proofs.ReadLemmas.{read-shorter, sticks-shorter}
use Rattle.cert_check.proofs.checking.low_of_marks.Goals as goal

pub overflow_sub-result : goal.overflow_sub-result
overflow_sub-result c =
    let stuck : IsStuck c.args.claim.now root c.args.marks.now c.in-Err.stuck.marks.now c.in-Err.stuck.reason = search rules in
    sticks-shorter c.args.claim.now root c.args.marks.now c.in-Err.stuck.marks.now c.in-Err.stuck.reason stuck

pub overflow_sub-result-else-is_empty : goal.overflow_sub-result-else-is_empty
overflow_sub-result-else-is_empty c =
    let read : IsReadLow c.args.claim.now root c.args.claim.now.cost c.args.marks.now c.in-Ok.read.marks.now c.in-Ok.read.low = search rules in
    read-shorter c.args.claim.now root c.args.marks.now c.in-Ok.read.marks.now read.read
