use Rattle.std.proofs.Common.{◌+◌, max, arith}
use Rattle.price_groups.specs.Asked.{line_asked}
use Rattle.price_successors.proofs.GainlessLemmas.{vain-successor}
use Rattle.price_successors.proofs.gainless.is_gainless.Goals as goal

pub returns : goal.returns
returns c = λ yes.
    let case = c.args.case.now in
    let successor = c.args.successor.now in
    let told = c.pays_little.ensures yes in
    vain-successor (line_asked case) case.chamber_in c.args.minute successor c.requires.is told.0 (max c.args.minute successor.last + successor.duration) (omega arith) told.1
