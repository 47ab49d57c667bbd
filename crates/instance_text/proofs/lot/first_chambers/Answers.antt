use Rattle.std.proofs.Common.{arith}
use Rattle.instance_text.proofs.LotLemmas.{one_more_chamber}
use Rattle.instance_text.proofs.lot.first_chambers.Goals as goal

pub loop-i-preserved : goal.loop-i-preserved
loop-i-preserved c = one_more_chamber c.loop-i.chambers c.push.new.self c.chamber_at.result c.loop-i.i (omega arith) c.loop-i.invariant c.chamber_at.ensures c.push.ensures
