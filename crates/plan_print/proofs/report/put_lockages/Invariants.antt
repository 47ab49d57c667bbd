use Rattle.std.proofs.Common.{◌≡◌, ◌++◌, take}
use Rattle.std.specs.List.{flat_map, enumerate_from}
use Rattle.plan_print.specs.Order.{in_order}
use Rattle.plan_print.specs.Report.{lockage_text}
use Rattle.plan_print.proofs.report.put_lockages.Given as goal

abbrev pub invariant-loop-k : goal.invariant-loop-k
invariant-loop-k l = l.out.items ≡ l.initial.out.items ++ flat_map (lockage_text l.instance) (take l.k (enumerate_from 1 (in_order l.plan.lockages)))
