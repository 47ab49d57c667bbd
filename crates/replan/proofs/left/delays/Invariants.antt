use Rattle.std.proofs.Common.{◌≡◌, ◌≤◌, ◌*◌, ◌^◌, take, sum_by}
use Rattle.replan.specs.Rest.{delay_of}
use Rattle.replan.proofs.left.delays.Given as goal

abbrev pub invariant-loop-number : goal.invariant-loop-number
invariant-loop-number l = record {
  sum : l.sum ≡ sum_by (delay_of l.instance l.from) (take l.number-index l.number-items);
  small : l.sum ≤ l.number-index * 2 ^ 32;
}
