use Rattle.std.proofs.Common.{◌≡◌, ◌+◌, ◌*◌, ◌≤◌, drop}
use Rattle.lock_rules.specs.Bound.{flow_of}
use Rattle.lock_rules.specs.Timetable.{timetable_from}
use Rattle.price_rules.specs.Prices.{charged_in}
use Rattle.price_table.proofs.serving.alone_on.Given as goal

abbrev pub invariant-loop-group : goal.invariant-loop-group
invariant-loop-group l = record {
  sum : flow_of l.case.instance.now l.line (timetable_from l.case.instance.now l.case.index l.state.stand l.state.minute l.line) ≡ l.flow + flow_of l.case.instance.now (drop l.group-index l.line) (timetable_from l.case.instance.now l.case.index l.stand l.minute (drop l.group-index l.line));
  charged : charged_in l.case.prices.now l.line ≡ l.charges + charged_in l.case.prices.now (drop l.group-index l.line);
  minutes : l.minute ≤ 14000000 + l.group-index * 12000000;
  small : l.flow ≤ l.group-index * 10000000000;
  light : l.charges ≤ l.group-index * 255000000;
}
