use Rattle.std.proofs.Common.{◌≡◌, length}
use Rattle.sweep.specs.Going.{IsSound}
use Rattle.sweep.proofs.sweeper.Sweeper.find_costs.Given as goal

abbrev pub invariant-loop-place : goal.invariant-loop-place
invariant-loop-place l = record {
  sound : IsSound l.case l.self;
  late : l.self.known.late.now ≡ l.initial.self.known.late.now;
  costs : length l.self.known.costs.items ≡ l.place;
}
