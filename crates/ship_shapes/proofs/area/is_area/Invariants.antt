use Rattle.std.proofs.Common.{◌≡◌, ◌+◌, ◌*◌, ◌≤◌, sum_by, take}
use Rattle.lock_model.specs.declared.deck.Size.{Size}
use Rattle.ship_shapes.proofs.area.is_area.Given as goal

abbrev pub invariant-loop-size : goal.invariant-loop-size
invariant-loop-size l = record {
  sum : l.all ≡ sum_by (λ (s : Size). (s.length + l.deck.gap) * (s.width + l.deck.side)) (take l.size-index l.sizes);
  few : l.all ≤ 12100000000 * l.size-index;
}
