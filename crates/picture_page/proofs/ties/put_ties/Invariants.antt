use Rattle.std.proofs.Common.{◌≡◌, ◌++◌}
use Rattle.std.specs.List.{flat_map, range_with_len}
use Rattle.picture_page.specs.Ties.{ties_at}
use Rattle.picture_page.proofs.ties.put_ties.Given as goal

abbrev pub invariant-loop-place : goal.invariant-loop-place
invariant-loop-place l = l.out.items ≡ l.initial.out.items ++ flat_map (ties_at l.scale l.instance l.lockage) (range_with_len 0 l.place)
