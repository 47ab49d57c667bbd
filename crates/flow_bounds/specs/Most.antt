-- How great the numbers become, in minutes.
use Rattle.std.specs.Prelude.{ℕ, ◌+◌, ◌*◌}
use Rattle.lock_model.specs.declared.limits.TheConstants.{CHAMBERS, MOST, SHIPS}

-- No walk along a line is done later, where a ship has entered it, and no group of it adds more flow times.
abbrev pub last_end : ℕ
last_end = 1000000 + (SHIPS + 1) * 12000000

abbrev pub group_flow : ℕ
group_flow = MOST * last_end

-- no bound of a child of a node is greater
abbrev pub most_bound : ℕ
most_bound = (CHAMBERS + 3) * (SHIPS + 1) * group_flow
