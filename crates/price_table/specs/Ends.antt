-- The values of the states of a chamber that has no line.
use Rattle.std.specs.Prelude.{ℕ, ◌≡◌, ◌≤◌, ℤ, Some, [], length}
use Rattle.lock_model.specs.declared.way.Stand.{Stand}
use Rattle.price_groups.specs.Asked.{line_asked}
use Rattle.price_groups.specs.Asks.{LineAsk}
use Rattle.price_groups.specs.Worth.{IsHorizon, IsLeastWorth}
use Rattle.price_successors.specs.SuccessorLists.{AreSuccessorLists}
use Rattle.price_table.specs.Values.{AreValues}
use Rattle.price_table.specs.declared.end_values.EndValues.{EndValues}

-- The chamber of the case has no line, the lists say what may come next there, the horizon is one, and what is remembered for states is their value.
pub record AreEndValues (ends : EndValues) : Type 0 where
  pub empty : ends.case.now.line.now ≡ []
  pub lists : AreSuccessorLists (line_asked ends.case.now) ends.successor_lists.items
  pub whole : length ends.successor_lists.items ≡ 1
  pub late : IsHorizon ends.case.now.instance.now ends.case.now.depth ends.case.now.prices.now ends.horizon
  pub small : ends.horizon ≤ 1010000
  pub values : AreValues (line_asked ends.case.now) ends.horizon ends.values

-- the least worth of ways to go on where the chamber stands so and is free at a minute
abbrev pub IsLeastBehind : LineAsk → Stand → ℕ → ℤ → Type 0
IsLeastBehind L stand minute v = IsLeastWorth L.instance L.chamber L.cuts L.depth L.prices stand minute [] (Some v)
