-- Loose lines of the least worth, and how they are found group by group.
use Rattle.std.specs.Prelude.{ℕ, ◌≡◌, ◌≤◌, ℤ, Some, None, List, ◌∷◌, ◌++◌, length, drop}
use Rattle.std.specs.declared.option.Option.{Option}
use Rattle.lock_model.specs.Fleet.{chamber_at}
use Rattle.lock_model.specs.declared.group.Group.{Group}
use Rattle.price_groups.specs.Asks.{LineAsk, IsLooseIn, line_worth}
use Rattle.price_groups.specs.Worth.{IsLeastWorth}
use Rattle.price_table.specs.Values.{IsValueOf, line_worth_next}
use Rattle.price_terms.specs.declared.loose_line.LooseLine.{LooseLine}
use Rattle.price_table.specs.declared.next_group.NextGroup.{NextGroup}
use Rattle.price_table.specs.declared.next_group.ValuedState.{ValuedState}

-- the groups are a loose line of the chamber, and it is worth this
pub record IsLineWorth (L : LineAsk) (gs : List Group) (v : ℤ) : Type 0 where
  pub is_loose : IsLooseIn L L.line gs
  pub worth : line_worth L (chamber_at L.instance L.chamber).stands (chamber_at L.instance L.chamber).opens gs ≡ v

-- the least worth of the loose lines from the chamber's first state; nothing where there is no loose line
abbrev pub IsLeastOn : LineAsk → Option ℤ → Type 0
IsLeastOn L least =
    IsLeastWorth L.instance L.chamber L.cuts L.depth L.prices
    (chamber_at L.instance L.chamber).stands (chamber_at L.instance L.chamber).opens L.line least

-- a loose line of the chamber, and no other is worth less
pub record IsLeastLine (L : LineAsk) (found : LooseLine) : Type 0 where
  pub least : IsLeastOn L (Some found.worth)
  pub is : IsLineWorth L found.groups.items found.worth

-- that line, or that there is no loose line
abbrev pub IsLineFound : LineAsk → Option LooseLine → Type 0
IsLineFound L None = IsLeastOn L None
IsLineFound L (Some found) = IsLeastLine L found

-- The first groups of a line: with whatever goes on from the state and is worth its value, they are a loose line
-- that is worth `worth`.
pub record IsBegun (L : LineAsk) (taken : List Group) (at : ValuedState) (worth : ℤ) : Type 0 where
  pub goes_on : (gs : List Group) → IsLooseIn L (drop at.state.place L.line) gs → line_worth_next L at.state gs ≡ at.value → IsLineWorth L (taken ++ gs) worth

-- A group that comes next from a state of a value: with whatever goes on behind it and is worth the value there,
-- it is worth that.
pub record IsNext (L : LineAsk) (horizon : ℕ) (from : ValuedState) (next : NextGroup) : Type 0 where
  pub place : next.behind.state.place ≤ length L.line
  pub minute : next.behind.state.minute ≤ 14000000
  pub value : IsValueOf L horizon next.behind.state next.behind.value
  pub goes_on : (gs : List Group) → IsLooseIn L (drop next.behind.state.place L.line) gs → line_worth_next L next.behind.state gs ≡ next.behind.value
      → IsLooseIn L (drop from.state.place L.line) (next.group ∷ gs) × (line_worth_next L from.state (next.group ∷ gs) ≡ from.value)
