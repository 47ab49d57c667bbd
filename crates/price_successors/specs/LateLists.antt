-- Late lists: successors that are enough from a minute on.
use Rattle.std.specs.Prelude.{ℕ, List, [], ◌∷◌, All, cond, nat_lt}
use Rattle.price_successors.specs.declared.successor.Successor.{Successor}
use Rattle.price_successors.specs.declared.late_list.LateList.{LateList}
use Rattle.price_groups.specs.Asks.{LineAsk}
use Rattle.price_successors.specs.Dominance.{AreLate}
use Rattle.price_successors.specs.Enough.{AreEnoughSuccessors}

-- the successors of a late list cover the others from its minute on
abbrev pub IsLateList : LineAsk → List Successor → LateList → Type 0
IsLateList L successors late_list = AreLate L late_list.from successors late_list.successors.items

-- the successors that are looked at in a state of this minute: those of the last late list that has begun, and
-- before all late lists the first ones
abbrev pub list_at : List Successor → List LateList → ℕ → List Successor
list_at successors [] minute = successors
list_at successors (late_list ∷ late_lists) minute = list_at (cond (nat_lt minute late_list.from) successors late_list.successors.items) late_lists minute

-- successors that cover those that are enough for the line, and at each late list others that do from its minute on
pub record AreListed (L : LineAsk) (earlies : List Successor) (late_lists : List LateList) : Type 0 where
  pub successors : List Successor
  pub enough : AreEnoughSuccessors L successors
  pub early_enough : AreLate L 0 successors earlies
  pub late_enough : All (IsLateList L successors) late_lists
