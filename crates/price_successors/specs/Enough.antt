-- Successors that are enough for a line: they cover each uncut group that may come next.
use Rattle.std.specs.Prelude.{ℕ, ◌≡◌, ◌≤◌, ◌<◌, ◌⊎◌, Some, None, List, length, All, Contains, slice_index_or}
use Rattle.std.specs.declared.option.Option.{Option}
use Rattle.lock_model.specs.declared.group.Group.{Group}
use Rattle.price_successors.specs.declared.successor.Successor.{Successor}
use Rattle.price_groups.specs.declared.grown_lists.GrownGroup.{GrownGroup}
use Rattle.price_groups.specs.Asks.{LineAsk, IsUncutIn}
use Rattle.price_successors.specs.Successors.{Keeps, IsSuccessor, IsOn}
use Rattle.price_successors.specs.Dominance.{IsGainless, AreLate, IsDominated, IsDominatedOrGainless}

-- to the successors others were put, all of them right, and each uncut group on the base is covered
pub record HaveMore (L : LineAsk) (to : Option ℕ) (base : Group) (old new : List Successor) : Type 0 where
  pub each : All (IsSuccessor L) new
  pub kept : (h : Successor) → Contains old h → Contains new h
  pub covered : (g : Group) → IsUncutIn L g → IsOn L.instance L.depth base g → IsDominatedOrGainless L new to g

-- the successor was put to the others, or one that serves as well is among them
pub record HasOne (L : LineAsk) (successor : Successor) (old new : List Successor) : Type 0 where
  pub each : All (IsSuccessor L) new
  pub kept : (h : Successor) → Contains old h → Contains new h
  pub served : IsDominated L new successor.joins successor.group

-- the first i of the successors `more` were put to the others, or are served by them
pub record HavePut (L : LineAsk) (more : List Successor) (i : ℕ) (old new : List Successor) : Type 0 where
  pub each : All (IsSuccessor L) new
  pub kept : (h : Successor) → Contains old h → Contains new h
  pub done : (j : ℕ) (d : Successor) → j < i → j < length more → IsDominated L new (slice_index_or more j d).joins (slice_index_or more j d).group

-- a successor of the group was put to the others or is served by one, or the group is empty or gains nothing
pub record PutsGroup (L : LineAsk) (to : Option ℕ) (g : Group) (old new : List Successor) : Type 0 where
  pub puts : ((length g.ships ≡ 0) × (new ≡ old))
      ⊎ ((successor : Successor) × (successor.joins ≡ to) × (successor.group ≡ g) × HasOne L successor old new)
      ⊎ (IsGainless L 0 to g × (new ≡ old))

-- the same said of the first i of the grown groups
pub record HaveSome (L : LineAsk) (to : Option ℕ) (groups : List GrownGroup) (i : ℕ) (old new : List Successor) : Type 0 where
  pub each : All (IsSuccessor L) new
  pub kept : (h : Successor) → Contains old h → Contains new h
  pub done : (j : ℕ) (d : GrownGroup) → j < i → j < length groups → 1 ≤ length (slice_index_or groups j d).group.ships
      → IsDominatedOrGainless L new to (slice_index_or groups j d).group

-- These successors are enough for the line: they cover each uncut group.
pub record AreEnoughSuccessors (L : LineAsk) (successors : List Successor) : Type 0 where
  pub each : All (IsSuccessor L) successors
  pub whole : (to : Option ℕ) (g : Group) → IsUncutIn L g → Keeps L to g → IsDominatedOrGainless L successors to g

-- After the first i places of the line: the successors are right, and they cover each uncut group that keeps none
-- of the line's groups, or the one at one of these places.
pub record AreEnoughSuccessorsSoFar (L : LineAsk) (i : ℕ) (successors : List Successor) : Type 0 where
  pub each : All (IsSuccessor L) successors
  pub free : (g : Group) → IsUncutIn L g → Keeps L None g → IsDominatedOrGainless L successors None g
  pub own : (p : ℕ) (g : Group) → p < i → IsUncutIn L g → Keeps L (Some p) g → IsDominatedOrGainless L successors (Some p) g

-- These successors cover others from minute 0 on: `all`, and successors that cover each uncut group on the base.
pub record HaveEarly (L : LineAsk) (to : Option ℕ) (base : Group) (all earlies : List Successor) : Type 0 where
  pub more : List Successor
  pub have : HaveMore L to base all more
  pub early : AreLate L 0 more earlies

-- whatever the old ones cover, the new ones cover it and each uncut group on the base
abbrev pub AreEarlyMore : LineAsk → Option ℕ → Group → List Successor → List Successor → Type 0
AreEarlyMore L to base old new = (all : List Successor) → All (IsSuccessor L) all → AreLate L 0 all old → HaveEarly L to base all new

-- After the first i places of the line: some successors cover what `AreEnoughSuccessorsSoFar` says, and these ones
-- cover those successors from minute 0 on.
pub record AreSomeEarly (L : LineAsk) (i : ℕ) (earlies : List Successor) : Type 0 where
  pub successors : List Successor
  pub some : AreEnoughSuccessorsSoFar L i successors
  pub early : AreLate L 0 successors earlies

-- these cover successors that are enough for the line
pub record AreEarly (L : LineAsk) (earlies : List Successor) : Type 0 where
  pub successors : List Successor
  pub enough : AreEnoughSuccessors L successors
  pub early : AreLate L 0 successors earlies
