-- When a successor serves as well as another one, in any state or from a minute on, and when it gains nothing.
use Rattle.std.specs.Prelude.{ℕ, ◌≡◌, ◌+◌, ◌*◌, ◌≤◌, ◌⊎◌, max, pos, ◌≤ℤ◌, None, List, [], ◌∷◌, ◌++◌, length, All, Contains}
use Rattle.std.specs.declared.option.Option.{Option}
use Rattle.lock_model.specs.declared.group.Group.{Group}
use Rattle.lock_model.specs.declared.way.Stand.{Stand}
use Rattle.price_successors.specs.declared.successor.Successor.{Successor}
use Rattle.price_groups.specs.Asks.{LineAsk, group_worth}
use Rattle.price_groups.specs.Worth.{ServeFrom}
use Rattle.price_successors.specs.Successors.{IsSuccessor}

-- The successor joins the same group as the other, has its way, and is no more ships, arrives no later, takes no
-- longer and pays no less beyond what it is charged.
pub record Dominates (other successor : Successor) : Type 0 where
  pub joins : other.joins ≡ successor.joins
  pub way : other.group.way ≡ successor.group.way
  pub count : length other.group.ships ≤ length successor.group.ships
  pub last : other.last ≤ successor.last
  pub duration : other.duration ≤ successor.duration
  pub pays : successor.pays + other.charged ≤ other.pays + successor.charged

-- the soonest end of the successor from the minute on
abbrev pub soonest : ℕ → Successor → ℕ
soonest late successor = max late successor.last + successor.duration

-- What the successor pays more than the other, beyond what both are charged, is no more than what its further ships are worth at its soonest end
-- from the minute on.
abbrev pub PaysEnough : ℕ → Successor → Successor → Type 0
PaysEnough late other successor =
    successor.pays + other.charged + 100 * (length other.group.ships * soonest late successor)
    ≤ other.pays + successor.charged + 100 * (length successor.group.ships * soonest late successor)

-- It joins no group, and pays no more than it is charged and its ships are worth at its soonest end from the minute on.
abbrev pub PaysLittle : ℕ → Successor → Type 0
PaysLittle late successor =
    (successor.joins ≡ None) × (successor.pays ≤ 100 * (length successor.group.ships * soonest late successor) + successor.charged)

-- The successor joins the same group as the other, has its way, and is no more ships, arrives no later or by the
-- minute, and takes no longer; it may pay less by what the other's further ships are worth at its soonest end.
pub record DominatesLate (late : ℕ) (other successor : Successor) : Type 0 where
  pub joins : other.joins ≡ successor.joins
  pub way : other.group.way ≡ successor.group.way
  pub count : length other.group.ships ≤ length successor.group.ships
  pub last : other.last ≤ max late successor.last
  pub duration : other.duration ≤ successor.duration
  pub pays : PaysEnough late other successor

-- from the minute on one of these successors serves as well as the successor
pub record IsDominatedLate (late : ℕ) (lates : List Successor) (successor : Successor) : Type 0 where
  pub other : Successor
  pub held : Contains lates other
  pub serves : DominatesLate late other successor

-- Missing ships alone that gain nothing, whatever the state in which they are served from the minute on.
pub record IsGainless (L : LineAsk) (late : ℕ) (to : Option ℕ) (g : Group) : Type 0 where
  pub alone : to ≡ None
  pub gainless : (stand : Stand) (from : ℕ) → late ≤ from → pos 0 ≤ℤ group_worth L stand from g

-- from the minute on one of these successors serves as well as the successor, or it gains nothing
abbrev pub IsCoveredLate : LineAsk → ℕ → List Successor → Successor → Type 0
IsCoveredLate L late lates successor = IsDominatedLate late lates successor ⊎ IsGainless L late successor.joins successor.group

-- these successors cover the others from the minute on
pub record AreLate (L : LineAsk) (late : ℕ) (successors lates : List Successor) : Type 0 where
  pub each : All (IsSuccessor L) lates
  pub covered : All (IsCoveredLate L late lates) successors

-- the successor was put to the others behind all, or they cover it from the minute on
pub record HasLate (L : LineAsk) (late : ℕ) (successor : Successor) (old new : List Successor) : Type 0 where
  pub covered : IsCoveredLate L late new successor
  pub more : (new ≡ old) ⊎ (new ≡ old ++ successor ∷ [])

-- one of the successors joins the same group, has the same way and serves as well
pub record IsDominated (L : LineAsk) (successors : List Successor) (to : Option ℕ) (g : Group) : Type 0 where
  pub successor : Successor
  pub held : Contains successors successor
  pub joins : successor.joins ≡ to
  pub way : successor.group.way ≡ g.way
  pub as_good : ServeFrom L.instance L.chamber L.depth L.prices 0 successor.group.ships g.ships

-- one of the successors serves as well as the group, or it gains nothing in any state
abbrev pub IsDominatedOrGainless : LineAsk → List Successor → Option ℕ → Group → Type 0
IsDominatedOrGainless L successors to g = IsDominated L successors to g ⊎ IsGainless L 0 to g
