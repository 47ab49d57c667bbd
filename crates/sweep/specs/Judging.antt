-- What the judge of lines finds of them.
use Rattle.std.specs.Prelude.{ℕ, ◌≡◌, ◌<◌, List, length, map, All, sum_by, Vec}
use Rattle.lock_model.specs.Fleet.{ship_at}
use Rattle.lock_model.specs.declared.instance.Instance.{Instance}
use Rattle.lock_model.specs.declared.group.Group.{Group}
use Rattle.lock_model.specs.declared.way.Way.{Way}
use Rattle.lock_rules.specs.Arrival.{numbers_from}
use Rattle.lock_rules.specs.Node.{IsNodeGroup, line_at}
use Rattle.lock_rules.specs.Bound.{line_flow}
use Rattle.price_rules.specs.Prices.{IsUncut}
use Rattle.price_terms.specs.Cuts.{plain_cuts}
use Rattle.sweep_rules.specs.Uncut.{times_over}
use Rattle.sweep.specs.declared.asked.SweepAsked.{SweepAsked}

-- the line of each chamber, none past the last
abbrev pub lines_in : {Z : Type 0} → List (Vec Group Z) → ℕ → List Group
lines_in lines = line_at (map (λ line. line.items) lines)

-- the ship is the instance's and goes this way
pub record IsOfWay (I : Instance) (own : Way) (s : ℕ) : Type 0 where
  pub known : s < length I.ships
  pub way : (ship_at I s).way ≡ own

-- a group of the instance's ships that chamber c may serve, if they fit
pub record IsOwnGroup (I : Instance) (c : ℕ) (g : Group) : Type 0 where
  pub good : IsNodeGroup I c g
  pub known : All (λ s. s < length I.ships) g.ships

-- the line is of uncut groups of chamber c, and has this flow time
pub record IsUncutLine (asked : SweepAsked) (c : ℕ) (line : List Group) (flow : ℕ) : Type 0 where
  pub uncut : All (IsUncut asked.instance.now c (plain_cuts asked.instance.now asked.cuts.now)) line
  pub sum : flow ≡ line_flow asked.instance.now c line

-- so are those of the first n chambers, together
pub record AreUncutLines (asked : SweepAsked) (lines : ℕ → List Group) (n flow : ℕ) : Type 0 where
  pub each : (c : ℕ) → c < n → All (IsUncut asked.instance.now c (plain_cuts asked.instance.now asked.cuts.now)) (lines c)
  pub sum : flow ≡ sum_by (λ c. line_flow asked.instance.now c (lines c)) (numbers_from 0 n)

-- each of the first n ships stands once in the lines of all chambers
pub record StandOnce (I : Instance) (n : ℕ) (lines : ℕ → List Group) : Type 0 where
  pub each : (s : ℕ) → s < n → times_over I s lines ≡ 1
