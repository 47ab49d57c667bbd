-- What a cut of a certificate hits, line by line.
use Rattle.std.specs.Prelude.{ℕ, List, All, Contains}
use Rattle.lock_model.specs.Fitting.{deck_of, IsNoRoomier}
use Rattle.lock_model.specs.Fleet.{chamber_at}
use Rattle.lock_model.specs.declared.instance.Instance.{Instance}
use Rattle.lock_model.specs.declared.group.Group.{Group}
use Rattle.lock_rules.specs.Node.{line_at}

-- all these ships are in the group
pub record AreTogether (ships : List ℕ) (group : Group) : Type 0 where
  pub among : All (Contains group.ships) ships

-- all these ships are in one group of the line
pub record HitsLine (ships : List ℕ) (line : List Group) : Type 0 where
  pub group : Group
  pub held : Contains line group
  pub together : AreTogether ships group

-- all these ships are in one group of chamber c, which is no roomier than the cut's chamber
pub record HitsAt (I : Instance) (own : ℕ) (ships : List ℕ) (lines : List (List Group)) (c : ℕ) : Type 0 where
  pub tight : IsNoRoomier (chamber_at I c) (deck_of I own ships)
  pub line : HitsLine ships (line_at lines c)
