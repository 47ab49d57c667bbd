-- What is looked up in the options of a case.
use Rattle.std.specs.Prelude.{ℕ, ◌≡◌, ◌≢◌, List, ◌∷◌, Some}
use Rattle.lock_model.specs.declared.placement.Rank.{Rank}
use Rattle.refute_rules.specs.declared.choices.Berth.{Berth}
use Rattle.refute_rules.specs.declared.choices.Choice.{Choice}
use Rattle.refute_rules.specs.Decided.{berth_in, x_in}

-- the option says nothing of the berth of ship i
pub record PassesBerth (c : Choice) (i : ℕ) : Type 0 where
  pub pass : (rest : List Choice) → berth_in (c ∷ rest) i ≡ berth_in rest i

-- it gives ship i this berth
pub record GivesBerth (c : Choice) (i : ℕ) (b : Berth) : Type 0 where
  pub give : (rest : List Choice) → berth_in (c ∷ rest) i ≡ Some b

-- the option says nothing of the x of ship i
pub record PassesX (c : Choice) (i : ℕ) : Type 0 where
  pub pass : (rest : List Choice) → x_in (c ∷ rest) i ≡ x_in rest i

-- it gives ship i this x
pub record GivesX (c : Choice) (i x : ℕ) : Type 0 where
  pub give : (rest : List Choice) → x_in (c ∷ rest) i ≡ Some x

-- the berth of ship i is decided, of another rank than this
pub record IsOfOtherRank (case : List Choice) (i : ℕ) (rank : Rank) : Type 0 where
  pub berth : Berth
  pub decided : berth_in case i ≡ Some berth
  pub differ : berth.rank ≢ rank
