-- The words for parts of a plan.
use Rattle.std.specs.Prelude.{ℕ, ◌+◌, List, [], ◌∷◌, ◌++◌, codes, decimal}
use Rattle.lock_model.specs.declared.placement.Rank.{Rank}
use Rattle.lock_model.specs.declared.placement.Rank.TheVariants.{Left, Right}
use Rattle.lock_model.specs.declared.placement.Moor.{Moor}
use Rattle.lock_model.specs.declared.placement.Moor.TheVariants.{Quay, Ship}
use Rattle.lock_model.specs.declared.placement.Spot.{Spot}

-- the letter of the ship at place i of a lockage, from `A` on
abbrev pub letter : ℕ → ℕ
letter i = 65 + i

abbrev pub rank_word : Rank → List ℕ
rank_word Left = codes "left"
rank_word Right = codes "right"

-- `quay`, or `at` and the letter of the host
abbrev pub moor_words : Moor → List ℕ
moor_words Quay = codes "quay"
moor_words (Ship k) = codes "at " ++ letter k ∷ []

-- where a ship lies, and how it is moored
abbrev pub spot_words : Spot → List ℕ
spot_words p = codes " x " ++ decimal p.x ++ codes " y " ++ decimal p.y ++ codes " " ++ rank_word p.rank ++ codes " " ++ moor_words p.moor
