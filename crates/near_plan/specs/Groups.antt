-- Ships that may share a lockage, as far as their numbers tell.
use Rattle.std.specs.Prelude.{ℕ, ◌<◌, ◌≤◌, List, length, All}
use Rattle.lock_model.specs.declared.instance.Instance.{Instance}

-- one ship of the instance at least, and one of its chambers
pub record IsGroupOf (I : Instance) (c : ℕ) (ships : List ℕ) : Type 0 where
  pub chamber : c < length I.chambers
  pub known : All (λ s. s < length I.ships) ships
  pub some : 1 ≤ length ships
