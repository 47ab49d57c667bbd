-- What the entries of a pool hit.
use Rattle.std.specs.Prelude.{ℕ, ◌≡◌, List}
use Rattle.lock_model.specs.declared.instance.Instance.{Instance}
use Rattle.lock_rules.specs.Cut.{Hits}
use Rattle.boxcar.specs.Table.{Shelves, Shows, Where}
use Rattle.cut_pool.specs.declared.entry.Entry.{Entry}

-- the cut of the entry hits a chamber with these ships
abbrev pub IsHit : Entry → Instance → ℕ → List ℕ → Type 0
IsHit entry I chamber ships = Hits entry.cut.ships entry.cut.deck I chamber ships

-- an entry of this number was posted in the pool, and its cut hits the chamber with these ships
pub record HasHit (pool : Shelves) (I : Instance) (chamber : ℕ) (ships : List ℕ) (number : ℕ) : Type 0 where
  pub token : Where Entry
  pub posted : Shows pool token
  pub numbered : token.value.number ≡ number
  pub hits : IsHit token.value I chamber ships
