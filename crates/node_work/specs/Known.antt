-- Known cuts.
use Rattle.std.specs.Prelude.{ℕ, ◌≡◌, List, slice_get, Some}
use Rattle.lock_model.specs.declared.instance.Instance.{Instance}
use Rattle.lock_rules.specs.Cut.{Hits}
use Rattle.refute_rules.specs.Cuts.{Cut}
use Rattle.book_rules.specs.Book.{Book}

-- the book's cut of this number hits chamber c of the instance with the ships S
pub record HitsShips (b : Book) (I : Instance) (c : ℕ) (S : List ℕ) (number : ℕ) : Type 0 where
  pub cut : Cut
  pub there : slice_get b.cuts number ≡ Some cut
  pub hits : Hits cut.ships cut.deck I c S
