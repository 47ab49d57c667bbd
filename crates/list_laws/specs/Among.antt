-- Elements of a list, by recursion.
use Rattle.std.specs.Prelude.{ℕ, ◌≡◌, ◌⊎◌, List, [], ◌∷◌}

-- x stands in the list
abbrev pub IsAmong : {X : Type 0} → List X → X → Type 0
IsAmong [] x = ⊥
IsAmong (y ∷ ys) x = (y ≡ x) ⊎ IsAmong ys x

-- none of the numbers stands in the list twice
abbrev pub AreDistinct : List ℕ → Type 0
AreDistinct [] = Unit {0}
AreDistinct (x ∷ xs) = (IsAmong xs x → ⊥) × AreDistinct xs
