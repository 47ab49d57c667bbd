-- Texts with places for numbers.
use Rattle.std.specs.Prelude.{ℕ, List, [], ◌∷◌, ◌++◌, nat_eq, decimal, if◌then◌else◌}

-- a text with these numbers in decimal in the places of its `%` signs, which are 37, one after the other
unfoldable pub filled : List ℕ → List ℕ → List ℕ
filled [] ns = []
filled (c ∷ cs) [] = c ∷ cs
filled (c ∷ cs) (n ∷ ns) = if nat_eq c 37 then (decimal n ++ filled cs ns) else (c ∷ filled cs (n ∷ ns))
