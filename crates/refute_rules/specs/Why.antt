-- Refutations written as numbers.
use Rattle.std.specs.Prelude.{ℕ, List, [], ◌∷◌}
use Rattle.refute_rules.specs.declared.refutation.Quick.TheVariants.{Area, Row, Column}
use Rattle.refute_rules.specs.declared.refutation.Refutation.{Refutation}
use Rattle.refute_rules.specs.declared.refutation.Refutation.TheVariants as refutation

-- a refutation as numbers
abbrev pub why_of : Refutation → List ℕ
why_of (refutation.Quick Area) = 0 ∷ []
why_of (refutation.Quick (Row S)) = 1 ∷ S
why_of (refutation.Quick (Column S)) = 2 ∷ S
why_of (refutation.Cases marks) = 3 ∷ marks
why_of (refutation.Spots marks) = 4 ∷ marks
why_of (refutation.Clash i j) = 5 ∷ i ∷ j ∷ []
why_of (refutation.Berths marks) = 6 ∷ marks
