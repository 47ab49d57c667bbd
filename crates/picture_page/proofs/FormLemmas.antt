-- Texts with places for numbers.
use Rattle.std.proofs.Common.{◌≡◌, ℕ, ◌<◌, List, [], ◌∷◌, length, refl, arith}
use Rattle.picture_page.specs.Forms.{filled}

-- without a number the text stands as it is
pub filled_none : (cs ns : List ℕ) → length ns < 1 → filled cs ns ≡ cs
unfolding filled
filled_none [] ns none = refl
filled_none (c ∷ cs) [] none = refl
filled_none (c ∷ cs) (n ∷ ns) none = absurd (omega arith)
