-- Lengths and counts.
use Rattle.std.specs.Prelude.{ℕ, List, [], ◌∷◌, ◌++◌, ◌/◌, ◌%◌, nat_eq, codes, if◌then◌else◌}
use Rattle.picture_page.specs.Forms.{filled}

-- so many decimetres in metres
unfoldable pub metres : ℕ → List ℕ
metres v = filled (codes "%.%") (v / 10 ∷ v % 10 ∷ [])

-- a length and a width in metres
unfoldable pub measures : ℕ → ℕ → List ℕ
measures length width = filled (codes "%.% &#215; %.% m") (length / 10 ∷ length % 10 ∷ width / 10 ∷ width % 10 ∷ [])

-- the ending of a name where there isn't just one thing
abbrev pub plural : ℕ → List ℕ
plural n = if nat_eq n 1 then [] else codes "s"

-- so many things of a name
unfoldable pub count_text : ℕ → List ℕ → List ℕ
count_text n name = filled (codes "% ") (n ∷ []) ++ name ++ plural n
