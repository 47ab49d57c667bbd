-- Triples as lists of prices keep them.
use Rattle.std.specs.Prelude.{ℕ, suc, ◌+◌, ◌*◌, ◌<◌, ◌≤◌, List, length, All, slice_index_or}
use Rattle.price_rules.specs.declared.triple.TheConstants.{TRIPLES}
use Rattle.price_rules.specs.declared.triple.Triple.{Triple}

-- three ships in rising number, and a price from 1 to 1,000,000 hundredths of a minute
pub record IsFairTriple (t : Triple) : Type 0 where
  pub low : t.first < t.second
  pub high : t.second < t.third
  pub some : 1 ≤ t.price
  pub small : t.price ≤ 1000000

-- the three ships as one number, by which triples are in order
abbrev pub triple_key : Triple → ℕ
triple_key t = (t.first * 256 + t.second) * 256 + t.third

-- each triple stands before the next by its ships, so none stands twice
pub record AreRisingTriples (triples : List Triple) : Type 0 where
  pub rising : (j : ℕ) (d : Triple) → suc j < length triples → triple_key (slice_index_or triples j d) < triple_key (slice_index_or triples (suc j) d)

-- up to 255 triples in order
pub record AreTriples (triples : List Triple) : Type 0 where
  pub few : length triples ≤ TRIPLES
  pub fair : All IsFairTriple triples
  pub order : AreRisingTriples triples
