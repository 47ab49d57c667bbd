-- The words of a chamber line.
use Rattle.std.specs.Prelude.{ℕ, ◌≤◌, ◌==◌, List, [], length, map, nat_le, nat_lt, Result, Ok}
use Rattle.lock_model.specs.declared.limits.TheConstants.{CHAMBERS, MOST}
use Rattle.lock_model.specs.declared.chamber.Chamber.{Chamber}
use Rattle.lock_model.specs.Limits.{Within}
use Rattle.instance_text.specs.declared.bad.Kind.{Kind}
use Rattle.instance_text.specs.declared.bad.Kind.TheVariants.{Count, Range, TurnOverPass}
use Rattle.instance_text.specs.declared.chamber_line.Dimensions.{Dimensions}
use Rattle.instance_text.specs.declared.chamber_line.Work.{Work}
use Rattle.line_text.specs.Lines.{word_at}
use Rattle.line_text.specs.Steps.{◌>>=◌, ◌>>◌, check}
use Rattle.instance_text.specs.Words.{number, new_name, stand}

-- chamber <name> <length> <width> <end> <gap> <side> <most> <pass> <turn> <low|high> <opens>
unfoldable pub read_chamber : List Chamber → List (List ℕ) → Result Chamber Kind
read_chamber earlier words = do
  check (length words == 12) Count
  check (nat_lt (length earlier) CHAMBERS) Range
  name ← new_name (map (λ c. c.name) earlier) (word_at words 1)
  length ← number 1 100000 (word_at words 2)
  width ← number 1 100000 (word_at words 3)
  end ← number 0 10000 (word_at words 4)
  gap ← number 0 10000 (word_at words 5)
  side ← number 0 10000 (word_at words 6)
  most ← number 1 MOST (word_at words 7)
  pass ← number 1 1000000 (word_at words 8)
  turn ← number 0 1000000 (word_at words 9)
  stands ← stand (word_at words 10)
  opens ← number 0 1000000 (word_at words 11)
  check (nat_le turn pass) TurnOverPass
  Ok (record { name = name; length = length; width = width; end = end; gap = gap; side = side; most = most; pass = pass; turn = turn; stands = stands; opens = opens; closures = [] })

-- the part `<length> <width> <end> <gap> <side>` of such a line
unfoldable pub read_dimensions : List (List ℕ) → Result Dimensions Kind
read_dimensions words = do
  length ← number 1 100000 (word_at words 2)
  width ← number 1 100000 (word_at words 3)
  end ← number 0 10000 (word_at words 4)
  gap ← number 0 10000 (word_at words 5)
  side ← number 0 10000 (word_at words 6)
  Ok (record { length = length; width = width; end = end; gap = gap; side = side })

pub record AreDimensions (s : Dimensions) : Type 0 where
  pub length : Within 1 100000 s.length
  pub width : Within 1 100000 s.width
  pub end : s.end ≤ 10000
  pub gap : s.gap ≤ 10000
  pub side : s.side ≤ 10000

-- the part `<most> <pass> <turn> <low|high> <opens>` of such a line
unfoldable pub read_work : List (List ℕ) → Result Work Kind
read_work words = do
  most ← number 1 MOST (word_at words 7)
  pass ← number 1 1000000 (word_at words 8)
  turn ← number 0 1000000 (word_at words 9)
  stands ← stand (word_at words 10)
  opens ← number 0 1000000 (word_at words 11)
  Ok (record { most = most; pass = pass; turn = turn; stands = stands; opens = opens })

pub record IsWork (w : Work) : Type 0 where
  pub most : Within 1 MOST w.most
  pub pass : Within 1 1000000 w.pass
  pub opens : w.opens ≤ 1000000
