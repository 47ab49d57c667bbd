-- The passages of a ship on the chambers that it fits alone.
use Rattle.std.specs.Prelude.{ℕ, ◌+◌, ◌-◌, List, [], ◌∷◌, length, map, filter, Some, None}
use Rattle.std.specs.declared.option.Option.{Option}
use Rattle.lock_model.specs.declared.instance.Instance.{Instance}
use Rattle.lock_model.specs.Fleet.{ship_at, chamber_at}
use Rattle.lock_rules.specs.Children.{single}
use Rattle.lock_rules.specs.Lawful.{duration_of}
use Rattle.lock_rules.specs.Timetable.{start_of}
use Rattle.lock_rules.specs.Arrival.{numbers_from}
use Rattle.lock_rules.specs.Bound.{fits_alone, passage_on, least_number}

-- the end of ship s, where chamber c serves it first and alone
abbrev pub first_end : Instance → ℕ → ℕ → ℕ
first_end I s c = start_of I c (chamber_at I c).stands (chamber_at I c).opens (single (ship_at I s).way s) + duration_of I c (s ∷ [])

-- on the chambers from number c on
abbrev pub passages_from : Instance → ℕ → ℕ → List ℕ
passages_from I s c = map (passage_on I s) (filter (fits_alone I s) (numbers_from c (length I.chambers - c)))

-- the least of some numbers, where there are any
abbrev pub least_told : List ℕ → Option ℕ
least_told [] = None
least_told (n ∷ ns) = Some (least_number (n ∷ ns))
