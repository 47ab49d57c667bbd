-- The lockages of a day, numbered as they begin.
use Rattle.std.specs.Prelude.{ℕ, ◌≡◌, ◌+◌, ◌<◌, List, [], ◌∷◌, ◌++◌, length, Bool, true, false, ◌&&◌, ◌||◌, nat_eq, nat_le, nat_lt, Some, None, if◌then◌else◌}
use Rattle.std.specs.declared.option.Option.{Option}
use Rattle.std.specs.List.{flat_map}
use Rattle.lock_model.specs.Fleet.{chamber_at}
use Rattle.lock_model.specs.declared.instance.Instance.{Instance}
use Rattle.lock_model.specs.declared.plan.Lockage.{Lockage}
use Rattle.lock_model.specs.declared.plan.Plan.{Plan}
use Rattle.lock_rules.specs.Lawful.{duration_of}
use Rattle.lock_rules.specs.Lines.{lockage_at}
use Rattle.day_play.specs.declared.beat.Act.{Act}
use Rattle.day_play.specs.declared.beat.Act.TheVariants.{Turn, Moor, Go, Done}
use Rattle.day_play.specs.declared.beat.Beat.{Beat}
use Rattle.picture_page.specs.declared.passage.Passage.{Passage}

abbrev pub is_turn : Act → Bool
is_turn Turn = true
is_turn (Moor s) = false
is_turn Go = false
is_turn Done = false

abbrev pub is_go : Act → Bool
is_go Turn = false
is_go (Moor s) = false
is_go Go = true
is_go Done = false

-- the first empty turn for the lockage at a place of the plan that begins no later than a minute
abbrev pub turn_before : ℕ → ℕ → List Beat → Option ℕ
turn_before place start [] = None
turn_before place start (b ∷ bs) =
    if (is_turn b.act && nat_eq b.lockage place) && nat_le b.minute start then Some b.minute else (turn_before place start bs)

-- a lockage at a place of the plan, with its number and what the day says of it
abbrev pub passage_in : Instance → List Beat → ℕ → ℕ → Lockage → Passage
passage_in I day number place l = record {
  number = number;
  place = place;
  chamber = l.chamber;
  way = l.way;
  ships = l.ships;
  turn = turn_before place l.start day;
  start = l.start;
  long = duration_of I l.chamber l.ships;
}

-- the lockages that begin in these beats, numbered from `number` on
abbrev pub passages_from : Instance → Plan → List Beat → ℕ → List Beat → List Passage
passages_from I P day number [] = []
passages_from I P day number (b ∷ bs) =
    if is_go b.act then (passage_in I day number b.lockage (lockage_at P b.lockage) ∷ passages_from I P day (number + 1) bs) else
    (passages_from I P day number bs)

-- THE PASSAGES of a day
unfoldable pub passages_of : Instance → Plan → List Beat → List Passage
passages_of I P day = passages_from I P day 1 day

-- the lockage that begins is in the plan
pub record IsKnownGo (P : Plan) (b : Beat) : Type 0 where
  pub known : is_go b.act ≡ true → b.lockage < length P.lockages

-- its end
abbrev pub passage_end : Passage → ℕ
passage_end p = p.start + p.long

-- the digits of its number
abbrev pub digits_of : ℕ → ℕ
digits_of number = if nat_lt number 10 then 1 else 2

abbrev pub has : ℕ → List ℕ → Bool
has s [] = false
has s (t ∷ ts) = nat_eq t s || has s ts

-- the passages of chamber c
abbrev pub line_of : ℕ → List Passage → List Passage
line_of c [] = []
line_of c (p ∷ ps) = if nat_eq p.chamber c then (p ∷ line_of c ps) else (line_of c ps)

-- the beginning and the end of an empty turn, where there is one
abbrev pub turn_events : ℕ → Option ℕ → List ℕ
turn_events long None = []
turn_events long (Some minute) = minute ∷ (minute + long) ∷ []

abbrev pub passage_events : Instance → Passage → List ℕ
passage_events I p = p.start ∷ passage_end p ∷ turn_events (chamber_at I p.chamber).turn p.turn

-- the minute that it is, where the page shows it
abbrev pub present_events : Option ℕ → List ℕ
present_events None = []
present_events (Some minute) = minute ∷ []

-- ALL EVENTS: arrivals, beginnings and ends of lockages and empty turns, and the minute that it is
unfoldable pub events_of : Option ℕ → Instance → List Passage → List ℕ
events_of present I ps = flat_map (λ s. s.arrival ∷ []) I.ships ++ flat_map (passage_events I) ps ++ present_events present
