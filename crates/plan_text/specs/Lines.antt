-- The lines of a plan text between its lines `plan` and `end`.
use Rattle.std.specs.Prelude.{ℕ, ◌==◌, not, List, [], ◌∷◌, ◌++◌, length, nat_lt, Some, Result, Ok, Err, codes, if◌then◌else◌}
use Rattle.std.specs.Option.{is_some}
use Rattle.std.specs.Str.{bytes_eq}
use Rattle.lock_model.specs.declared.limits.TheConstants.{MOST}
use Rattle.lock_model.specs.Fleet.{most_lockages}
use Rattle.lock_model.specs.declared.instance.Instance.{Instance}
use Rattle.line_text.specs.Steps.{◌>>=◌, ◌>>◌}
use Rattle.line_text.specs.Lines.{word_at}
use Rattle.plan_text.specs.declared.berth.Berth.{Berth}
use Rattle.plan_text.specs.declared.berth.Head.{Head}
use Rattle.plan_text.specs.declared.kinds.BadPlan.{BadPlan}
use Rattle.plan_text.specs.declared.kinds.PlanKind.{PlanKind}
use Rattle.plan_text.specs.declared.kinds.PlanKind.TheVariants.{Word, Count, Range, Twice, Loose}
use Rattle.line_text.specs.declared.progress.Progress.{Progress}
use Rattle.line_text.specs.declared.progress.Progress.TheVariants.{More, Ended}
use Rattle.line_text.specs.Steps.{check}
use Rattle.plan_text.specs.Faults.{at_line}
use Rattle.plan_text.specs.Words.{number, way, rank, chamber_named, ship_named, host}
use Rattle.plan_text.specs.Berths.{has_berth}
use Rattle.plan_text.specs.Draft.{Draft, close}

-- lockage <chamber> <up|down> <start>, after so many lockages
unfoldable pub read_head : Instance → ℕ → List (List ℕ) → Result Head PlanKind
read_head I count words = do
  check (length words == 4) Count
  check (nat_lt count (most_lockages I.ships)) Range
  chamber ← chamber_named I.chambers (word_at words 1)
  way ← way (word_at words 2)
  start ← number 1000000000 (word_at words 3)
  Ok (record { chamber = chamber; way = way; start = start })

-- a ship that has no berth among these
unfoldable pub new_ship : Instance → List Berth → List ℕ → Result ℕ PlanKind
new_ship I berths word = do
  ship ← ship_named I.ships word
  check (not (has_berth ship berths)) Twice
  Ok ship

-- berth <ship> <x> <y> <left|right> <host>, as line n, after these berths of the lockage
unfoldable pub read_berth : Instance → ℕ → List Berth → List (List ℕ) → Result Berth PlanKind
read_berth I n berths words = do
  check (length words == 6) Count
  check (nat_lt (length berths) MOST) Range
  ship ← new_ship I berths (word_at words 1)
  x ← number 100000 (word_at words 2)
  y ← number 100000 (word_at words 3)
  rank ← rank (word_at words 4)
  host ← host I.ships (word_at words 5)
  Ok (record { line = n; ship = ship; x = x; y = y; rank = rank; host = host })

-- one more berth of the lockage that isn't whole
unfoldable pub add_berth : Instance → ℕ → Draft → List (List ℕ) → Result (Progress × Draft) PlanKind
add_berth I n draft words = do
  check (is_some draft.head) Loose
  berth ← read_berth I n draft.berths words
  Ok (More, record draft { berths = draft.berths ++ berth ∷ [] })

-- a lockage that has no berth yet
unfoldable pub add_lockage : Instance → Draft → List (List ℕ) → Result (Progress × Draft) PlanKind
add_lockage I draft words = do
  head ← read_head I (length draft.lockages) words
  Ok (More, record { lockages = draft.lockages; head = Some head; berths = [] })

unfoldable pub read_end : Draft → List (List ℕ) → Result (Progress × Draft) PlanKind
read_end draft words = do
  check (length words == 1) Count
  Ok (Ended, draft)

-- a line that is no berth line
unfoldable pub read_other : Instance → Draft → List (List ℕ) → Result (Progress × Draft) PlanKind
read_other I draft words =
    if bytes_eq (word_at words 0) (codes "lockage") then add_lockage I draft words
    else (if bytes_eq (word_at words 0) (codes "end") then read_end draft words
    else Err Word)

-- line n by its first word; before a line that is no berth line the lockage before it is whole
unfoldable pub read_line : Instance → ℕ → Draft → List (List ℕ) → Result (Progress × Draft) BadPlan
read_line I n draft words =
    if length words == 0 then Ok (More, draft)
    else (if bytes_eq (word_at words 0) (codes "berth") then at_line n (add_berth I n draft words)
    else (close I draft >>= λ whole. at_line n (read_other I whole words)))
