-- The picture of a plan, as one page.
use Rattle.std.specs.Prelude.{ℕ, ◌-◌, ◌^◌, List, [], ◌∷◌, ◌++◌, length, min, max, Some, None, codes}
use Rattle.std.specs.declared.option.Option.{Option}
use Rattle.lock_model.specs.declared.instance.Instance.{Instance}
use Rattle.lock_model.specs.declared.plan.Plan.{Plan}
use Rattle.lock_rules.specs.Plan.{cost_of}
use Rattle.day_play.specs.declared.beat.Beat.{Beat}
use Rattle.picture_page.specs.Forms.{filled}
use Rattle.picture_page.specs.Times.{time_text}
use Rattle.picture_page.specs.Words.{plural, count_text}
use Rattle.picture_page.specs.declared.times.Clock.{Clock}
use Rattle.picture_page.specs.declared.times.Dial.{Dial}
use Rattle.picture_page.specs.declared.times.Clock.TheVariants.{Minutes, Day}
use Rattle.picture_page.specs.Axis.{Drawn, axis_of}
use Rattle.picture_page.specs.Ticks.{ticks_of}
use Rattle.picture_page.specs.Passages.{passages_of, events_of}
use Rattle.picture_page.specs.declared.passage.Passage.{Passage}
use Rattle.picture_page.specs.Shared.{shared}
use Rattle.picture_page.specs.Lanes.{chambers_table}
use Rattle.picture_page.specs.ShipRows.{ships_table}
use Rattle.picture_page.specs.Legend.{legend}
use Rattle.picture_page.specs.Cards.{cards}
use Rattle.picture_page.specs.declared.style.TheConstants.{STYLE, PRESENT_STYLE}
use Rattle.picture_page.specs.declared.heads.Known.{Known}
use Rattle.picture_page.specs.declared.heads.Known.TheVariants.{Legal, Optimal, Open}

abbrev pub known_word : Known → List ℕ
known_word Legal = codes "legal"
known_word Optimal = codes "optimal"
known_word (Open low) = codes "open"

-- what that word means
abbrev pub known_meaning : Known → List ℕ
known_meaning Legal = codes "Legal: the plan keeps every rule of the lock. Whether another plan takes less is not said."
known_meaning Optimal = codes "Optimal: the plan keeps every rule of the lock, and it is proved that no plan takes less."
known_meaning (Open low) = codes "Open: the plan keeps every rule of the lock. Whether another plan takes less is not known."

-- what no legal plan costs less than
unfoldable pub low_words : ℕ → List ℕ
low_words low = codes "; no plan takes less than " ++ count_text low (codes "minute")

-- the same, where it is below the cost
abbrev pub bound_words : Known → List ℕ
bound_words Legal = []
bound_words Optimal = []
bound_words (Open low) = low_words low

-- what is known of a plan, and its cost
unfoldable pub verdict : Known → ℕ → List ℕ
verdict known cost = known_word known ++ codes ", total flow time " ++ count_text cost (codes "minute") ++ bound_words known

-- what the style sheet has besides where the page shows the minute that it is
abbrev pub present_style : Option ℕ → List ℕ
present_style None = []
present_style (Some minute) = filled PRESENT_STYLE.now []

-- the head of the page, with its style sheet
unfoldable pub page_head : Option ℕ → Known → ℕ → List ℕ
page_head present known cost =
    filled (codes "<!DOCTYPE html>\n<html lang=\"en\">\n<head>\n<meta charset=\"utf-8\">\n<meta name=\"viewport\" content=\"width=device-width,initial-scale=1\">\n<title>glock: ") []
    ++ verdict known cost ++ filled STYLE.now [] ++ present_style present
    ++ filled (codes "</style>\n</head>\n<body>\n<main>\n") []

-- the least and the greatest of some events
abbrev pub least_of : List ℕ → ℕ
least_of [] = 2 ^ 64 - 1
least_of (e ∷ es) = min e (least_of es)

abbrev pub greatest_of : List ℕ → ℕ
greatest_of [] = 0
greatest_of (e ∷ es) = max e (greatest_of es)

abbrev pub span_word : Clock → List ℕ
span_word Minutes = codes "minutes "
span_word (Day offset) = codes "from "

-- from the first event to the last
unfoldable pub event_span : Clock → List ℕ → List ℕ
event_span clock events =
    filled (span_word clock) [] ++ time_text clock (least_of events) ++ filled (codes " to ") [] ++ time_text clock (greatest_of events)

-- what is known of the plan, and what that means
unfoldable pub heading : Known → ℕ → List ℕ
heading known cost =
    filled (codes "<h1>") [] ++ verdict known cost ++ filled (codes "</h1>\n<p class=\"sub\">") [] ++ known_meaning known
    ++ filled (codes " Flow time is from a ship&#8217;s arrival to the end of its lockage; flow times and waits are in minutes.</p>\n<p class=\"sub\">") []

-- so many things of a name, after a dot
abbrev pub next_count : ℕ → List ℕ → List ℕ
next_count n name = filled (codes " &#183; ") [] ++ count_text n name

-- what a page of so many lockages shows
unfoldable pub summary : Clock → Instance → ℕ → List ℕ → List ℕ
summary clock I lockages events =
    event_span clock events ++ next_count (length I.ships) (codes "ship") ++ next_count lockages (codes "lockage")
    ++ next_count (length I.chambers) (codes "chamber") ++ filled (codes "</p>\n") []

-- the timetable: chambers and ships along one axis
unfoldable pub timetable : Instance → Drawn → List Passage → ℕ → List ℕ
timetable I axis ps cost =
    filled (codes "<div role=\"region\" aria-label=\"timetable\">\n") [] ++ chambers_table I axis ps
    ++ ships_table I axis ps cost
    ++ filled (codes "</div>\n") [] ++ legend I axis

-- the decks, and the end of the page
unfoldable pub decks : Instance → Plan → Clock → List Passage → List ℕ
decks I P clock ps =
    filled (codes "<h2>deck plan") [] ++ plural (length ps) ++ filled (codes "</h2>\n<p class=\"sub\">Each deck numbers its ships in the order in which they come in.</p>\n<div class=\"cards\">\n") [] ++ cards I P clock ps
    ++ filled (codes "</div>\n</main>\n</body>\n</html>\n") []

-- a page on an axis
unfoldable pub page_on : Known → Dial → Instance → Plan → List Passage → List ℕ → Drawn → List ℕ
page_on known dial I P ps events axis =
    page_head dial.present known (cost_of I P) ++ shared axis (ticks_of axis) ++ heading known (cost_of I P) ++ summary dial.clock I (length ps) events
    ++ timetable I axis ps (cost_of I P) ++ decks I P dial.clock ps

abbrev pub page_with : Known → Dial → Instance → Plan → List Passage → List ℕ
page_with known dial I P ps = page_on known dial I P ps (events_of dial.present I ps) (axis_of dial (events_of dial.present I ps))

-- THE PICTURE of a plan and its day
unfoldable pub picture : Known → Dial → Instance → Plan → List Beat → List ℕ
picture known dial I P day = page_with known dial I P (passages_of I P day)
