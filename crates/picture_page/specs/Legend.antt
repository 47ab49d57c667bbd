-- The legend, with entries for what the page shows.
use Rattle.std.specs.Prelude.{ℕ, List, [], ◌∷◌, ◌++◌, Bool, false, ◌||◌, nat_lt, Some, None, codes, if◌then◌else◌}
use Rattle.std.specs.declared.option.Option.{Option}
use Rattle.lock_model.specs.declared.chamber.Chamber.{Chamber}
use Rattle.lock_model.specs.declared.closure.Closure.{Closure}
use Rattle.lock_model.specs.declared.instance.Instance.{Instance}
use Rattle.lock_model.specs.declared.ship.Ship.{Ship}
use Rattle.picture_page.specs.Forms.{filled}
use Rattle.picture_page.specs.Times.{time_text}
use Rattle.picture_page.specs.declared.times.Clock.{Clock}
use Rattle.picture_page.specs.Axis.{Drawn, first_minute, shows}
use Rattle.picture_page.specs.declared.legend.TheConstants.{LEGEND, BEGUN, PRESENT, CLOSED, UNOPENED, SHIP, BREAK, MOORED, CARGO}

-- lockages that have begun before a minute, and the minute that it is
unfoldable pub begun_entries : Clock → ℕ → List ℕ
begun_entries clock minute = filled BEGUN.now [] ++ time_text clock minute ++ filled PRESENT.now []

abbrev pub present_entries : Clock → Option ℕ → List ℕ
present_entries clock None = []
present_entries clock (Some minute) = begun_entries clock minute

-- an entry where the page shows what it explains
abbrev pub shown_entry : Bool → List ℕ → List ℕ
shown_entry shown item = if shown then filled item [] else []

-- a closure has a minute that isn't left out
abbrev pub has_closure : Drawn → List Closure → Bool
has_closure axis [] = false
has_closure axis (k ∷ ks) = shows axis.pieces k.from k.to || has_closure axis ks

abbrev pub has_closures : Drawn → List Chamber → Bool
has_closures axis [] = false
has_closures axis (c ∷ cs) = has_closure axis c.closures || has_closures axis cs

-- a chamber opens after a minute
abbrev pub opens_later : ℕ → List Chamber → Bool
opens_later first [] = false
opens_later first (c ∷ cs) = nat_lt first c.opens || opens_later first cs

abbrev pub break_entry : List ℕ → List ℕ
break_entry [] = []
break_entry (b ∷ bs) = filled BREAK.now []

-- a ship has a cargo class
abbrev pub has_cargo : List Ship → Bool
has_cargo [] = false
has_cargo (s ∷ ss) = nat_lt 0 s.cargo || has_cargo ss

-- what lanes show
unfoldable pub chamber_entries : Drawn → List Chamber → List ℕ
chamber_entries axis cs =
    filled LEGEND.now [] ++ present_entries axis.clock axis.present ++ shown_entry (has_closures axis cs) CLOSED.now
    ++ shown_entry (opens_later (first_minute axis.pieces) cs) UNOPENED.now

-- what ships' rows and decks show
unfoldable pub ship_entries : Drawn → List Ship → List ℕ
ship_entries axis ships =
    filled SHIP.now [] ++ break_entry axis.breaks ++ filled MOORED.now [] ++ shown_entry (has_cargo ships) CARGO.now

-- THE LEGEND
unfoldable pub legend : Instance → Drawn → List ℕ
legend I axis = chamber_entries axis I.chambers ++ ship_entries axis I.ships ++ filled (codes "</ul>\n") []
