-- When the shapes of a picture show a plan.
use Rattle.std.specs.Prelude.{ℕ, ◌≡◌, ◌≢◌, ◌+◌, ◌<◌, ◌≤◌, List, length, map, All, slice_index_or}
use Rattle.lock_model.specs.Fleet.{ship_at, chamber_at}
use Rattle.lock_model.specs.Placement.{spot_at}
use Rattle.lock_model.specs.declared.instance.Instance.{Instance}
use Rattle.lock_model.specs.declared.plan.Lockage.{Lockage}
use Rattle.lock_model.specs.declared.plan.Plan.{Plan}
use Rattle.lock_rules.specs.Arrival.{order_of}
use Rattle.lock_rules.specs.Lines.{lockage_at, end_of}
use Rattle.lock_rules.specs.Plan.{times_in}
use Rattle.picture_page.specs.Axis.{Drawn, x_of}
use Rattle.picture_page.specs.Present.{has_begun, present_x}
use Rattle.picture_page.specs.Scales.{deck_scale, units_of}
use Rattle.picture_laws.specs.Shapes.{Box, Row, DeckShip, Deck, Sheet}

-- ---- the boxes

-- A box in the lane of chamber c is that of a lockage there, from its start to its end by the scale of the axis,
-- with a second outline where it has begun.
pub record IsBoxOf (I : Instance) (P : Plan) (axis : Drawn) (c : ℕ) (b : Box) : Type 0 where
  pub known : b.lockage < length P.lockages
  pub lane : (lockage_at P b.lockage).chamber ≡ c
  pub left : b.left ≡ x_of axis (lockage_at P b.lockage).start
  pub right : b.right ≡ x_of axis (end_of I (lockage_at P b.lockage))
  pub begun : b.begun ≡ has_begun axis.present (lockage_at P b.lockage).start

-- how often the lockage at place p of the plan has a box among these
abbrev pub boxes_of : ℕ → List Box → ℕ
boxes_of p boxes = times_in (map (λ b. b.lockage) boxes) p

-- Lockage p has one box in the lane of chamber c, and none elsewhere.
pub record HasOneBox (boxes : ℕ → List Box) (c p : ℕ) : Type 0 where
  pub own : boxes_of p (boxes c) ≡ 1
  pub others : (d : ℕ) → d ≢ c → boxes_of p (boxes d) ≡ 0

-- Each lockage has one box, in its chamber's lane, and each box is one of these.
pub record AreBoxes (I : Instance) (P : Plan) (axis : Drawn) (boxes : ℕ → List Box) : Type 0 where
  pub once : (p : ℕ) → p < length P.lockages → HasOneBox boxes (lockage_at P p).chamber p
  pub each : (c : ℕ) → All (IsBoxOf I P axis c) (boxes c)

-- ---- the rows

-- A row shows its ship's arrival, and the start and the end of the lockage that serves it, by the scale of the axis.
pub record IsRowOf (I : Instance) (P : Plan) (axis : Drawn) (r : Row) : Type 0 where
  pub known : r.lockage < length P.lockages
  pub serves : 1 ≤ times_in (lockage_at P r.lockage).ships r.ship
  pub arrives : r.arrives ≡ x_of axis (ship_at I r.ship).arrival
  pub from : r.from ≡ x_of axis (lockage_at P r.lockage).start
  pub to : r.to ≡ x_of axis (end_of I (lockage_at P r.lockage))

-- Each ship has one row, in arrival order.
pub record AreRows (I : Instance) (P : Plan) (axis : Drawn) (rows : List Row) : Type 0 where
  pub ships : map (λ r. r.ship) rows ≡ order_of I
  pub each : All (IsRowOf I P axis) rows

-- ---- the decks

-- The ship at its place of the lockage covers the deck, from 96 along and 32 across on, by the scale of the deck.
pub record IsOnDeck (I : Instance) (l : Lockage) (s : DeckShip) : Type 0 where
  pub ship : s.ship ≡ slice_index_or l.ships s.place 0
  pub near : s.near ≡ 96 + units_of (deck_scale I.chambers (chamber_at I l.chamber)) (spot_at l.spots s.place).x
  pub far : s.far ≡ 96 + units_of (deck_scale I.chambers (chamber_at I l.chamber)) ((spot_at l.spots s.place).x + (ship_at I s.ship).length)
  pub top : s.top ≡ 32 + units_of (deck_scale I.chambers (chamber_at I l.chamber)) (spot_at l.spots s.place).y
  pub bottom : s.bottom ≡ 32 + units_of (deck_scale I.chambers (chamber_at I l.chamber)) ((spot_at l.spots s.place).y + (ship_at I s.ship).width)

-- A deck shows each ship of its lockage at its place, and no other.
pub record IsDeckOf (I : Instance) (P : Plan) (d : Deck) : Type 0 where
  pub known : d.lockage < length P.lockages
  pub ships : map (λ s. s.ship) d.ships ≡ (lockage_at P d.lockage).ships
  pub placed : All (IsOnDeck I (lockage_at P d.lockage)) d.ships

-- Each lockage has one deck.
pub record AreDecks (I : Instance) (P : Plan) (decks : List Deck) : Type 0 where
  pub once : (p : ℕ) → p < length P.lockages → times_in (map (λ d. d.lockage) decks) p ≡ 1
  pub each : All (IsDeckOf I P) decks

-- THE SHAPES SHOW THE PLAN, and the minute that it is where the axis has it.
pub record ShowPlan (I : Instance) (P : Plan) (axis : Drawn) (sheet : Sheet) : Type 0 where
  pub boxes : AreBoxes I P axis sheet.boxes
  pub rows : AreRows I P axis sheet.rows
  pub decks : AreDecks I P sheet.decks
  pub present : sheet.present ≡ present_x axis
