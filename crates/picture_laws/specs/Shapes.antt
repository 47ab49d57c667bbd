-- The shapes of a picture that say the plan, each with the numbers by which it is drawn, and their texts.
use Rattle.std.specs.Prelude.{ℕ, ◌+◌, ◌-◌, List, [], ◌∷◌, ◌++◌, Bool, codes, decimal}
use Rattle.std.specs.declared.option.Option.{Option}
use Rattle.std.specs.List.{flat_map}
use Rattle.lock_model.specs.Fleet.{ship_at, chamber_at}
use Rattle.lock_model.specs.declared.chamber.Chamber.{Chamber}
use Rattle.lock_model.specs.declared.instance.Instance.{Instance}
use Rattle.lock_model.specs.declared.plan.Lockage.{Lockage}
use Rattle.lock_model.specs.declared.plan.Plan.{Plan}
use Rattle.lock_rules.specs.Lines.{lockage_at}
use Rattle.day_play.specs.Playing.{day_of}
use Rattle.picture_page.specs.Berths.{berth_text}
use Rattle.picture_page.specs.Cards.{card_head, card_title, height_of, list_rows}
use Rattle.picture_page.specs.Forms.{filled}
use Rattle.picture_page.specs.Hulls.{outline}
use Rattle.picture_page.specs.Lanes.{box_title, box_width, begun_frame}
use Rattle.picture_page.specs.Passages.{passage_in, passage_end}
use Rattle.picture_page.specs.Present.{present_line}
use Rattle.picture_page.specs.Scales.{deck_scale}
use Rattle.picture_page.specs.Shapes.{passage_box}
use Rattle.picture_page.specs.ShipRows.{row_name, row_wait, row_passage, wait_line, row_number}
use Rattle.picture_page.specs.Ties.{ties}
use Rattle.picture_page.specs.Waters.{drawn, waters, feet}
use Rattle.picture_page.specs.Words.{measures}
use Rattle.picture_page.specs.Writing.{writing}
use Rattle.picture_page.specs.declared.times.Clock.{Clock}

-- the box of the lockage at a place of the plan, under its number on the page, between two pixels, and with a second outline or not
pub record Box : Type 0 where
  pub number : ℕ
  pub lockage : ℕ
  pub left : ℕ
  pub right : ℕ
  pub begun : Bool

-- the row of a ship with its lockage: the pixels of its arrival and of the lockage's start and end, and up to which no break cuts the lockage
pub record Row : Type 0 where
  pub ship : ℕ
  pub number : ℕ
  pub lockage : ℕ
  pub arrives : ℕ
  pub from : ℕ
  pub to : ℕ
  pub clear : ℕ

-- a ship on a deck: its place in the lockage, and what it covers
pub record DeckShip : Type 0 where
  pub place : ℕ
  pub ship : ℕ
  pub near : ℕ
  pub far : ℕ
  pub top : ℕ
  pub bottom : ℕ

-- the deck of a lockage
pub record Deck : Type 0 where
  pub number : ℕ
  pub lockage : ℕ
  pub ships : List DeckShip

-- all of them: the boxes of each chamber, the rows and the decks; and the pixel of the line in lanes and rows, where there is one
pub record Sheet : Type 0 where
  pub boxes : ℕ → List Box
  pub rows : List Row
  pub decks : List Deck
  pub present : Option ℕ

module _ (I : Instance) (P : Plan) (clock : Clock) where
  abbrev pub box_text : Box → List ℕ
  box_text b =
      box_title I clock b.begun (passage_in I (day_of I P) b.number b.lockage (lockage_at P b.lockage))
      ++ passage_box (lockage_at P b.lockage).way (b.left + 1) (box_width b.left b.right) 10 39
      ++ begun_frame b.begun (b.left + 1) (box_width b.left b.right) ++ filled (codes "</a>") []

  -- with the line at a pixel
  abbrev pub row_picture_text : Option ℕ → Row → List ℕ
  row_picture_text present r =
      wait_line r.arrives r.from ++ passage_box (lockage_at P r.lockage).way (r.from + 1) (box_width r.from r.to) 2 14
      ++ filled (codes "<use href=\"#t\"/>") [] ++ present_line present 16
      ++ filled (codes "<circle class=\"m\" cx=\"%\" cy=\"8\" r=\"4\"/>") (r.arrives ∷ [])
      ++ row_number r.number (record { from = r.from; to = r.clear }) r.to

  abbrev pub row_text : Option ℕ → Row → List ℕ
  row_text present r =
      row_name (ship_at I r.ship) ++ row_wait clock (ship_at I r.ship) (lockage_at P r.lockage).start
      ++ row_passage clock (chamber_at I (lockage_at P r.lockage).chamber).name (passage_in I (day_of I P) r.number r.lockage (lockage_at P r.lockage))
      ++ row_picture_text present r
      ++ filled (codes "</svg></td><td class=\"r\">") []
      ++ decimal (passage_end (passage_in I (day_of I P) r.number r.lockage (lockage_at P r.lockage)) - (ship_at I r.ship).arrival)
      ++ filled (codes "</td></tr>\n") []

  abbrev pub deck_ship_text : Lockage → DeckShip → List ℕ
  deck_ship_text l s =
      filled (codes "<g><title>") [] ++ (ship_at I s.ship).name ++ filled (codes ", ") [] ++ measures (ship_at I s.ship).length (ship_at I s.ship).width
      ++ filled (codes ", ") [] ++ berth_text I l s.place ++ filled (codes "</title>") []
      ++ outline l.way (record { near = s.near; far = s.far; top = s.top; bottom = s.bottom })

  -- the deck of a lockage in a chamber, with these ships on it
  abbrev pub deck_with : Lockage → Chamber → List DeckShip → List ℕ
  deck_with l c ships =
      waters (deck_scale I.chambers c) c ++ flat_map (deck_ship_text l) ships ++ ties (deck_scale I.chambers c) I l ++ writing (deck_scale I.chambers c) I l
      ++ feet c (drawn (deck_scale I.chambers c) c.length) (height_of (drawn (deck_scale I.chambers c) c.width) - 14)

  -- its card
  abbrev pub card_with : ℕ → ℕ → Lockage → Chamber → List DeckShip → List ℕ
  card_with number place l c ships =
      card_head clock c.name (passage_in I (day_of I P) number place l) ++ card_title I l number (drawn (deck_scale I.chambers c) c.width) c.name
      ++ deck_with l c ships
      ++ filled (codes "</svg>\n<table>") [] ++ list_rows I l ++ filled (codes "</table></article>\n") []

  abbrev pub deck_text : Deck → List ℕ
  deck_text d = card_with d.number d.lockage (lockage_at P d.lockage) (chamber_at I (lockage_at P d.lockage).chamber) d.ships
