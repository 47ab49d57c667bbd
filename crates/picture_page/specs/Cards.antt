-- The cards: the deck of each lockage from above, and its ships.
use Rattle.std.specs.Prelude.{ℕ, ◌+◌, ◌-◌, ◌/◌, ◌%◌, List, [], ◌∷◌, ◌++◌, length, nat_eq, codes, if◌then◌else◌}
use Rattle.std.specs.List.{flat_map, range_with_len}
use Rattle.lock_model.specs.Fleet.{chamber_at}
use Rattle.lock_model.specs.declared.chamber.Chamber.{Chamber}
use Rattle.lock_model.specs.declared.instance.Instance.{Instance}
use Rattle.lock_model.specs.declared.plan.Lockage.{Lockage}
use Rattle.lock_model.specs.declared.plan.Plan.{Plan}
use Rattle.lock_model.specs.declared.ship.Ship.{Ship}
use Rattle.lock_rules.specs.Lines.{lockage_at}
use Rattle.instance_text.specs.Canonical.{way_word}
use Rattle.day_play.specs.Playing.{moor_order}
use Rattle.plan_print.specs.Words.{letter}
use Rattle.picture_page.specs.Forms.{filled}
use Rattle.picture_page.specs.Shapes.{arrow, cargo_mark}
use Rattle.picture_page.specs.Times.{time_text}
use Rattle.picture_page.specs.Words.{measures}
use Rattle.picture_page.specs.declared.times.Clock.{Clock}
use Rattle.picture_page.specs.Passages.{passage_end}
use Rattle.picture_page.specs.declared.passage.Passage.{Passage}
use Rattle.picture_page.specs.Scales.{deck_scale}
use Rattle.picture_page.specs.Berths.{ship_of, spot_of, berth_text}
use Rattle.picture_page.specs.Waters.{drawn, waters, feet}
use Rattle.picture_page.specs.Hulls.{hulls}
use Rattle.picture_page.specs.Ties.{ties}
use Rattle.picture_page.specs.Writing.{writing}
use Rattle.picture_page.specs.declared.scales.DeckScale.{DeckScale}

-- the number, the way and the chamber's name of a passage
unfoldable pub head_words : List ℕ → Passage → List ℕ
head_words name p =
    filled (codes "<article class=\"card\" id=\"l%\"><h3><b>% ") (p.number ∷ p.number ∷ []) ++ arrow p.way ++ filled (codes "</b><span>") [] ++ way_word p.way
    ++ filled (codes " in <strong>") [] ++ name

-- and its times
unfoldable pub card_head : Clock → List ℕ → Passage → List ℕ
card_head clock name p =
    head_words name p ++ filled (codes "</strong></span><span>") [] ++ time_text clock p.start ++ filled (codes " &#8211; ") []
    ++ time_text clock (passage_end p) ++ filled (codes "</span></h3>\n") []

-- what stands between the ships of a list
abbrev pub parting : ℕ → List ℕ
parting k = if nat_eq k 0 then [] else codes "; "

-- the ship at place k and its berth
unfoldable pub title_ship : Instance → Lockage → ℕ → List ℕ
title_ship I l k = parting k ++ (ship_of I l k).name ++ codes " " ++ berth_text I l k

unfoldable pub title_ships : Instance → Lockage → List ℕ
title_ships I l = flat_map (title_ship I l) (range_with_len 0 (length l.ships))

-- the height of a deck's picture where the chamber is drawn so wide
abbrev pub height_of : ℕ → ℕ
height_of width = width + 136

-- the beginning of a deck's picture, and what it shows in a sentence
unfoldable pub card_title : Instance → Lockage → ℕ → ℕ → List ℕ → List ℕ
card_title I l number width name =
    filled (codes "<svg class=\"d\" viewBox=\"0 0 1968 %\" role=\"img\"><title>Lockage %") (height_of width ∷ number ∷ [])
    ++ filled (codes ", chamber ") [] ++ name
    ++ filled (codes " from above: ") [] ++ title_ships I l ++ filled (codes "</title>") []

-- a deck's picture after its title
unfoldable pub deck_picture : DeckScale → Instance → Lockage → Chamber → List ℕ
deck_picture scale I l c =
    waters scale c ++ hulls scale I l ++ ties scale I l ++ writing scale I l ++ feet c (drawn scale c.length) (height_of (drawn scale c.width) - 14)

-- which to come in, the letter, the name and the size of the ship at place k
unfoldable pub list_ship : ℕ → Ship → ℕ → List ℕ
list_ship entry s k =
    filled (codes "<tr><td>%") (entry ∷ []) ++ filled (codes "</td><td>") [] ++ letter k ∷ [] ++ filled (codes "</td><td>") [] ++ s.name
    ++ cargo_mark s.cargo ++ filled (codes "</td><td class=\"v\">") [] ++ measures s.length s.width ++ filled (codes "</td><td>") []

-- and how and where it lies
unfoldable pub list_row : Instance → Lockage → ℕ → ℕ → List ℕ
list_row I l entry k =
    list_ship entry (ship_of I l k) k ++ berth_text I l k
    ++ filled (codes "</td><td class=\"v\">%.% m<span class=\"fl\"> from low</span></td></tr>") ((spot_of l k).x / 10 ∷ (spot_of l k).x % 10 ∷ [])

-- the rows of the ships at these places, numbered from `entry` on
abbrev pub rows_from : Instance → Lockage → ℕ → List ℕ → List ℕ
rows_from I l entry [] = []
rows_from I l entry (k ∷ ks) = list_row I l entry k ++ rows_from I l (entry + 1) ks

-- THE SHIPS OF A LOCKAGE, numbered in the order in which they come in
unfoldable pub list_rows : Instance → Lockage → List ℕ
list_rows I l = rows_from I l 1 (moor_order I l)

-- the card of a passage in a chamber that is drawn at a scale
unfoldable pub card : DeckScale → Instance → Clock → Lockage → Chamber → Passage → List ℕ
card scale I clock l c p =
    card_head clock c.name p ++ card_title I l p.number (drawn scale c.width) c.name ++ deck_picture scale I l c
    ++ filled (codes "</svg>\n<table>") [] ++ list_rows I l ++ filled (codes "</table></article>\n") []

abbrev pub card_of : Instance → Plan → Clock → Passage → List ℕ
card_of I P clock p = card (deck_scale I.chambers (chamber_at I p.chamber)) I clock (lockage_at P p.place) (chamber_at I p.chamber) p

-- THE CARDS of passages
unfoldable pub cards : Instance → Plan → Clock → List Passage → List ℕ
cards I P clock ps = flat_map (card_of I P clock) ps
