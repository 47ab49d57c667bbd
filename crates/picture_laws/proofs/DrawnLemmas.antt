-- The shapes of the picture of a plan, and that its page is written with them.
use Rattle.std.proofs.Common.{◌≡◌, ℕ, ◌+◌, List, [], ◌∷◌, ◌++◌, length, map, filter, flat_map, cond, true, false, nat_eq, refl, sym, ap, ◌∙◌}
use Rattle.std.proofs.Common.{append_assoc, append-nil}
use Rattle.std.specs.List.{range_with_len}
use Rattle.std.specs.Prelude.{slice_index_or, codes, ◌-◌}
use Rattle.std.proofs.lemmas.List.Folds.{flat_map-map}
use Rattle.std.proofs.lemmas.Grind.{flat_map-append}
use Rattle.lock_model.specs.Fleet.{ship_at, chamber_at}
use Rattle.lock_model.specs.Placement.{spot_at}
use Rattle.lock_model.specs.declared.instance.Instance.{Instance}
use Rattle.lock_model.specs.declared.plan.Lockage.{Lockage}
use Rattle.lock_model.specs.declared.plan.Plan.{Plan}
use Rattle.lock_rules.specs.Arrival.{order_of}
use Rattle.lock_rules.specs.Lines.{lockage_at, end_of}
use Rattle.day_play.specs.Playing.{day_of}
use Rattle.day_play.specs.declared.beat.Beat.{Beat}
use Rattle.picture_page.specs.Axis.{Drawn, x_of, clear_end}
use Rattle.picture_page.specs.Cards.{card_of, card, cards, deck_picture, card_head, card_title, height_of, list_rows}
use Rattle.picture_page.specs.Forms.{filled}
use Rattle.picture_page.specs.Ties.{ties}
use Rattle.picture_page.specs.Waters.{drawn, waters, feet}
use Rattle.picture_page.specs.Writing.{writing}
use Rattle.picture_page.specs.Hulls.{hulls, hull_text, hull_of}
use Rattle.picture_page.specs.Labels.{stretch_of}
use Rattle.picture_page.specs.Lanes.{lockage_box}
use Rattle.picture_page.specs.Present.{has_begun, present_x}
use Rattle.picture_page.specs.Passages.{is_go, passage_in, passages_from, passages_of, line_of, has}
use Rattle.picture_page.specs.Scales.{deck_scale, units_of}
use Rattle.picture_page.specs.ShipRows.{row, rows, row_picture, row_among}
use Rattle.picture_page.specs.declared.times.Clock.{Clock}
use Rattle.picture_page.specs.declared.times.Clock.TheVariants.{Minutes}
use Rattle.picture_laws.specs.Shapes.{Box, Row, DeckShip, Deck, Sheet, box_text, row_text, deck_ship_text, deck_text}

-- a lockage that begins, with its number
pub record Start : Type 0 where
  pub number : ℕ
  pub lockage : ℕ

abbrev pub numbered : ℕ → List Beat → List Start
numbered n [] = []
numbered n (b ∷ bs) = cond (is_go b.act) (record { number = n; lockage = b.lockage } ∷ numbered (n + 1) bs) (numbered n bs)

-- ---- the shapes

abbrev pub box_of : Instance → Plan → Drawn → Start → Box
box_of I P axis t = record {
  number = t.number;
  lockage = t.lockage;
  left = x_of axis (lockage_at P t.lockage).start;
  right = x_of axis (end_of I (lockage_at P t.lockage));
  begun = has_begun axis.present (lockage_at P t.lockage).start;
}

abbrev pub starts_in : Plan → ℕ → List Start → List Start
starts_in P c ts = filter (λ t. nat_eq (lockage_at P t.lockage).chamber c) ts

abbrev pub row_shape : Instance → Plan → Drawn → ℕ → Start → Row
row_shape I P axis s t = record {
  ship = s;
  number = t.number;
  lockage = t.lockage;
  arrives = x_of axis (ship_at I s).arrival;
  from = x_of axis (lockage_at P t.lockage).start;
  to = x_of axis (end_of I (lockage_at P t.lockage));
  clear = clear_end axis.breaks axis.gap (x_of axis (lockage_at P t.lockage).start) (x_of axis (end_of I (lockage_at P t.lockage)));
}

-- the row of ship s with the first of these lockages that serves it
abbrev pub rows_among : Instance → Plan → Drawn → ℕ → List Start → List Row
rows_among I P axis s [] = []
rows_among I P axis s (t ∷ ts) = cond (has s (lockage_at P t.lockage).ships) (row_shape I P axis s t ∷ []) (rows_among I P axis s ts)

abbrev pub deck_ship : Instance → Lockage → ℕ → DeckShip
deck_ship I l k = record {
  place = k;
  ship = slice_index_or l.ships k 0;
  near = 96 + units_of (deck_scale I.chambers (chamber_at I l.chamber)) (spot_at l.spots k).x;
  far = 96 + units_of (deck_scale I.chambers (chamber_at I l.chamber)) ((spot_at l.spots k).x + (ship_at I (slice_index_or l.ships k 0)).length);
  top = 32 + units_of (deck_scale I.chambers (chamber_at I l.chamber)) (spot_at l.spots k).y;
  bottom = 32 + units_of (deck_scale I.chambers (chamber_at I l.chamber)) ((spot_at l.spots k).y + (ship_at I (slice_index_or l.ships k 0)).width);
}

abbrev pub deck_of_start : Instance → Plan → Start → Deck
deck_of_start I P t = record {
  number = t.number;
  lockage = t.lockage;
  ships = map (deck_ship I (lockage_at P t.lockage)) (range_with_len 0 (length (lockage_at P t.lockage).ships));
}

abbrev pub sheet_of : Instance → Plan → Drawn → List Start → Sheet
sheet_of I P axis ts = record {
  boxes = λ c. map (box_of I P axis) (starts_in P c ts);
  rows = flat_map (λ s. rows_among I P axis s ts) (order_of I);
  decks = map (deck_of_start I P) ts;
  present = present_x axis;
}

-- ---- lists

pub flat_map-same : {X Y : Type 0} (f g : X → List Y) → ((x : X) → f x ≡ g x) → (xs : List X) → flat_map f xs ≡ flat_map g xs
flat_map-same f g same [] = refl
flat_map-same f g same (x ∷ xs) = ap (λ ys. ys ++ flat_map f xs) (same x) ∙ ap (λ ys. g x ++ ys) (flat_map-same f g same xs)

flat_map-parts : {X Y Z : Type 0} (f : X → List Y) (g : Y → List Z) (xs : List X) → flat_map (λ x. flat_map g (f x)) xs ≡ flat_map g (flat_map f xs)
flat_map-parts f g [] = refl
flat_map-parts f g (x ∷ xs) = ap (λ ys. flat_map g (f x) ++ ys) (flat_map-parts f g xs) ∙ sym (flat_map-append g (f x) (flat_map f xs))

module _ (I : Instance) (P : Plan) (day : List Beat) where
  -- ---- the passages of the day are these lockages

  pub passages-numbered : (n : ℕ) (bs : List Beat)
      → passages_from I P day n bs ≡ map (λ (t : Start). passage_in I day t.number t.lockage (lockage_at P t.lockage)) (numbered n bs)
  passages-numbered n [] = refl
  passages-numbered n (b ∷ bs) =
      elim (is_go b.act) as (λ h. cond h (passage_in I day n b.lockage (lockage_at P b.lockage) ∷ passages_from I P day (n + 1) bs) (passages_from I P day n bs)
      ≡ map (λ (t : Start). passage_in I day t.number t.lockage (lockage_at P t.lockage)) (cond h
      (record { number = n; lockage = b.lockage } ∷ numbered (n + 1) bs) (numbered n bs))) [
        | true ↦ ap (λ ps. passage_in I day n b.lockage (lockage_at P b.lockage) ∷ ps) (passages-numbered (n + 1) bs)
        | false ↦ passages-numbered n bs
      ]

  line-numbered : (c : ℕ) (ts : List Start) → line_of c (map (λ (t : Start). passage_in I day t.number t.lockage (lockage_at P t.lockage)) ts)
      ≡ map (λ (t : Start). passage_in I day t.number t.lockage (lockage_at P t.lockage)) (starts_in P c ts)
  line-numbered c [] = refl
  line-numbered c (t ∷ ts) =
      elim (nat_eq (lockage_at P t.lockage).chamber c) as (λ h.
      cond h (passage_in I day t.number t.lockage (lockage_at P t.lockage) ∷ line_of c (map (λ (t : Start). passage_in I day t.number t.lockage (lockage_at P t.lockage)) ts))
      (line_of c (map (λ (t : Start). passage_in I day t.number t.lockage (lockage_at P t.lockage)) ts))
      ≡ map (λ (t : Start). passage_in I day t.number t.lockage (lockage_at P t.lockage)) (cond h (t ∷ starts_in P c ts) (starts_in P c ts))) [
        | true ↦ ap (λ ps. passage_in I day t.number t.lockage (lockage_at P t.lockage) ∷ ps) (line-numbered c ts)
        | false ↦ line-numbered c ts
      ]

-- ---- each shape's text

module _ (I : Instance) (P : Plan) where
  unfoldable pub own_starts : List Start
  own_starts = numbered 1 (day_of I P)

  box-written : (axis : Drawn) (t : Start)
      → lockage_box I axis (passage_in I (day_of I P) t.number t.lockage (lockage_at P t.lockage)) ≡ box_text I P axis.clock (box_of I P axis t)
  unfolding lockage_box
  box-written axis t = refl

  row-written : (axis : Drawn) (s : ℕ) (t : Start)
      → row I axis (ship_at I s) (passage_in I (day_of I P) t.number t.lockage (lockage_at P t.lockage)) ≡ row_text I P axis.clock (present_x axis) (row_shape I P axis s t)
  unfolding row row_picture stretch_of
  row-written axis s t = refl

  hulls-written : (l : Lockage)
      → hulls (deck_scale I.chambers (chamber_at I l.chamber)) I l
      ≡ flat_map (deck_ship_text I P Minutes l) (map (deck_ship I l) (range_with_len 0 (length l.ships)))
  unfolding hulls hull_text hull_of
  hulls-written l = sym (flat_map-map (deck_ship_text I P Minutes l) (deck_ship I l) (range_with_len 0 (length l.ships)))

  rows-written : (axis : Drawn) (s : ℕ) (ts : List Start)
      → row_among I axis s (map (λ (t : Start). passage_in I (day_of I P) t.number t.lockage (lockage_at P t.lockage)) ts)
      ≡ flat_map (row_text I P axis.clock (present_x axis)) (rows_among I P axis s ts)
  rows-written axis s [] = refl
  rows-written axis s (t ∷ ts) =
      elim (has s (lockage_at P t.lockage).ships) as (λ h.
      cond h (row I axis (ship_at I s) (passage_in I (day_of I P) t.number t.lockage (lockage_at P t.lockage)))
      (row_among I axis s (map (λ (t : Start). passage_in I (day_of I P) t.number t.lockage (lockage_at P t.lockage)) ts))
      ≡ flat_map (row_text I P axis.clock (present_x axis)) (cond h (row_shape I P axis s t ∷ []) (rows_among I P axis s ts))) [
        | true ↦ row-written axis s t ∙ sym (append-nil (row_text I P axis.clock (present_x axis) (row_shape I P axis s t)))
        | false ↦ rows-written axis s ts
      ]

  card-written : (clock : Clock) (t : Start)
      → card_of I P clock (passage_in I (day_of I P) t.number t.lockage (lockage_at P t.lockage)) ≡ deck_text I P clock (deck_of_start I P t)
  unfolding card deck_picture
  card-written clock t =
      let l = lockage_at P t.lockage in
      let c = chamber_at I l.chamber in
      ap (λ (hs : List ℕ).
      card_head clock c.name (passage_in I (day_of I P) t.number t.lockage l) ++ card_title I l t.number (drawn (deck_scale I.chambers c) c.width) c.name
      ++ (waters (deck_scale I.chambers c) c ++ hs ++ ties (deck_scale I.chambers c) I l ++ writing (deck_scale I.chambers c) I l
      ++ feet c (drawn (deck_scale I.chambers c) c.length) (height_of (drawn (deck_scale I.chambers c) c.width) - 14))
      ++ filled (codes "</svg>\n<table>") [] ++ list_rows I l ++ filled (codes "</table></article>\n") [])
      (hulls-written l)

  -- ---- lanes, rows and cards

  day-passages : passages_of I P (day_of I P) ≡ map (λ (t : Start). passage_in I (day_of I P) t.number t.lockage (lockage_at P t.lockage)) own_starts
  unfolding passages_of own_starts
  day-passages = passages-numbered I P (day_of I P) 1 (day_of I P)

  pub boxes-written : (axis : Drawn) (c : ℕ)
      → flat_map (lockage_box I axis) (line_of c (passages_of I P (day_of I P)))
      ≡ flat_map (box_text I P axis.clock) (map (box_of I P axis) (starts_in P c own_starts))
  boxes-written axis c =
      ap (λ ps. flat_map (lockage_box I axis) ps) (ap (λ ps. line_of c ps) day-passages ∙ line-numbered I P (day_of I P) c own_starts)
      ∙ flat_map-map (lockage_box I axis) (λ (t : Start). passage_in I (day_of I P) t.number t.lockage (lockage_at P t.lockage)) (starts_in P c own_starts)
      ∙ flat_map-same (λ t. lockage_box I axis (passage_in I (day_of I P) t.number t.lockage (lockage_at P t.lockage)))
      (λ t. box_text I P axis.clock (box_of I P axis t)) (box-written axis) (starts_in P c own_starts)
      ∙ sym (flat_map-map (box_text I P axis.clock) (box_of I P axis) (starts_in P c own_starts))

  pub all-rows-written : (axis : Drawn)
      → rows I axis (passages_of I P (day_of I P)) ≡ flat_map (row_text I P axis.clock (present_x axis)) (flat_map (λ s. rows_among I P axis s own_starts) (order_of I))
  unfolding rows
  all-rows-written axis =
      ap (λ ps. flat_map (λ s. row_among I axis s ps) (order_of I)) day-passages
      ∙ flat_map-same (λ s. row_among I axis s (map (λ (t : Start). passage_in I (day_of I P) t.number t.lockage (lockage_at P t.lockage)) own_starts))
      (λ s. flat_map (row_text I P axis.clock (present_x axis)) (rows_among I P axis s own_starts)) (λ s. rows-written axis s own_starts) (order_of I)
      ∙ flat_map-parts (λ s. rows_among I P axis s own_starts) (row_text I P axis.clock (present_x axis)) (order_of I)

  pub all-cards-written : (clock : Clock) → cards I P clock (passages_of I P (day_of I P)) ≡ flat_map (deck_text I P clock) (map (deck_of_start I P) own_starts)
  unfolding cards
  all-cards-written clock =
      ap (λ ps. flat_map (card_of I P clock) ps) day-passages
      ∙ flat_map-map (card_of I P clock) (λ (t : Start). passage_in I (day_of I P) t.number t.lockage (lockage_at P t.lockage)) own_starts
      ∙ flat_map-same (λ t. card_of I P clock (passage_in I (day_of I P) t.number t.lockage (lockage_at P t.lockage)))
      (λ t. deck_text I P clock (deck_of_start I P t)) (card-written clock) own_starts
      ∙ sym (flat_map-map (deck_text I P clock) (deck_of_start I P) own_starts)

-- ---- the page in its parts

-- The parts of a page in one row, where lanes, rows and cards stand in tables.
pub regroup : (h1 h2 h3 h4 f1 c1 c2 c3 c4 c5 lanes c6 s1 s2 s3 s4 s5 rows s6 s7 s8 f2 f3 d1 d2 d3 cards d4 : List ℕ)
    → h1 ++ h2 ++ h3 ++ h4 ++ (f1 ++ (c1 ++ c2 ++ c3 ++ c4 ++ c5 ++ lanes ++ c6) ++ (s1 ++ s2 ++ s3 ++ s4 ++ s5 ++ rows ++ s6 ++ s7 ++ s8) ++ f2 ++ f3)
    ++ (d1 ++ d2 ++ d3 ++ cards ++ d4)
    ≡ (h1 ++ h2 ++ h3 ++ h4 ++ f1 ++ c1 ++ c2 ++ c3 ++ c4 ++ c5) ++ lanes ++ (c6 ++ s1 ++ s2 ++ s3 ++ s4 ++ s5) ++ rows ++ (s6 ++ s7 ++ s8 ++ f2 ++ f3
    ++ d1 ++ d2 ++ d3) ++ cards ++ d4
regroup h1 h2 h3 h4 f1 c1 c2 c3 c4 c5 lanes c6 s1 s2 s3 s4 s5 rows s6 s7 s8 f2 f3 d1 d2 d3 cards d4 = simp append_assoc
