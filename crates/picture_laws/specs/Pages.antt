-- Which shapes a page has, and where they stand in its bytes.
use Rattle.std.specs.Prelude.{ℕ, ◌≡◌, List, [], ◌++◌, length, codes}
use Rattle.std.specs.declared.option.Option.{Option}
use Rattle.std.specs.List.{flat_map, range_with_len}
use Rattle.lock_model.specs.Fleet.{chamber_at}
use Rattle.lock_model.specs.declared.instance.Instance.{Instance}
use Rattle.lock_model.specs.declared.plan.Plan.{Plan}
use Rattle.lock_rules.specs.Plan.{IsLegal}
use Rattle.day_play.specs.Playing.{day_of}
use Rattle.picture_page.specs.Axis.{Drawn, axis_of}
use Rattle.picture_page.specs.Labels.{are_wide}
use Rattle.picture_page.specs.Forms.{filled}
use Rattle.picture_page.specs.Lanes.{lane_name, lane_title, lane_ground, lane_words}
use Rattle.picture_page.specs.Page.{picture}
use Rattle.picture_page.specs.Passages.{passages_of, line_of, events_of}
use Rattle.picture_page.specs.Present.{present_line}
use Rattle.picture_page.specs.declared.heads.Known.{Known}
use Rattle.picture_page.specs.declared.times.Dial.{Dial}
use Rattle.picture_laws.specs.Shapes.{Box, Sheet, box_text, row_text, deck_text}
use Rattle.picture_laws.specs.Shown.{ShowPlan}

module _ (I : Instance) (P : Plan) (dial : Dial) where
  -- the axis on which the day that is played of the plan is shown
  abbrev pub axis_of_day : Drawn
  axis_of_day = axis_of dial (events_of dial.present I (passages_of I P (day_of I P)))

  -- the lane of chamber c with these boxes, and with the line at a pixel
  abbrev pub lane_with : Option ℕ → ℕ → List Box → List ℕ
  lane_with present c boxes =
      lane_name (chamber_at I c) ++ lane_title axis_of_day.clock (length (line_of c (passages_of I P (day_of I P)))) (chamber_at I c)
      ++ lane_ground axis_of_day (chamber_at I c) (line_of c (passages_of I P (day_of I P)))
      ++ flat_map (box_text I P axis_of_day.clock) boxes
      ++ (filled (codes "<use href=\"#T\"/>") [] ++ present_line present 44
      ++ lane_words axis_of_day (are_wide axis_of_day (passages_of I P (day_of I P))) (chamber_at I c) (line_of c (passages_of I P (day_of I P))))

  -- the lanes, the rows and the cards that have these shapes
  abbrev pub lanes_with : Sheet → List ℕ
  lanes_with sheet = flat_map (λ c. lane_with sheet.present c (sheet.boxes c)) (range_with_len 0 (length I.chambers))

  abbrev pub rows_with : Sheet → List ℕ
  rows_with sheet = flat_map (row_text I P axis_of_day.clock sheet.present) sheet.rows

  abbrev pub cards_with : Sheet → List ℕ
  cards_with sheet = flat_map (deck_text I P dial.clock) sheet.decks

  -- The page is its lanes, its rows and its cards with these shapes, one after the other, and what stands before, between and behind them.
  pub record IsDrawnWith (sheet : Sheet) (page : List ℕ) : Type 0 where
    pub head : List ℕ
    pub after_lanes : List ℕ
    pub after_rows : List ℕ
    pub end : List ℕ
    pub written : page ≡ head ++ lanes_with sheet ++ after_lanes ++ rows_with sheet ++ after_rows ++ cards_with sheet ++ end

  -- The page has shapes that show the plan, on an axis with the minute of the dial.
  pub record PageShows (page : List ℕ) : Type 0 where
    pub sheet : Sheet
    pub drawn : IsDrawnWith sheet page
    pub shows : ShowPlan I P axis_of_day sheet
    pub present : axis_of_day.present ≡ dial.present

-- THE PICTURE of each legal plan shows the plan.
abbrev pub PicturesShowPlans : Type 0
PicturesShowPlans = (known : Known) (dial : Dial) (I : Instance) (P : Plan) → IsLegal I P → PageShows I P dial (picture known dial I P (day_of I P))
