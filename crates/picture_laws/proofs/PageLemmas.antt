-- The picture of a legal plan has shapes that show the plan.
use Rattle.std.proofs.Common.{◌≡◌, ℕ, ◌<◌, ◌≤◌, List, [], ◌++◌, length, refl, ap, ◌∙◌, arith}
use Rattle.std.proofs.lemmas.List.Elements.{All-get_or}
use Rattle.std.specs.List.{range_with_len}
use Rattle.std.specs.Prelude.{codes, decimal}
use Rattle.lock_model.specs.Fleet.{chamber_at}
use Rattle.lock_model.specs.declared.instance.Instance.{Instance}
use Rattle.lock_model.specs.declared.plan.Plan.{Plan}
use Rattle.lock_rules.specs.Lines.{no_lockage}
use Rattle.lock_rules.specs.Plan.{IsLegal, times_in, cost_of}
use Rattle.lock_rules.proofs.LegalLemmas.{legal-chambers}
use Rattle.day_play.specs.Playing.{day_of}
use Rattle.picture_page.specs.Axis.{axis_of, axis_of_spans}
use Rattle.picture_page.specs.Cards.{cards}
use Rattle.picture_page.specs.Labels.{are_wide}
use Rattle.picture_page.specs.Lanes.{lanes, lane, lane_name, lane_title, lane_ground, lane_end, axis_head, chambers_table}
use Rattle.picture_page.specs.Page.{picture, page_on, timetable, decks, page_head, heading, summary}
use Rattle.picture_page.specs.Passages.{passages_of, line_of, events_of}
use Rattle.picture_page.specs.Forms.{filled}
use Rattle.picture_page.specs.Legend.{legend}
use Rattle.picture_page.specs.Shared.{shared}
use Rattle.picture_page.specs.Ticks.{ticks_of}
use Rattle.picture_page.specs.Words.{plural}
use Rattle.picture_page.specs.ShipRows.{rows, ships_table}
use Rattle.picture_page.specs.declared.heads.Known.{Known}
use Rattle.picture_page.specs.declared.times.Dial.{Dial}
use Rattle.picture_laws.specs.Shapes.{Sheet}
use Rattle.picture_laws.specs.Pages.{axis_of_day, lane_with, lanes_with, rows_with, cards_with, IsDrawnWith, PageShows}
use Rattle.picture_laws.proofs.DayLemmas.{begins-once, begins-known}
use Rattle.picture_laws.proofs.DrawnLemmas.{own_starts, sheet_of, flat_map-same, boxes-written, all-rows-written, all-cards-written, regroup}
use Rattle.picture_laws.proofs.ShownLemmas.{places_of, times-numbered, boxes-shown}
use Rattle.picture_laws.proofs.RowLemmas.{rows-shown, decks-shown}

module _ (I : Instance) (P : Plan) (dial : Dial) where
  own_sheet : Sheet
  own_sheet = sheet_of I P (axis_of_day I P dial) (own_starts I P)

  lane-written : (c : ℕ)
      → lane I (axis_of_day I P dial) (are_wide (axis_of_day I P dial) (passages_of I P (day_of I P))) (chamber_at I c)
      (line_of c (passages_of I P (day_of I P)))
      ≡ lane_with I P dial own_sheet.present c (own_sheet.boxes c)
  unfolding lane lane_end own_sheet
  lane-written c =
      ap (λ bs. lane_name (chamber_at I c) ++ lane_title (axis_of_day I P dial).clock (length (line_of c (passages_of I P (day_of I P)))) (chamber_at I c)
      ++ lane_ground (axis_of_day I P dial) (chamber_at I c) (line_of c (passages_of I P (day_of I P)))
      ++ bs
      ++ lane_end (axis_of_day I P dial) (are_wide (axis_of_day I P dial) (passages_of I P (day_of I P))) (chamber_at I c)
      (line_of c (passages_of I P (day_of I P))))
      (boxes-written I P (axis_of_day I P dial) c)

  lanes-written : lanes I (axis_of_day I P dial) (passages_of I P (day_of I P)) ≡ lanes_with I P dial own_sheet
  unfolding lanes
  lanes-written =
      flat_map-same (λ c. lane I (axis_of_day I P dial) (are_wide (axis_of_day I P dial) (passages_of I P (day_of I P))) (chamber_at I c)
      (line_of c (passages_of I P (day_of I P))))
      (λ c. lane_with I P dial own_sheet.present c (own_sheet.boxes c)) lane-written (range_with_len 0 (length I.chambers))

  drawn-with : (page h1 h2 h3 h4 f1 c1 c2 c3 c4 c5 lanes c6 s1 s2 s3 s4 s5 rows s6 s7 s8 f2 f3 d1 d2 d3 cards d4 : List ℕ)
      → page ≡ h1 ++ h2 ++ h3 ++ h4 ++ (f1 ++ (c1 ++ c2 ++ c3 ++ c4 ++ c5 ++ lanes ++ c6) ++ (s1 ++ s2 ++ s3 ++ s4 ++ s5 ++ rows ++ s6 ++ s7 ++ s8)
      ++ f2 ++ f3) ++ (d1 ++ d2 ++ d3 ++ cards ++ d4)
      → lanes ≡ lanes_with I P dial own_sheet → rows ≡ rows_with I P dial own_sheet → cards ≡ cards_with I P dial own_sheet
      → IsDrawnWith I P dial own_sheet page
  drawn-with page h1 h2 h3 h4 f1 c1 c2 c3 c4 c5 lanes c6 s1 s2 s3 s4 s5 rows s6 s7 s8 f2 f3 d1 d2 d3 cards d4 e of_lanes of_rows of_cards =
      let head = h1 ++ h2 ++ h3 ++ h4 ++ f1 ++ c1 ++ c2 ++ c3 ++ c4 ++ c5 in
      let after_lanes = c6 ++ s1 ++ s2 ++ s3 ++ s4 ++ s5 in
      let after_rows = s6 ++ s7 ++ s8 ++ f2 ++ f3 ++ d1 ++ d2 ++ d3 in
      record {
        head = head;
        after_lanes = after_lanes;
        after_rows = after_rows;
        end = d4;
        written = e ∙ regroup h1 h2 h3 h4 f1 c1 c2 c3 c4 c5 lanes c6 s1 s2 s3 s4 s5 rows s6 s7 s8 f2 f3 d1 d2 d3 cards d4
            ∙ (λ i. head ++ of_lanes i ++ after_lanes ++ of_rows i ++ after_rows ++ of_cards i ++ d4);
      }

  page-drawn : (known : Known) → IsDrawnWith I P dial own_sheet (picture known dial I P (day_of I P))
  unfolding picture page_on timetable chambers_table ships_table decks own_sheet
  page-drawn known =
      let ps = passages_of I P (day_of I P) in
      let axis = axis_of_day I P dial in
      drawn-with (picture known dial I P (day_of I P))
      (page_head dial.present known (cost_of I P)) (shared axis (ticks_of axis)) (heading known (cost_of I P)) (summary dial.clock I (length ps) (events_of dial.present I ps))
      (filled (codes "<div role=\"region\" aria-label=\"timetable\">\n") [])
      (filled (codes "<table class=\"t\" aria-label=\"chambers by time\">\n<thead><tr><th scope=\"col\">chamber") []) (plural (length I.chambers))
      (filled (codes "</th><td class=\"ax\">") []) (axis_head axis.present) (filled (codes "</td><th scope=\"col\" class=\"r\">lockages</th></tr></thead>\n<tbody class=\"c\">\n") [])
      (lanes I axis ps) (filled (codes "</tbody>\n</table>\n") [])
      (filled (codes "<table class=\"t\" aria-label=\"ships by time\">\n<thead><tr><th scope=\"col\">ship") []) (plural (length I.ships))
      (filled (codes "</th><th scope=\"col\" class=\"v\">arrives</th><th scope=\"col\" class=\"v\">waits</th><th scope=\"col\" class=\"v\">starts</th><th scope=\"col\" class=\"v\">ends</th><th scope=\"col\">lockage</th><td class=\"ax\">") [])
      (axis_head axis.present) (filled (codes "</td><th scope=\"col\" class=\"r\">flow time</th></tr></thead>\n<tbody class=\"s\">\n") [])
      (rows I axis ps) (filled (codes "<tr class=\"f\"><th scope=\"row\">total</th><td colspan=\"6\"></td><td class=\"r\">") [])
      (decimal (cost_of I P)) (filled (codes "</td></tr>\n</tbody>\n</table>\n") [])
      (filled (codes "</div>\n") []) (legend I axis)
      (filled (codes "<h2>deck plan") []) (plural (length ps)) (filled (codes "</h2>\n<p class=\"sub\">Each deck numbers its ships in the order in which they come in.</p>\n<div class=\"cards\">\n") [])
      (cards I P dial.clock ps) (filled (codes "</div>\n</main>\n</body>\n</html>\n") [])
      refl lanes-written (all-rows-written I P axis) (all-cards-written I P dial.clock)

  -- THE PICTURE SHOWS THE PLAN.
  pub page-shows : (known : Known) → IsLegal I P → PageShows I P dial (picture known dial I P (day_of I P))
  unfolding own_sheet own_starts axis_of axis_of_spans
  page-shows known legal =
      let once : (p : ℕ) → p < length P.lockages → times_in (places_of (own_starts I P)) p ≡ 1 = λ p within.
      times-numbered 1 (day_of I P) p
      ∙ begins-once I P p within (All-get_or (λ l. l.chamber < length I.chambers) P.lockages p no_lockage within (legal-chambers I P legal)) in
      let within : (p : ℕ) → 1 ≤ times_in (places_of (own_starts I P)) p
      → p < length P.lockages = λ p some. begins-known I P p (omega (arith, some, times-numbered 1 (day_of I P) p)) in
      record {
        sheet = own_sheet;
        drawn = page-drawn known;
        shows = record {
          boxes = boxes-shown I P (axis_of_day I P dial) (own_starts I P) once within;
          rows = rows-shown I P (axis_of_day I P dial) (own_starts I P) within legal.once once;
          decks = decks-shown I P (own_starts I P) once within;
          present = refl;
        };
        present = refl;
      }
