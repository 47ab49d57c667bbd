-- The report of a plan: the verdict, and each lockage with its ships and its drawing.
use Rattle.std.specs.Prelude.{ℕ, ◌-◌, ◌<◌, List, [], ◌∷◌, ◌++◌, All, length, slice_index, codes, decimal}
use Rattle.std.specs.List.{flat_map, enumerate_from}
use Rattle.lock_model.specs.Fleet.{ship_at, chamber_at}
use Rattle.lock_model.specs.Fitting.{deck_of}
use Rattle.lock_model.specs.Placement.{spot_at}
use Rattle.lock_model.specs.declared.ship.Ship.{Ship}
use Rattle.lock_model.specs.declared.placement.Spot.{Spot}
use Rattle.lock_model.specs.declared.instance.Instance.{Instance}
use Rattle.lock_model.specs.declared.plan.Lockage.{Lockage}
use Rattle.lock_model.specs.declared.plan.Plan.{Plan}
use Rattle.lock_model.specs.declared.verdict.Verdict.{Verdict}
use Rattle.lock_model.specs.declared.verdict.Verdict.TheVariants.{Optimal, OpenNodes, OpenTurns}
use Rattle.lock_rules.specs.Lines.{end_of}
use Rattle.lock_rules.specs.Plan.{cost_of}
use Rattle.day_play.specs.Playing.{moor_order}
use Rattle.instance_text.specs.Canonical.{way_word}
use Rattle.plan_print.specs.Words.{letter, rank_word, moor_words}
use Rattle.plan_print.specs.Order.{in_order}
use Rattle.plan_print.specs.Drawing.{drawing}

-- the chamber and the ships that the verdict names are in the instance
abbrev pub IsOfInstance : Instance → Verdict → Type 0
IsOfInstance I Optimal = Unit {0}
IsOfInstance I (OpenNodes used low) = Unit {0}
IsOfInstance I (OpenTurns chamber ships turns low) = (chamber < length I.chambers) × All (λ s. s < length I.ships) ships

-- what was shown of the plan
abbrev pub verdict_text : Instance → Verdict → List ℕ
verdict_text I Optimal = codes "optimal"
verdict_text I (OpenNodes used low) = codes "open nodes " ++ decimal used ++ codes " low " ++ decimal low
verdict_text I (OpenTurns chamber ships turns low) =
    codes "open turns " ++ decimal turns ++ codes " chamber " ++ (chamber_at I chamber).name
    ++ codes " ships" ++ flat_map (λ s. 32 ∷ (ship_at I s).name) ships ++ codes " low " ++ decimal low

-- the first line: what was shown, and the cost
unfoldable pub verdict_line : Instance → Plan → Verdict → List ℕ
verdict_line I P V = verdict_text I V ++ codes " cost " ++ decimal (cost_of I P) ++ codes "\n"

-- a lockage with its number in the report
unfoldable pub lockage_line : Instance → ℕ → Lockage → List ℕ
lockage_line I n l =
    codes "lockage " ++ decimal n ++ codes " chamber " ++ (chamber_at I l.chamber).name ++ codes " " ++ way_word l.way
    ++ codes " start " ++ decimal l.start ++ codes " end " ++ decimal (end_of I l) ++ codes "\n"

-- a ship with its letter: where it lies, how it is moored, and the minutes from its arrival to the end
unfoldable pub ship_line : ℕ → Ship → Spot → ℕ → List ℕ
ship_line i s p end =
    codes "  " ++ letter i ∷ [] ++ codes " " ++ s.name ++ codes " x " ++ decimal p.x ++ codes " y " ++ decimal p.y ++ codes " "
    ++ rank_word p.rank ++ codes " " ++ moor_words p.moor ++ codes " flow " ++ decimal (end - s.arrival) ++ codes "\n"

-- the line of the ship at place i of a lockage
abbrev pub ship_line_at : Instance → Lockage → ℕ → List ℕ
ship_line_at I l i = ship_line i (ship_at I (slice_index l.ships i)) (spot_at l.spots i) (end_of I l)

-- THE SHIPS OF A LOCKAGE in the order in which they come in
unfoldable pub ship_lines : Instance → Lockage → List ℕ
ship_lines I l = flat_map (ship_line_at I l) (moor_order I l)

-- a numbered lockage with its ships and its drawing
unfoldable pub lockage_text : Instance → (ℕ × Lockage) → List ℕ
lockage_text I p = lockage_line I p.0 p.1 ++ ship_lines I p.1 ++ drawing (deck_of I p.1.chamber p.1.ships) p.1.spots

-- what follows the first line: the lockages in order, numbered from 1, and the line `end`
unfoldable pub lockages_text : Instance → Plan → List ℕ
lockages_text I P = flat_map (lockage_text I) (enumerate_from 1 (in_order P.lockages)) ++ codes "end\n"

unfoldable pub report : Instance → Plan → Verdict → List ℕ
report I P V = verdict_line I P V ++ lockages_text I P
