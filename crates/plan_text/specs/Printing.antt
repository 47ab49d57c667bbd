-- The plan text that is printed.
use Rattle.std.specs.Prelude.{ℕ, List, [], ◌∷◌, ◌++◌, codes, decimal, slice_index_or}
use Rattle.std.specs.List.{flat_map}
use Rattle.lock_model.specs.Fleet.{ship_at, chamber_at}
use Rattle.lock_model.specs.declared.instance.Instance.{Instance}
use Rattle.lock_model.specs.declared.placement.Moor.{Moor}
use Rattle.lock_model.specs.declared.placement.Moor.TheVariants.{Quay, Ship}
use Rattle.lock_model.specs.declared.placement.Spot.{Spot}
use Rattle.lock_model.specs.declared.plan.Lockage.{Lockage}
use Rattle.lock_model.specs.declared.plan.Plan.{Plan}
use Rattle.line_text.specs.Printed.{line}
use Rattle.instance_text.specs.Canonical.{way_word}
use Rattle.plan_print.specs.Words.{rank_word}

-- the quay, or the name of the ship at a place of the deck
abbrev pub host_word : Instance → List ℕ → Moor → List ℕ
host_word I ships Quay = codes "*"
host_word I ships (Ship k) = (ship_at I (slice_index_or ships k 0)).name

unfoldable pub head_words : Instance → Lockage → List (List ℕ)
head_words I l = codes "lockage" ∷ (chamber_at I l.chamber).name ∷ way_word l.way ∷ decimal l.start ∷ []

unfoldable pub berth_words : Instance → List ℕ → ℕ → Spot → List (List ℕ)
berth_words I ships s p = codes "berth" ∷ (ship_at I s).name ∷ decimal p.x ∷ decimal p.y ∷ rank_word p.rank ∷ host_word I ships p.moor ∷ []

-- a line for each of some ships of a lockage and its spot
abbrev pub berths_of : Instance → List ℕ → List ℕ → List Spot → List (List (List ℕ))
berths_of I ships [] spots = []
berths_of I ships (s ∷ ss) [] = []
berths_of I ships (s ∷ ss) (p ∷ ps) = berth_words I ships s p ∷ berths_of I ships ss ps

-- the lines of a lockage
unfoldable pub lockage_lines : Instance → Lockage → List (List (List ℕ))
lockage_lines I l = head_words I l ∷ berths_of I l.ships l.ships l.spots

-- the words of each line
unfoldable pub plan_lines : Instance → List Lockage → List (List (List ℕ))
plan_lines I ls = (codes "plan" ∷ []) ∷ flat_map (lockage_lines I) ls ++ (codes "end" ∷ []) ∷ []

unfoldable pub plan_text : Instance → Plan → List ℕ
plan_text I P = flat_map line (plan_lines I P.lockages)
