-- What is written for the first break of a plan.
use Rattle.std.specs.Prelude.{ℕ, ◌+◌, List, ◌++◌, length, slice_index_or, codes, decimal}
use Rattle.lock_model.specs.Fleet.{ship_at}
use Rattle.lock_model.specs.declared.instance.Instance.{Instance}
use Rattle.lock_model.specs.declared.plan.Plan.{Plan}
use Rattle.lock_rules.specs.Lines.{lockage_at}
use Rattle.chamber_times.specs.declared.breaks.BrokenTime.{BrokenTime}
use Rattle.chamber_times.specs.declared.breaks.BrokenTime.TheVariants.{Early, Soon, Shut}
use Rattle.mooring_rules.specs.declared.breaks.Broken.{Broken}
use Rattle.mooring_rules.specs.declared.breaks.Broken.TheVariants.{Outside, Touching, Adrift, BadHost}
use Rattle.mooring_rules.specs.declared.breaks.BrokenPlan.{BrokenPlan}
use Rattle.mooring_rules.specs.declared.breaks.BrokenPlan.TheVariants.{Shape, Double, Missing, Deck, Time, Clash}

-- the name of the ship at place k of a deck; a place without a ship has an empty name
abbrev pub name_in : Instance → List ℕ → ℕ → List ℕ
name_in I ships k = (ship_at I (slice_index_or ships k (length I.ships))).name

-- what is broken, and one ship of it
unfoldable pub one_named : Instance → List ℕ → List ℕ → ℕ → List ℕ
one_named I ships word i = word ++ codes " " ++ name_in I ships i

-- what is broken, and two ships of it
unfoldable pub two_named : Instance → List ℕ → List ℕ → ℕ → ℕ → List ℕ
two_named I ships word i j = word ++ codes " " ++ name_in I ships i ++ codes " " ++ name_in I ships j

-- what the placement of a deck breaks; a guest comes before its host
abbrev pub placement_words : Instance → List ℕ → Broken → List ℕ
placement_words I ships (Outside i) = one_named I ships (codes "Outside") i
placement_words I ships (Touching i j) = two_named I ships (codes "Touching") i j
placement_words I ships (Adrift i) = one_named I ships (codes "Adrift") i
placement_words I ships (BadHost i k) = two_named I ships (codes "BadHost") i k

-- the lockage at place p of a plan, numbered from 1
unfoldable pub lockage_head : ℕ → List ℕ
lockage_head p = codes "illegal lockage " ++ decimal (p + 1) ++ codes " "

-- the lockage at place p of a plan, and what it breaks
unfoldable pub lockage_text : ℕ → List ℕ → List ℕ
lockage_text p words = lockage_head p ++ words ++ codes "\n"

-- a ship that isn't served once
unfoldable pub ship_text : Instance → ℕ → List ℕ → List ℕ
ship_text I s word = codes "illegal ship " ++ (ship_at I s).name ++ codes " " ++ word ++ codes "\n"

abbrev pub time_text : BrokenTime → List ℕ
time_text (Early p) = lockage_text p (codes "Early")
time_text (Soon p) = lockage_text p (codes "Soon")
time_text (Shut p) = lockage_text p (codes "Shut")

-- the break of a plan
abbrev pub break_text : Instance → Plan → BrokenPlan → List ℕ
break_text I P (Shape p) = lockage_text p (codes "Shape")
break_text I P (Double s) = ship_text I s (codes "Double")
break_text I P (Missing s) = ship_text I s (codes "Missing")
break_text I P (Deck p b) = lockage_text p (placement_words I (lockage_at P p).ships b)
break_text I P (Clash p i j) = lockage_text p (two_named I (lockage_at P p).ships (codes "Clash") i j)
break_text I P (Time c b) = time_text b

-- a lockage that ends too late to be kept
abbrev pub late_text : ℕ → List ℕ
late_text p = lockage_text p (codes "Late")
