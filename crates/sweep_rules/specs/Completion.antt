-- What may come behind a label.
use Rattle.std.specs.Prelude.{ℕ, ◌≡◌, ◌+◌, ◌-◌, ◌<◌, List, [], ◌∷◌, length, All, sum_by, ⊤, if◌then◌else◌}
use Rattle.lock_model.specs.Fleet.{ship_at}
use Rattle.lock_model.specs.declared.instance.Instance.{Instance}
use Rattle.lock_model.specs.declared.group.Group.{Group}
use Rattle.lock_model.specs.declared.way.Way.{Way}
use Rattle.lock_rules.specs.Lawful.{AreLawfulFrom, duration_of, stand_before}
use Rattle.lock_rules.specs.Arrival.{numbers_from}
use Rattle.price_rules.specs.Prices.{PlainCut, IsUncut}
use Rattle.sweep_rules.specs.Uncut.{times_over}
use Rattle.sweep_rules.specs.Label.{Label}

-- The groups of chamber c may start at these minutes, where it is ready for a first one by its way: it stands for that way then.
abbrev pub AreLawfulAfter : Instance → ℕ → (Way → ℕ) → List Group → List ℕ → Type 0
AreLawfulAfter I c ready [] [] = ⊤
AreLawfulAfter I c ready [] (t ∷ ts) = ⊥
AreLawfulAfter I c ready (g ∷ gs) ts = AreLawfulFrom I c (stand_before g.way) (ready g.way) (g ∷ gs) ts

-- the ships' flow times in a line of these groups with these starts
abbrev pub flow_starting : Instance → ℕ → List Group → List ℕ → ℕ
flow_starting I c [] ts = 0
flow_starting I c (g ∷ gs) [] = 0
flow_starting I c (g ∷ gs) (t ∷ ts) = sum_by (λ s. t + duration_of I c g.ships - (ship_at I s).arrival) g.ships + flow_starting I c gs ts

abbrev pub flow_completed : Instance → (ℕ → List Group) → (ℕ → List ℕ) → ℕ
flow_completed I lines starts = sum_by (λ c. flow_starting I c (lines c) (starts c)) (numbers_from 0 (length I.chambers))

-- A completion of the label: lines of uncut groups with lawful starts from its minutes on, which serve each missing ship exactly once and no served one.
pub record IsCompletion (I : Instance) (cuts : List PlainCut) (label : Label) (lines : ℕ → List Group) (starts : ℕ → List ℕ) : Type 0 where
  pub uncut : (c : ℕ) → c < length I.chambers → All (IsUncut I c cuts) (lines c)
  pub lawful : (c : ℕ) → c < length I.chambers → AreLawfulAfter I c (label.ready c) (lines c) (starts c)
  pub once : (s : ℕ) → s < length I.ships → times_over I s lines ≡ (if label.served s then 0 else 1)

-- the label has a completion of a total flow time below the goal
pub record EndsBelow (I : Instance) (cuts : List PlainCut) (goal : ℕ) (label : Label) : Type 0 where
  pub lines : ℕ → List Group
  pub starts : ℕ → List ℕ
  pub is : IsCompletion I cuts label lines starts
  pub below : label.flow + flow_completed I lines starts < goal
