-- What becomes of a node.
use Rattle.std.specs.Prelude.{ℕ, ◌≡◌, ◌<◌, ◌≤◌, List, length, slice_get, Some, Contains}
use Rattle.lock_model.specs.Fitting.{deck_of}
use Rattle.lock_model.specs.Cargo.{HasNoClash}
use Rattle.lock_model.specs.declared.instance.Instance.{Instance}
use Rattle.lock_model.specs.declared.group.Group.{Group}
use Rattle.lock_rules.specs.Node.{Node, line_at}
use Rattle.lock_rules.specs.Cut.{HitsNode}
use Rattle.refute_rules.specs.Spots.{IsSpent}
use Rattle.refute_rules.specs.Cuts.{Cut, IsCut}
use Rattle.deck_cuts.specs.Tried.{Tried}
use Rattle.book_rules.specs.Cover.{IsOwnCut}
use Rattle.lock_model.specs.declared.plan.Plan.{Plan as AnyPlan}
use Rattle.lock_rules.specs.Plan.{IsLegal, cost_of}
use Rattle.lock_rules.specs.Arrival.{next_ship}
use Rattle.lock_rules.specs.Bound.{bound_of, probe_of}
use Rattle.closing_rules.specs.declared.grounds.Ground.{Ground}
use Rattle.closing_rules.specs.declared.grounds.Ground.TheVariants as by
use Rattle.closing_rules.specs.Grounds.{IsClosedBy}
use Rattle.lock_rules.specs.Throughput.{throughput_of}
use Rattle.node_work.specs.declared.fate.Fate.{Fate}
use Rattle.node_work.specs.declared.search.Search.{Search}
use Rattle.node_work.specs.declared.fate.Fate.TheVariants.{Closed, Split, Plan, Refuted, Spent}

-- the cut is proved, is about a chamber and ships of the instance, and hits a group of the node
pub record IsNodeCut (I : Instance) (lines : List (List Group)) (cut : Cut) : Type 0 where
  pub proved : IsCut cut
  pub own : IsOwnCut I cut
  pub hits : HitsNode cut.ships cut.deck I lines

-- group p of chamber c is spent for these turns, which is told of its deck, and no two of its ships clash
pub record IsSpentAt (I : Instance) (turns : ℕ) (lines : List (List Group)) (c p : ℕ) (told : Tried) : Type 0 where
  pub group : Group
  pub there : slice_get (line_at lines c) p ≡ Some group
  pub deck : told.deck ≡ deck_of I c group.ships
  pub turns_are : told.turns ≡ turns
  pub spent : IsSpent told.deck told.turns
  pub clear : HasNoClash told.deck

-- a group of the node is hit by the known cut of this number, as its finder tells
pub record IsKnownHit (tells : ℕ → List ℕ → ℕ → Type 0) (I : Instance) (number : ℕ) (lines : List (List Group)) : Type 0 where
  pub chamber : ℕ
  pub group : Group
  pub known : chamber < length I.chambers
  pub held : Contains (line_at lines chamber) group
  pub hits : tells chamber group.ships number

-- the node holds all ships, and the plan is legal and costs its bound
pub record IsPlanAt (I : Instance) (node : Node) (plan : AnyPlan) : Type 0 where
  pub whole : node.depth ≡ length I.ships
  pub legal : IsLegal I plan
  pub cost : cost_of I plan ≡ bound_of I node.depth node.lines

-- the work on one node closes none by prices
abbrev pub IsNeverPriced : ℕ → ℕ → List (List Group) → ℕ → Type 0
IsNeverPriced number k lines cost = ⊥

-- nor by a sweep
abbrev pub IsNeverSwept : ℕ → ℕ → ℕ → Type 0
IsNeverSwept number k cost = ⊥

-- what becomes of the node is so, where the best plan costs this much
abbrev pub IsFate : (ℕ → List ℕ → ℕ → Type 0) → Instance → ℕ → ℕ → Node → Fate → Type 0
IsFate tells I turns best node (Closed why) =
    IsClosedBy I (IsKnownHit tells I) IsNeverPriced IsNeverSwept best (bound_of I node.depth node.lines) node.depth node.lines why
IsFate tells I turns best node Split = node.depth < length I.ships
IsFate tells I turns best node (Plan plan) = IsPlanAt I node plan.value
IsFate tells I turns best node (Refuted cut) = IsNodeCut I node.lines cut.value
IsFate tells I turns best node (Spent c p hard) = IsSpentAt I turns node.lines c p hard.value

-- the same, whatever the best plan costs
pub record IsAnyway (tells : ℕ → List ℕ → ℕ → Type 0) (I : Instance) (turns : ℕ) (node : Node) (fate : Fate) : Type 0 where
  pub fate_is : (best : ℕ) → IsFate tells I turns best node fate

-- the same in a search, where cuts are told so
abbrev pub IsAnywayIn : Search → (Instance → ℕ → List ℕ → ℕ → Type 0) → Node → Fate → Type 0
IsAnywayIn search tells = IsAnyway (tells search.instance.now) search.instance.now search.turns

-- by a new cut, and by a group that is spent
abbrev pub IsRefutedBy : Cut → Fate → Type 0
IsRefutedBy cut (Refuted own) = own.value ≡ cut
IsRefutedBy cut _ = ⊥

abbrev pub IsSpentBy : ℕ → ℕ → Tried → Fate → Type 0
IsSpentBy c p told (Spent d q own) = (d ≡ c) × (q ≡ p) × (own.value ≡ told)
IsSpentBy c p told _ = ⊥

-- a node of this bound is closed before its children are looked at
abbrev pub IsEarly : Instance → ℕ → ℕ → Ground → Type 0
IsEarly I bound best by.Bound = best ≤ bound
IsEarly I bound best by.Throughput = best ≤ throughput_of I
IsEarly I bound best _ = ⊥

-- where the probe of the ship that the node lacks first is at least this cost, the node is closed by it
abbrev pub IsClosedByProbe : Instance → ℕ → Node → Fate → Type 0
IsClosedByProbe I best node fate =
    best ≤ probe_of I node.depth node.lines (next_ship I node.depth) → fate ≡ Closed (by.Probe (next_ship I node.depth))

-- there is a group p of chamber c
pub record IsGroupAt (I : Instance) (node : Node) (c p : ℕ) : Type 0 where
  pub chamber : c < length I.chambers
  pub place : p < length (line_at node.lines c)
