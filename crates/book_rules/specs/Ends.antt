-- How a search ends, and what its verdict means.
use Rattle.std.specs.Prelude.{ℕ, ◌≡◌, ◌<◌, ◌≤◌, ◌⊎◌, Bool, false, ◌||◌, List, length, All, Contains}
use Rattle.lock_model.specs.Fitting.{deck_of}
use Rattle.lock_model.specs.Cargo.{HasNoClash}
use Rattle.lock_model.specs.declared.instance.Instance.{Instance}
use Rattle.lock_model.specs.declared.group.Group.{Group}
use Rattle.lock_model.specs.declared.plan.Plan.{Plan}
use Rattle.lock_model.specs.declared.verdict.Verdict.{Verdict}
use Rattle.lock_model.specs.declared.verdict.Verdict.TheVariants as verdict
use Rattle.lock_rules.specs.Plan.{IsLegal, IsCheapest, cost_of}
use Rattle.lock_rules.specs.Node.{IsNode, root_lines, line_at}
use Rattle.lock_rules.specs.Trace.{IsUnder}
use Rattle.lock_rules.specs.Bound.{bound_of}
use Rattle.lock_rules.specs.Cheap.{cheap_nodes}
use Rattle.lock_rules.specs.Size.{node_limit, turn_limit}
use Rattle.price_rules.specs.Prices.{PriceList, PlainCut, CutHolds, Reaches}
use Rattle.refute_rules.specs.Spots.{IsSpent}
use Rattle.book_rules.specs.declared.book.SlotState.{SlotState}
use Rattle.book_rules.specs.declared.book.SlotState.TheVariants as slot
use Rattle.book_rules.specs.Book.{Book, slot_at, best_cost, is_fresh, is_back, is_held}
use Rattle.book_rules.specs.Cheap.{opening_cost}

-- no slot is in such a state
pub record HasNone (b : Book) (test : SlotState → Bool) : Type 0 where
  pub none : (id : ℕ) → id < length b.slots → test (slot_at b id).state ≡ false

abbrev pub is_open : SlotState → Bool
is_open state = is_fresh state || is_back state

abbrev pub HoldsNothing : Book → Type 0
HoldsNothing b = HasNone b is_held

abbrev pub HasNothingOpen : Book → Type 0
HasNothingOpen b = HasNone b is_open

-- the whole budget of nodes is used, no slot is Back, and a slot is Fresh
pub record HasSpentNodes (b : Book) : Type 0 where
  pub used : b.used ≡ b.case.nodes
  pub back : HasNone b is_back
  pub id : ℕ
  pub known : id < length b.slots
  pub fresh : (slot_at b id).state ≡ slot.Fresh

-- each parked slot before slot k has a bound below the best cost
pub record ParksCheapBefore (k : ℕ) (b : Book) : Type 0 where
  pub low : (id c p : ℕ) → id < k → (slot_at b id).state ≡ slot.Parked c p → (slot_at b id).bound < best_cost b

abbrev pub ParksCheap : Book → Type 0
ParksCheap b = ParksCheapBefore (length b.slots) b

-- Nothing is held, the opening plan costs at most `limit`, parked slots are cheap, and nothing is open or the nodes are spent.
pub record EndsWell (limit : ℕ) (b : Book) : Type 0 where
  pub free : HoldsNothing b
  pub opening : opening_cost b ≤ limit
  pub parked : ParksCheap b
  pub left : HasNothingOpen b ⊎ HasSpentNodes b

-- The clauses of verdicts speak of an instance, a plan and numbers alone.

-- the plan is cheapest, and costs at most `limit`
pub record IsOptimal (I : Instance) (limit : ℕ) (P : Plan) : Type 0 where
  pub cheapest : IsCheapest I P
  pub cost : cost_of I P ≤ limit

-- above its bound, the node of depth k reaches this cost by some prices and cuts that hold
pub record IsShownAbove (I : Instance) (k : ℕ) (lines : List (List Group)) (low : ℕ) : Type 0 where
  pub above : bound_of I k lines < low
  pub prices : PriceList
  pub cuts : List PlainCut
  pub hold : All CutHolds cuts
  pub reached : Reaches I cuts k lines prices low

-- this is the bound of a node, or shown of it, and below the plan's cost, and no legal plan costs less
pub record IsOpenLow (I : Instance) (P : Plan) (low : ℕ) : Type 0 where
  pub depth : ℕ
  pub lines : List (List Group)
  pub node : IsNode I depth lines
  pub known : (low ≡ bound_of I depth lines) ⊎ IsShownAbove I depth lines low
  pub below : low < cost_of I P
  pub least : (Q : Plan) → IsLegal I Q → low ≤ cost_of I Q

-- The budget of nodes is used, and more nodes than that have a bound below `limit`.
pub record IsOpenNodes (I : Instance) (nodes limit : ℕ) (P : Plan) (used low : ℕ) : Type 0 where
  pub legal : IsLegal I P
  pub cost : cost_of I P ≤ limit
  pub spent : used ≡ nodes
  pub more : nodes < cheap_nodes I limit 0 root_lines
  pub lower : IsOpenLow I P low

-- the ships are a group of the chamber's line, their deck is spent for these turns, and no two of them clash
pub record IsSpentIn (I : Instance) (turns : ℕ) (lines : List (List Group)) (chamber : ℕ) (ships : List ℕ) : Type 0 where
  pub known : chamber < length I.chambers
  pub group : Group
  pub held : Contains (line_at lines chamber) group
  pub same : group.ships ≡ ships
  pub spent : IsSpent (deck_of I chamber ships) turns
  pub clear : HasNoClash (deck_of I chamber ships)

-- they are such a group of a node whose bound is below this cost
pub record IsSpentBelow (I : Instance) (turns cost chamber : ℕ) (ships : List ℕ) : Type 0 where
  pub depth : ℕ
  pub lines : List (List Group)
  pub node : IsNode I depth lines
  pub below : bound_of I depth lines < cost
  pub group : IsSpentIn I turns lines chamber ships

-- the plan lies under a node that has such a group
pub record IsUnderSpent (I : Instance) (turns : ℕ) (Q : Plan) : Type 0 where
  pub depth : ℕ
  pub lines : List (List Group)
  pub node : IsNode I depth lines
  pub under : IsUnder I depth lines Q
  pub chamber : ℕ
  pub ships : List ℕ
  pub group : IsSpentIn I turns lines chamber ships

-- The given turns were spent on the named group, and every cheaper plan lies under a node with a spent group.
pub record IsOpenTurns (I : Instance) (given limit : ℕ) (P : Plan) (chamber : ℕ) (ships : List ℕ) (turns low : ℕ) : Type 0 where
  pub legal : IsLegal I P
  pub cost : cost_of I P ≤ limit
  pub same : turns ≡ given
  pub named : IsSpentBelow I given (cost_of I P) chamber ships
  pub cheaper : (Q : Plan) → IsLegal I Q → cost_of I Q < cost_of I P → IsUnderSpent I given Q
  pub lower : IsOpenLow I P low

-- WHAT A VERDICT MEANS, of a plan of the instance that was found with so many nodes and turns, from a plan that costs at most `limit`.
abbrev pub IsEnd : Instance → ℕ → ℕ → ℕ → Plan → Verdict → Type 0
IsEnd I nodes given limit P verdict.Optimal = IsOptimal I limit P
IsEnd I nodes given limit P (verdict.OpenNodes used low) = IsOpenNodes I nodes limit P used low
IsEnd I nodes given limit P (verdict.OpenTurns chamber ships turns low) = IsOpenTurns I given limit P chamber ships turns low

-- no group has more than k ships, as there are no more or no chamber takes more
abbrev pub GroupsAtMost : Instance → ℕ → Type 0
GroupsAtMost I k = (length I.ships ≤ k) ⊎ All (λ c. c.most ≤ k) I.chambers

-- So many nodes and turns are never spent: as many as the tree has nodes, and a deck has cases.
pub record AreEnough (I : Instance) (nodes turns : ℕ) : Type 0 where
  pub nodes_are : node_limit (length I.ships) (length I.chambers) ≤ nodes
  pub size : ℕ
  pub groups : GroupsAtMost I size
  pub turns_are : turn_limit size ≤ turns
