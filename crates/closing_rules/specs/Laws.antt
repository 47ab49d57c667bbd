-- The laws of the search tree that acceptance rests on.
use Rattle.std.specs.Prelude.{ℕ, suc, ◌≤◌, ◌<◌, List, length, All, Contains}
use Rattle.lock_model.specs.Fitting.{deck_of}
use Rattle.lock_model.specs.declared.instance.Instance.{Instance}
use Rattle.lock_model.specs.declared.group.Group.{Group}
use Rattle.lock_model.specs.declared.plan.Plan.{Plan}
use Rattle.lock_rules.specs.Plan.{IsLegal, cost_of}
use Rattle.lock_rules.specs.Node.{IsNode, root_lines}
use Rattle.lock_rules.specs.Trace.{IsUnder}
use Rattle.lock_rules.specs.Children.{children_of}
use Rattle.lock_rules.specs.Arrival.{missing_ships}
use Rattle.lock_rules.specs.Bound.{IsLowerBound, bound_of, probe_of}
use Rattle.lock_rules.specs.Throughput.{throughput_of}
use Rattle.lock_rules.specs.Cut.{HitsNode}
use Rattle.price_rules.specs.Prices.{PlainCut, PriceList, CutHolds, Reaches}
use Rattle.sweep_rules.specs.Uncut.{IsSwept}
use Rattle.closing_rules.specs.ProvedCuts.{CertCut, IsProved}
use Rattle.closing_rules.specs.ListedPrices.{cut_in}

-- a child of the node under which the plan lies
pub record IsUnderSomeChild (I : Instance) (k : ℕ) (lines : List (List Group)) (P : Plan) : Type 0 where
  pub child : List (List Group)
  pub among : Contains (children_of I k lines) child
  pub under : IsUnder I (suc k) child P

-- Children split the plans, bounds hold, cuts hold, and what is reached by prices and cuts that hold is a lower bound, as is what is
-- swept by cuts that hold.
pub record TreeLaws (I : Instance) : Type 0 where
  pub root : IsNode I 0 root_lines
  pub all : (P : Plan) → IsLegal I P → IsUnder I 0 root_lines P
  pub child : (k : ℕ) (lines : List (List Group)) → IsNode I k lines → k < length I.ships → All (IsNode I (suc k)) (children_of I k lines)
  pub split : (k : ℕ) (lines : List (List Group)) (P : Plan)
      → IsNode I k lines → k < length I.ships → IsLegal I P → IsUnder I k lines P → IsUnderSomeChild I k lines P
  pub bound : (k : ℕ) (lines : List (List Group)) → IsNode I k lines → IsLowerBound I k lines (bound_of I k lines)
  pub throughput : (P : Plan) → IsLegal I P → throughput_of I ≤ cost_of I P
  pub probe : (k : ℕ) (lines : List (List Group)) (s : ℕ)
      → IsNode I k lines → Contains (missing_ships I k) s → IsLowerBound I k lines (probe_of I k lines s)
  pub cut : (c : CertCut) (k : ℕ) (lines : List (List Group)) (P : Plan)
      → IsProved I c → IsNode I k lines → HitsNode c.ships (deck_of I c.chamber c.ships) I lines → IsLegal I P → IsUnder I k lines P → ⊥
  pub holds : (c : CertCut) → IsProved I c → CutHolds (cut_in I c.chamber c.ships)
  pub price : (cuts : List PlainCut) (k : ℕ) (lines : List (List Group)) (prices : PriceList) (cost : ℕ)
      → All CutHolds cuts → Reaches I cuts k lines prices cost → IsLowerBound I k lines cost
  pub swept : (cuts : List PlainCut) (cost : ℕ) → All CutHolds cuts → IsSwept I cuts cost → (P : Plan) → IsLegal I P → cost ≤ cost_of I P
