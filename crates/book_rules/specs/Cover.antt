-- What a book keeps.
use Rattle.std.specs.Prelude.{ℕ, ◌≡◌, ◌<◌, true, List, length, slice_index_or, All}
use Rattle.lock_model.specs.Fitting.{deck_of}
use Rattle.lock_model.specs.declared.instance.Instance.{Instance}
use Rattle.lock_model.specs.declared.plan.Plan.{Plan}
use Rattle.lock_rules.specs.Plan.{IsLegal, cost_of}
use Rattle.lock_rules.specs.Node.{IsNode}
use Rattle.lock_rules.specs.Trace.{IsUnder}
use Rattle.refute_rules.specs.Cuts.{Cut, IsCut}
use Rattle.closing_rules.specs.ListedPrices.{ArePrices, AreShapedPrices}
use Rattle.book_rules.specs.Book.{Slot, Book, no_slot, best_cost, bound_at, is_live}

-- the plan lies under a slot that is open, held or parked
pub record IsCovered (I : Instance) (slots : List Slot) (P : Plan) : Type 0 where
  pub id : ℕ
  pub known : id < length slots
  pub live : is_live (slice_index_or slots id no_slot).state ≡ true
  pub under : IsUnder I (slice_index_or slots id no_slot).node.depth (slice_index_or slots id no_slot).node.lines P

-- The best plan is legal, and every legal plan cheaper than it is covered.
pub record Covers (b : Book) : Type 0 where
  pub legal : IsLegal b.case.instance b.best
  pub covered : (P : Plan) → IsLegal b.case.instance P → cost_of b.case.instance P < best_cost b → IsCovered b.case.instance b.slots P

-- the slot holds a node of the instance and its bound
pub record IsGoodSlot (I : Instance) (s : Slot) : Type 0 where
  pub node : IsNode I s.node.depth s.node.lines
  pub bound : s.bound ≡ bound_at I s.node

-- The cut is about a chamber and ships of the instance, and its deck is theirs. That it is proved, its type keeps (`IsCut`).
pub record IsOwnCut (I : Instance) (cut : Cut) : Type 0 where
  pub chamber : cut.chamber < length I.chambers
  pub ships : All (λ s. s < length I.ships) cut.ships
  pub deck : cut.deck ≡ deck_of I cut.chamber cut.ships

-- What every book keeps: its slots, cuts and prices are good, and it covers.
pub record KeepsBook (b : Book) : Type 0 where
  pub slots : All (IsGoodSlot b.case.instance) b.slots
  pub cuts : All (λ cut. IsCut cut × IsOwnCut b.case.instance cut) b.cuts
  pub prices : All (λ u. ArePrices u × AreShapedPrices b.case.instance u) b.prices
  pub covers : Covers b
