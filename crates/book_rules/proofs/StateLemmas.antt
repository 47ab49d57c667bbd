-- Every event keeps the state of each slot true of its node.
use Rattle.std.proofs.Common.{◌≡◌, ℕ, zero, suc, ◌<◌, ◌≤◌, List, [], ◌∷◌, ◌++◌, length, refl, sym, subst, arith, Bool, true, false, cond, ◌&&◌, ◌||◌, slice_get, slice_index_or, slice_set, nat_le, All, Contains, Some, leb-true, true≢false, leb-false}
use Rattle.std.proofs.lemmas.Option.{none-some}
use Rattle.std.specs.declared.option.Option.{Option}
use Rattle.std.proofs.lemmas.List.{get_or_default}
use Rattle.std.proofs.lemmas.List.Elements.{All-append, All-cons, All-nil, All-map, All-weaker}
use Rattle.lock_model.specs.declared.instance.Instance.{Instance}
use Rattle.lock_model.specs.declared.group.Group.{Group}
use Rattle.lock_model.specs.declared.plan.Plan.{Plan}
use Rattle.lock_rules.specs.Plan.{cost_of}
use Rattle.lock_rules.specs.Children.{children_of}
use Rattle.refute_rules.specs.Cuts.{Cut}
use Rattle.book_rules.specs.declared.book.Entry.{Entry}
use Rattle.book_rules.specs.declared.book.ShownLow.{ShownLow}
use Rattle.book_rules.specs.declared.book.Entry.TheVariants as entry
use Rattle.book_rules.specs.declared.book.SlotState.{SlotState}
use Rattle.book_rules.specs.declared.book.SlotState.TheVariants as slot
use Rattle.book_rules.specs.Book.{Case, Slot, Book, no_slot, slot_at, best_cost, bound_at, new_slot, opening_book, is_fresh, is_back, is_parked}
use Rattle.lock_rules.specs.Node.{Node as TreeNode, root}
use Rattle.price_rules.specs.Prices.{PriceList}
use Rattle.book_rules.specs.Events.{Event, IsOwed}
use Rattle.book_rules.specs.Step
use Rattle.price_rules.proofs.ReachLemmas.{reached-stays}
use Rattle.sweep_rules.proofs.SweptLemmas.{swept-stays}
use Rattle.closing_rules.specs.ListedPrices.{cut_in}
use Rattle.book_rules.specs.States.{cuts_in, Tells, IsTrueSlot, KeepsStates}
use Rattle.book_rules.proofs.CoverLemmas.{all-set}
use Rattle.book_rules.proofs.SlotLemmas.{IsAt}
use Rattle.book_rules.proofs.MoveLemmas.{Stays, TakesBack, TakesFresh, Splits, Closes, Parks, Shows, Posts, Prices, Replaces, Ends, GivesBack, TellsAt, turned, each-move}
use Rattle.book_rules.proofs.TallyLemmas.{Kept, Closed, outdone-is}
use Rattle.closing_rules.specs.declared.grounds.Ground.TheVariants as by

-- a new slot is closed exactly where its bound is at least the cost
new-true : (case : Case) (cuts : List Cut) (prices : List PriceList) (cost : ℕ) (node : TreeNode) (bound : ℕ) (t : Bool) → nat_le cost bound ≡ t → Tells case cuts prices cost node bound (cond t (slot.Closed by.Bound) slot.Fresh)
new-true case cuts prices cost node bound true e = leb-true cost bound e
new-true case cuts prices cost node bound false e = leb-false cost bound e

children-true : (case : Case) (cuts : List Cut) (prices : List PriceList) (cost parent depth number : ℕ) (ls : List (List (List Group))) → All (IsTrueSlot case cuts prices cost) (Step.child_slots case.instance cost parent depth number ls)
children-true case cuts prices cost parent depth number [] = All-nil (IsTrueSlot case cuts prices cost)
children-true case cuts prices cost parent depth number (l ∷ ls) =
    let node : TreeNode = record { depth = depth; lines = l } in
    All-cons (IsTrueSlot case cuts prices cost) (new_slot case.instance cost parent number node) (Step.child_slots case.instance cost parent depth (suc number) ls)
    (new-true case cuts prices cost node (bound_at case.instance node) (nat_le cost (bound_at case.instance node)) refl) (children-true case cuts prices cost parent depth (suc number) ls)

-- what is listed keeps its number where more follows
pub get-more : {X : Type 0} (xs more : List X) (number : ℕ) (x : X) → slice_get xs number ≡ Some x → slice_get (xs ++ more) number ≡ Some x
get-more [] more number x e = absurd (none-some x e)
get-more (c ∷ cs) more zero x e = e
get-more (c ∷ cs) more (suc number) x e = get-more cs more number x e

-- the first cuts stand among all of them
pub cuts-among : (I : Instance) (cuts more : List Cut) → All (Contains (cuts_in I (cuts ++ more))) (cuts_in I cuts)
cuts-among I [] more = All-nil (Contains (cuts_in I more))
cuts-among I (c ∷ cs) more =
    All-cons (Contains (cuts_in I ((c ∷ cs) ++ more))) (cut_in I c.chamber c.ships) (cuts_in I cs) (0, omega arith, refl)
    (All-weaker (Contains (cuts_in I (cs ++ more))) (Contains (cuts_in I ((c ∷ cs) ++ more))) (λ x h. (suc h.0, omega (arith, h.1), h.2)) (cuts_in I cs) (cuts-among I cs more))

-- with more cuts
more-tells : (case : Case) (cuts more : List Cut) (prices : List PriceList) (cost : ℕ) (node : TreeNode) (bound : ℕ) (state : SlotState) → Tells case cuts prices cost node bound state → Tells case (cuts ++ more) prices cost node bound state
more-tells case cuts more prices cost node bound (slot.Closed (by.Cut number)) h = record { cut = h.cut; there = get-more cuts more number h.cut h.there; hits = h.hits }
more-tells case cuts more prices cost node bound (slot.Closed (by.Price number)) h =
    let I = case.instance in
    record { own = h.own; there = h.there; reached = reached-stays I (cuts_in I cuts) (cuts_in I (cuts ++ more)) (cuts-among I cuts more) node.depth node.lines h.own cost cost (omega arith) h.reached }
more-tells case cuts more prices cost node bound (slot.Closed (by.Swept number)) h =
    let I = case.instance in
    record { root = h.root; own = h.own; there = h.there; swept = swept-stays I (cuts_in I cuts) (cuts_in I (cuts ++ more)) (cuts-among I cuts more) cost cost (omega arith) h.swept }
more-tells case cuts more prices cost node bound (slot.Closed by.Bound) h = h
more-tells case cuts more prices cost node bound (slot.Closed by.Throughput) h = h
more-tells case cuts more prices cost node bound (slot.Closed (by.Probe s)) h = h
more-tells case cuts more prices cost node bound slot.Fresh h = h
more-tells case cuts more prices cost node bound slot.Back h = h
more-tells case cuts more prices cost node bound (slot.Held w) h = h
more-tells case cuts more prices cost node bound (slot.Parked c p) h = h
more-tells case cuts more prices cost node bound (slot.Split first) h = h

-- with more prices
priced-tells : (case : Case) (cuts : List Cut) (prices more : List PriceList) (cost : ℕ) (node : TreeNode) (bound : ℕ) (state : SlotState) → Tells case cuts prices cost node bound state → Tells case cuts (prices ++ more) cost node bound state
priced-tells case cuts prices more cost node bound (slot.Closed (by.Price number)) h = record { own = h.own; there = get-more prices more number h.own h.there; reached = h.reached }
priced-tells case cuts prices more cost node bound (slot.Closed (by.Swept number)) h =
    record { root = h.root; own = h.own; there = get-more prices more number h.own h.there; swept = h.swept }
priced-tells case cuts prices more cost node bound (slot.Closed (by.Cut number)) h = h
priced-tells case cuts prices more cost node bound (slot.Closed by.Bound) h = h
priced-tells case cuts prices more cost node bound (slot.Closed by.Throughput) h = h
priced-tells case cuts prices more cost node bound (slot.Closed (by.Probe s)) h = h
priced-tells case cuts prices more cost node bound slot.Fresh h = h
priced-tells case cuts prices more cost node bound slot.Back h = h
priced-tells case cuts prices more cost node bound (slot.Held w) h = h
priced-tells case cuts prices more cost node bound (slot.Parked c p) h = h
priced-tells case cuts prices more cost node bound (slot.Split first) h = h

pub cuts-own : (I : Instance) (cuts : List Cut) → All (Contains (cuts_in I cuts)) (cuts_in I cuts)
cuts-own I cuts = λ k d known. (k, known, get_or_default (cuts_in I cuts) k (slice_index_or (cuts_in I cuts) k d) d known)

-- by a lower cost, where a Fresh slot's bound is still below it
lower-tells : (case : Case) (cuts : List Cut) (prices : List PriceList) (cost lower : ℕ) → lower ≤ cost → (node : TreeNode) (bound : ℕ) (state : SlotState) → (is_fresh state ≡ true → bound < lower) → Tells case cuts prices cost node bound state → Tells case cuts prices lower node bound state
lower-tells case cuts prices cost lower less node bound slot.Fresh fresh h = fresh refl
lower-tells case cuts prices cost lower less node bound slot.Back fresh h = h
lower-tells case cuts prices cost lower less node bound (slot.Held w) fresh h = h
lower-tells case cuts prices cost lower less node bound (slot.Parked c p) fresh h = h
lower-tells case cuts prices cost lower less node bound (slot.Split first) fresh h = h
lower-tells case cuts prices cost lower less node bound (slot.Closed by.Bound) fresh h = omega (arith, h, less)
lower-tells case cuts prices cost lower less node bound (slot.Closed (by.Cut number)) fresh h = h
lower-tells case cuts prices cost lower less node bound (slot.Closed (by.Price number)) fresh h =
    let I = case.instance in
    record { own = h.own; there = h.there; reached = reached-stays I (cuts_in I cuts) (cuts_in I cuts) (cuts-own I cuts) node.depth node.lines h.own cost lower less h.reached }
lower-tells case cuts prices cost lower less node bound (slot.Closed (by.Swept number)) fresh h =
    let I = case.instance in
    record { root = h.root; own = h.own; there = h.there; swept = swept-stays I (cuts_in I cuts) (cuts_in I cuts) (cuts-own I cuts) cost lower less h.swept }
lower-tells case cuts prices cost lower less node bound (slot.Closed by.Throughput) fresh h = omega (arith, h, less)
lower-tells case cuts prices cost lower less node bound (slot.Closed (by.Probe s)) fresh h = (h.0, omega (arith, h.1, less))

outdone-true : (case : Case) (cuts : List Cut) (prices : List PriceList) (cost lower : ℕ) → lower ≤ cost → (s : Slot) → IsTrueSlot case cuts prices cost s → IsTrueSlot case cuts prices lower (Step.outdone lower s)
outdone-true case cuts prices cost lower less s h =
    elim (outdone-is lower s) [
      | Kept e same ↦
          subst (IsTrueSlot case cuts prices lower) (sym same)
          (lower-tells case cuts prices cost lower less s.node s.bound s.state (λ f. leb-false lower s.bound (by_first (is_fresh s.state) (is_back s.state) (is_parked s.state) (nat_le lower s.bound) f e)) h)
      | Closed e high same ↦ subst (IsTrueSlot case cuts prices lower) (sym same) (leb-true lower s.bound high)
    ]
  where
    by_first : (p q r t : Bool) → p ≡ true → ((p || q || r) && t) ≡ false → t ≡ false
    by_first true q r t f e = e
    by_first false q r t f e = absurd (true≢false (sym f))

module _ {Break : Type 0} (broken : Instance → Plan → Option Break) (b : Book) where
  turned-states : (id : ℕ) (new : SlotState) (used : ℕ) (ended : List Bool) (e : Entry) → KeepsStates b → TellsAt b id new → KeepsStates (turned b id new used ended e)
  turned-states id new used ended e keeps tells = record { states = all-set (IsTrueSlot b.case b.cuts b.prices (best_cost b)) b.slots id (record (slot_at b id) { state = new }) (λ known. tells) keeps.states }

  low-states : (id : ℕ) (low : ShownLow) → KeepsStates b → KeepsStates (Step.low_shown b id low)
  low-states id low keeps = record { states = all-set (IsTrueSlot b.case b.cuts b.prices (best_cost b)) b.slots id (record (slot_at b id) { shown = Some low }) (keeps.states id no_slot) keeps.states }

  split-states : (id : ℕ) → KeepsStates b → KeepsStates (Step.noted (Step.with_children b id) (entry.Split id))
  split-states id keeps =
      let new = slot.Split (length b.slots) in
      let old = all-set (IsTrueSlot b.case b.cuts b.prices (best_cost b)) b.slots id (record (slot_at b id) { state = new }) (λ known. tt) keeps.states in
      record {
        states = All-append (IsTrueSlot b.case b.cuts b.prices (best_cost b)) (Step.with_state b id new).slots (Step.children_in b id) old
            (children-true b.case b.cuts b.prices (best_cost b) id (suc (slot_at b id).node.depth) 0 (children_of b.case.instance (slot_at b id).node.depth (slot_at b id).node.lines));
      }

  replaced-states : (plan : Plan) → cost_of b.case.instance plan < best_cost b → KeepsStates b → KeepsStates (Step.replaced b plan)
  replaced-states plan cheaper keeps =
      let cost = cost_of b.case.instance plan in
      record {
        states = All-map (IsTrueSlot b.case b.cuts b.prices cost) (Step.outdone cost) b.slots
            (All-weaker (IsTrueSlot b.case b.cuts b.prices (best_cost b)) (λ s. IsTrueSlot b.case b.cuts b.prices cost (Step.outdone cost s)) (outdone-true b.case b.cuts b.prices (best_cost b) cost (omega (arith, cheaper))) b.slots keeps.states);
      }

  posted-states : (cut : Cut) → KeepsStates b → KeepsStates (Step.noted (record b { cuts = b.cuts ++ cut ∷ [] }) entry.Post)
  posted-states cut keeps = record {
    states = All-weaker (IsTrueSlot b.case b.cuts b.prices (best_cost b)) (IsTrueSlot b.case (b.cuts ++ cut ∷ []) b.prices (best_cost b)) (λ s h. more-tells b.case b.cuts (cut ∷ []) b.prices (best_cost b) s.node s.bound s.state h) b.slots keeps.states;
  }

  priced-states : (prices : PriceList) → KeepsStates b → KeepsStates (Step.noted (record b { prices = b.prices ++ prices ∷ [] }) entry.Prices)
  priced-states prices keeps = record {
    states = All-weaker (IsTrueSlot b.case b.cuts b.prices (best_cost b)) (IsTrueSlot b.case b.cuts (b.prices ++ prices ∷ []) (best_cost b)) (λ s h. priced-tells b.case b.cuts b.prices (prices ∷ []) (best_cost b) s.node s.bound s.state h) b.slots keeps.states;
  }

  pub states-step : KeepsStates b → (e : Event) → IsOwed e → KeepsStates (Step.step broken b e).0
  states-step keeps e owed =
      elim (each-move broken b e owed) [
        | Stays refused same ↦ subst KeepsStates (sym same) keeps
        | TakesBack w id runs none first at same ↦ subst KeepsStates (sym same) (turned-states id (slot.Held w) b.used b.ended (entry.Take w) keeps tt)
        | TakesFresh w id runs none no_back next at left same ↦ subst KeepsStates (sym same) (turned-states id (slot.Held w) (suc b.used) b.ended (entry.Take w) keeps tt)
        | Splits w id at lacks same ↦ subst KeepsStates (sym same) (split-states id keeps)
        | Closes old why id from at tells same ↦ subst KeepsStates (sym same) (turned-states id (slot.Closed why) b.used b.ended (entry.Close id why) keeps tells)
        | Parks w id c p at tells same ↦ subst KeepsStates (sym same) (turned-states id (slot.Parked c p) b.used b.ended (entry.Park id c p) keeps tells)
        | Shows id low grows may same ↦ subst KeepsStates (sym same) (low-states id low keeps)
        | Posts cut grows good own same ↦ subst KeepsStates (sym same) (posted-states cut keeps)
        | Prices prices grows good own same ↦ subst KeepsStates (sym same) (priced-states prices keeps)
        | Replaces plan grows cheaper same ↦ subst KeepsStates (sym same) (replaced-states plan cheaper keeps)
        | Ends w runs none same ↦ subst KeepsStates (sym same) (record { states = keeps.states })
        | GivesBack w id runs at same ↦ subst KeepsStates (sym same) (turned-states id slot.Back b.used (slice_set b.ended w true) (entry.Release w) keeps tt)
      ]

pub opening-states : (case : Case) (plan : Plan) → KeepsStates (opening_book case plan)
opening-states case plan =
    let cost = cost_of case.instance plan in
    record {
      states = All-cons (IsTrueSlot case [] [] cost) (new_slot case.instance cost 0 0 root) [] (new-true case [] [] cost root (bound_at case.instance root) (nat_le cost (bound_at case.instance root)) refl) (All-nil (IsTrueSlot case [] [] cost));
    }

-- ---- by each state

-- what a slot's state tells of it
pub state-tells : (b : Book) (id : ℕ) (state : SlotState) → KeepsStates b → IsAt b id state → TellsAt b id state
state-tells b id state keeps at = subst (TellsAt b id) at.is (keeps.states id no_slot at.known)

pub fresh-low : (b : Book) (id : ℕ) → KeepsStates b → IsAt b id slot.Fresh → (slot_at b id).bound < best_cost b
fresh-low b id keeps at = state-tells b id slot.Fresh keeps at
