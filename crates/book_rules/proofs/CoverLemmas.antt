-- Every event keeps the cover: each legal plan cheaper than the best one lies under an open, held or parked slot.
use Rattle.std.proofs.Common.{◌≡◌, ◌≢◌, ℕ, zero, suc, ◌+◌, ◌<◌, ◌≤◌, List, [], ◌∷◌, ◌++◌, length, map, ◌⊎◌, inl, inr, refl, sym, ap, ◌∙◌, subst, arith, Bool, true, false, not, cond, ◌&&◌, ◌||◌, Some, None, slice_index_or, slice_get, slice_set, nat_eq, nat_le, All, Contains, length-append, leb-true, true≢false, leb-false}
use Rattle.std.proofs.lemmas.Bool.{and_parts, not-false}
use Rattle.std.proofs.lemmas.Option.{same_Some, none-some}
use Rattle.std.specs.declared.option.Option.{Option}
use Rattle.std.proofs.lemmas.Bool.Decides.{leb_tells, eqb_tells}
use Rattle.std.proofs.lemmas.List.{length-map, length-set, get_or-set_same, get_or-set_other, get_or-append-add}
use Rattle.std.proofs.lemmas.List.Elements.{All-push, All-append, All-cons, All-nil, All-head, All-tail, All-map, All-weaker}
use Rattle.std.proofs.Math.ListN.{get_or-append}
use Rattle.lock_model.specs.Deck.{Deck}
use Rattle.lock_model.specs.Fitting.{deck_of}
use Rattle.lock_model.specs.declared.instance.Instance.{Instance}
use Rattle.lock_model.specs.declared.group.Group.{Group}
use Rattle.lock_model.specs.declared.plan.Plan.{Plan}
use Rattle.lock_rules.specs.Plan.{IsLegal, IsCheapest, cost_of}
use Rattle.lock_rules.specs.Node.{Node as TreeNode, root, IsNode}
use Rattle.lock_rules.specs.Trace.{IsUnder}
use Rattle.lock_rules.specs.Children.{children_of}
use Rattle.lock_rules.specs.Cut.{HitsNode}
use Rattle.refute_rules.specs.Cuts.{Cut, IsCut}
use Rattle.refute_rules.specs.Refutes.{IsRefuted}
use Rattle.closing_rules.specs.declared.grounds.Ground.{Ground}
use Rattle.closing_rules.specs.declared.grounds.Ground.TheVariants as by
use Rattle.book_rules.specs.declared.book.SlotState.{SlotState}
use Rattle.book_rules.specs.declared.book.SlotState.TheVariants as slot
use Rattle.book_rules.specs.declared.book.Entry.{Entry}
use Rattle.book_rules.specs.declared.book.ShownLow.{ShownLow}
use Rattle.book_rules.specs.declared.book.Entry.TheVariants as entry
use Rattle.book_rules.specs.Tests.{has_clash, is_own_cut, has_shape}
use Rattle.book_rules.specs.Book.{Case, Slot, Book, no_slot, slot_at, best_cost, bound_at, new_slot, opening_book, is_fresh, is_back, is_held, is_held_by, is_parked, is_live, first_slot, group_at}
use Rattle.book_rules.specs.Events.{Event, Reply, IsOwed, take, split, close, post, post_prices, close_price, close_swept, show_low, park, replace, release}
use Rattle.book_rules.specs.Events.{Replaced, Ended, NodesSpent, NotHeld, Whole, OtherDeck, OtherPrices, NotCheaper, Clashes}
use Rattle.book_rules.specs.NextSlot
use Rattle.book_rules.specs.Step
use Rattle.book_rules.specs.Cover.{IsCovered, IsGoodSlot, IsOwnCut, KeepsBook}
use Rattle.closing_rules.specs.ProvedCuts.{CertCut, IsProved}
use Rattle.closing_rules.specs.Laws.{TreeLaws}
use Rattle.price_rules.specs.Prices.{PriceList, CutHolds}
use Rattle.closing_rules.specs.ListedPrices.{ArePrices, AreShapedPrices, cut_in}
use Rattle.book_rules.specs.States.{IsHitBy, cuts_in}
use Rattle.book_rules.proofs.TestLemmas.{is_own_cut-decides, has_shape-decides}
use Rattle.book_rules.proofs.ClosingLemmas.{MayCloseBy, unrefused-may, shown-may, swept-may}
use Rattle.book_rules.proofs.TurnLemmas.{low-at}

pub all-got : {X : Type 0} (P : X → Type 0) (xs : List X) (k : ℕ) (x : X) → All P xs → slice_get xs k ≡ Some x → P x
all-got P [] k x a e = absurd (none-some x e)
all-got P (y ∷ ys) zero x a e = subst P (same_Some y x e) (All-head P y ys a)
all-got P (y ∷ ys) (suc k) x a e = all-got P ys k x (All-tail P y ys a) e

module _ (I : Instance) (P : Plan) where
  -- a slot under which the plan lies
  abbrev pub Under : Slot → Type 0
  Under s = IsUnder I s.node.depth s.node.lines P

  -- where one slot takes another state, the plan stays covered if that state is live or the plan doesn't lie under this slot
  pub set-covered : (slots : List Slot) (id : ℕ) (state : SlotState) → IsCovered I slots P → (is_live state ≡ true) ⊎ (id < length slots → Under (slice_index_or slots id no_slot) → ⊥)
      → IsCovered I (slice_set slots id (record (slice_index_or slots id no_slot) { state = state })) P
  set-covered slots id state c why =
      let new : Slot = record (slice_index_or slots id no_slot) { state = state } in
      let known : c.id < length (slice_set slots id new) = omega (arith, c.known, length-set slots id new) in
      elim (eqb_tells c.id id) [
        | inl y ↦
            let here : id < length slots = omega (arith, y.1, c.known) in
            let under : Under (slice_index_or slots id no_slot) = subst (λ k. Under (slice_index_or slots k no_slot)) y.1 c.under in
            elim why [
              | inl live ↦ subst (λ k. IsCovered I (slice_set slots id new) P) y.1 (record {
                id = id;
                known = omega (arith, here, length-set slots id new);
                live = ap (λ (s : Slot). is_live s.state) (get_or-set_same slots id new no_slot here) ∙ live;
                under = subst Under (sym (get_or-set_same slots id new no_slot here)) under;
              })
              | inr dead ↦ absurd (dead here under)
            ]
        | inr n ↦ record {
          id = c.id;
          known = known;
          live = ap (λ (s : Slot). is_live s.state) (get_or-set_other slots id c.id new no_slot n.1) ∙ c.live;
          under = subst Under (sym (get_or-set_other slots id c.id new no_slot n.1)) c.under;
        }
      ]

  pub left-covered : (slots more : List Slot) → IsCovered I slots P → IsCovered I (slots ++ more) P
  left-covered slots more c =
      let same = get_or-append slots more no_slot c.id c.known in
      record {
        id = c.id;
        known = omega (arith, c.known, length-more slots more);
        live = ap (λ (s : Slot). is_live s.state) same ∙ c.live;
        under = subst Under (sym same) c.under;
      }
    where
      length-more : (xs ys : List Slot) → length xs ≤ length (xs ++ ys)
      length-more [] ys = omega arith
      length-more (x ∷ xs) ys = let rest = length-more xs ys in omega (arith, rest)

  pub right-covered : (slots more : List Slot) → IsCovered I more P → IsCovered I (slots ++ more) P
  right-covered slots more c =
      let same = get_or-append-add slots more c.id no_slot in
      record {
        id = length slots + c.id;
        known = omega (arith, c.known, length-append slots more);
        live = ap (λ (s : Slot). is_live s.state) same ∙ c.live;
        under = subst Under (sym same) c.under;
      }

pub all-set : {X : Type 0} (P : X → Type 0) (xs : List X) (i : ℕ) (v : X) → (i < length xs → P v) → All P xs → All P (slice_set xs i v)
all-set P [] i v h a = a
all-set P (x ∷ xs) zero v h a = All-cons P v xs (h (omega arith)) (All-tail P x xs a)
all-set P (x ∷ xs) (suc i) v h a = All-cons P x (slice_set xs i v) (All-head P x xs a) (all-set P xs i v (λ l. h (omega (arith, l))) (All-tail P x xs a))

pub got-map : (f : Slot → Slot) (xs : List Slot) (i : ℕ) → i < length xs → slice_index_or (map f xs) i no_slot ≡ f (slice_index_or xs i no_slot)
got-map f [] i h = absurd (omega (arith, h))
got-map f (x ∷ xs) zero h = refl
got-map f (x ∷ xs) (suc i) h = got-map f xs i (omega (arith, h))

module _ (I : Instance) (laws : TreeLaws I) (P : Plan) (legal : IsLegal I P) where
  -- the plan costs at least the bound of a good slot under which it lies
  slot-bound : (s : Slot) → IsGoodSlot I s → Under I P s → s.bound ≤ cost_of I P
  slot-bound s good under =
      let b = laws.bound s.node.depth s.node.lines good.node P legal under in
      let e = good.bound in
      omega (arith, b, e)

  outdone-slot : (cost : ℕ) → cost_of I P < cost → (s : Slot) → IsGoodSlot I s → Under I P s → is_live s.state ≡ true → (b : Bool)
      → ((is_fresh s.state || is_back s.state || is_parked s.state) && nat_le cost s.bound) ≡ b
      → (is_live (cond b (record s { state = slot.Closed by.Bound }) s).state ≡ true) × Under I P (cond b (record s { state = slot.Closed by.Bound }) s)
  outdone-slot cost cheaper s good under live true e =
      let above = leb-true cost s.bound ((and_parts (is_fresh s.state || is_back s.state || is_parked s.state) (nat_le cost s.bound) e).1) in
      let low = slot-bound s good under in
      absurd (omega (arith, above, low, cheaper))
  outdone-slot cost cheaper s good under live false e = (live, under)

  outdone-covered : (cost : ℕ) (slots : List Slot) → cost_of I P < cost → All (IsGoodSlot I) slots → IsCovered I slots P → IsCovered I (map (Step.outdone cost) slots) P
  outdone-covered cost slots cheaper good c =
      let s = slice_index_or slots c.id no_slot in
      let new = outdone-slot cost cheaper s (good c.id no_slot c.known) c.under c.live ((is_fresh s.state || is_back s.state || is_parked s.state) && nat_le cost s.bound) refl in
      let same = got-map (Step.outdone cost) slots c.id c.known in
      record {
        id = c.id;
        known = omega (arith, c.known, length-map slots (Step.outdone cost));
        live = ap (λ (s : Slot). is_live s.state) same ∙ new.0;
        under = subst (Under I P) (sym same) new.1;
      }

  new-live : (cost parent number : ℕ) (node : TreeNode) → IsNode I node.depth node.lines → IsUnder I node.depth node.lines P → cost_of I P < cost → (b : Bool) → nat_le cost (bound_at I node) ≡ b → is_live (cond b (slot.Closed by.Bound) slot.Fresh) ≡ true
  new-live cost parent number node good under cheaper true e =
      let low = laws.bound node.depth node.lines good P legal under in
      let above = leb-true cost (bound_at I node) e in
      absurd (omega (arith, low, above, cheaper))
  new-live cost parent number node good under cheaper false e = refl

  child-covered : (cost parent depth number : ℕ) (ls : List (List (List Group))) → All (IsNode I depth) ls → (child : List (List Group)) → Contains ls child → IsUnder I depth child P → cost_of I P < cost → IsCovered I (Step.child_slots I cost parent depth number ls) P
  child-covered cost parent depth number [] good child among under cheaper = absurd (omega (arith, among.1))
  child-covered cost parent depth number (l ∷ ls) good child (zero, known, is) under cheaper =
      let here : IsUnder I depth l P = subst (λ u. IsUnder I depth u P) (sym is) under in
      record {
        id = 0;
        known = omega arith;
        live = new-live cost parent number (record { depth = depth; lines = l }) (All-head (IsNode I depth) l ls good) here cheaper (nat_le cost (bound_at I (record { depth = depth; lines = l }))) refl;
        under = here;
      }
  child-covered cost parent depth number (l ∷ ls) good child (suc k, known, is) under cheaper =
      right-covered I P (new_slot I cost parent number (record { depth = depth; lines = l }) ∷ []) (Step.child_slots I cost parent depth (suc number) ls)
      (child-covered cost parent depth (suc number) ls (All-tail (IsNode I depth) l ls good) child (k, omega (arith, known), is) under cheaper)

children-good : (I : Instance) (cost parent depth number : ℕ) (ls : List (List (List Group))) → All (IsNode I depth) ls → All (IsGoodSlot I) (Step.child_slots I cost parent depth number ls)
children-good I cost parent depth number [] good = All-nil (IsGoodSlot I)
children-good I cost parent depth number (l ∷ ls) good =
    All-cons (IsGoodSlot I) (new_slot I cost parent number (record { depth = depth; lines = l })) (Step.child_slots I cost parent depth (suc number) ls)
    (record { node = All-head (IsNode I depth) l ls good; bound = refl }) (children-good I cost parent depth (suc number) ls (All-tail (IsNode I depth) l ls good))

outdone-good : (I : Instance) (cost : ℕ) (s : Slot) → IsGoodSlot I s → (b : Bool) → IsGoodSlot I (cond b (record s { state = slot.Closed by.Bound }) s)
outdone-good I cost s good true = record { node = good.node; bound = good.bound }
outdone-good I cost s good false = good

pub held-known : (slots : List Slot) (id : ℕ) → is_held (slice_index_or slots id no_slot).state ≡ true → id < length slots
held-known [] id e = absurd (true≢false (sym e))
held-known (s ∷ ss) zero e = omega arith
held-known (s ∷ ss) (suc id) e = let rest = held-known ss id e in omega (arith, rest)

-- another slot than the one that takes a new value
other-covered : (I : Instance) (P : Plan) (slots : List Slot) (id : ℕ) (new : Slot) (c : IsCovered I slots P) → c.id ≢ id → IsCovered I (slice_set slots id new) P
other-covered I P slots id new c n = record {
  id = c.id;
  known = omega (arith, c.known, length-set slots id new);
  live = ap (λ (s : Slot). is_live s.state) (get_or-set_other slots id c.id new no_slot n) ∙ c.live;
  under = subst (Under I P) (sym (get_or-set_other slots id c.id new no_slot n)) c.under;
}

-- a cut of a book, as a certificate has it, is proved
cut-proved : (I : Instance) (c : Cut) → IsCut c × IsOwnCut I c → IsProved I (record { chamber = c.chamber; ships = c.ships; refutation = c.refutation })
cut-proved I c good = record {
  shaped = record {
    chamber = good.1.chamber;
    some = omega (arith, good.0.count, good.0.deck.count.0);
    known = good.1.ships;
    kept = record { rising = good.0.rising; few = omega (arith, good.0.count, good.0.deck.count.1) };
  };
  refuted = subst (λ d. IsRefuted d c.refutation) good.1.deck good.0.refuted;
}

-- all cuts of a book hold
pub cuts-hold : (b : Book) → TreeLaws b.case.instance → KeepsBook b → All CutHolds (cuts_in b.case.instance b.cuts)
cuts-hold b laws keeps =
    let I = b.case.instance in
    All-map CutHolds (λ (c : Cut). cut_in I c.chamber c.ships) b.cuts
    (All-weaker (λ c. IsCut c × IsOwnCut I c) (λ (c : Cut). CutHolds (cut_in I c.chamber c.ships)) (λ c good. laws.holds (record { chamber = c.chamber; ships = c.ships; refutation = c.refutation }) (cut-proved I c good)) b.cuts keeps.cuts)

module _ {Break : Type 0} (broken : Instance → Plan → Option Break) (sound : (I : Instance) (P : Plan) → broken I P ≡ None → IsLegal I P) (b : Book) (laws : TreeLaws b.case.instance) (old : KeepsBook b) where
  abbrev I : Instance
  I = b.case.instance

  -- a plan that is legal and cheaper than the best one
  abbrev IsCheaper : Plan → Type 0
  IsCheaper P = IsLegal I P × (cost_of I P < best_cost b)

  -- slot id may take this state: it is live, or no cheaper legal plan lies under the slot
  abbrev MayTake : ℕ → SlotState → Type 0
  MayTake id state = (is_live state ≡ true) ⊎ ((P : Plan) → IsCheaper P → id < length b.slots → Under I P (slot_at b id) → ⊥)

  keep_or : (t : Bool) (r : Reply Break) (out : Book × Reply Break) → (t ≡ false → KeepsBook out.0) → KeepsBook (cond t (b, r) out).0
  keep_or true r out h = old
  keep_or false r out h = h refl

  slots-kept : (id : ℕ) (state : SlotState) → All (IsGoodSlot I) (Step.with_state b id state).slots
  slots-kept id state = all-set (IsGoodSlot I) b.slots id (record (slot_at b id) { state = state }) (λ known. let s = old.slots id no_slot known in record { node = s.node; bound = s.bound }) old.slots

  state-covered : (id : ℕ) (state : SlotState) → MayTake id state → (P : Plan) → IsLegal I P → cost_of I P < best_cost b → IsCovered I (Step.with_state b id state).slots P
  state-covered id state (inl live) P legal cheaper = set-covered I P b.slots id state (old.covers.covered P legal cheaper) (inl live)
  state-covered id state (inr dead) P legal cheaper = set-covered I P b.slots id state (old.covers.covered P legal cheaper) (inr (λ known under. dead P (legal, cheaper) known under))

  -- any book with these slots and else the same plan, case and cuts
  state-keeps : (id : ℕ) (state : SlotState) (used : ℕ) (ended : List Bool) (history : List Entry) → MayTake id state
      → KeepsBook (record b { slots = (Step.with_state b id state).slots; used = used; ended = ended; history = history })
  state-keeps id state used ended history may = record { slots = slots-kept id state; cuts = old.cuts; prices = old.prices; covers = record { legal = old.covers.legal; covered = state-covered id state may } }

  given-keeps : (w id used : ℕ) → KeepsBook (Step.given {Break = Break} b w id used).0
  given-keeps w id used = state-keeps id (slot.Held w) used b.ended (b.history ++ entry.Take w ∷ []) (inl refl)

  take_fresh-keeps : (w : ℕ) (o : Option ℕ) → KeepsBook (Step.take_fresh {Break = Break} b w o).0
  take_fresh-keeps w None = old
  take_fresh-keeps w (Some id) = keep_or (nat_eq b.used b.case.nodes) (NodesSpent b.used) (Step.given b w id (suc b.used)) (λ e. given-keeps w id (suc b.used))

  take_slot-keeps : (w : ℕ) (o : Option ℕ) → KeepsBook (Step.take_slot {Break = Break} b w o).0
  take_slot-keeps w (Some id) = given-keeps w id b.used
  take_slot-keeps w None = take_fresh-keeps w (NextSlot.next_fresh b)

  take_free-keeps : (w : ℕ) (o : Option ℕ) → KeepsBook (Step.take_free {Break = Break} b w o).0
  take_free-keeps w (Some id) = old
  take_free-keeps w None = take_slot-keeps w (first_slot b is_back)

  hit-dead : (id number : ℕ) → IsHitBy I b.cuts number (slot_at b id).node.lines → (P : Plan) → IsCheaper P → id < length b.slots → Under I P (slot_at b id) → ⊥
  hit-dead id number h P c known under =
      let cut = h.cut in
      let good = all-got (λ c. IsCut c × IsOwnCut I c) b.cuts number cut old.cuts h.there in
      let own : CertCut = record { chamber = cut.chamber; ships = cut.ships; refutation = cut.refutation } in
      let hits : HitsNode cut.ships (deck_of I cut.chamber cut.ships) I (slot_at b id).node.lines = subst (λ d. HitsNode cut.ships d I (slot_at b id).node.lines) good.1.deck h.hits in
      laws.cut own (slot_at b id).node.depth (slot_at b id).node.lines P (cut-proved I cut good) (old.slots id no_slot known).node hits c.0 under

  -- under a slot that may be closed lies no cheaper legal plan
  closed-dead : (id : ℕ) (why : Ground) → MayCloseBy b id why → (P : Plan) → IsCheaper P → id < length b.slots → Under I P (slot_at b id) → ⊥
  closed-dead id by.Bound high P c known under = let low = slot-bound I laws P c.0 (slot_at b id) (old.slots id no_slot known) under in omega (arith, high, low, c.1)
  closed-dead id by.Throughput high P c known under = let low = laws.throughput P c.0 in omega (arith, high, low, c.1)
  closed-dead id (by.Probe s) h P c known under =
      let low = laws.probe (slot_at b id).node.depth (slot_at b id).node.lines s (old.slots id no_slot known).node h.0 P c.0 under in
      omega (arith, h.1, low, c.1)
  closed-dead id (by.Cut number) h P c known under = hit-dead id number h P c known under
  closed-dead id (by.Price number) h P c known under =
      let low = laws.price (cuts_in I b.cuts) (slot_at b id).node.depth (slot_at b id).node.lines h.own (best_cost b) (cuts-hold b laws old) h.reached P c.0 under in
      omega (arith, low, c.1)
  closed-dead id (by.Swept number) h P c known under =
      let low = laws.swept (cuts_in I b.cuts) (best_cost b) (cuts-hold b laws old) h.swept P c.0 in
      omega (arith, low, c.1)

  close-keeps : (id : ℕ) (why : Ground) (o : Option (Reply Break)) → (o ≡ None → MayCloseBy b id why) → KeepsBook (Step.close_unless b id why o).0
  close-keeps id why (Some r) may = old
  close-keeps id why None may = state-keeps id (slot.Closed why) b.used b.ended (b.history ++ entry.Close id why ∷ []) (inr (closed-dead id why (may refl)))

  -- ---- showing a cost

  low-covered : (id : ℕ) (low : ShownLow) (P : Plan) → IsLegal I P → cost_of I P < best_cost b → IsCovered I (Step.with_low b id low).slots P
  low-covered id low P legal cheaper =
      let c = old.covers.covered P legal cheaper in
      let same = low-at b id low c.id in
      record {
        id = c.id;
        known = omega (arith, c.known, length-set b.slots id (record (slot_at b id) { shown = Some low }));
        live = ap (λ (s : Slot). is_live s.state) same ∙ c.live;
        under = subst (Under I P) (sym same) c.under;
      }

  show-keeps : (id : ℕ) (low : ShownLow) (o : Option (Reply Break)) → KeepsBook (Step.show_unless b id low o).0
  show-keeps id low (Some r) = old
  show-keeps id low None = record {
    slots = all-set (IsGoodSlot I) b.slots id (record (slot_at b id) { shown = Some low }) (λ known. let s = old.slots id no_slot known in record { node = s.node; bound = s.bound }) old.slots;
    cuts = old.cuts;
    prices = old.prices;
    covers = record { legal = old.covers.legal; covered = low-covered id low };
  }

  -- ---- splitting

  split-covered : (id : ℕ) → id < length b.slots → (slot_at b id).node.depth < length I.ships → (P : Plan) → IsLegal I P → cost_of I P < best_cost b → IsCovered I ((Step.with_state b id (slot.Split (length b.slots))).slots ++ Step.children_in b id) P
  split-covered id here lacks P legal cheaper =
      let s = slot_at b id in
      let c = old.covers.covered P legal cheaper in
      let slots = (Step.with_state b id (slot.Split (length b.slots))).slots in
      let node = (old.slots id no_slot here).node in
      elim (eqb_tells c.id id) [
        | inl y ↦
            let under : Under I P s = subst (λ k. Under I P (slot_at b k)) y.1 c.under in
            let way = laws.split s.node.depth s.node.lines P node lacks legal under in
            right-covered I P slots (Step.children_in b id)
            (child-covered I laws P legal (best_cost b) id (suc s.node.depth) 0 (children_of I s.node.depth s.node.lines) (laws.child s.node.depth s.node.lines node lacks) way.child way.among way.under cheaper)
        | inr n ↦ left-covered I P slots (Step.children_in b id) (other-covered I P b.slots id (record (slot_at b id) { state = slot.Split (length b.slots) }) c n.1)
      ]

  split-keeps : (id : ℕ) → id < length b.slots → (slot_at b id).node.depth < length I.ships → KeepsBook (Step.split_slot {Break = Break} b id).0
  split-keeps id here lacks = record {
    slots = All-append (IsGoodSlot I) (Step.with_state b id (slot.Split (length b.slots))).slots (Step.children_in b id) (slots-kept id (slot.Split (length b.slots)))
        (children-good I (best_cost b) id (suc (slot_at b id).node.depth) 0 (children_of I (slot_at b id).node.depth (slot_at b id).node.lines) (laws.child (slot_at b id).node.depth (slot_at b id).node.lines (old.slots id no_slot here).node lacks));
    cuts = old.cuts;
    prices = old.prices;
    covers = record { legal = old.covers.legal; covered = split-covered id here lacks };
  }

  -- ---- posting, parking, replacing, releasing

  posted-keeps : (cut : Cut) → IsCut cut → is_own_cut I cut ≡ true → KeepsBook (Step.posted {Break = Break} b cut).0
  posted-keeps cut good own = record {
    slots = old.slots;
    cuts = All-push (λ c. IsCut c × IsOwnCut I c) b.cuts cut old.cuts (good, (is_own_cut-decides I cut).0 own);
    prices = old.prices;
    covers = record { legal = old.covers.legal; covered = old.covers.covered };
  }

  priced-keeps : (prices : PriceList) → ArePrices prices → has_shape I prices ≡ true → KeepsBook (Step.priced {Break = Break} b prices).0
  priced-keeps prices good own = record {
    slots = old.slots;
    cuts = old.cuts;
    prices = All-push (λ u. ArePrices u × AreShapedPrices I u) b.prices prices old.prices (good, (has_shape-decides I prices).0 own);
    covers = record { legal = old.covers.legal; covered = old.covers.covered };
  }

  park_group-keeps : (id c p : ℕ) (deck : Deck) (turns : ℕ) (o : Option Group) → KeepsBook (Step.park_group {Break = Break} b id c p deck turns o).0
  park_group-keeps id c p deck turns None = old
  park_group-keeps id c p deck turns (Some g) =
      keep_or (not (Step.is_lent b c g deck turns)) OtherDeck (cond (has_clash deck.ships) (b, Clashes id) (Step.parked b id c p)) (λ e.
      keep_or (has_clash deck.ships) (Clashes id) (Step.parked b id c p) (λ f.
      state-keeps id (slot.Parked c p) b.used b.ended (b.history ++ entry.Park id c p ∷ []) (inl refl)))

  pub replaced-keeps : (plan : Plan) → IsLegal I plan → cost_of I plan < best_cost b → KeepsBook (Step.replaced b plan)
  replaced-keeps plan legal cheaper = record {
    slots = All-map (IsGoodSlot I) (Step.outdone (cost_of I plan)) b.slots (All-weaker (IsGoodSlot I) (λ s. IsGoodSlot I (Step.outdone (cost_of I plan) s)) (λ s good. outdone-good I (cost_of I plan) s good ((is_fresh s.state || is_back s.state || is_parked s.state) && nat_le (cost_of I plan) s.bound)) b.slots old.slots);
    cuts = old.cuts;
    prices = old.prices;
    covers = record {
      legal = legal;
      covered = λ P good less. outdone-covered I laws P good (cost_of I plan) b.slots less old.slots (old.covers.covered P good (omega (arith, less, cheaper)));
    };
  }

  replace_by-keeps : (plan : Plan) (o : Option Break) → broken I plan ≡ o → KeepsBook (Step.replace_by b plan o).0
  replace_by-keeps plan (Some found) e = old
  replace_by-keeps plan None e =
      keep_or (nat_le (best_cost b) (cost_of I plan)) (NotCheaper (cost_of I plan) (best_cost b)) (Step.replaced b plan, Replaced (cost_of I plan)) (λ f. replaced-keeps plan (sound I plan e) (leb-false (best_cost b) (cost_of I plan) f))

  release_slot-keeps : (w : ℕ) (o : Option ℕ) → KeepsBook (Step.release_slot {Break = Break} b w o).0
  release_slot-keeps w None = record { slots = old.slots; cuts = old.cuts; prices = old.prices; covers = record { legal = old.covers.legal; covered = old.covers.covered } }
  release_slot-keeps w (Some id) = state-keeps id slot.Back b.used (slice_set b.ended w true) (b.history ++ entry.Release w ∷ []) (inl refl)

  -- ---- each event

  pub event-keeps : (e : Event) → IsOwed e → KeepsBook (Step.step broken b e).0
  event-keeps (take w) owed = keep_or (slice_index_or b.ended w false) (Ended w) (Step.take_free b w (first_slot b (is_held_by w))) (λ e. take_free-keeps w (first_slot b (is_held_by w)))
  event-keeps (split id) owed =
      let whole = nat_le (length I.ships) (slot_at b id).node.depth in
      keep_or (not (is_held (slot_at b id).state)) (NotHeld id) (cond whole (b, Whole id) (Step.split_slot b id)) (λ e.
      keep_or whole (Whole id) (Step.split_slot b id) (λ f.
      split-keeps id (held-known b.slots id (not-false (is_held (slot_at b id).state) e)) (leb-false (length I.ships) (slot_at b id).node.depth f)))
  event-keeps (close id why) owed =
      keep_or (not (Step.may_close b id)) (NotHeld id) (Step.close_unless b id why (Step.refusal_of b id why)) (λ e. close-keeps id why (Step.refusal_of b id why) (unrefused-may b id why))
  event-keeps (post cut) owed =
      keep_or (not (is_own_cut I cut)) OtherDeck (Step.posted b cut) (λ e. posted-keeps cut owed (not-false (is_own_cut I cut) e))
  event-keeps (post_prices prices) owed =
      let shaped = has_shape I prices in
      keep_or (not shaped) OtherPrices (Step.priced b prices) (λ e. priced-keeps prices owed (not-false shaped e))
  event-keeps (close_price id number shown) owed =
      let refusal = Step.price_refusal b id number shown (slice_get b.prices number) in
      keep_or (not (Step.may_close b id)) (NotHeld id) (Step.close_unless b id (by.Price number) refusal) (λ e.
      close-keeps id (by.Price number) refusal (shown-may b id number shown owed (slice_get b.prices number) refl))
  event-keeps (close_swept id number swept) owed =
      let refusal = Step.sweep_refusal b id number swept (slice_get b.prices number) in
      keep_or (not (Step.may_close b id)) (NotHeld id) (Step.close_unless b id (by.Swept number) refusal) (λ e.
      close-keeps id (by.Swept number) refusal (swept-may b id number swept owed))
  event-keeps (show_low id number shown) owed =
      let low : ShownLow = record { prices = number; cost = shown.cost } in
      let refusal = Step.low_refusal b id number shown (slice_get b.prices number) in
      keep_or (not (is_live (slot_at b id).state)) (NotHeld id) (Step.show_unless b id low refusal) (λ e. show-keeps id low refusal)
  event-keeps (park id c p deck turns) owed =
      keep_or (not (is_held (slot_at b id).state)) (NotHeld id) (Step.park_group b id c p deck turns (group_at (slot_at b id).node c p)) (λ e. park_group-keeps id c p deck turns (group_at (slot_at b id).node c p))
  event-keeps (replace plan) owed = replace_by-keeps plan (broken I plan) refl
  event-keeps (release w) owed = keep_or (slice_index_or b.ended w false) (Ended w) (Step.release_slot b w (first_slot b (is_held_by w))) (λ e. release_slot-keeps w (first_slot b (is_held_by w)))

-- ---- from the opening on

pub opening-keeps : (case : Case) (plan : Plan) → TreeLaws case.instance → IsLegal case.instance plan → KeepsBook (opening_book case plan)
opening-keeps case plan laws legal = record {
  slots = All-cons (IsGoodSlot case.instance) (new_slot case.instance (cost_of case.instance plan) 0 0 root) [] (record { node = laws.root; bound = refl }) (All-nil (IsGoodSlot case.instance));
  cuts = All-nil (λ cut. IsCut cut × IsOwnCut case.instance cut);
  prices = All-nil (λ u. ArePrices u × AreShapedPrices case.instance u);
  covers = record {
    legal = legal;
    covered = λ P good cheaper. record {
      id = 0;
      known = omega arith;
      live = new-live case.instance laws P good (cost_of case.instance plan) 0 0 root laws.root (laws.all P good) cheaper (nat_le (cost_of case.instance plan) (bound_at case.instance root)) refl;
      under = laws.all P good;
    };
  };
}

-- where no slot is open, held or parked, the best plan is cheapest
pub nothing_live-cheapest : (b : Book) → KeepsBook b → ((id : ℕ) → id < length b.slots → is_live (slot_at b id).state ≡ false) → IsCheapest b.case.instance b.best
nothing_live-cheapest b keeps dead = record {
  legal = keeps.covers.legal;
  least = λ Q legal.
      elim (leb_tells (best_cost b) (cost_of b.case.instance Q)) [
        | inl y ↦ y.1
        | inr n ↦ let c = keeps.covers.covered Q legal n.1 in absurd (true≢false (sym c.live ∙ dead c.id c.known))
      ];
}
