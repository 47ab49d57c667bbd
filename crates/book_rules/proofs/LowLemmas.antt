-- Every event keeps what is shown of each slot reached by its node.
use Rattle.std.proofs.Common.{ℕ, suc, List, [], ◌∷◌, ◌++◌, length, sym, subst, arith, Bool, true, Some, None, slice_set, All}
use Rattle.std.specs.declared.option.Option.{Option}
use Rattle.std.proofs.lemmas.List.Elements.{All-append, All-cons, All-nil, All-map, All-weaker}
use Rattle.lock_model.specs.declared.instance.Instance.{Instance}
use Rattle.lock_model.specs.declared.group.Group.{Group}
use Rattle.lock_model.specs.declared.plan.Plan.{Plan}
use Rattle.lock_rules.specs.Plan.{cost_of}
use Rattle.lock_rules.specs.Node.{Node as TreeNode, root}
use Rattle.lock_rules.specs.Children.{children_of}
use Rattle.price_rules.specs.Prices.{PriceList}
use Rattle.refute_rules.specs.Cuts.{Cut}
use Rattle.price_rules.proofs.ReachLemmas.{reached-stays}
use Rattle.book_rules.specs.declared.book.Entry.{Entry}
use Rattle.book_rules.specs.declared.book.Entry.TheVariants as entry
use Rattle.book_rules.specs.declared.book.ShownLow.{ShownLow}
use Rattle.book_rules.specs.declared.book.SlotState.{SlotState}
use Rattle.book_rules.specs.declared.book.SlotState.TheVariants as slot
use Rattle.book_rules.specs.Book.{Case, Slot, Book, no_slot, slot_at, best_cost, new_slot, opening_book}
use Rattle.book_rules.specs.Events.{Event, IsOwed}
use Rattle.book_rules.specs.Step
use Rattle.book_rules.specs.States.{cuts_in}
use Rattle.book_rules.specs.Lows.{IsReachedLow, HasTrueLow, KeepsLows}
use Rattle.book_rules.proofs.CoverLemmas.{all-set}
use Rattle.book_rules.proofs.MoveLemmas.{Stays, TakesBack, TakesFresh, Splits, Closes, Parks, Shows, Posts, Prices, Replaces, Ends, GivesBack, MayShow, turned, each-move}
use Rattle.book_rules.proofs.StateLemmas.{get-more, cuts-among}
use Rattle.book_rules.proofs.TallyLemmas.{Kept, Closed, outdone-is}

-- nothing is shown of new slots
children-lows : (I : Instance) (cuts : List Cut) (prices : List PriceList) (cost parent depth number : ℕ) (ls : List (List (List Group))) → All (HasTrueLow I cuts prices) (Step.child_slots I cost parent depth number ls)
children-lows I cuts prices cost parent depth number [] = All-nil (HasTrueLow I cuts prices)
children-lows I cuts prices cost parent depth number (l ∷ ls) =
    let node : TreeNode = record { depth = depth; lines = l } in
    All-cons (HasTrueLow I cuts prices) (new_slot I cost parent number node) (Step.child_slots I cost parent depth (suc number) ls) tt (children-lows I cuts prices cost parent depth (suc number) ls)

-- with more cuts
more-reached : (I : Instance) (cuts more : List Cut) (prices : List PriceList) (node : TreeNode) (o : Option ShownLow) → IsReachedLow I cuts prices node o → IsReachedLow I (cuts ++ more) prices node o
more-reached I cuts more prices node None h = h
more-reached I cuts more prices node (Some low) h = record {
  own = h.own;
  there = h.there;
  reached = reached-stays I (cuts_in I cuts) (cuts_in I (cuts ++ more)) (cuts-among I cuts more) node.depth node.lines h.own low.cost low.cost (omega arith) h.reached;
}

-- with more prices
priced-reached : (I : Instance) (cuts : List Cut) (prices more : List PriceList) (node : TreeNode) (o : Option ShownLow) → IsReachedLow I cuts prices node o → IsReachedLow I cuts (prices ++ more) node o
priced-reached I cuts prices more node None h = h
priced-reached I cuts prices more node (Some low) h = record { own = h.own; there = get-more prices more low.prices h.own h.there; reached = h.reached }

outdone-low : (I : Instance) (cuts : List Cut) (prices : List PriceList) (cost : ℕ) (s : Slot) → HasTrueLow I cuts prices s → HasTrueLow I cuts prices (Step.outdone cost s)
outdone-low I cuts prices cost s h =
    elim (outdone-is cost s) [
      | Kept e same ↦ subst (HasTrueLow I cuts prices) (sym same) h
      | Closed e high same ↦ subst (HasTrueLow I cuts prices) (sym same) h
    ]

module _ {Break : Type 0} (broken : Instance → Plan → Option Break) (b : Book) where
  abbrev IsTrue : Slot → Type 0
  IsTrue s = HasTrueLow b.case.instance b.cuts b.prices s

  turned-lows : (id : ℕ) (new : SlotState) (used : ℕ) (ended : List Bool) (e : Entry) → KeepsLows b → KeepsLows (turned b id new used ended e)
  turned-lows id new used ended e keeps = record { lows = all-set IsTrue b.slots id (record (slot_at b id) { state = new }) (keeps.lows id no_slot) keeps.lows }

  split-lows : (id : ℕ) → KeepsLows b → KeepsLows (Step.noted (Step.with_children b id) (entry.Split id))
  split-lows id keeps =
      let new = slot.Split (length b.slots) in
      let node = (slot_at b id).node in
      let old = all-set IsTrue b.slots id (record (slot_at b id) { state = new }) (keeps.lows id no_slot) keeps.lows in
      record {
        lows = All-append IsTrue (Step.with_state b id new).slots (Step.children_in b id) old
            (children-lows b.case.instance b.cuts b.prices (best_cost b) id (suc node.depth) 0 (children_of b.case.instance node.depth node.lines));
      }

  shown-lows : (id : ℕ) (low : ShownLow) → MayShow b id low → KeepsLows b → KeepsLows (Step.low_shown b id low)
  shown-lows id low may keeps = record { lows = all-set IsTrue b.slots id (record (slot_at b id) { shown = Some low }) (λ known. may.reached) keeps.lows }

  posted-lows : (cut : Cut) → KeepsLows b → KeepsLows (Step.noted (record b { cuts = b.cuts ++ cut ∷ [] }) entry.Post)
  posted-lows cut keeps = record {
    lows = All-weaker IsTrue (HasTrueLow b.case.instance (b.cuts ++ cut ∷ []) b.prices) (λ s h. more-reached b.case.instance b.cuts (cut ∷ []) b.prices s.node s.shown h) b.slots keeps.lows;
  }

  priced-lows : (prices : PriceList) → KeepsLows b → KeepsLows (Step.noted (record b { prices = b.prices ++ prices ∷ [] }) entry.Prices)
  priced-lows prices keeps = record {
    lows = All-weaker IsTrue (HasTrueLow b.case.instance b.cuts (b.prices ++ prices ∷ [])) (λ s h. priced-reached b.case.instance b.cuts b.prices (prices ∷ []) s.node s.shown h) b.slots keeps.lows;
  }

  replaced-lows : (plan : Plan) → KeepsLows b → KeepsLows (Step.replaced b plan)
  replaced-lows plan keeps =
      let cost = cost_of b.case.instance plan in
      record { lows = All-map IsTrue (Step.outdone cost) b.slots (All-weaker IsTrue (λ s. IsTrue (Step.outdone cost s)) (outdone-low b.case.instance b.cuts b.prices cost) b.slots keeps.lows) }

  pub lows-step : KeepsLows b → (e : Event) → IsOwed e → KeepsLows (Step.step broken b e).0
  lows-step keeps e owed =
      elim (each-move broken b e owed) [
        | Stays refused same ↦ subst KeepsLows (sym same) keeps
        | TakesBack w id runs none first at same ↦ subst KeepsLows (sym same) (turned-lows id (slot.Held w) b.used b.ended (entry.Take w) keeps)
        | TakesFresh w id runs none no_back next at left same ↦ subst KeepsLows (sym same) (turned-lows id (slot.Held w) (suc b.used) b.ended (entry.Take w) keeps)
        | Splits w id at lacks same ↦ subst KeepsLows (sym same) (split-lows id keeps)
        | Closes old why id from at tells same ↦ subst KeepsLows (sym same) (turned-lows id (slot.Closed why) b.used b.ended (entry.Close id why) keeps)
        | Parks w id c p at tells same ↦ subst KeepsLows (sym same) (turned-lows id (slot.Parked c p) b.used b.ended (entry.Park id c p) keeps)
        | Shows id low grows may same ↦ subst KeepsLows (sym same) (shown-lows id low may keeps)
        | Posts cut grows good own same ↦ subst KeepsLows (sym same) (posted-lows cut keeps)
        | Prices prices grows good own same ↦ subst KeepsLows (sym same) (priced-lows prices keeps)
        | Replaces plan grows cheaper same ↦ subst KeepsLows (sym same) (replaced-lows plan keeps)
        | Ends w runs none same ↦ subst KeepsLows (sym same) (record { lows = keeps.lows })
        | GivesBack w id runs at same ↦ subst KeepsLows (sym same) (turned-lows id slot.Back b.used (slice_set b.ended w true) (entry.Release w) keeps)
      ]

pub opening-lows : (case : Case) (plan : Plan) → KeepsLows (opening_book case plan)
opening-lows case plan =
    let I = case.instance in
    record { lows = All-cons (HasTrueLow I [] []) (new_slot I (cost_of I plan) 0 0 root) [] tt (All-nil (HasTrueLow I [] [])) }
