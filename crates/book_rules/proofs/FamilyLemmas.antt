-- Every event keeps the tree that the slots make.
use Rattle.std.proofs.Common.{◌≡◌, ℕ, zero, suc, ◌+◌, ◌<◌, List, [], ◌∷◌, ◌++◌, length, refl, sym, ap, ◌∙◌, subst, arith, Bool, true, false, cond, Some, slice_index_or, slice_set, nat_le, true≢false}
use Rattle.std.specs.declared.option.Option.{Option}
use Rattle.std.proofs.lemmas.List.{length-map, length-set}
use Rattle.lock_model.specs.declared.instance.Instance.{Instance}
use Rattle.lock_model.specs.declared.plan.Plan.{Plan}
use Rattle.lock_rules.specs.Plan.{cost_of}
use Rattle.book_rules.specs.declared.book.Entry.{Entry}
use Rattle.book_rules.specs.declared.book.ShownLow.{ShownLow}
use Rattle.book_rules.specs.declared.book.Entry.TheVariants as entry
use Rattle.book_rules.specs.declared.book.SlotState.{SlotState}
use Rattle.book_rules.specs.declared.book.SlotState.TheVariants as slot
use Rattle.book_rules.specs.Book.{Case, Slot, Book, no_slot, slot_at, best_cost, bound_at, new_slot, opening_book}
use Rattle.lock_rules.specs.Node.{Node as TreeNode, root}
use Rattle.book_rules.specs.Events.{Event, IsOwed}
use Rattle.book_rules.specs.NextSlot.{is_split, first_child}
use Rattle.book_rules.specs.Step
use Rattle.book_rules.specs.Family.{child_count, child_node, HasChildren, IsBorn, KeepsFamily}
use Rattle.book_rules.proofs.SlotLemmas.{IsAt}
use Rattle.book_rules.proofs.MoveLemmas.{Stays, TakesBack, TakesFresh, Splits, Closes, Parks, Shows, Posts, Prices, Replaces, Ends, GivesBack, turned, state-known, each-move}
use Rattle.book_rules.proofs.BudgetLemmas.{closing-whole}
use Rattle.book_rules.proofs.TallyLemmas.{Kept, Closed, outdone-is, open-whole}
use Rattle.book_rules.proofs.TurnLemmas.{Turned, Untouched, turned-at, Parent, Old, Child, Past, split-at, kid, kid-at, length-split, outdone-at, low-at}
use Rattle.closing_rules.specs.declared.grounds.Ground.TheVariants as by

-- slot id holds the same node, as the same child
record IsSameNode (b new : Book) (id : ℕ) : Type 0 where
  parent_same : (slot_at new id).parent ≡ (slot_at b id).parent
  number_same : (slot_at new id).number ≡ (slot_at b id).number
  node_same : (slot_at new id).node ≡ (slot_at b id).node

-- the same slots hold the same nodes, and the same ones are split
record IsSameShape (b new : Book) : Type 0 where
  case_same : new.case ≡ b.case
  long : length new.slots ≡ length b.slots
  same : (id : ℕ) → IsSameNode b new id
  was : (id first : ℕ) → (slot_at new id).state ≡ slot.Split first → (slot_at b id).state ≡ slot.Split first
  stays : (id first : ℕ) → (slot_at b id).state ≡ slot.Split first → (slot_at new id).state ≡ slot.Split first

shape-family : (b new : Book) → IsSameShape b new → KeepsFamily b → KeepsFamily new
shape-family b new shape keeps = record {
  some = omega (arith, keeps.some, shape.long);
  root_is = (shape.same 0).node_same ∙ keeps.root_is;
  children = λ id first e.
      let old = keeps.children id first (shape.was id first e) in
      record {
        later = old.later;
        lacks = subst (λ (c : Case). (slot_at new id).node.depth < length c.instance.ships) (sym shape.case_same) (subst (λ (n : TreeNode). n.depth < length b.case.instance.ships) (sym (shape.same id).node_same) old.lacks);
        child = λ k known.
            let one = old.child k (subst (λ n. k < n) (counts id) known) in
            record {
              known = omega (arith, one.known, shape.long);
              parent_is = (shape.same (first + k)).parent_same ∙ one.parent_is;
              number_is = (shape.same (first + k)).number_same ∙ one.number_is;
              node_is = (shape.same (first + k)).node_same ∙ one.node_is ∙ sym (λ i. child_node (shape.case_same i).instance ((shape.same id).node_same i) k);
            };
      };
  born = λ id low known.
      let old = keeps.born id low (omega (arith, known, shape.long)) in
      let up = (shape.same id).parent_same in
      record {
        first = old.first;
        split = subst (λ p. (slot_at new p).state ≡ slot.Split old.first) (sym up) (shape.stays (slot_at b id).parent old.first old.split);
        number =
            subst (λ p. (slot_at new id).number < child_count new.case.instance (slot_at new p).node) (sym up)
            (subst (λ n. (slot_at new id).number < n) (sym (counts (slot_at b id).parent)) (subst (λ n. n < child_count b.case.instance (slot_at b (slot_at b id).parent).node) (sym (shape.same id).number_same) old.number));
        place = ap (λ n. old.first + n) (shape.same id).number_same ∙ old.place;
      };
}
  where
    counts : (id : ℕ) → child_count new.case.instance (slot_at new id).node ≡ child_count b.case.instance (slot_at b id).node
    counts id = λ i. child_count (shape.case_same i).instance ((shape.same id).node_same i)

-- ---- a slot that turns, none of the states Split

not-split : (s : SlotState) (first : ℕ) → is_split s ≡ false → s ≡ slot.Split first → ⊥
not-split s first e f = true≢false (sym (ap is_split f) ∙ e)

turned-shape : (b : Book) (id : ℕ) (old new : SlotState) (used : ℕ) (ended : List Bool) (e : Entry) → IsAt b id old → is_split old ≡ false → is_split new ≡ false → IsSameShape b (turned b id new used ended e)
turned-shape b id old new used ended e at whole still = record {
  case_same = refl;
  long = length-set b.slots id (record (slot_at b id) { state = new });
  same = λ other.
      elim (turned-at b id new at.known other) [
        | Turned is s ↦ record {
          parent_same = ap (λ (u : Slot). u.parent) s ∙ ap (λ k. (slot_at b k).parent) (sym is);
          number_same = ap (λ (u : Slot). u.number) s ∙ ap (λ k. (slot_at b k).number) (sym is);
          node_same = ap (λ (u : Slot). u.node) s ∙ ap (λ k. (slot_at b k).node) (sym is);
        }
        | Untouched not_id s ↦ record { parent_same = ap (λ (u : Slot). u.parent) s; number_same = ap (λ (u : Slot). u.number) s; node_same = ap (λ (u : Slot). u.node) s }
      ];
  was = λ other first h.
      elim (turned-at b id new at.known other) [
        | Turned is s ↦ absurd (not-split new first still (sym (ap (λ (u : Slot). u.state) s) ∙ h))
        | Untouched not_id s ↦ sym (ap (λ (u : Slot). u.state) s) ∙ h
      ];
  stays = λ other first h.
      elim (turned-at b id new at.known other) [
        | Turned is s ↦ absurd (not-split old first whole (sym at.is ∙ ap (λ k. (slot_at b k).state) (sym is) ∙ h))
        | Untouched not_id s ↦ ap (λ (u : Slot). u.state) s ∙ h
      ];
}

-- ---- a new best plan

replaced-shape : (b : Book) (plan : Plan) → IsSameShape b (Step.replaced b plan)
replaced-shape b plan = record {
  case_same = refl;
  long = length-map b.slots (Step.outdone cost);
  same = λ id.
      elim (outdone-is cost (slot_at b id)) [
        | Kept e s ↦
            let at = outdone-at cost b.slots id ∙ s in
            record { parent_same = ap (λ (u : Slot). u.parent) at; number_same = ap (λ (u : Slot). u.number) at; node_same = ap (λ (u : Slot). u.node) at }
        | Closed e high s ↦
            let at = outdone-at cost b.slots id ∙ s in
            record { parent_same = ap (λ (u : Slot). u.parent) at; number_same = ap (λ (u : Slot). u.number) at; node_same = ap (λ (u : Slot). u.node) at }
      ];
  was = λ id first h.
      elim (outdone-is cost (slot_at b id)) [
        | Kept e s ↦ sym (ap (λ (u : Slot). u.state) (outdone-at cost b.slots id ∙ s)) ∙ h
        | Closed e high s ↦ absurd (not-split (slot.Closed by.Bound) first refl (sym (ap (λ (u : Slot). u.state) (outdone-at cost b.slots id ∙ s)) ∙ h))
      ];
  stays = λ id first h.
      elim (outdone-is cost (slot_at b id)) [
        | Kept e s ↦ ap (λ (u : Slot). u.state) (outdone-at cost b.slots id ∙ s) ∙ h
        | Closed e high s ↦ absurd (not-split (slot_at b id).state first (open-whole (slot_at b id).state e) h)
      ];
}
  where
    cost : ℕ
    cost = cost_of b.case.instance plan

-- ---- a cost that is shown

low-shape : (b : Book) (id : ℕ) (low : ShownLow) → IsSameShape b (Step.low_shown b id low)
low-shape b id low = record {
  case_same = refl;
  long = length-set b.slots id (record (slot_at b id) { shown = Some low });
  same = λ other.
      let at = low-at b id low other in
      record { parent_same = ap (λ (u : Slot). u.parent) at; number_same = ap (λ (u : Slot). u.number) at; node_same = ap (λ (u : Slot). u.node) at };
  was = λ other first h. sym (ap (λ (u : Slot). u.state) (low-at b id low other)) ∙ h;
  stays = λ other first h. ap (λ (u : Slot). u.state) (low-at b id low other) ∙ h;
}

-- any book with these slots
like-shape : (b new : Book) → new.case ≡ b.case → new.slots ≡ b.slots → IsSameShape b new
like-shape b new case slots = record {
  case_same = case;
  long = ap length slots;
  same = λ id. record {
    parent_same = ap (λ (ss : List Slot). (slice_index_or ss id no_slot).parent) slots;
    number_same = ap (λ (ss : List Slot). (slice_index_or ss id no_slot).number) slots;
    node_same = ap (λ (ss : List Slot). (slice_index_or ss id no_slot).node) slots;
  };
  was = λ id first h. sym (ap (λ (ss : List Slot). (slice_index_or ss id no_slot).state) slots) ∙ h;
  stays = λ id first h. ap (λ (ss : List Slot). (slice_index_or ss id no_slot).state) slots ∙ h;
}

-- ---- splitting

module _ (b : Book) (w id : ℕ) (at : IsAt b id (slot.Held w)) (e : Entry) where
  abbrev new : Book
  new = Step.noted (Step.with_children b id) e

  abbrev first_kid : ℕ
  first_kid = length b.slots

  pub held-whole : (first : ℕ) → (slot_at b id).state ≡ slot.Split first → ⊥
  held-whole first h = not-split (slot.Held w) first refl (sym at.is ∙ h)

  -- the old slots hold the same nodes
  old-same : (other : ℕ) → other < length b.slots → IsSameNode b new other
  old-same other here =
      elim (split-at b id at.known other) [
        | Parent is s ↦ record {
          parent_same = ap (λ (u : Slot). u.parent) s ∙ ap (λ k. (slot_at b k).parent) (sym is);
          number_same = ap (λ (u : Slot). u.number) s ∙ ap (λ k. (slot_at b k).number) (sym is);
          node_same = ap (λ (u : Slot). u.node) s ∙ ap (λ k. (slot_at b k).node) (sym is);
        }
        | Old not_id known s ↦ record { parent_same = ap (λ (u : Slot). u.parent) s; number_same = ap (λ (u : Slot). u.number) s; node_same = ap (λ (u : Slot). u.node) s }
        | Child k is known s ↦ absurd (omega (arith, here, is))
        | Past past s ↦ absurd (omega (arith, here, past, length-split b id))
      ]

  -- what is split stays so, and so is this slot
  pub stays-split : (other first : ℕ) → (slot_at b other).state ≡ slot.Split first → (slot_at new other).state ≡ slot.Split first
  stays-split other first h =
      let here : other < length b.slots = state-known b other (slot.Split first) h (λ f. true≢false (ap is_split f)) in
      elim (split-at b id at.known other) [
        | Parent is s ↦ absurd (held-whole first (ap (λ k. (slot_at b k).state) (sym is) ∙ h))
        | Old not_id known s ↦ ap (λ (u : Slot). u.state) s ∙ h
        | Child k is known s ↦ absurd (omega (arith, here, is))
        | Past past s ↦ absurd (omega (arith, here, past, length-split b id))
      ]

  new-whole : (t : Bool) → is_split (cond t (slot.Closed by.Bound) slot.Fresh) ≡ false
  new-whole true = refl
  new-whole false = refl

  kid-whole : (k : ℕ) → is_split (kid b id k).state ≡ false
  kid-whole k = new-whole (nat_le (best_cost b) (bound_at b.case.instance (kid b id k).node))

  -- the children of the slot that was split
  own-children : (slot_at b id).node.depth < length b.case.instance.ships → HasChildren new id first_kid
  own-children lacks =
      let node = (old-same id at.known).node_same in
      record {
        later = at.known;
        lacks = subst (λ (n : TreeNode). n.depth < length b.case.instance.ships) (sym node) lacks;
        child = λ k known.
            let here : k < child_count b.case.instance (slot_at b id).node = subst (λ n. k < child_count b.case.instance n) node known in
            let s = kid-at b id k here in
            record {
              known = omega (arith, here, length-split b id);
              parent_is = ap (λ (u : Slot). u.parent) s;
              number_is = ap (λ (u : Slot). u.number) s;
              node_is = ap (λ (u : Slot). u.node) s ∙ ap (λ n. child_node b.case.instance n k) (sym node);
            };
      }

  -- the children of another slot
  old-children : (other first : ℕ) → other < length b.slots → HasChildren b other first → HasChildren new other first
  old-children other first here old =
      let node = (old-same other here).node_same in
      record {
        later = old.later;
        lacks = subst (λ (n : TreeNode). n.depth < length b.case.instance.ships) (sym node) old.lacks;
        child = λ k known.
            let one = old.child k (subst (λ n. k < child_count b.case.instance n) node known) in
            let same = old-same (first + k) one.known in
            record {
              known = omega (arith, one.known, length-split b id);
              parent_is = same.parent_same ∙ one.parent_is;
              number_is = same.number_same ∙ one.number_is;
              node_is = same.node_same ∙ one.node_is ∙ ap (λ n. child_node b.case.instance n k) (sym node);
            };
      }

  split-number : (m n : ℕ) → slot.Split m ≡ slot.Split n → m ≡ n
  split-number m n h = ap first_child h

  all-children : KeepsFamily b → (slot_at b id).node.depth < length b.case.instance.ships → (other first : ℕ) → (slot_at new other).state ≡ slot.Split first → HasChildren new other first
  all-children keeps lacks other first h =
      elim (split-at b id at.known other) [
        | Parent is s ↦
            let first_is : first_kid ≡ first = split-number first_kid first (sym (ap (λ (u : Slot). u.state) s) ∙ h) in
            subst (HasChildren new other) first_is (subst (λ k. HasChildren new k first_kid) (sym is) (own-children lacks))
        | Old not_id known s ↦ old-children other first known (keeps.children other first (sym (ap (λ (u : Slot). u.state) s) ∙ h))
        | Child k is known s ↦ absurd (not-split (kid b id k).state first (kid-whole k) (sym (ap (λ (u : Slot). u.state) s) ∙ h))
        | Past past s ↦ absurd (not-split (slot.Closed by.Bound) first refl (sym (ap (λ (u : Slot). u.state) s) ∙ h))
      ]

  old-born : (other : ℕ) → other < length b.slots → IsBorn b other → IsBorn new other
  old-born other here old =
      let same = old-same other here in
      let parent = (slot_at b other).parent in
      let known : parent < length b.slots = state-known b parent (slot.Split old.first) old.split (λ f. true≢false (ap is_split f)) in
      let node = (old-same parent known).node_same in
      record {
        first = old.first;
        split = subst (λ p. (slot_at new p).state ≡ slot.Split old.first) (sym same.parent_same) (stays-split parent old.first old.split);
        number =
            subst (λ p. (slot_at new other).number < child_count b.case.instance (slot_at new p).node) (sym same.parent_same)
            (subst (λ n. (slot_at new other).number < child_count b.case.instance n) (sym node) (subst (λ n. n < child_count b.case.instance (slot_at b parent).node) (sym same.number_same) old.number));
        place = ap (λ n. old.first + n) same.number_same ∙ old.place;
      }

  pub parent-split : (slot_at new id).state ≡ slot.Split first_kid
  parent-split =
      elim (split-at b id at.known id) [
        | Parent is s ↦ ap (λ (u : Slot). u.state) s
        | Old not_id known s ↦ absurd (not_id refl)
        | Child k is known s ↦ absurd (omega (arith, at.known, is))
        | Past past s ↦ absurd (omega (arith, at.known, past, length-split b id))
      ]

  kid-born : (k : ℕ) → k < child_count b.case.instance (slot_at b id).node → (other : ℕ) → other ≡ first_kid + k → IsBorn new other
  kid-born k known other is =
      let s : slot_at new other ≡ kid b id k = ap (slot_at new) is ∙ kid-at b id k known in
      let up : (slot_at new other).parent ≡ id = ap (λ (u : Slot). u.parent) s in
      let number : (slot_at new other).number ≡ k = ap (λ (u : Slot). u.number) s in
      record {
        first = first_kid;
        split = subst (λ p. (slot_at new p).state ≡ slot.Split first_kid) (sym up) parent-split;
        number =
            subst (λ p. (slot_at new other).number < child_count b.case.instance (slot_at new p).node) (sym up)
            (subst (λ n. (slot_at new other).number < child_count b.case.instance n) (sym (old-same id at.known).node_same) (subst (λ n. n < child_count b.case.instance (slot_at b id).node) (sym number) known));
        place = ap (λ n. first_kid + n) number ∙ sym is;
      }

  split-family : KeepsFamily b → (slot_at b id).node.depth < length b.case.instance.ships → KeepsFamily new
  split-family keeps lacks = record {
    some = omega (arith, keeps.some, length-split b id);
    root_is = (old-same 0 keeps.some).node_same ∙ keeps.root_is;
    children = all-children keeps lacks;
    born = λ other low known.
        elim (split-at b id at.known other) [
          | Parent is s ↦ old-born other (omega (arith, is, at.known)) (keeps.born other low (omega (arith, is, at.known)))
          | Old not_id here s ↦ old-born other here (keeps.born other low here)
          | Child k is here s ↦ kid-born k here other is
          | Past past s ↦ absurd (omega (arith, known, past))
        ];
  }

module _ {Break : Type 0} (broken : Instance → Plan → Option Break) (b : Book) where
  turned-family : (id : ℕ) (old new : SlotState) (used : ℕ) (ended : List Bool) (e : Entry) → KeepsFamily b → IsAt b id old → is_split old ≡ false → is_split new ≡ false → KeepsFamily (turned b id new used ended e)
  turned-family id old new used ended e keeps at whole still = shape-family b (turned b id new used ended e) (turned-shape b id old new used ended e at whole still) keeps

  pub family-step : KeepsFamily b → (e : Event) → IsOwed e → KeepsFamily (Step.step broken b e).0
  family-step keeps e owed =
      elim (each-move broken b e owed) [
        | Stays refused same ↦ subst KeepsFamily (sym same) keeps
        | TakesBack w id runs none first at same ↦ subst KeepsFamily (sym same) (turned-family id slot.Back (slot.Held w) b.used b.ended (entry.Take w) keeps at refl refl)
        | TakesFresh w id runs none no_back next at left same ↦ subst KeepsFamily (sym same) (turned-family id slot.Fresh (slot.Held w) (suc b.used) b.ended (entry.Take w) keeps at refl refl)
        | Splits w id at lacks same ↦ subst KeepsFamily (sym same) (split-family b w id at (entry.Split id) keeps lacks)
        | Closes old why id from at tells same ↦ subst KeepsFamily (sym same) (turned-family id old (slot.Closed why) b.used b.ended (entry.Close id why) keeps at (closing-whole old from).0 refl)
        | Parks w id c p at tells same ↦ subst KeepsFamily (sym same) (turned-family id (slot.Held w) (slot.Parked c p) b.used b.ended (entry.Park id c p) keeps at refl refl)
        | Shows id low grows may same ↦ subst KeepsFamily (sym same) (shape-family b (Step.low_shown b id low) (low-shape b id low) keeps)
        | Posts cut grows good own same ↦
            let new = Step.noted (record b { cuts = b.cuts ++ cut ∷ [] }) entry.Post in
            subst KeepsFamily (sym same) (shape-family b new (like-shape b new refl refl) keeps)
        | Prices prices grows good own same ↦
            let new = Step.noted (record b { prices = b.prices ++ prices ∷ [] }) entry.Prices in
            subst KeepsFamily (sym same) (shape-family b new (like-shape b new refl refl) keeps)
        | Replaces plan grows cheaper same ↦ subst KeepsFamily (sym same) (shape-family b (Step.replaced b plan) (replaced-shape b plan) keeps)
        | Ends w runs none same ↦
            let new = Step.noted (record b { ended = slice_set b.ended w true }) (entry.Release w) in
            subst KeepsFamily (sym same) (shape-family b new (like-shape b new refl refl) keeps)
        | GivesBack w id runs at same ↦ subst KeepsFamily (sym same) (turned-family id (slot.Held w) slot.Back b.used (slice_set b.ended w true) (entry.Release w) keeps at refl refl)
      ]

pub opening-family : (case : Case) (plan : Plan) → KeepsFamily (opening_book case plan)
opening-family case plan = record {
  some = omega arith;
  root_is = refl;
  children = λ id first h. absurd (none id first h);
  born = λ id low known. absurd (omega (arith, low, known));
}
  where
    new-whole' : (t : Bool) → is_split (cond t (slot.Closed by.Bound) slot.Fresh) ≡ false
    new-whole' true = refl
    new-whole' false = refl

    none : (id first : ℕ) → (slot_at (opening_book case plan) id).state ≡ slot.Split first → ⊥
    none zero first h = not-split (new_slot case.instance (cost_of case.instance plan) 0 0 root).state first (new-whole' (nat_le (cost_of case.instance plan) (bound_at case.instance root))) h
    none (suc id) first h = not-split (slot.Closed by.Bound) first refl h

-- ---- one slot and its parent
