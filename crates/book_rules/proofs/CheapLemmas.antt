-- Every event keeps the count of cheap nodes; where the budget is spent, there are more of them than it allows.
use Rattle.std.proofs.Common.{◌≡◌, ℕ, zero, suc, ◌+◌, ◌-◌, ◌<◌, ◌≤◌, List, [], ◌∷◌, ◌++◌, length, map, refl, sym, ap, ◌∙◌, subst, arith, Bool, true, false, cond, Some, slice_index_or, slice_set, nat_le, nat_lt, All, sum_by, inl, inr}
use Rattle.std.specs.declared.option.Option.{Option}
use Rattle.std.proofs.lemmas.Bool.Decides.{leb_tells}
use Rattle.std.proofs.lemmas.List.Elements.{All-head, All-tail}
use Rattle.std.proofs.lemmas.List.Sums.{sum_by-cons}
use Rattle.lock_model.specs.declared.instance.Instance.{Instance}
use Rattle.lock_model.specs.declared.group.Group.{Group}
use Rattle.lock_model.specs.declared.plan.Plan.{Plan}
use Rattle.lock_rules.specs.Plan.{cost_of}
use Rattle.lock_rules.specs.Children.{children_of}
use Rattle.lock_rules.specs.Cheap.{is_cheap, cheap_from, cheap_nodes}
use Rattle.book_rules.specs.declared.book.Entry.{Entry}
use Rattle.book_rules.specs.declared.book.ShownLow.{ShownLow}
use Rattle.book_rules.specs.declared.book.Entry.TheVariants as entry
use Rattle.book_rules.specs.declared.book.SlotState.{SlotState}
use Rattle.book_rules.specs.declared.book.SlotState.TheVariants as slot
use Rattle.book_rules.specs.Book.{Case, Slot, Book, no_slot, slot_at, best_cost, bound_at, new_slot, opening_book, is_fresh}
use Rattle.lock_rules.specs.Node.{Node as TreeNode, root}
use Rattle.book_rules.specs.Events.{Event, IsOwed}
use Rattle.book_rules.specs.NextSlot.{is_split}
use Rattle.book_rules.specs.Step
use Rattle.book_rules.specs.Room.{count_slots}
use Rattle.book_rules.specs.Cover.{IsGoodSlot, KeepsBook}
use Rattle.book_rules.specs.Cheap.{opening_cost, count_cheap, share_of, sum_shares, KeepsCheap}
use Rattle.book_rules.proofs.SlotLemmas.{IsAt}
use Rattle.book_rules.proofs.MoveLemmas.{Stays, TakesBack, TakesFresh, Splits, Closes, Parks, Shows, Posts, Prices, Replaces, Ends, GivesBack, MayClose, FromHeld, FromParked, turned, each-move}
use Rattle.book_rules.proofs.BudgetLemmas.{closing-whole}
use Rattle.book_rules.proofs.TallyLemmas.{one, count-turned, count-append, count-outdone, count-low, open-whole, Kept, Closed, outdone-is}
use Rattle.closing_rules.specs.declared.grounds.Ground.TheVariants as by

-- ---- how the counts change

cheap-set : (c : ℕ) (xs : List Slot) (id : ℕ) (new : Slot) → new.bound ≡ (slice_index_or xs id no_slot).bound → count_cheap c (slice_set xs id new) ≡ count_cheap c xs
cheap-set c [] id new e = refl
cheap-set c (x ∷ xs) zero new e = ap (λ n. one (nat_lt n c) + count_cheap c xs) e
cheap-set c (x ∷ xs) (suc id) new e = ap (λ n. one (nat_lt x.bound c) + n) (cheap-set c xs id new e)

cheap-append : (c : ℕ) (xs ys : List Slot) → count_cheap c (xs ++ ys) ≡ count_cheap c xs + count_cheap c ys
cheap-append c [] ys = omega arith
cheap-append c (x ∷ xs) ys = let rest = cheap-append c xs ys in omega (arith, rest)

cheap-outdone : (c cost : ℕ) (xs : List Slot) → count_cheap c (map (Step.outdone cost) xs) ≡ count_cheap c xs
cheap-outdone c cost [] = refl
cheap-outdone c cost (x ∷ xs) =
    let rest = cheap-outdone c cost xs in
    elim (outdone-is cost x) [
      | Kept e same ↦ omega (arith, rest, ap (λ (s : Slot). one (nat_lt s.bound c)) same)
      | Closed e high same ↦ omega (arith, rest, ap (λ (s : Slot). one (nat_lt s.bound c)) same)
    ]

-- a new slot that is Fresh is cheap by any cost that isn't lower
new-cheap : (c cost : ℕ) → cost ≤ c → (bound : ℕ) → one (is_fresh (cond (nat_le cost bound) (slot.Closed by.Bound) slot.Fresh)) ≤ one (nat_lt bound c)
new-cheap c cost less bound =
    elim (leb_tells cost bound) [
      | inl y ↦ let shut = ap (λ t. one (is_fresh (cond t (slot.Closed by.Bound) slot.Fresh))) y.0 in omega (arith, shut)
      | inr n ↦
          elim (leb_tells (suc bound) c) [
            | inl z ↦ let cheap = ap one z.0 in let fresh = ap (λ t. one (is_fresh (cond t (slot.Closed by.Bound) slot.Fresh))) n.0 in omega (arith, cheap, fresh)
            | inr m ↦ absurd (omega (arith, n.1, m.1, less))
          ]
    ]

children-cheap : (I : Instance) (c cost : ℕ) → cost ≤ c → (parent depth number : ℕ) (ls : List (List (List Group)))
    → count_slots is_fresh (Step.child_slots I cost parent depth number ls) ≤ count_cheap c (Step.child_slots I cost parent depth number ls)
children-cheap I c cost less parent depth number [] = omega arith
children-cheap I c cost less parent depth number (l ∷ ls) =
    let rest = children-cheap I c cost less parent depth (suc number) ls in
    let here = new-cheap c cost less (bound_at I (record { depth = depth; lines = l })) in
    omega (arith, rest, here)

shares-set : (I : Instance) (c : ℕ) (xs : List Slot) (id : ℕ) (new : Slot) → id < length xs → sum_shares I c (slice_set xs id new) + share_of I c (slice_index_or xs id no_slot) ≡ sum_shares I c xs + share_of I c new
shares-set I c [] id new known = absurd (omega (arith, known))
shares-set I c (x ∷ xs) zero new known = omega arith
shares-set I c (x ∷ xs) (suc id) new known = let rest = shares-set I c xs id new (omega (arith, known)) in omega (arith, rest)

shares-append : (I : Instance) (c : ℕ) (xs ys : List Slot) → sum_shares I c (xs ++ ys) ≡ sum_shares I c xs + sum_shares I c ys
shares-append I c [] ys = omega arith
shares-append I c (x ∷ xs) ys = let rest = shares-append I c xs ys in omega (arith, rest)

-- a slot that isn't split counts for its node and all nodes below it
whole-share : (I : Instance) (c : ℕ) (s : Slot) → is_split s.state ≡ false → share_of I c s ≡ cheap_nodes I c s.node.depth s.node.lines
whole-share I c s e = ap (λ t. cond t (one (nat_lt s.bound c)) (cheap_nodes I c s.node.depth s.node.lines)) e

shares-outdone : (I : Instance) (c cost : ℕ) (xs : List Slot) → sum_shares I c (map (Step.outdone cost) xs) ≡ sum_shares I c xs
shares-outdone I c cost [] = refl
shares-outdone I c cost (x ∷ xs) =
    let rest = shares-outdone I c cost xs in
    elim (outdone-is cost x) [
      | Kept e same ↦ omega (arith, rest, ap (share_of I c) same)
      | Closed e high same ↦ omega (arith, rest, ap (share_of I c) same, whole-share I c x (open-whole x.state e))
    ]

new-whole : (t : Bool) → is_split (cond t (slot.Closed by.Bound) slot.Fresh) ≡ false
new-whole true = refl
new-whole false = refl

children-shares : (I : Instance) (c cost parent depth number : ℕ) (ls : List (List (List Group))) → sum_shares I c (Step.child_slots I cost parent depth number ls) ≡ sum_by (cheap_nodes I c depth) ls
children-shares I c cost parent depth number [] = refl
children-shares I c cost parent depth number (l ∷ ls) =
    let node : TreeNode = record { depth = depth; lines = l } in
    let rest = children-shares I c cost parent depth (suc number) ls in
    let here = whole-share I c (new_slot I cost parent number node) (new-whole (nat_le cost (bound_at I node))) in
    omega (arith, rest, here, sum_by-cons (cheap_nodes I c depth) l ls)

-- a node that lacks a ship counts itself and the nodes below its children
cheap-below : (I : Instance) (c k : ℕ) (lines : List (List Group)) → k < length I.ships → cheap_nodes I c k lines ≡ is_cheap I c k lines + sum_by (cheap_nodes I c (suc k)) (children_of I k lines)
cheap-below I c k lines lacks =
    let left : length I.ships - k ≡ suc (length I.ships - suc k) = omega (arith, lacks) in
    ap (λ n. cheap_from I c n k lines) left

-- ---- each law by each change

turned-cheap : (b : Book) (id : ℕ) (old new : SlotState) (used : ℕ) (ended : List Bool) (e : Entry) → KeepsCheap b → IsAt b id old → is_split old ≡ false → is_split new ≡ false
    → used + one (is_fresh new) ≤ b.used + one (is_fresh old) → KeepsCheap (turned b id new used ended e)
turned-cheap b id old new used ended e keeps at whole still paid =
    let I = b.case.instance in
    let c = opening_cost b in
    let s : Slot = record (slot_at b id) { state = new } in
    let was = whole-share I c (slot_at b id) (ap is_split at.is ∙ whole) in
    record {
      best = keeps.best;
      used = omega (arith, keeps.used, paid, count-turned is_fresh b id old new at, cheap-set c b.slots id s refl);
      all = omega (arith, keeps.all, shares-set I c b.slots id s at.known, was, whole-share I c s still);
    }

low-cheap : (b : Book) (id : ℕ) (low : ShownLow) → KeepsCheap b → id < length b.slots → KeepsCheap (Step.low_shown b id low)
low-cheap b id low keeps known =
    let c = opening_cost b in
    let s : Slot = record (slot_at b id) { shown = Some low } in
    record {
      best = keeps.best;
      used = omega (arith, keeps.used, count-low is_fresh b id low known, cheap-set c b.slots id s refl);
      all = omega (arith, keeps.all, shares-set b.case.instance c b.slots id s known);
    }

split-cheap : (b : Book) (w id : ℕ) → KeepsBook b → KeepsCheap b → IsAt b id (slot.Held w) → (slot_at b id).node.depth < length b.case.instance.ships → KeepsCheap (Step.noted (Step.with_children b id) (entry.Split id))
split-cheap b w id book keeps at lacks =
    let I = b.case.instance in
    let c = opening_cost b in
    let node = (slot_at b id).node in
    let kids = children_of I node.depth node.lines in
    let new = slot.Split (length b.slots) in
    let s : Slot = record (slot_at b id) { state = new } in
    let slots = (Step.with_state b id new).slots in
    let was = whole-share I c (slot_at b id) (ap is_split at.is) in
    let own : one (nat_lt (slot_at b id).bound c) ≡ is_cheap I c node.depth node.lines = ap (λ n. one (nat_lt n c)) (book.slots id no_slot at.known).bound in
    record {
      best = keeps.best;
      used =
          omega (
            arith,
            keeps.used,
            count-turned is_fresh b id (slot.Held w) new at,
            cheap-set c b.slots id s refl,
            count-append is_fresh slots (Step.children_in b id),
            cheap-append c slots (Step.children_in b id),
            children-cheap I c (best_cost b) keeps.best id (suc node.depth) 0 kids,
          );
      all =
          omega (
            arith,
            keeps.all,
            shares-set I c b.slots id s at.known,
            was,
            own,
            cheap-below I c node.depth node.lines lacks,
            shares-append I c slots (Step.children_in b id),
            children-shares I c (best_cost b) id (suc node.depth) 0 kids,
          );
    }

replaced-cheap : (b : Book) (plan : Plan) → KeepsCheap b → cost_of b.case.instance plan < best_cost b → KeepsCheap (Step.replaced b plan)
replaced-cheap b plan keeps cheaper =
    let I = b.case.instance in
    let c = opening_cost b in
    let cost = cost_of I plan in
    record {
      best = omega (arith, keeps.best, cheaper);
      used = omega (arith, keeps.used, count-outdone is_fresh refl cost b.slots, cheap-outdone c cost b.slots);
      all = keeps.all ∙ sym (shares-outdone I c cost b.slots);
    }

pub closing-fresh : (old : SlotState) → MayClose old → is_fresh old ≡ false
closing-fresh old (FromHeld w) = refl
closing-fresh old (FromParked c p) = refl

module _ {Break : Type 0} (broken : Instance → Plan → Option Break) (b : Book) (book : KeepsBook b) where
  pub cheap-step : KeepsCheap b → (e : Event) → IsOwed e → KeepsCheap (Step.step broken b e).0
  cheap-step keeps e owed =
      elim (each-move broken b e owed) [
        | Stays refused same ↦ subst KeepsCheap (sym same) keeps
        | TakesBack w id runs none first at same ↦ subst KeepsCheap (sym same) (turned-cheap b id slot.Back (slot.Held w) b.used b.ended (entry.Take w) keeps at refl refl (omega arith))
        | TakesFresh w id runs none no_back next at left same ↦ subst KeepsCheap (sym same) (turned-cheap b id slot.Fresh (slot.Held w) (suc b.used) b.ended (entry.Take w) keeps at refl refl (omega arith))
        | Splits w id at lacks same ↦ subst KeepsCheap (sym same) (split-cheap b w id book keeps at lacks)
        | Closes old why id from at tells same ↦
            subst KeepsCheap (sym same)
            (turned-cheap b id old (slot.Closed why) b.used b.ended (entry.Close id why) keeps at (closing-whole old from).0 refl (omega (arith, ap one (closing-fresh old from))))
        | Parks w id c p at tells same ↦ subst KeepsCheap (sym same) (turned-cheap b id (slot.Held w) (slot.Parked c p) b.used b.ended (entry.Park id c p) keeps at refl refl (omega arith))
        | Shows id low grows may same ↦ subst KeepsCheap (sym same) (low-cheap b id low keeps may.known)
        | Posts cut grows good own same ↦ subst KeepsCheap (sym same) (record { best = keeps.best; used = keeps.used; all = keeps.all })
        | Prices prices grows good own same ↦ subst KeepsCheap (sym same) (record { best = keeps.best; used = keeps.used; all = keeps.all })
        | Replaces plan grows cheaper same ↦ subst KeepsCheap (sym same) (replaced-cheap b plan keeps cheaper)
        | Ends w runs none same ↦ subst KeepsCheap (sym same) (record { best = keeps.best; used = keeps.used; all = keeps.all })
        | GivesBack w id runs at same ↦ subst KeepsCheap (sym same) (turned-cheap b id (slot.Held w) slot.Back b.used (slice_set b.ended w true) (entry.Release w) keeps at refl refl (omega arith))
      ]

pub opening-cheap : (case : Case) (plan : Plan) → KeepsCheap (opening_book case plan)
opening-cheap case plan =
    let I = case.instance in
    let c = cost_of I plan in
    let fresh = new-cheap c c (omega arith) (bound_at I root) in
    let share = whole-share I c (new_slot I c 0 0 root) (new-whole (nat_le c (bound_at I root))) in
    record { best = omega arith; used = omega (arith, fresh); all = omega (arith, share) }

-- ---- cheap slots and shares

pub count-some : (test : SlotState → Bool) (xs : List Slot) (id : ℕ) → id < length xs → test (slice_index_or xs id no_slot).state ≡ true → 1 ≤ count_slots test xs
count-some test [] id known e = absurd (omega (arith, known))
count-some test (x ∷ xs) zero known e = let here = ap one e in omega (arith, here)
count-some test (x ∷ xs) (suc id) known e = let rest = count-some test xs id (omega (arith, known)) e in omega (arith, rest)

cheap-least : (I : Instance) (c left k : ℕ) (lines : List (List Group)) → is_cheap I c k lines ≤ cheap_from I c left k lines
cheap-least I c zero k lines = omega arith
cheap-least I c (suc left) k lines = omega arith

-- each cheap slot has a share
share-least : (I : Instance) (c : ℕ) (s : Slot) → IsGoodSlot I s → one (nat_lt s.bound c) ≤ share_of I c s
share-least I c s good = by_split (is_split s.state)
  where
    by_split : (t : Bool) → one (nat_lt s.bound c) ≤ cond t (one (nat_lt s.bound c)) (cheap_nodes I c s.node.depth s.node.lines)
    by_split true = omega arith
    by_split false =
        let own : one (nat_lt s.bound c) ≡ is_cheap I c s.node.depth s.node.lines = ap (λ n. one (nat_lt n c)) good.bound in
        omega (arith, own, cheap-least I c (length I.ships - s.node.depth) s.node.depth s.node.lines)

pub cheap-shares : (I : Instance) (c : ℕ) (xs : List Slot) → All (IsGoodSlot I) xs → count_cheap c xs ≤ sum_shares I c xs
cheap-shares I c [] good = omega arith
cheap-shares I c (x ∷ xs) good =
    let here = share-least I c x (All-head (IsGoodSlot I) x xs good) in
    let rest = cheap-shares I c xs (All-tail (IsGoodSlot I) x xs good) in
    omega (arith, here, rest)
