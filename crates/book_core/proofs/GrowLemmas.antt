-- A slot is split: its children stand behind the slots.
use Rattle.std.proofs.Common.{◌≡◌, ℕ, zero, suc, ◌+◌, ◌-◌, ◌<◌, ◌≤◌, List, [], ◌∷◌, ◌++◌, length, map, refl, sym, ap, ◌∙◌, subst, arith, Bool, true, false, not, cond, nat_le, slice_index_or, slice_set, inl, inr, None, true≢false, le-leb, length-append, append_assoc}
use Rattle.std.proofs.lemmas.Bool.{not_from_false, not_from_true, lt-leb}
use Rattle.std.specs.declared.option.Option.{Option}
use Rattle.std.proofs.lemmas.Bool.Decides.{leb_tells}
use Rattle.std.proofs.lemmas.List.{get_or-append-add}
use Rattle.std.proofs.Math.ListN.{get_or-append}
use Rattle.lock_model.specs.declared.instance.Instance.{Instance}
use Rattle.lock_model.specs.declared.group.Group.{Group}
use Rattle.lock_rules.specs.Node.{Node, root, root_lines}
use Rattle.lock_rules.specs.Bound.{bound_of}
use Rattle.lock_rules.specs.Children.{children_of}
use Rattle.mooring_rules.specs.declared.breaks.BrokenPlan.{BrokenPlan}
use Rattle.book_rules.specs.declared.book.SlotState.{SlotState}
use Rattle.book_rules.specs.declared.book.SlotState.TheVariants as slot
use Rattle.book_rules.specs.Book.{Book, Slot, no_slot, slot_at, best_cost, is_back, is_held}
use Rattle.book_rules.specs.Family.{child_node}
use Rattle.book_rules.specs.NextSlot.{is_split}
use Rattle.book_rules.specs.Events as machine
use Rattle.book_rules.specs.Events.{split}
use Rattle.book_rules.specs.Step.{step, child_slots, children_in, split_slot}
use Rattle.book_core.specs.declared.reply.Reply.TheVariants as reply
use Rattle.book_core.specs.declared.reply.Refusal.TheVariants as refusing
use Rattle.book_core.specs.declared.stored_slot.StoredSlot.{StoredSlot}
use Rattle.book_core.specs.declared.waiting.Waiting.{Waiting}
use Rattle.book_core.specs.Stored.{node_after, slot_with, slots_after, slots_of}
use Rattle.book_core.specs.Tables.{state_in, AreHands, AreBack}
use Rattle.book_core.specs.Changes.{slot_in, set_state, Changes, let_go}
use Rattle.book_core.specs.Growing.{stored_child, stored_children, with_kids}
use Rattle.book_core.specs.Keeps.{IsSound, AreTables}
use Rattle.book_core.specs.Replies.{Does, Steps}
use Rattle.book_core.proofs.StoredLemmas.{stored-append, node-at, nodes_in}
use Rattle.book_core.proofs.HandLemmas.{set-changes, hands-let_go, hands-same, state-known, held-open}
use Rattle.book_core.proofs.BackLemmas.{back-kept}
use Rattle.book_core.proofs.HeldLemmas.{KeepsNodes}
use Rattle.book_core.proofs.WaitingLemmas.{Grows, waiting-grown}
use Rattle.book_core.proofs.KeptLemmas.{length-slots, stored-change}
use Rattle.book_core.proofs.SettleLemmas.{restated}
use Rattle.book_core.proofs.CloseLemmas.{Out, none, pick-true, pick-false}
use Rattle.book_core.proofs.SoundLemmas.{step-sound}
use Rattle.closing_rules.specs.declared.grounds.Ground.TheVariants as by

pub children-more : (cost parent n : ℕ) (xs : List ℕ) (x : ℕ) → stored_children cost parent n (xs ++ x ∷ []) ≡ stored_children cost parent n xs ++ stored_child cost parent (n + length xs) x ∷ []
children-more cost parent n [] x = ap (λ k. stored_child cost parent k x ∷ []) (omega arith)
children-more cost parent n (y ∷ ys) x =
    ap (λ l. stored_child cost parent n y ∷ l) (children-more cost parent (suc n) ys x ∙ ap (λ k. stored_children cost parent (suc n) ys ++ stored_child cost parent k x ∷ []) (omega arith))

-- ---- what is stored of children are their slots

at-middle : (before : List (List (List Group))) (l : List (List Group)) (ls : List (List (List Group))) (d : List (List Group)) → slice_index_or (before ++ (l ∷ ls)) (length before) d ≡ l
at-middle [] l ls d = refl
at-middle (b ∷ before) l ls d = at-middle before l ls d

after-some : (I : Instance) (done : List Node) (s : StoredSlot) → 0 < length done → node_after I done s ≡ child_node I (slice_index_or done s.parent root) s.number
after-some I [] s some = absurd (omega (arith, some))
after-some I (n ∷ ns) s some = refl

kids-slots : (I : Instance) (cost id : ℕ) (node : Node) (ls before : List (List (List Group))) (n : ℕ) (done : List Node) → n ≡ length before → children_of I node.depth node.lines ≡ before ++ ls → id < length done → slice_index_or done id root ≡ node
    → slots_after I done (stored_children cost id n (map (bound_of I (suc node.depth)) ls)) ≡ child_slots I cost id (suc node.depth) n ls
kids-slots I cost id node [] before n done count all known is = refl
kids-slots I cost id node (l ∷ ls) before n done count all known is =
    let s = stored_child cost id n (bound_of I (suc node.depth) l) in
    let own : Node = record { depth = suc node.depth; lines = l } in
    let lines : slice_index_or (children_of I node.depth node.lines) n root_lines ≡ l = (λ i. slice_index_or (all i) (count i) root_lines) ∙ at-middle before l ls root_lines in
    let here : node_after I done s ≡ own =
    after-some I done s (omega (arith, known)) ∙ ap (λ m. child_node I m n) is ∙ ap (λ x. record { depth = suc node.depth; lines = x }) lines in
    let long = length-append done (node_after I done s ∷ []) in
    let rest = kids-slots I cost id node ls (before ++ l ∷ []) (suc n) (done ++ node_after I done s ∷ []) (omega (arith, count, length-append before (l ∷ []))) (all ∙ sym (append_assoc before (l ∷ []) ls))
    (omega (arith, known, long)) (get_or-append done (node_after I done s ∷ []) root id known ∙ is) in
    (λ i. slot_with s (here i) ∷ rest i)

-- ---- the slots of a book that is split

-- the slots of children are Fresh or closed
kid-state : (P : SlotState → Type 0) → P (slot.Closed by.Bound) → P slot.Fresh → (I : Instance) (cost id depth n : ℕ) (ls : List (List (List Group))) (k : ℕ) → P (state_in (child_slots I cost id depth n ls) k)
kid-state P closed fresh I cost id depth n [] k = closed
kid-state P closed fresh I cost id depth n (l ∷ ls) zero = by_test (nat_le cost (bound_of I depth l))
  where
    by_test : (t : Bool) → P (cond t (slot.Closed by.Bound) slot.Fresh)
    by_test true = closed
    by_test false = fresh
kid-state P closed fresh I cost id depth n (l ∷ ls) (suc k) = kid-state P closed fresh I cost id depth (suc n) ls k

kid-parent : (I : Instance) (cost id depth n : ℕ) (ls : List (List (List Group))) (k : ℕ) → k < length (child_slots I cost id depth n ls) → (slot_in (child_slots I cost id depth n ls) k).parent ≡ id
kid-parent I cost id depth n [] k known = absurd (omega (arith, known))
kid-parent I cost id depth n (l ∷ ls) zero known = refl
kid-parent I cost id depth n (l ∷ ls) (suc k) known = kid-parent I cost id depth (suc n) ls k (omega (arith, known))

module _ (b : Book) (sound : IsSound b) (id w : ℕ) (held : (slot_at b id).state ≡ slot.Held w) where
  abbrev pub first : ℕ
  first = length b.slots

  abbrev pub middle : List Slot
  middle = set_state b.slots id (slot.Split first)

  abbrev pub grown : List Slot
  grown = middle ++ children_in b id

  id-known : id < length b.slots
  id-known = state-known b.slots id (λ e. held-open w (sym held ∙ e))

  change : Changes b.slots id (slot.Split first) middle
  change = set-changes b.slots id (slot.Split first) id-known

  near : (k : ℕ) → k < length b.slots → slot_in grown k ≡ slot_in middle k
  near k known = let count = change.count in get_or-append middle (children_in b id) no_slot k (omega (arith, known, count))

  pub nodes-grown : KeepsNodes b.slots grown
  nodes-grown =
      let count = change.count in
      record {
        count = omega (arith, count, length-append middle (children_in b id));
        node = λ k known. ap (λ (s : Slot). s.node) (near k known) ∙ ap (λ (s : Slot). s.node) (change.rest k);
      }

  far : (k : ℕ) → length b.slots ≤ k → (j : ℕ) × (k ≡ length middle + j)
  far k past = let count = change.count in (k - length b.slots, omega (arith, past, count))

  far-slot : (k : ℕ) (past : length b.slots ≤ k) → slot_in grown k ≡ slot_in (children_in b id) (far k past).0
  far-slot k past = ap (slot_in grown) (far k past).1 ∙ get_or-append-add middle (children_in b id) (far k past).0 no_slot

  -- a state that children don't have
  old-state : (P : SlotState → Bool) → P (slot.Closed by.Bound) ≡ false → P slot.Fresh ≡ false → (k : ℕ) → P (state_in grown k) ≡ true → k < length b.slots
  old-state P closed fresh k e = elim (leb_tells (suc k) (length b.slots)) [
    | inl y ↦ y.1
    | inr n ↦
        let past : length b.slots ≤ k = omega (arith, n.1) in
        let node = (slot_at b id).node in
        absurd (true≢false (sym e ∙ ap (λ (s : Slot). P s.state) (far-slot k past)
        ∙ kid-state (λ s. P s ≡ false) closed fresh b.case.instance (best_cost b) id (suc node.depth) 0 (children_of b.case.instance node.depth node.lines) (far k past).0))
  ]

  grown-hands : (hands : List (Option ℕ)) → AreHands b.slots hands → AreHands grown (let_go (slot.Held w) hands)
  grown-hands hands good =
      let middle_hands : AreHands middle (let_go (slot.Held w) hands) = subst (λ s. AreHands middle (let_go s hands)) held (hands-let_go b.slots middle id (slot.Split first) change hands good refl) in
      hands-same middle grown (let_go (slot.Held w) hands) middle_hands
      (λ v k e. let count = change.count in ap (λ (s : Slot). s.state) (near k (omega (arith, count, state-known middle k (λ h. held-not (sym e ∙ h))))) ∙ e)
      (λ v k e. ap (λ (s : Slot). s.state) (sym (near k (old-state is_held refl refl k (ap is_held e)))) ∙ e)
    where
      held-not : {v : ℕ} → slot.Held v ≡ slot.Closed by.Bound → ⊥
      held-not h = cc

  grown-back : (back : List ℕ) → AreBack b.slots back → AreBack grown back
  grown-back back good =
      let middle_back = back-kept b.slots middle id (slot.Split first) change back good (ap is_back held) refl in
      record {
        rising = middle_back.rising;
        each = λ k among. let e = middle_back.each k among in let count = change.count in ap (λ (s : Slot). s.state) (near k (omega (arith, count, state-known middle k (λ h. back-not (sym e ∙ h))))) ∙ e;
        all = λ k e. middle_back.all k (ap (λ (s : Slot). s.state) (sym (near k (old-state is_back refl refl k (ap is_back e)))) ∙ e);
      }
    where
      back-not : slot.Back ≡ slot.Closed by.Bound → ⊥
      back-not h = cc

  grows : Grows b.slots id grown
  grows =
      let count = change.count in
      record {
        count = omega (arith, count, length-append middle (children_in b id));
        held = ap is_split held;
        split = ap (λ (s : Slot). s.state) (near id id-known) ∙ change.here;
        others = λ k known other. ap (λ (s : Slot). s.state) (near k known) ∙ change.others k other;
        parents = λ k known. ap (λ (s : Slot). s.parent) (near k known) ∙ ap (λ (s : Slot). s.parent) (change.rest k);
        kids = λ k past known.
            let node = (slot_at b id).node in
            let within : (far k past).0 < length (children_in b id) = omega (arith, known, (far k past).1, length-append middle (children_in b id)) in
            ap (λ (s : Slot). s.parent) (far-slot k past)
            ∙ kid-parent b.case.instance (best_cost b) id (suc node.depth) 0 (children_of b.case.instance node.depth node.lines) (far k past).0 within;
        childless = λ k some known parent. split-held (sym (sound.parts.family.born k some known).split ∙ ap (λ p. (slot_at b p).state) parent ∙ held);
      }
    where
      split-held : {n : ℕ} → slot.Split n ≡ slot.Held w → ⊥
      split-held h = cc

  pub tables-grown : (ended : List Bool) (hands : List (Option ℕ)) (back : List ℕ) (ws : List Waiting) → AreTables b.slots ended hands back ws
      → (v : Waiting) → v ≡ record { split = id; first = length b.slots; end = length grown } → AreTables grown ended (let_go (slot.Held w) hands) back (ws ++ v ∷ [])
  tables-grown ended hands back ws tables v is = record {
    hands_are = grown-hands hands tables.hands_are;
    back_are = grown-back back tables.back_are;
    few = tables.few;
    waiting_are = waiting-grown b.slots grown id grows ws tables.waiting_are v is;
  }

-- ---- what the fields show

pub grown-is : (I : Instance) (ss : List StoredSlot) (id : ℕ) (r : StoredSlot) (cost : ℕ) (bounds : List ℕ) → id < length ss → r ≡ slice_index_or ss id r
    → (node : Node) → (slot_in (slots_of I ss) id).node ≡ node → bounds ≡ map (bound_of I (suc node.depth)) (children_of I node.depth node.lines)
    → (n : ℕ) → n ≡ length (slots_of I ss)
    → slots_of I (slice_set ss id (restated r (slot.Split n)) ++ stored_children cost id 0 bounds)
    ≡ set_state (slots_of I ss) id (slot.Split (length (slots_of I ss))) ++ child_slots I cost id (suc node.depth) 0 (children_of I node.depth node.lines)
grown-is I ss id r cost bounds known is node node_is bounds_are n count =
    let S = slots_of I ss in
    let mid = slice_set ss id (restated r (slot.Split n)) in
    let changed : slots_of I mid ≡ set_state S id (slot.Split n) = stored-change I ss id r (slot.Split n) known is in
    let there : id < length S = omega (arith, known, length-slots I ss) in
    let change = set-changes S id (slot.Split n) there in
    let same : (slot_in (slots_of I mid) id).node ≡ node = ap (λ l. (slot_in l id).node) changed ∙ ap (λ (s : Slot). s.node) (change.rest id) ∙ node_is in
    let within : id < length (nodes_in (slots_of I mid)) = omega (arith, there, change.count, ap length changed, length-nodes (slots_of I mid)) in
    stored-append I [] mid (stored_children cost id 0 bounds)
    ∙ (λ i. changed i ++ slots_after I (nodes_in (slots_of I mid)) (stored_children cost id 0 (bounds_are i)))
    ∙ ap (λ l. set_state S id (slot.Split n) ++ l) (kids-slots I cost id node (children_of I node.depth node.lines) [] 0 (nodes_in (slots_of I mid)) refl refl within (node-at (slots_of I mid) id ∙ same))
    ∙ ap (λ m. set_state S id (slot.Split m) ++ child_slots I cost id (suc node.depth) 0 (children_of I node.depth node.lines)) count
  where
    length-nodes : (slots : List Slot) → length (nodes_in slots) ≡ length slots
    length-nodes [] = refl
    length-nodes (s ∷ ss) = ap suc (length-nodes ss)

-- ---- split

module _ (b : Book) (id : ℕ) where
  abbrev whole : Bool
  whole = nat_le (length b.case.instance.ships) (slot_at b id).node.depth

  pub split-missed : is_held (slot_at b id).state ≡ false → Does b (split id) (reply.Refused (refusing.NotHeld id)) b
  split-missed e = Steps (record {
    found = None;
    judged = tt;
    answer = machine.NotHeld id;
    said = refl;
    same = pick-true (not (is_held (slot_at b id).state)) (b, machine.NotHeld id) (cond whole (b, machine.Whole id) (split_slot {Break = BrokenPlan} b id)) (not_from_false (is_held (slot_at b id).state) e);
  })

  way-held : is_held (slot_at b id).state ≡ true → step (λ _ _. none) b (split id) ≡ cond whole (b, machine.Whole id) (split_slot {Break = BrokenPlan} b id)
  way-held e = pick-false (not (is_held (slot_at b id).state)) (b, machine.NotHeld id) (cond whole (b, machine.Whole id) (split_slot {Break = BrokenPlan} b id)) (not_from_true (is_held (slot_at b id).state) e)

  pub split-whole : is_held (slot_at b id).state ≡ true → length b.case.instance.ships ≤ (slot_at b id).node.depth → Does b (split id) (reply.Refused (refusing.Whole id)) b
  split-whole e full = Steps (record {
    found = None;
    judged = tt;
    answer = machine.Whole id;
    said = refl;
    same = way-held e ∙ pick-true whole (b, machine.Whole id) (split_slot {Break = BrokenPlan} b id) (le-leb (length b.case.instance.ships) (slot_at b id).node.depth full);
  })

  way-split : is_held (slot_at b id).state ≡ true → (slot_at b id).node.depth < length b.case.instance.ships → step (λ _ _. none) b (split id) ≡ split_slot {Break = BrokenPlan} b id
  way-split e lacks = way-held e ∙ pick-false whole (b, machine.Whole id) (split_slot {Break = BrokenPlan} b id) (lt-leb (length b.case.instance.ships) (slot_at b id).node.depth lacks)

  pub split-sound : IsSound b → is_held (slot_at b id).state ≡ true → (slot_at b id).node.depth < length b.case.instance.ships → IsSound (with_kids b id)
  split-sound sound e lacks = subst IsSound (ap (λ (o : Out). o.0) (way-split e lacks)) (step-sound b (split id) None sound tt tt)

  pub length-kids : (I : Instance) (cost parent depth n : ℕ) (ls : List (List (List Group))) → length (child_slots I cost parent depth n ls) ≡ length ls
  length-kids I cost parent depth n [] = refl
  length-kids I cost parent depth n (l ∷ ls) = ap suc (length-kids I cost parent depth (suc n) ls)

  pub split-done : is_held (slot_at b id).state ≡ true → (slot_at b id).node.depth < length b.case.instance.ships → (count : ℕ) (new : Book)
      → count ≡ length (children_of b.case.instance (slot_at b id).node.depth (slot_at b id).node.lines) → new ≡ with_kids b id → Does b (split id) (reply.Made count) new
  split-done e lacks count new count_is is =
      let node = (slot_at b id).node in
      let many : length (children_in b id) ≡ count = length-kids b.case.instance (best_cost b) id (suc node.depth) 0 (children_of b.case.instance node.depth node.lines) ∙ sym count_is in
      Steps (record {
        found = None;
        judged = tt;
        answer = machine.Made count;
        said = refl;
        same = way-split e lacks ∙ (λ i. (sym is i, machine.Made (many i)));
      })
