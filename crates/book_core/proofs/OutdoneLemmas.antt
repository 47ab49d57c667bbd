-- A cheaper plan closes slots.
use Rattle.std.proofs.Common.{◌≡◌, ◌≢◌, ℕ, suc, ◌<◌, ◌≤◌, List, [], ◌∷◌, ◌++◌, length, map, filter, take, drop, refl, sym, ap, ◌∙◌, subst, arith, Bool, true, false, cond, ◌&&◌, ◌||◌, nat_le, inl, inr, Some, None}
use Rattle.std.proofs.lemmas.Bool.{false≢true, and_parts}
use Rattle.std.specs.declared.option.Option.{Option}
use Rattle.std.proofs.lemmas.List.{length-map}
use Rattle.std.proofs.lemmas.Bool.Decides.{leb_tells}
use Rattle.list_laws.proofs.Counts.{filter-shorter}
use Rattle.lock_model.specs.declared.instance.Instance.{Instance}
use Rattle.lock_model.specs.declared.plan.Plan.{Plan}
use Rattle.lock_rules.specs.Plan.{cost_of}
use Rattle.lock_rules.proofs.BoundLemmas.{IsAmong-filter}
use Rattle.lock_rules.proofs.AmongLemmas.{among-filter}
use Rattle.mooring_rules.specs.declared.breaks.BrokenPlan.{BrokenPlan}
use Rattle.book_rules.specs.declared.book.SlotState.{SlotState}
use Rattle.book_rules.specs.declared.book.SlotState.TheVariants as slot
use Rattle.book_rules.specs.Book.{Book, Slot, best_cost, is_fresh, is_back, is_parked}
use Rattle.lock_rules.specs.Node.{Node}
use Rattle.book_rules.specs.Events as machine
use Rattle.book_rules.specs.Events.{replace}
use Rattle.book_rules.specs.Step.{step, outdone, replaced}
use Rattle.book_rules.proofs.CoverLemmas.{got-map}
use Rattle.book_rules.proofs.SlotLemmas.{back-is}
use Rattle.book_core.specs.declared.reply.Reply.TheVariants as reply
use Rattle.book_core.specs.declared.reply.Refusal.TheVariants as refusing
use Rattle.book_rules.specs.declared.book.Entry.{Entry}
use Rattle.book_rules.specs.declared.book.Entry.TheVariants as entry
use Rattle.book_core.specs.declared.book.Book.TheInside.{Inside}
use Rattle.book_core.specs.Seen.{seen}
use Rattle.book_core.specs.declared.stored_slot.StoredSlot.{StoredSlot}
use Rattle.book_core.specs.declared.waiting.Waiting.{Waiting}
use Rattle.book_core.specs.Stored.{node_after, slot_with, slots_after, slots_of}
use Rattle.lock_rules.proofs.TreeLemmas.{RisesFrom-filter}
use Rattle.book_core.specs.Tables.{state_in}
use Rattle.book_core.specs.Changes.{slot_in}
use Rattle.book_core.specs.Next.{stored_at}
use Rattle.book_core.specs.Outdone.{outdone_stored, is_back_in}
use Rattle.book_core.specs.Hands.{ids_of, AreNodes}
use Rattle.book_core.specs.Keeps.{IsSound, AreTables}
use Rattle.book_core.specs.Replies.{IsJudged, Does, Steps}
use Rattle.book_core.proofs.HandLemmas.{state-known, held-open, hands-same}
use Rattle.book_core.specs.Path.{IsPath}
use Rattle.book_core.proofs.HeldLemmas.{KeepsNodes, nodes-kept}
use Rattle.book_core.proofs.PathLemmas.{path-kept}
use Rattle.book_core.proofs.WaitingLemmas.{waiting-kept}
use Rattle.book_core.proofs.NextLemmas.{stored-any}
use Rattle.book_core.proofs.CloseLemmas.{Out, pick-true, pick-false}
use Rattle.book_core.proofs.SoundLemmas.{step-sound}
use Rattle.closing_rules.specs.declared.grounds.Ground.TheVariants as by

-- ---- the walk over the slots

-- a list of which each item is known
pub each-outdone : (cost : ℕ) (old new : List StoredSlot) → length new ≡ length old → ((k : ℕ) → k < length old → stored_at new k ≡ outdone_stored cost (stored_at old k)) → new ≡ map (outdone_stored cost) old
each-outdone cost [] [] count each = refl
each-outdone cost [] (n ∷ ns) count each = absurd (omega (arith, count))
each-outdone cost (s ∷ ss) [] count each = absurd (omega (arith, count))
each-outdone cost (s ∷ ss) (n ∷ ns) count each =
    let here : n ≡ outdone_stored cost s = each 0 (omega arith) in
    let rest = each-outdone cost ss ns (omega (arith, count)) (λ k known. each (suc k) (omega (arith, known))) in
    (λ i. here i ∷ rest i)

one-outdone : (I : Instance) (cost : ℕ) (s : StoredSlot) (ss : List StoredSlot) (done : List Node) (t : Bool) → ((more : List Node) → slots_after I more (map (outdone_stored cost) ss) ≡ map (outdone cost) (slots_after I more ss))
    → slots_after I done (cond t (record s { state = slot.Closed by.Bound }) s ∷ map (outdone_stored cost) ss)
    ≡ cond t (record (slot_with s (node_after I done s)) { state = slot.Closed by.Bound }) (slot_with s (node_after I done s)) ∷ map (outdone cost) (slots_after I (done ++ node_after I done s ∷ []) ss)
one-outdone I cost s ss [] true rest = ap (λ l. record (slot_with s (node_after I [] s)) { state = slot.Closed by.Bound } ∷ l) (rest (node_after I [] s ∷ []))
one-outdone I cost s ss (n ∷ ns) true rest = ap (λ l. record (slot_with s (node_after I (n ∷ ns) s)) { state = slot.Closed by.Bound } ∷ l) (rest ((n ∷ ns) ++ node_after I (n ∷ ns) s ∷ []))
one-outdone I cost s ss done false rest = ap (λ l. slot_with s (node_after I done s) ∷ l) (rest (done ++ node_after I done s ∷ []))

outdone-stored : (I : Instance) (cost : ℕ) (done : List Node) (ss : List StoredSlot) → slots_after I done (map (outdone_stored cost) ss) ≡ map (outdone cost) (slots_after I done ss)
outdone-stored I cost done [] = refl
outdone-stored I cost done (s ∷ ss) =
    one-outdone I cost s ss done ((is_fresh s.state || is_back s.state || is_parked s.state) && nat_le cost s.bound) (λ more. outdone-stored I cost more ss)

pub slots-outdone : (I : Instance) (cost : ℕ) (ss : List StoredSlot) → slots_of I (map (outdone_stored cost) ss) ≡ map (outdone cost) (slots_of I ss)
slots-outdone I cost ss = outdone-stored I cost [] ss

-- ---- the states then

-- the slot is as it was, or closed, and then it was Fresh, Back or Parked
data Way (s new : Slot) : Type 0 where
  Same : new ≡ s → Way s new
  Shut : new.state ≡ slot.Closed by.Bound → (is_fresh s.state || is_back s.state || is_parked s.state) ≡ true → Way s new

way : (cost : ℕ) (s : Slot) → Way s (outdone cost s)
way cost s = by_test ((is_fresh s.state || is_back s.state || is_parked s.state) && nat_le cost s.bound) refl
  where
    by_test : (t : Bool) → ((is_fresh s.state || is_back s.state || is_parked s.state) && nat_le cost s.bound) ≡ t → Way s (cond t (record s { state = slot.Closed by.Bound }) s)
    by_test true e = Shut refl ((and_parts (is_fresh s.state || is_back s.state || is_parked s.state) (nat_le cost s.bound) e).0)
    by_test false e = Same refl

module _ (cost : ℕ) (slots : List Slot) where
  abbrev new : List Slot
  new = map (outdone cost) slots

  at : (k : ℕ) → k < length slots → slot_in new k ≡ outdone cost (slot_in slots k)
  at k known = got-map (outdone cost) slots k known

  -- a state that is neither Fresh, Back nor Parked stays
  stays : (k : ℕ) (state : SlotState) → state ≢ slot.Closed by.Bound → (is_fresh state || is_back state || is_parked state) ≡ false → state_in slots k ≡ state → state_in new k ≡ state
  stays k state other shut e =
      let known = state-known slots k (λ h. other (sym e ∙ h)) in
      ap (λ (s : Slot). s.state) (at k known) ∙ by_way (way cost (slot_in slots k))
    where
      by_way : Way (slot_in slots k) (outdone cost (slot_in slots k)) → (outdone cost (slot_in slots k)).state ≡ state
      by_way (Same is) = ap (λ (s : Slot). s.state) is ∙ e
      by_way (Shut closed open_is) = absurd (false≢true (sym shut ∙ ap (λ s. is_fresh s || is_back s || is_parked s) (sym e) ∙ open_is))

  -- a state but that of a slot closed by its bound was there before
  was : (k : ℕ) (state : SlotState) → state ≢ slot.Closed by.Bound → state_in new k ≡ state → state_in slots k ≡ state
  was k state other e =
      let there = state-known new k (λ h. other (sym e ∙ h)) in
      let known : k < length slots = omega (arith, there, length-map slots (outdone cost)) in
      by_way (way cost (slot_in slots k)) (sym (ap (λ (s : Slot). s.state) (at k known)) ∙ e)
    where
      by_way : Way (slot_in slots k) (outdone cost (slot_in slots k)) → (outdone cost (slot_in slots k)).state ≡ state → state_in slots k ≡ state
      by_way (Same is) h = sym (ap (λ (s : Slot). s.state) is) ∙ h
      by_way (Shut closed open_is) h = absurd (other (sym h ∙ closed))

  parent-same : (k : ℕ) → k < length slots → (slot_in new k).parent ≡ (slot_in slots k).parent
  parent-same k known = ap (λ (s : Slot). s.parent) (at k known) ∙ by_test ((is_fresh (slot_in slots k).state || is_back (slot_in slots k).state || is_parked (slot_in slots k).state) && nat_le cost (slot_in slots k).bound)
    where
      by_test : (t : Bool) → (cond t (record (slot_in slots k) { state = slot.Closed by.Bound }) (slot_in slots k)).parent ≡ (slot_in slots k).parent
      by_test true = refl
      by_test false = refl

  pub nodes-outdone : KeepsNodes slots new
  nodes-outdone = record { count = omega (arith, length-map slots (outdone cost)); node = λ k known. ap (λ (s : Slot). s.node) (at k known) ∙ node-same (slot_in slots k) }
    where
      node-same : (s : Slot) → (outdone cost s).node ≡ s.node
      node-same s = by_test ((is_fresh s.state || is_back s.state || is_parked s.state) && nat_le cost s.bound)
        where
          by_test : (t : Bool) → (cond t (record s { state = slot.Closed by.Bound }) s).node ≡ s.node
          by_test true = refl
          by_test false = refl

  split-open : (n : ℕ) → slot.Split n ≢ slot.Closed by.Bound
  split-open n e = cc

  fresh-open : slot.Fresh ≢ slot.Closed by.Bound
  fresh-open e = cc

  back-open : slot.Back ≢ slot.Closed by.Bound
  back-open e = cc

  -- ---- those that are Back still

  pub tables-outdone : (ended : List Bool) (hands : List (Option ℕ)) (back : List ℕ) (waiting : List Waiting) → AreTables slots ended hands back waiting
      → (p : ℕ → Bool) → ((k : ℕ) → p k ≡ is_back (state_in new k)) → AreTables new ended hands (filter p back) waiting
  tables-outdone ended hands back waiting tables p is =
      let less = filter-shorter p back in
      let few = tables.few in
      record {
        hands_are = hands-same slots new hands tables.hands_are (λ w k e. stays k (slot.Held w) (held-open w) refl e) (λ w k e. was k (slot.Held w) (held-open w) e);
        back_are = record {
          rising = RisesFrom-filter p 0 back tables.back_are.rising;
          each = λ k among. back-is (state_in new k) (sym (is k) ∙ (among-filter p back k among).1);
          all = λ k e. IsAmong-filter p back k (is k ∙ ap is_back e) (tables.back_are.all k (was k slot.Back back-open e));
        };
        few = omega (arith, less, few);
        waiting_are = waiting-kept slots new (record {
          count = omega (arith, length-map slots (outdone cost));
          parent = parent-same;
          fresh = λ k e. was k slot.Fresh fresh-open e;
          split = λ k n e. stays k (slot.Split n) (split-open n) refl e;
        }) waiting tables.waiting_are;
      }

-- ---- replace

pub replace-broken : (b : Book) (plan : Plan) (found : BrokenPlan) → IsJudged b.case.instance plan (Some found) → Does b (replace plan) (reply.Refused (refusing.NotLegal found)) b
replace-broken b plan found judged = Steps (record { found = Some found; judged = judged; answer = machine.NotLegal found; said = refl; same = refl })

module _ (b : Book) (plan : Plan) (judged : IsJudged b.case.instance plan None) (cost best : ℕ) (cost_is : cost ≡ cost_of b.case.instance plan) (best_is : best ≡ best_cost b) where
  abbrev dear : Bool
  dear = nat_le (best_cost b) (cost_of b.case.instance plan)

  abbrev not_cheaper : Out
  not_cheaper = (b, machine.NotCheaper (cost_of b.case.instance plan) (best_cost b))

  abbrev done : Out
  done = (replaced b plan, machine.Replaced (cost_of b.case.instance plan))

  pub replace-dear : best ≤ cost → Does b (replace plan) (reply.Refused (refusing.NotCheaper cost best)) b
  replace-dear high = Steps (record {
    found = None;
    judged = judged;
    answer = machine.NotCheaper cost best;
    said = refl;
    same = pick-true dear not_cheaper done is ∙ (λ i. (b, machine.NotCheaper (sym cost_is i) (sym best_is i)));
  })
    where
      is : dear ≡ true
      is = elim (leb_tells (best_cost b) (cost_of b.case.instance plan)) [ inl y ↦ y.0 | inr n ↦ absurd (omega (arith, high, cost_is, best_is, n.1)) ]

  way-cheap : cost < best → step (λ _ _. None) b (replace plan) ≡ done
  way-cheap low = pick-false dear not_cheaper done is
    where
      is : dear ≡ false
      is = elim (leb_tells (best_cost b) (cost_of b.case.instance plan)) [ inl y ↦ absurd (omega (arith, low, cost_is, best_is, y.1)) | inr n ↦ n.0 ]

  pub replace-sound : IsSound b → cost < best → IsSound (replaced b plan)
  replace-sound sound low = subst IsSound (ap (λ (o : Out). o.0) (way-cheap low)) (step-sound b (replace plan) None sound tt judged)

  pub replace-done : (new : Book) → cost < best → new ≡ replaced b plan → Does b (replace plan) (reply.Replaced cost) new
  replace-done new low is = Steps (record {
    found = None;
    judged = judged;
    answer = machine.Replaced cost;
    said = refl;
    same = way-cheap low ∙ (λ i. (sym is i, machine.Replaced (sym cost_is i)));
  })

-- ---- what the fields show

-- a list written over all of another one of its length
pub refill : {X : Type 0} (ws xs : List X) → length ws ≡ length xs → take (length xs) (ws ++ drop (length ws) xs) ≡ ws
refill [] [] count = refl
refill [] (x ∷ xs) count = absurd (omega (arith, count))
refill (w ∷ ws) [] count = absurd (omega (arith, count))
refill (w ∷ ws) (x ∷ xs) count = ap (λ l. w ∷ l) (refill ws xs (omega (arith, count)))

module _ (a : Inside) (b : Book) (same : seen a ≡ b) (cost : ℕ) (plan : Plan) (cost_is : cost ≡ cost_of b.case.instance plan) (ss : List StoredSlot) (all : ss ≡ map (outdone_stored cost) a.slots.items) where
  abbrev S : List Slot
  S = slots_of a.case.instance a.slots.items

  pub cost-here : cost ≡ cost_of a.case.instance plan
  cost-here = cost_is ∙ ap (λ (u : Book). cost_of u.case.instance plan) (sym same)

  pub slots-are : slots_of a.case.instance ss ≡ map (outdone cost) S
  slots-are = ap (slots_of a.case.instance) all ∙ slots-outdone a.case.instance cost a.slots.items

  pub replaced-is : (plans : List Plan) → plans ≡ a.plans.items ++ plan ∷ [] → (history : List Entry) → history ≡ a.history.items ++ entry.Replace ∷ []
      → record (seen a) { best = plan; plans = plans; slots = slots_of a.case.instance ss; history = history } ≡ replaced b plan
  replaced-is plans plans_are history more =
      (λ i. record (seen a) { best = plan; plans = plans_are i; slots = (slots-are ∙ ap (λ n. map (outdone n) S) cost-here) i; history = more i }) ∙ ap (λ u. replaced u plan) same

  pub replaced-tables : (back : List ℕ) → back ≡ filter (is_back_in ss) a.back → AreTables S a.ended (ids_of a.hands) a.back a.waiting.items → AreTables (slots_of a.case.instance ss) a.ended (ids_of a.hands) back a.waiting.items
  replaced-tables back back_is tables =
      subst (λ l. AreTables (slots_of a.case.instance ss) a.ended (ids_of a.hands) l a.waiting.items) (sym back_is)
      (subst (λ l. AreTables l a.ended (ids_of a.hands) (filter (is_back_in ss) a.back) a.waiting.items) (sym slots-are)
      (tables-outdone cost S a.ended (ids_of a.hands) a.back a.waiting.items tables (is_back_in ss)
      (λ k. ap is_back (sym (stored-any a.case.instance ss k).state) ∙ ap (λ l. is_back (state_in l k)) slots-are)))

  replaced-keeps : KeepsNodes S (slots_of a.case.instance ss)
  replaced-keeps = subst (KeepsNodes S) (sym slots-are) (nodes-outdone cost S)

  pub replaced-nodes : AreNodes a.case.instance S a.hands → AreNodes a.case.instance (slots_of a.case.instance ss) a.hands
  replaced-nodes = nodes-kept a.case.instance S (slots_of a.case.instance ss) replaced-keeps a.hands

  pub replaced-path : IsPath a.case.instance S a.path → IsPath a.case.instance (slots_of a.case.instance ss) a.path
  replaced-path = path-kept a.case.instance S (slots_of a.case.instance ss) replaced-keeps a.path
