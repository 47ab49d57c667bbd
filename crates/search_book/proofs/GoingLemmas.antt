-- Takings, and nodes that were worked out ahead.
use Rattle.std.proofs.Common.{◌≡◌, ◌<◌, ℕ, suc, ◌+◌, List, [], ◌∷◌, length, refl, sym, ap, ◌∙◌, subst, arith, true, Some, slice_index_or, take, take_all, drop, ◌-◌}
use Rattle.std.proofs.lemmas.Option.{same_Some}
use Rattle.std.specs.List.{All}
use Rattle.std.proofs.lemmas.List.Elements.{All-take, All-drop}
use Rattle.mooring_rules.specs.declared.breaks.BrokenPlan.{BrokenPlan}
use Rattle.master_branch.specs.Node.{IsNodeOf}
use Rattle.lock_rules.specs.Node.{Node}
use Rattle.book_rules.specs.Book.{Book, slot_at, is_held}
use Rattle.book_rules.specs.Events as machine
use Rattle.book_rules.specs.Step.{step}
use Rattle.book_core.specs.Hands.{IsNodeIn}
use Rattle.book_core.specs.declared.reply.Grant.{Grant}
use Rattle.book_core.specs.declared.reply.Grant.TheVariants as grant
use Rattle.book_core.specs.declared.reply.Reply.{Reply}
use Rattle.book_core.specs.declared.reply.Reply.TheVariants as reply
use Rattle.book_core.specs.Replies.{Grants, HasNode, IsInHand, grant_told, told}
use Rattle.search_book.specs.declared.ahead.Ahead.{Ahead}
use Rattle.search_book.specs.declared.event.Event.{Event}
use Rattle.search_book.specs.declared.gone.Gone.{Gone}
use Rattle.search_book.specs.declared.next.Next.{Next}
use Rattle.search_book.specs.declared.next.Next.TheVariants as next
use Rattle.search_book.specs.Applied.{Applies, Takes}
use Rattle.search_book.specs.Going.{GoesAhead, IsNextAhead, IsStop, Passes, ending_of}
use Rattle.search_book.specs.Granting.{IsAstray, IsFirstAt, IsHeldAt}
use Rattle.search_book.specs.Replies.{is_accepting}
use Rattle.book_core.proofs.EventLemmas.{grants-answers, grants-node}

-- ---- a taking

-- a reply that tells what came of a taking is its reply
pub grants-takes : (old : Book) (w : ℕ) (g : Grant) (new : Book) (r : Reply) → Grants old w g new → told r ≡ Some (grant_told new g) → HasNode new.case.instance r → Takes old w r new
grants-takes old w g new r grants said node = record { step = grants-answers old w g new grants r said; node = grants-node old w g new grants r node }

told-slot : (new : Book) (id : ℕ) (node : Node) → node ≡ (slot_at new id).node → told (reply.Node id node) ≡ Some (grant_told new (grant.Slot id))
told-slot new id node same = ap (λ n. Some (machine.Node id n)) same

-- a slot was given whose node is known
pub takes-slot : (old : Book) (w id : ℕ) (new : Book) (node : Node) → Grants old w (grant.Slot id) new → IsHeldAt new id node → Takes old w (reply.Node id node) new
takes-slot old w id new node grants is = grants-takes old w (grant.Slot id) new (reply.Node id node) grants (told-slot new id node is.same) is.of

-- ---- an event and a taking

pub passes : (old : Book) (e : Event) (ended : Reply) (between : Book) → Applies old e ended between → is_accepting ended ≡ true
    → (w id : ℕ) (rest : List Ahead) (new : Book) → Grants between w (grant.Slot id) new → IsFirstAt new id rest → Passes old e w rest id new
passes old e ended between step said w id [] new grants is = is
passes old e ended between step said w id (a ∷ rest) new grants is =
    record { ended = ended; between = between; step = step; accepted = said; taken = takes-slot between w id new a.foreseen.node grants is }

-- the slot and the node of a reply to a taking
record IsSlot (b : Book) (g : Grant) (id : ℕ) (node : Node) : Type 0 where
  is : g ≡ grant.Slot id
  same : node ≡ (slot_at b id).node

abbrev told_node : ℕ → Node → machine.Reply BrokenPlan
told_node id n = machine.Node id n

same-id : (a b : ℕ) (n m : Node) → told_node a n ≡ told_node b m → a ≡ b
same-id a b n m e = cc

same-node : (a b : ℕ) (n m : Node) → told_node a n ≡ told_node b m → n ≡ m
same-node a b n m e = cc

slot-of : (b : Book) (g : Grant) (id : ℕ) (node : Node) → told_node id node ≡ grant_told b g → IsSlot b g id node
slot-of b (grant.Slot k) id node e =
    let own : id ≡ k = same-id id k node (slot_at b k).node e in
    record { is = ap grant.Slot (sym own); same = same-node id k node (slot_at b k).node e ∙ ap (λ i. (slot_at b i).node) (sym own) }
slot-of b (grant.Ended k) id node e = cc
slot-of b (grant.Holds k) id node e = cc
slot-of b (grant.NodesSpent k) id node e = cc
slot-of b grant.Idle id node e = cc
slot-of b grant.Done id node e = cc

held-by-grant : (b : Book) (g : Grant) (id : ℕ) (node : Node) → IsInHand b g → IsNodeOf b.case.instance node → IsSlot b g id node → IsHeldAt b id node
held-by-grant b g id node held is slot = record { held = subst (IsInHand b) slot.is held; same = slot.same; of = is }

-- with nothing ahead no node is next
none-ahead : (r : Reply) → IsNextAhead (next.Taken r) [] → ⊥
none-ahead (reply.Node id node) h = h
none-ahead _ h = h

-- a taking that gave no slot of the next node has a reply without it
off-way : (b : Book) (g : Grant) (rest : List Ahead) → IsAstray b g rest → IsInHand b g → (r : Reply) → told r ≡ Some (grant_told b g) → HasNode b.case.instance r → IsNextAhead (next.Taken r) rest → ⊥
off-way b g (a ∷ rest) astray held (reply.Node id node) said is same =
    let slot = slot-of b g id node (same_Some (told_node id node) (grant_told b g) said) in
    astray.off id slot.is (subst (IsHeldAt b id) same (held-by-grant b g id node held is slot))
off-way b g [] astray held r said is same = none-ahead r same
off-way b g (a ∷ rest) astray held _ said is same = same

pub stops : (old : Book) (e : Event) (ended : Reply) (between : Book) → Applies old e ended between → is_accepting ended ≡ true
    → (w : ℕ) (g : Grant) (rest : List Ahead) (new : Book) → Grants between w g new → IsInHand new g → IsAstray new g rest
    → (r : Reply) → told r ≡ Some (grant_told new g) → HasNode new.case.instance r → IsStop old e w rest (next.Taken r) new
stops old e ended between step said w g rest new grants held astray r tells node = record {
  step = record { ended = ended; between = between; step = step; accepted = said; taken = grants-takes between w g new r grants tells node };
  off = off-way new g rest astray held r tells node;
}

-- ---- a stretch of nodes

-- what comes of the nodes that are left, from here on, comes of all of them
pub record Went (w : ℕ) (old : Book) (id : ℕ) (all : List Ahead) (b : Book) (held : ℕ) (left : List Ahead) (place : ℕ) : Type 0 where
  pub goes : (k : ℕ) (gone : Gone) (end : Book) → GoesAhead w b held left k gone end → GoesAhead w old id all (place + k) gone end

-- a list by its first item and the others
first-rest : (left : List Ahead) (one : Ahead) → one ≡ slice_index_or left 0 one → 0 < length left → left ≡ one ∷ take (length left - 1) (drop 1 left)
first-rest [] one is some = absurd (omega (arith, some))
first-rest (a ∷ rest) one is some = ap (λ h. h ∷ rest) (sym is) ∙ ap (λ t. one ∷ t) (sym (take_all (length rest) rest (omega arith)) ∙ ap (λ n. take n rest) (omega arith))

pub rest-all : (P : Ahead → Type 0) (left : List Ahead) → All P left → All P (take (length left - 1) (drop 1 left))
rest-all P left all = All-take P (length left - 1) (drop 1 left) (All-drop P 1 left all)

module _ (w : ℕ) (old : Book) (id : ℕ) (all : List Ahead) (b : Book) (held : ℕ) (left : List Ahead) (place : ℕ) (went : Went w old id all b held left place) (some : 0 < length left)
    (one : Ahead) (one_is : one ≡ slice_index_or left 0 one) (rest : List Ahead) (rest_is : rest ≡ take (length left - 1) (drop 1 left)) (e : Event) (e_is : e ≡ ending_of held one.ending) (laid : Book) (same : laid ≡ b) where
  goes-from : (k : ℕ) (gone : Gone) (end : Book) → GoesAhead w b held (one ∷ rest) k gone end → GoesAhead w old id all (place + k) gone end
  goes-from k gone end h =
      let parts = first-rest left one one_is some ∙ ap (λ t. one ∷ t) (sym rest_is) in
      went.goes k gone end (subst (λ l. GoesAhead w b held l k gone end) (sym parts) h)

  -- one of them is passed
  pub went-on : (taken : ℕ) (new : Book) → Passes laid e w rest taken new → Went w old id all new taken rest (place + 1)
  went-on taken new passes =
      let own = subst (λ (u : Book). Passes u (ending_of held one.ending) w rest taken new) same (subst (λ (f : Event). Passes laid f w rest taken new) e_is passes) in
      record { goes = λ k gone end h. subst (λ n. GoesAhead w old id all n gone end) (omega arith) (goes-from (suc k) gone end (taken, new, own, h)) }

  -- the worker stops at one of them
  pub went-all : (last : Next) (end : Book) → IsStop laid e w rest last end → GoesAhead w old id all place (record { place = place; id = held; next = last }) end
  went-all last end stop =
      let own = subst (λ (u : Book). IsStop u (ending_of held one.ending) w rest last end) same (subst (λ (f : Event). IsStop laid f w rest last end) e_is stop) in
      let gone : Gone = record { place = place; id = held; next = last } in
      subst (λ n. GoesAhead w old id all n gone end) (omega arith) (goes-from 0 gone end (refl, own))

-- equal nodes of the machine are equal nodes
pub held-own : (b : Book) (id : ℕ) (own node : Node) → is_held (slot_at b id).state ≡ true → IsNodeIn b.case.instance b.slots id own → own ≡ node → IsHeldAt b id node
held-own b id own node held is same = subst (IsHeldAt b id) same (record { held = held; same = is.same; of = is.node })

pub own-held : (b : Book) (id : ℕ) (own node : Node) → IsNodeIn b.case.instance b.slots id own → IsHeldAt b id node → own ≡ node
own-held b id own node is held = is.same ∙ sym held.same
