-- The hand that holds a slot, and the bounds in it.
use Rattle.std.proofs.Common.{◌≡◌, ℕ, ◌+◌, ◌<◌, List, slice_set, length, map, refl, sym, ap, ◌∙◌, subst, arith, slice_index_or, Some, None}
use Rattle.std.proofs.lemmas.Option.{none-some, same_Some}
use Rattle.std.specs.Prelude.{IfSome}
use Rattle.std.specs.declared.option.Option.{Option}
use Rattle.lock_model.specs.declared.limits.TheConstants.{WORKERS_AND_DRIVER}
use Rattle.lock_model.specs.declared.instance.Instance.{Instance}
use Rattle.lock_rules.specs.Arrival.{next_ship}
use Rattle.lock_rules.specs.Bound.{bound_of, least_number}
use Rattle.lock_rules.specs.Children.{children_of}
use Rattle.book_rules.specs.declared.book.SlotState.TheVariants as slot
use Rattle.book_rules.specs.Book.{Book, Slot, slot_at}
use Rattle.lock_rules.specs.Node.{Node}
use Rattle.book_rules.specs.Step.{probe_at}
use Rattle.flow_bounds.proofs.ChildLemmas.{least-child}
use Rattle.book_core.specs.declared.book.Book.TheInside.{Inside}
use Rattle.book_core.specs.declared.hand.Hand.{Hand}
use Rattle.book_core.specs.Stored.{slots_of}
use Rattle.book_core.specs.Hands.{id_of, ids_of, held_at, bounds_in, bounds_below, bounds_at, filled, laid, IsNodeIn, IsHand, IsHandOf, IsBounding, AreNodes}
use Rattle.std.proofs.lemmas.List.{get_or-set_same, set-set}
use Rattle.book_core.specs.Keeps.{IsSound, AreTables}
use Rattle.book_core.specs.Seen.{seen, IsKept}
use Rattle.book_core.proofs.HandLemmas.{hand-known}
use Rattle.book_core.proofs.HeldLemmas.{at-any, ids-at, length-ids, ids-filled, nodes-filled}
use Rattle.book_core.proofs.NodeLemmas.{slot-node}

-- the bounds below a slot's node
pub below-at : (b : Book) (id : ℕ) (I : Instance) → I ≡ b.case.instance → (node : Node) → node ≡ (slot_at b id).node → bounds_below I node ≡ bounds_at b id
below-at b id I I_is node same =
    ap (λ J. bounds_below J node) I_is ∙ ap (λ (n : Node). map (bound_of b.case.instance (n.depth + 1)) (children_of b.case.instance n.depth n.lines)) same

-- the least of them is the probe of the ship that the node lacks first
pub least-below : (b : Book) → IsSound b → (id : ℕ) → id < length b.slots → (slot_at b id).node.depth < length b.case.instance.ships → least_number (bounds_at b id) ≡ probe_at b id (next_ship b.case.instance (slot_at b id).node.depth)
least-below b sound id known lacks = least-child b.case.instance (slot_at b id).node.depth (slot_at b id).node.lines (slot-node b sound id known) lacks

module _ (a : Inside) (kept : IsKept a) (b : Book) (same : seen a ≡ b) (w id : ℕ) (held : (slot_at b id).state ≡ slot.Held w) where
  abbrev S : List Slot
  S = slots_of a.case.instance a.slots.items

  held-here : id_of (held_at a.hands w) ≡ Some id
  held-here = sym (ids-at a.hands w) ∙ kept.tables.hands_are.hand w id (ap (λ (u : Book). (slot_at u id).state) same ∙ held)

  -- a worker's number is one of nine
  pub holder-few : w < WORKERS_AND_DRIVER
  holder-few =
      let known = hand-known (ids_of a.hands) w id (ids-at a.hands w ∙ held-here) in
      omega (arith, known, kept.tables.hands_are.nine)

  -- what an index reads of its hand
  pub at-hand : (d : Option Hand) → slice_index_or a.hands w d ≡ held_at a.hands w
  at-hand d =
      let few = holder-few in
      at-any a.hands w d (omega (arith, few, kept.tables.hands_are.nine, length-ids a.hands))

  -- its hand isn't empty
  pub hand-some : held_at a.hands w ≡ None → ⊥
  hand-some e = none-some id (ap id_of (sym e) ∙ held-here)

  -- and holds the slot
  pub hand-of : (g : Hand) → held_at a.hands w ≡ Some g → IsHandOf b id g
  hand-of g e =
      let is : IsHand a.case.instance S g = subst (λ h. IfSome h (IsHand a.case.instance S)) e (kept.nodes.each w) in
      let own : g.id ≡ id = same_Some g.id id (ap id_of (sym e) ∙ held-here) in
      subst (λ u. IsHandOf u id g) same (record { own = subst (λ k. IsNodeIn a.case.instance S k g.node) own is.own; bounds = is.bounds })

  below-hand : (g : Hand) → held_at a.hands w ≡ Some g → bounds_below a.case.instance g.node ≡ bounds_at b id
  below-hand g e =
      let of = hand-of g e in
      below-at b id a.case.instance (ap (λ (u : Book). u.case.instance) same) g.node of.own.same

  -- the slot's bounds are those of its node's children
  pub laid-filled : (bounds : List ℕ) → bounds ≡ bounds_at b id → laid bounds (held_at a.hands w) ≡ filled a.case.instance (held_at a.hands w)
  laid-filled bounds is = by-hand (held_at a.hands w) refl
    where
      by-hand : (h : Option Hand) → held_at a.hands w ≡ h → laid bounds h ≡ filled a.case.instance h
      by-hand None e = refl
      by-hand (Some g) e = ap (λ l. Some (record g { bounds = Some l })) (is ∙ sym (below-hand g e))

  -- the bounds of its node's children may be computed
  pub bounding : (slot_at b id).node.depth < length b.case.instance.ships → IfSome (held_at a.hands w) (IsBounding a.case.instance)
  bounding lacks = by-hand (held_at a.hands w) refl
    where
      by-hand : (h : Option Hand) → held_at a.hands w ≡ h → IfSome h (IsBounding a.case.instance)
      by-hand None e = tt
      by-hand (Some g) e =
          let is : IsHand a.case.instance S g = subst (λ h. IfSome h (IsHand a.case.instance S)) e (kept.nodes.each w) in
          let depth : g.node.depth ≡ (slot_at b id).node.depth = ap (λ (n : Node). n.depth) (hand-of g e).own.same in
          let ships : length a.case.instance.ships ≡ length b.case.instance.ships = ap (λ (u : Book). length u.case.instance.ships) same in
          record { node = is.own.node; lacks = omega (arith, lacks, depth, ships); bounds = is.bounds }

  -- and are those of the slot then
  pub bounds-filled : (h : Option Hand) → h ≡ filled a.case.instance (held_at a.hands w) → bounds_in h ≡ bounds_at b id
  bounds-filled h is = ap bounds_in is ∙ by-hand (held_at a.hands w) refl
    where
      by-hand : (o : Option Hand) → held_at a.hands w ≡ o → bounds_in (filled a.case.instance o) ≡ bounds_at b id
      by-hand None e = absurd (hand-some e)
      by-hand (Some g) e = below-hand g e

  -- all hands, once they are there
  module _ (K : Instance) (K_is : K ≡ a.case.instance) (hands : List (Option Hand)) (hands_are : hands ≡ slice_set a.hands w (filled K (held_at a.hands w))) where
    abbrev full : Option Hand
    full = filled a.case.instance (held_at a.hands w)

    are : hands ≡ slice_set a.hands w full
    are = hands_are ∙ ap (λ J. slice_set a.hands w (filled J (held_at a.hands w))) K_is

    pub tables-filled : AreTables S a.ended (ids_of hands) a.back a.waiting.items
    tables-filled =
        subst (λ hs. AreTables S a.ended (ids_of hs) a.back a.waiting.items) (sym are)
        (subst (λ ids. AreTables S a.ended ids a.back a.waiting.items) (sym (ids-filled a.case.instance a.hands w full refl)) kept.tables)

    pub hands-filled : AreNodes a.case.instance S hands
    hands-filled = subst (AreNodes a.case.instance S) (sym are) (nodes-filled a.case.instance S a.hands kept.nodes w full refl)

    within : w < length a.hands
    within = let few = holder-few in omega (arith, few, kept.tables.hands_are.nine, length-ids a.hands)

    read : (d : Option Hand) → slice_index_or hands w d ≡ full
    read d = ap (λ hs. slice_index_or hs w d) are ∙ get_or-set_same a.hands w full d within

    -- what an index reads of the hand
    pub bounds-here : (d : Option Hand) → bounds_in (slice_index_or hands w d) ≡ bounds_at b id
    bounds-here d = bounds-filled (slice_index_or hands w d) (read d)

    pub hands-left : slice_set hands w None ≡ slice_set a.hands w None
    hands-left = ap (λ hs. slice_set hs w None) are ∙ set-set a.hands w full None
