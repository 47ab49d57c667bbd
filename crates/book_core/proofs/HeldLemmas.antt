-- The nodes that are kept in hands.
use Rattle.std.proofs.Common.{◌≡◌, ℕ, zero, suc, ◌<◌, ◌≤◌, List, [], ◌∷◌, length, refl, sym, ap, ◌∙◌, subst, arith, slice_index_or, slice_set, Some, None}
use Rattle.std.specs.Prelude.{IfSome}
use Rattle.std.specs.declared.option.Option.{Option}
use Rattle.lock_model.specs.declared.instance.Instance.{Instance}
use Rattle.book_rules.specs.declared.book.SlotState.{SlotState}
use Rattle.book_rules.specs.declared.book.SlotState.TheVariants as slot
use Rattle.book_rules.specs.Book.{Slot}
use Rattle.lock_rules.specs.Node.{Node}
use Rattle.book_core.specs.declared.hand.Hand.{Hand}
use Rattle.book_core.specs.Hands.{id_of, ids_of, held_at, filled, IsNodeIn, IsHand, AreNodes}
use Rattle.book_core.specs.Tables.{hand_at}
use Rattle.book_core.specs.Changes.{slot_in, Changes, let_go, has_some}

-- ---- the slots in hands

pub ids-at : (hands : List (Option Hand)) (w : ℕ) → hand_at (ids_of hands) w ≡ id_of (held_at hands w)
ids-at [] w = refl
ids-at (h ∷ hs) zero = refl
ids-at (h ∷ hs) (suc w) = ids-at hs w

pub ids-set : (hands : List (Option Hand)) (w : ℕ) (h : Option Hand) → slice_set (ids_of hands) w (id_of h) ≡ ids_of (slice_set hands w h)
ids-set [] w h = refl
ids-set (g ∷ hs) zero h = refl
ids-set (g ∷ hs) (suc w) h = ap (λ l. id_of g ∷ l) (ids-set hs w h)

pub ids-let_go : (s : SlotState) (hands : List (Option Hand)) → let_go s (ids_of hands) ≡ ids_of (let_go s hands)
ids-let_go (slot.Held w) hands = ids-set hands w None
ids-let_go slot.Fresh hands = refl
ids-let_go slot.Back hands = refl
ids-let_go (slot.Parked c p) hands = refl
ids-let_go (slot.Split first) hands = refl
ids-let_go (slot.Closed why) hands = refl

pub some-ids : (hands : List (Option Hand)) → has_some hands ≡ has_some (ids_of hands)
some-ids [] = refl
some-ids (None ∷ hs) = some-ids hs
some-ids (Some h ∷ hs) = refl

pub length-ids : (hands : List (Option Hand)) → length (ids_of hands) ≡ length hands
length-ids [] = refl
length-ids (h ∷ hs) = ap suc (length-ids hs)

-- what an index reads, whatever stands for what is past the end
pub at-any : (hands : List (Option Hand)) (w : ℕ) (d : Option Hand) → w < length hands → slice_index_or hands w d ≡ held_at hands w
at-any [] w d known = absurd (omega (arith, known))
at-any (h ∷ hs) zero d known = refl
at-any (h ∷ hs) (suc w) d known = at-any hs w d (omega (arith, known))

-- ---- slots keep their nodes

pub record KeepsNodes (old new : List Slot) : Type 0 where
  pub count : length old ≤ length new
  pub node : (k : ℕ) → k < length old → (slot_in new k).node ≡ (slot_in old k).node

pub changed-nodes : (old new : List Slot) (id : ℕ) (state : SlotState) → Changes old id state new → KeepsNodes old new
changed-nodes old new id state change = record { count = omega (arith, change.count); node = λ k known. ap (λ (s : Slot). s.node) (change.rest k) }

-- whatever holds of a hand and of all hands holds of all once it is put among them
each-set : (P : Option Hand → Type 0) (hands : List (Option Hand)) (w v : ℕ) (h : Option Hand) → P h → P (held_at hands v) → P (held_at (slice_set hands w h) v)
each-set P [] w v h own other = other
each-set P (g ∷ hs) zero zero h own other = own
each-set P (g ∷ hs) zero (suc v) h own other = other
each-set P (g ∷ hs) (suc w) zero h own other = other
each-set P (g ∷ hs) (suc w) (suc v) h own other = each-set P hs w v h own other

module _ (I : Instance) where
  pub node-kept : (old new : List Slot) → KeepsNodes old new → (id : ℕ) (node : Node) → IsNodeIn I old id node → IsNodeIn I new id node
  node-kept old new keeps id node h = record { known = omega (arith, h.known, keeps.count); same = h.same ∙ sym (keeps.node id h.known); node = h.node }

  hand-kept : (old new : List Slot) → KeepsNodes old new → (h : Option Hand) → IfSome h (IsHand I old) → IfSome h (IsHand I new)
  hand-kept old new keeps None is = tt
  hand-kept old new keeps (Some h) is = record { own = node-kept old new keeps h.id h.node is.own; bounds = is.bounds }

  pub nodes-kept : (old new : List Slot) → KeepsNodes old new → (hands : List (Option Hand)) → AreNodes I old hands → AreNodes I new hands
  nodes-kept old new keeps hands nodes = record { each = λ w. hand-kept old new keeps (held_at hands w) (nodes.each w) }

  module _ (slots : List Slot) (hands : List (Option Hand)) (nodes : AreNodes I slots hands) where
    pub nodes-set : (w : ℕ) (h : Option Hand) → IfSome h (IsHand I slots) → AreNodes I slots (slice_set hands w h)
    nodes-set w h is = record { each = λ v. each-set (λ o. IfSome o (IsHand I slots)) hands w v h is (nodes.each v) }

    pub nodes-let_go : (s : SlotState) → AreNodes I slots (let_go s hands)
    nodes-let_go (slot.Held w) = nodes-set w None tt
    nodes-let_go slot.Fresh = nodes
    nodes-let_go slot.Back = nodes
    nodes-let_go (slot.Parked c p) = nodes
    nodes-let_go (slot.Split first) = nodes
    nodes-let_go (slot.Closed why) = nodes

    filling : (h : Option Hand) → IfSome h (IsHand I slots) → IfSome (filled I h) (IsHand I slots)
    filling None is = tt
    filling (Some h) is = record { own = is.own; bounds = refl }

    pub nodes-filled : (w : ℕ) (h : Option Hand) → h ≡ filled I (held_at hands w) → AreNodes I slots (slice_set hands w h)
    nodes-filled w h is = nodes-set w h (subst (λ o. IfSome o (IsHand I slots)) (sym is) (filling (held_at hands w) (nodes.each w)))

-- the slots in hands stay where bounds come into one
pub ids-filled : (I : Instance) (hands : List (Option Hand)) (w : ℕ) (h : Option Hand) → h ≡ filled I (held_at hands w) → ids_of (slice_set hands w h) ≡ ids_of hands
ids-filled I [] w h is = refl
ids-filled I (g ∷ hs) zero h is = ap (λ o. id_of o ∷ ids_of hs) is ∙ ap (λ n. n ∷ ids_of hs) (same g)
  where
    same : (o : Option Hand) → id_of (filled I o) ≡ id_of o
    same None = refl
    same (Some h) = refl
ids-filled I (g ∷ hs) (suc w) h is = ap (λ l. id_of g ∷ l) (ids-filled I hs w h is)
