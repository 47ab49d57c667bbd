-- The slots of a book in preorder: each is a slot, and each slot is among them.
use Rattle.std.proofs.Common.{◌≡◌, ℕ, zero, suc, ◌+◌, ◌-◌, ◌<◌, ◌≤◌, inl, inr, length, refl, sym, ap, subst, arith}
use Rattle.list_laws.specs.Among.{IsAmong}
use Rattle.lock_rules.proofs.SplitLemmas.{IsAmong-flat_map}
use Rattle.book_rules.specs.declared.book.SlotState.{SlotState}
use Rattle.book_rules.specs.declared.book.SlotState.TheVariants as slot
use Rattle.book_rules.specs.Book.{Book, slot_at}
use Rattle.lock_rules.specs.Node.{Node}
use Rattle.book_rules.specs.Family.{child_count, KeepsFamily}
use Rattle.book_certificate.specs.Preorder.{children_slots, preorder, slots_in_order}
use Rattle.lock_rules.proofs.AmongLemmas.{among-flat_map}
use Rattle.book_certificate.proofs.ListLemmas.{range-among, among-range, all-below}

pub root-among : (b : Book) (lacking id : ℕ) → IsAmong (preorder b lacking id) id
root-among b zero id = inl refl
root-among b (suc lacking) id = inl refl

module _ (b : Book) (family : KeepsFamily b) where
  -- a slot among the children of another
  pub record IsChildOf (id child : ℕ) : Type 0 where
    pub known : child < length b.slots
    pub deeper : (slot_at b child).node.depth ≡ suc (slot_at b id).node.depth
    pub lacks : (slot_at b id).node.depth < length b.case.instance.ships

  child-of : (id child : ℕ) (state : SlotState) → (slot_at b id).state ≡ state → IsAmong (children_slots b id state) child → IsChildOf id child
  child-of id child (slot.Split first) is h =
      let within = among-range first (child_count b.case.instance (slot_at b id).node) child h in
      let kids = family.children id first is in
      let at : first + (child - first) ≡ child = omega (arith, within.0) in
      let own = kids.child (child - first) (omega (arith, within.0, within.1)) in
      record {
        known = subst (λ c. c < length b.slots) at own.known;
        deeper = subst (λ c. (slot_at b c).node.depth ≡ suc (slot_at b id).node.depth) at (ap (λ (n : Node). n.depth) own.node_is);
        lacks = kids.lacks;
      }
  child-of id child _ is h = absurd h

  pub is-child : (id child : ℕ) → IsAmong (children_slots b id (slot_at b id).state) child → IsChildOf id child
  is-child id child h = child-of id child (slot_at b id).state refl h

  -- each number is that of a slot
  pub visited-known : (lacking id : ℕ) → id < length b.slots → (p : ℕ) → IsAmong (preorder b lacking id) p → p < length b.slots
  visited-known zero id known p (inl e) = subst (λ k. k < length b.slots) e known
  visited-known zero id known p (inr h) = absurd h
  visited-known (suc lacking) id known p (inl e) = subst (λ k. k < length b.slots) e known
  visited-known (suc lacking) id known p (inr h) =
      let at = among-flat_map (preorder b lacking) (children_slots b id (slot_at b id).state) p h in
      visited-known lacking at.0 (is-child id at.0 at.1).known p at.2

  -- a child of a split slot is among its children
  split-child : (id first k : ℕ) → (slot_at b id).state ≡ slot.Split first → k < child_count b.case.instance (slot_at b id).node → IsAmong (children_slots b id (slot_at b id).state) (first + k)
  split-child id first k split within = subst (λ s. IsAmong (children_slots b id s) (first + k)) (sym split) (range-among first (child_count b.case.instance (slot_at b id).node) k within)

  -- with each split slot its children are there
  closed : (lacking id : ℕ) → lacking + (slot_at b id).node.depth ≡ length b.case.instance.ships → (p first k : ℕ) → IsAmong (preorder b lacking id) p → (slot_at b p).state ≡ slot.Split first → k < child_count b.case.instance (slot_at b p).node → IsAmong (preorder b lacking id) (first + k)
  closed zero id count p first k (inl e) split within =
      let lacks = (family.children p first split).lacks in
      let same : (slot_at b id).node.depth ≡ (slot_at b p).node.depth = ap (λ i. (slot_at b i).node.depth) e in
      absurd (omega (arith, lacks, same, count))
  closed zero id count p first k (inr h) split within = absurd h
  closed (suc lacking) id count p first k (inl e) split within =
      let own : IsAmong (children_slots b id (slot_at b id).state) (first + k) = subst (λ i. IsAmong (children_slots b i (slot_at b i).state) (first + k)) (sym e) (split-child p first k split within) in
      inr (IsAmong-flat_map (preorder b lacking) (children_slots b id (slot_at b id).state) (first + k) (first + k) own (root-among b lacking (first + k)))
  closed (suc lacking) id count p first k (inr h) split within =
      let at = among-flat_map (preorder b lacking) (children_slots b id (slot_at b id).state) p h in
      let deep = (is-child id at.0 at.1).deeper in
      inr (IsAmong-flat_map (preorder b lacking) (children_slots b id (slot_at b id).state) at.0 (first + k) at.1 (closed lacking at.0 (omega (arith, deep, count)) p first k at.2 split within))

  pub root-depth : length b.case.instance.ships + (slot_at b 0).node.depth ≡ length b.case.instance.ships
  root-depth = let none : (slot_at b 0).node.depth ≡ 0 = ap (λ (n : Node). n.depth) family.root_is in omega (arith, none)

  visited-below : (most id : ℕ) → id < most → id < length b.slots → IsAmong (slots_in_order b) id
  visited-below zero id low known = absurd (omega (arith, low))
  visited-below (suc most) zero low known = root-among b (length b.case.instance.ships) 0
  visited-below (suc most) (suc id) low known =
      let born = family.born (suc id) (omega arith) known in
      let up = (slot_at b (suc id)).parent in
      let later = (family.children up born.first born.split).later in
      let place = born.place in
      let before : up < suc id = omega (arith, later, place) in
      let parent = visited-below most up (omega (arith, before, low)) (omega (arith, before, known)) in
      subst (λ k. IsAmong (slots_in_order b) k) place
      (closed (length b.case.instance.ships) 0 root-depth up born.first (slot_at b (suc id)).number parent born.split born.number)

  -- each slot is among the numbers
  pub visited : (id : ℕ) → id < length b.slots → IsAmong (slots_in_order b) id
  visited id known = visited-below (suc id) id (omega arith) known

  -- so there are as many numbers at least
  pub as-many : length b.slots ≤ length (slots_in_order b)
  as-many = all-below (length b.slots) (slots_in_order b) visited
