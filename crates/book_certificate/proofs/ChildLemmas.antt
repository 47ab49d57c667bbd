-- Where the children of a split slot end.
use Rattle.std.proofs.Common.{◌≡◌, ℕ, suc, ◌+◌, ◌-◌, ◌<◌, ◌≤◌, inl, inr, length, sym, ap, ◌∙◌, subst, arith, Some, None, IfSome, IfNone}
use Rattle.std.specs.declared.option.Option.{Option}
use Rattle.std.proofs.lemmas.Bool.Decides.{leb_tells}
use Rattle.book_rules.specs.declared.book.SlotState.TheVariants as slot
use Rattle.book_rules.specs.Book.{Book, slot_at}
use Rattle.lock_rules.specs.Node.{Node}
use Rattle.book_rules.specs.NextSlot.{first_child}
use Rattle.book_rules.specs.Family.{child_count, IsChildSlot, KeepsFamily}

split-same : (m n : ℕ) → slot.Split m ≡ slot.Split n → m ≡ n
split-same m n e = ap first_child e

module _ (b : Book) (keeps : KeepsFamily b) (id first : ℕ) (split : (slot_at b id).state ≡ slot.Split first) where
  abbrev pub count : ℕ
  count = child_count b.case.instance (slot_at b id).node

  pub split-lacks : (slot_at b id).node.depth < length b.case.instance.ships
  split-lacks = (keeps.children id first split).lacks

  -- a slot before the end is child number `child - first`
  pub child-slot : (child : ℕ) → first ≤ child → child < first + count → IsChildSlot b id (child - first) child
  child-slot child low high =
      let place : first + (child - first) ≡ child = omega (arith, low) in
      subst (λ k. IsChildSlot b id (child - first) k) place ((keeps.children id first split).child (child - first) (omega (arith, low, high)))

  -- it is a slot, one deeper
  pub child-known : (child : ℕ) → first ≤ child → child < first + count → child < length b.slots
  child-known child low high = (child-slot child low high).known

  pub child-deeper : (child : ℕ) → first ≤ child → child < first + count → (slot_at b child).node.depth ≡ suc (slot_at b id).node.depth
  child-deeper child low high = ap (λ (n : Node). n.depth) (child-slot child low high).node_is

  -- a slot of this parent stands before the end
  pub child-before : (child : ℕ) → first ≤ child → child < length b.slots → (slot_at b child).parent ≡ id → child < first + count
  child-before child low known up =
      let later = (keeps.children id first split).later in
      let born = keeps.born child (omega (arith, low, later)) known in
      let own : (slot_at b id).state ≡ slot.Split born.first = subst (λ p. (slot_at b p).state ≡ slot.Split born.first) up born.split in
      let same : first ≡ born.first = split-same first born.first (sym split ∙ own) in
      let number : (slot_at b child).number < count = subst (λ p. (slot_at b child).number < child_count b.case.instance (slot_at b p).node) up born.number in
      let place = born.place in
      omega (arith, same, number, place)

  -- what is told of the parent of a slot
  abbrev pub IsTold : ℕ → Option ℕ → Type 0
  IsTold child told = IfSome told (λ parent. (child < length b.slots) × ((slot_at b child).parent ≡ parent)) × IfNone told (length b.slots ≤ child)

  pub told-before : (child : ℕ) (told : Option ℕ) → first ≤ child → IsTold child told → told ≡ Some id → (child < length b.slots) × (child < first + count)
  told-before child None low is e = absurd cc
  told-before child (Some p) low is e =
      let same : p ≡ id = cc in
      (is.0.0, child-before child low is.0.0 (is.0.1 ∙ same))

  -- the first slot of another parent is the end
  pub told-end : (end : ℕ) (told : Option ℕ) → first ≤ end → end ≤ first + count → IsTold end told → (told ≡ Some id → ⊥) → end ≡ first + count
  told-end end told low high is other =
      elim (leb_tells (first + count) end) [
        | inl y ↦ let reached = y.1 in omega (arith, high, reached)
        | inr n ↦ let before = n.1 in absurd (still told is other (child-slot end low (omega (arith, before))))
      ]
    where
      still : (told : Option ℕ) → IsTold end told → (told ≡ Some id → ⊥) → IsChildSlot b id (end - first) end → ⊥
      still None is other own = let known = own.known in let past = is.1 in omega (arith, known, past)
      still (Some p) is other own = other (ap (λ k. Some k) (sym is.0.1 ∙ own.parent_is))
