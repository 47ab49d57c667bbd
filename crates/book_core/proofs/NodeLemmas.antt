-- The node of a slot is a child of its parent's.
use Rattle.std.proofs.Common.{◌≡◌, ℕ, zero, suc, ◌+◌, ◌<◌, List, [], ◌∷◌, length, sym, ap, ◌∙◌, arith, slice_index_or, slice_get, Some}
use Rattle.std.proofs.lemmas.Option.{same_Some, none-some}
use Rattle.lock_model.specs.declared.instance.Instance.{Instance}
use Rattle.lock_rules.specs.Node.{Node, IsNode, root_lines}
use Rattle.book_rules.specs.Book.{Book, no_slot, slot_at}
use Rattle.book_rules.specs.Family.{child_node, child_count, IsBorn, HasChildren}
use Rattle.master_branch.specs.Node.{children}
use Rattle.book_core.specs.Keeps.{IsSound}

got-or : {X : Type 0} (xs : List X) (k : ℕ) (x d : X) → slice_get xs k ≡ Some x → slice_index_or xs k d ≡ x
got-or [] k x d e = absurd (none-some x e)
got-or (y ∷ ys) zero x d e = same_Some y x e
got-or (y ∷ ys) (suc k) x d e = got-or ys k x d e

module _ (b : Book) (sound : IsSound b) (id : ℕ) (known : id < length b.slots) where
  -- the slot's node is one of the instance
  pub slot-node : IsNode b.case.instance (slot_at b id).node.depth (slot_at b id).node.lines
  slot-node = (sound.keeps.slots id no_slot known).node

  module _ (some : 0 < id) where
    born : IsBorn b id
    born = sound.parts.family.born id some known

    family : HasChildren b (slot_at b id).parent born.first
    family = sound.parts.family.children (slot_at b id).parent born.first born.split

    pub parent-before : (slot_at b id).parent < id
    parent-before = let place = born.place in let later = family.later in omega (arith, place, later)

    pub parent-lacks : (slot_at b (slot_at b id).parent).node.depth < length b.case.instance.ships
    parent-lacks = family.lacks

    pub number-within : (slot_at b id).number < child_count b.case.instance (slot_at b (slot_at b id).parent).node
    number-within = born.number

    pub node-born : (slot_at b id).node ≡ child_node b.case.instance (slot_at b (slot_at b id).parent).node (slot_at b id).number
    node-born = sym (ap (λ k. (slot_at b k).node) born.place) ∙ (family.child (slot_at b id).number born.number).node_is

-- a child that is found by its number
pub child-is : (I : Instance) (old new : Node) (k : ℕ) → new.depth ≡ old.depth + 1 → slice_get (children I old) k ≡ Some new.lines → new ≡ child_node I old k
child-is I old new k depth lines =
    let is : slice_index_or (children I old) k root_lines ≡ new.lines = got-or (children I old) k new.lines root_lines lines in
    let deep : new.depth ≡ suc old.depth = omega (arith, depth) in
    (λ i. record { depth = deep i; lines = sym is i })
