-- The way from the root to a slot.
use Rattle.std.proofs.Common.{◌≡◌, ℕ, zero, suc, ◌+◌, ◌-◌, ◌<◌, ◌≤◌, List, [], ◌∷◌, ◌++◌, length, take, refl, sym, ap, ◌∙◌, subst, arith, slice_index_or, slice_get, vec_capacity, inl, inr, Some}
use Rattle.std.specs.Prelude.{◌⊎◌}
use Rattle.list_laws.proofs.Lists.{length-push}
use Rattle.lock_model.specs.declared.limits.TheConstants.{SHIPS_AND_ROOT}
use Rattle.lock_model.specs.declared.instance.Instance.{Instance}
use Rattle.book_rules.specs.Book.{Book, Slot}
use Rattle.book_rules.specs.Family.{child_node, child_count}
use Rattle.master_branch.specs.Node.{IsNodeOf, children}
use Rattle.lock_rules.specs.Node.{Node, root}
use Rattle.book_core.specs.declared.path.Path.{Path}
use Rattle.book_core.specs.declared.path.PathNode.{PathNode}
use Rattle.book_core.specs.declared.stored_slot.StoredSlot.{StoredSlot}
use Rattle.book_core.specs.Changes.{slot_in}
use Rattle.book_core.specs.Hands.{IsNodeIn}
use Rattle.book_core.specs.Keeps.{IsSound}
use Rattle.book_core.specs.Path.{EndsAt, IsEntry, IsPath, IsChild, IsSlotTree, entry_at, last_on, root_entry}
use Rattle.book_core.specs.Stored.{slots_of, IsStoredAs}
use Rattle.book_core.proofs.HeldLemmas.{KeepsNodes, node-kept}
use Rattle.book_core.proofs.KeptLemmas.{length-slots}
use Rattle.book_core.proofs.StoredLemmas.{stored-at}
use Rattle.book_core.proofs.NodeLemmas.{parent-before, parent-lacks, number-within, node-born, child-is}

-- ---- entries of lists that are cut off or go on

at-take : (n k : ℕ) (xs : List PathNode) → k < n → entry_at (take n xs) k ≡ entry_at xs k
at-take zero k xs less = absurd (omega (arith, less))
at-take (suc n) k [] less = refl
at-take (suc n) zero (x ∷ xs) less = refl
at-take (suc n) (suc k) (x ∷ xs) less = at-take n k xs (omega (arith, less))

at-old : (k : ℕ) (xs : List PathNode) (x : PathNode) → k < length xs → entry_at (xs ++ x ∷ []) k ≡ entry_at xs k
at-old k [] x known = absurd (omega (arith, known))
at-old zero (y ∷ ys) x known = refl
at-old (suc k) (y ∷ ys) x known = at-old k ys x (omega (arith, known))

at-new : (k : ℕ) (xs : List PathNode) (x : PathNode) → k ≡ length xs → entry_at (xs ++ x ∷ []) k ≡ x
at-new zero [] x is = refl
at-new (suc k) [] x is = absurd (omega (arith, is))
at-new zero (y ∷ ys) x is = absurd (omega (arith, is))
at-new (suc k) (y ∷ ys) x is = at-new k ys x (omega (arith, is))

take-count : (n : ℕ) (xs : List PathNode) (k : ℕ) → k < length (take n xs) → (k < n) × (k < length xs)
take-count zero xs k known = absurd (omega (arith, known))
take-count (suc n) [] k known = absurd (omega (arith, known))
take-count (suc n) (x ∷ xs) zero known = (omega arith, omega arith)
take-count (suc n) (x ∷ xs) (suc k) known =
    let less = take-count n xs k (omega (arith, known)) in
    (omega (arith, less.0), omega (arith, less.1))

before-or : (k n : ℕ) → k < suc n → (k < n) ⊎ (k ≡ n)
before-or zero zero less = inr refl
before-or zero (suc n) less = inl (omega arith)
before-or (suc k) zero less = absurd (omega (arith, less))
before-or (suc k) (suc n) less = elim (before-or k n (omega (arith, less))) [ inl y ↦ inl (omega (arith, y)) | inr e ↦ inr (ap suc e) ]

-- ---- the slots of a book are a tree

pub tree-of : (b : Book) → IsSound b → IsSlotTree b.case.instance b.slots
tree-of b sound = record {
  root = sound.parts.family.root_is;
  child = λ id some known. record {
    before = parent-before b sound id known some;
    lacks = parent-lacks b sound id known some;
    within = number-within b sound id known some;
    node = node-born b sound id known some;
  };
}

-- ---- what is stored of a slot that isn't the root

module _ (I : Instance) (ss : List StoredSlot) (tree : IsSlotTree I (slots_of I ss)) (id : ℕ) (some : 0 < id) (known : id < length ss) where
  pub child-here : IsChild I (slots_of I ss) id
  child-here = tree.child id some (omega (arith, known, length-slots I ss))

  module _ (d : StoredSlot) where
    pub stored-as : IsStoredAs (slice_index_or ss id d) (slot_in (slots_of I ss) id)
    stored-as = stored-at I [] ss id d known

    pub up-before : (slice_index_or ss id d).parent < id
    up-before = let before = child-here.before in let parent = stored-as.parent in omega (arith, before, parent)

module _ (I : Instance) (slots : List Slot) where
  -- the root's node is that of the first slot
  pub root-in : IsSlotTree I slots → (id : ℕ) → id < length slots → id ≡ 0 → (node : Node) → node ≡ root → IsNodeOf I node → IsNodeIn I slots id node
  root-in tree id known first node is good = record {
    known = known;
    same = is ∙ sym tree.root ∙ ap (λ k. (slot_in slots k).node) (sym first);
    node = good;
  }

  -- ---- what keeps a path

  pub path-kept : (new : List Slot) → KeepsNodes slots new → (path : Path) → IsPath I slots path → IsPath I new path
  path-kept new keeps path is = record {
    each = λ k known. let entry = is.each k known in record { own = node-kept I slots new keeps (entry_at path.nodes.items k).id (entry_at path.nodes.items k).node entry.own; deep = entry.deep };
    room = is.room;
  }

  pub path-cut : (path new : Path) (n : ℕ) → new.nodes.items ≡ take n path.nodes.items → vec_capacity new.nodes ≡ vec_capacity path.nodes → IsPath I slots path → IsPath I slots new
  path-cut path new n items room is = record {
    each = λ k known.
        let less = take-count n path.nodes.items k (subst (λ l. k < length l) items known) in
        subst (IsEntry I slots k) (sym (ap (λ l. entry_at l k) items ∙ at-take n k path.nodes.items less.0)) (is.each k less.1);
    room = let old = is.room in omega (arith, old, room);
  }

  pub path-new : (path : Path) → path.nodes.items ≡ [] → SHIPS_AND_ROOT ≤ vec_capacity path.nodes → IsPath I slots path
  path-new path items room = record { each = λ k known. absurd (none k (subst (λ l. k < length l) items known)); room = room }
    where
      none : (k : ℕ) → k < 0 → ⊥
      none k known = omega (arith, known)

  pub path-started : (new : Path) → new.nodes.items ≡ root_entry ∷ [] → SHIPS_AND_ROOT ≤ vec_capacity new.nodes → IsEntry I slots 0 root_entry → IsPath I slots new
  path-started new items room entry = record {
    each = λ k known. subst (λ l. IsEntry I slots k (entry_at l k)) (sym items) (first k (subst (λ l. k < length l) items known));
    room = room;
  }
    where
      first : (k : ℕ) → k < 1 → IsEntry I slots k (entry_at (root_entry ∷ []) k)
      first zero known = entry
      first (suc k) known = absurd (omega (arith, known))

  -- ---- the last entry

  module _ (path : Path) (is : IsPath I slots path) (id : ℕ) (ends : EndsAt id path.nodes.items) where
    last-entry : IsEntry I slots (length path.nodes.items - 1) (last_on path.nodes.items)
    last-entry = let some = ends.some in is.each (length path.nodes.items - 1) (omega (arith, some))

    pub last-in : IsNodeIn I slots id (last_on path.nodes.items).node
    last-in = subst (λ k. IsNodeIn I slots k (last_on path.nodes.items).node) ends.last last-entry.own

  -- ---- a step from the node of a slot's parent to the slot's

  module _ (id : ℕ) (child : IsChild I slots id) (node : Node) (own : IsNodeIn I slots (slot_in slots id).parent node) where
    pub step-within : (number : ℕ) → (slot_in slots id).number ≡ number → number < length (children I node)
    step-within number number_is =
        let within = child.within in
        let count = ap (child_count I) own.same in
        omega (arith, within, count, number_is)

    pub step-to : id < length slots → (new : Node) → new.depth ≡ node.depth + 1 → (number : ℕ) → (slot_in slots id).number ≡ number → slice_get (children I node) number ≡ Some new.lines → IsNodeOf I new → IsNodeIn I slots id new
    step-to known new depth number number_is lines good = record {
      known = known;
      same = child-is I node new number depth lines ∙ (λ i. child_node I (own.same i) (sym number_is i)) ∙ sym child.node;
      node = good;
    }

  -- ---- a path that goes on

  module _ (path : Path) (is : IsPath I slots path) (parent : ℕ) (ends : EndsAt parent path.nodes.items) (node : Node) (node_is : node ≡ (last_on path.nodes.items).node) where
    deep : node.depth ≡ length path.nodes.items - 1
    deep = ap (λ (n : Node). n.depth) node_is ∙ (last-entry path is parent ends).deep

    module _ (id : ℕ) (new : Node) (depth : new.depth ≡ node.depth + 1) (new_in : IsNodeIn I slots id new) where
      there : (k : ℕ) → k ≡ length path.nodes.items → IsEntry I slots k (record { id = id; node = new })
      there k here = record { own = new_in; deep = let some = ends.some in let place = deep in omega (arith, depth, place, here, some) }

      pub path-next : (after : Path) → after.nodes.items ≡ path.nodes.items ++ (record { id = id; node = new }) ∷ [] → vec_capacity after.nodes ≡ vec_capacity path.nodes → IsPath I slots after
      path-next after items room = record {
        each = λ k known. subst (λ l. IsEntry I slots k (entry_at l k)) (sym items) (by-place k (subst (λ l. k < length l) items known));
        room = let old = is.room in omega (arith, old, room);
      }
        where
          by-place : (k : ℕ) → k < length (path.nodes.items ++ (record { id = id; node = new }) ∷ []) → IsEntry I slots k (entry_at (path.nodes.items ++ (record { id = id; node = new }) ∷ []) k)
          by-place k less = elim (before-or k (length path.nodes.items) (omega (arith, less, length-push path.nodes.items (record { id = id; node = new })))) [
            | inl earlier ↦ subst (IsEntry I slots k) (sym (at-old k path.nodes.items (record { id = id; node = new }) earlier)) (is.each k earlier)
            | inr here ↦ subst (IsEntry I slots k) (sym (at-new k path.nodes.items (record { id = id; node = new }) here)) (there k here)
          ]

-- the same of an equal instance and equal stored slots
module _ (J I : Instance) (J_is : J ≡ I) (xs ss : List StoredSlot) (all : xs ≡ ss) where
  pub tree-in : IsSlotTree I (slots_of I ss) → IsSlotTree J (slots_of J xs)
  tree-in tree = subst (λ K. IsSlotTree K (slots_of K xs)) (sym J_is) (subst (λ l. IsSlotTree I (slots_of I l)) (sym all) tree)

  pub path-in : (path : Path) → IsPath I (slots_of I ss) path → IsPath J (slots_of J xs) path
  path-in path is = subst (λ K. IsPath K (slots_of K xs) path) (sym J_is) (subst (λ l. IsPath I (slots_of I l) path) (sym all) is)

  pub path-out : (path : Path) → IsPath J (slots_of J xs) path → IsPath I (slots_of I ss) path
  path-out path is = subst (λ l. IsPath I (slots_of I l) path) all (subst (λ K. IsPath K (slots_of K xs) path) J_is is)
