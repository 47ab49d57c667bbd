-- What is read of a node from its mark, or from what is read of its children one by one.
use Rattle.std.proofs.Common.{◌≡◌, ◌↔◌, ℕ, Bool, IsTrue, nat_le, suc, ◌+◌, ◌-◌, ◌<◌, ◌≤◌, List, [], ◌∷◌, ◌++◌, refl, sym, ap, ◌∙◌, subst, length, take, drop, inl, inr, arith, slice_get, Some, take-append-drop, drop-cons}
use Rattle.std.proofs.lemmas.Bool.{false≢true}
use Rattle.std.proofs.lemmas.Bool.Decides.{leb_tells}
use Rattle.std.proofs.lemmas.List.{take_more, take_all}
use Rattle.std.proofs.lemmas.Option.{slice_get-get_or}
use Rattle.lock_model.specs.declared.instance.Instance.{Instance}
use Rattle.lock_model.specs.declared.group.Group.{Group}
use Rattle.lock_rules.specs.Bound.{bound_of}
use Rattle.lock_rules.specs.Node.{Node, root_lines}
use Rattle.refute_rules.specs.Trees.{AreInOrder}
use Rattle.certificate_rules.specs.declared.certificate.Mark.{Mark}
use Rattle.certificate_rules.specs.declared.certificate.Mark.TheVariants as mark
use Rattle.certificate_rules.specs.declared.certificate.Reason.{Reason}
use Rattle.certificate_rules.specs.Certificates.{IsMarkTree}
use Rattle.certificate_rules.specs.Failures.{FailInOrder, TreeFails, reason_of}
use Rattle.master_branch.specs.Node.{children, child_lines}
use Rattle.cert_check.specs.Reading.{Ends, IsTreeOf, TreeSticks, IsRead, IsStuck, IsChildRead, IsChildStuck, AreRead, AreStuck}
use Rattle.cert_check.specs.declared.claim.Claim.{Claim}
use Rattle.certificate_rules.proofs.TreeLemmas.{in_order-append, in_order-fails, lacks-one, leaf-tree, wrong-tree, tree-shorter, stuck-shorter}

-- a test of a bound tells whether it reaches the cost
pub told-reached : (cost bound : ℕ) (b : Bool) → b ≡ nat_le cost bound → IsTrue b ↔ (cost ≤ bound)
told-reached cost bound b is = elim (leb_tells cost bound) [
  | inl most ↦ (λ _. most.1, λ _. is ∙ most.0)
  | inr less ↦ (λ on. absurd (false≢true (sym less.0 ∙ sym is ∙ on)), λ most. absurd (omega (arith, most, less.1)))
]

module _ (claim : Claim) where
  abbrev I : Instance
  I = claim.instance.now

  -- a mark that ends the node is a tree of it
  pub leaf-read : (node : Node) (m : Mark) (marks rest : List Mark) → marks ≡ m ∷ rest → Ends claim node.depth node.lines m → IsRead claim node marks rest
  leaf-read node m marks rest is ends = record {
    tree = subst (λ u. IsTreeOf claim node.depth node.lines u rest) (sym is) (leaf-tree I (Ends claim) (length I.ships - node.depth) node.depth node.lines m rest ends);
  }

  -- reading ends at a mark that doesn't end the node, a split where no ship is lacking among them
  pub leaf-stuck : (node : Node) (m : Mark) (marks rest : List Mark) → marks ≡ m ∷ rest → (Ends claim node.depth node.lines m → ⊥) → (m ≡ mark.Split → length I.ships ≤ node.depth) → IsStuck claim node marks marks (reason_of m)
  leaf-stuck node m marks rest is open' whole = record {
    sticks =
        subst (λ u. TreeSticks claim node.depth node.lines u u (reason_of m)) (sym is)
        (wrong-tree I (Ends claim) (length I.ships - node.depth) node.depth node.lines m rest open' (λ e. let held = whole e in omega (arith, held)));
  }

  -- a split mark and the trees of all children are a tree of a node that lacks a ship
  pub split-read : (node : Node) (marks inner rest : List Mark) → node.depth < length I.ships → marks ≡ mark.Split ∷ inner → AreRead claim node (length (children I node)) inner rest → IsRead claim node marks rest
  split-read node marks inner rest lacks is h = record {
    tree =
        subst (λ n. IsMarkTree I (Ends claim) n node.depth node.lines marks rest) (sym (lacks-one (length I.ships) node.depth lacks))
        (inr (inner, is, subst (λ xs. AreInOrder (IsTreeOf claim (suc node.depth)) xs inner rest) (take_all (length (children I node)) (children I node) (omega arith)) h.trees));
  }

  -- and reading ends where it ends among the children
  pub split-stuck : (node : Node) (marks inner stuck : List Mark) (r : Reason) → node.depth < length I.ships → marks ≡ mark.Split ∷ inner → AreStuck claim node inner stuck r → IsStuck claim node marks stuck r
  split-stuck node marks inner stuck r lacks is h = record {
    sticks =
        subst (λ n. TreeFails I (Ends claim) n node.depth node.lines marks stuck r) (sym (lacks-one (length I.ships) node.depth lacks))
        (inr (inner, is, h.stick));
  }

  -- one more child is read
  pub more-read : (node : Node) (i : ℕ) (marks middle rest : List Mark) → i < length (children I node) → AreRead claim node i marks middle → IsChildRead claim node i middle rest → AreRead claim node (i + 1) marks rest
  more-read node i marks middle rest within before own = record {
    trees =
        subst (λ xs. AreInOrder (IsTreeOf claim (suc node.depth)) xs marks rest) (sym (take_more (children I node) i root_lines within))
        (in_order-append (IsTreeOf claim (suc node.depth)) (take i (children I node)) (child_lines I node i ∷ []) marks middle rest before.trees (rest, own.tree, refl));
  }

  -- reading ends at the first child at which it ends
  pub more-stuck : (node : Node) (i : ℕ) (marks middle stuck : List Mark) (r : Reason) → i < length (children I node) → AreRead claim node i marks middle → IsChildStuck claim node i middle stuck r → AreStuck claim node marks stuck r
  more-stuck node i marks middle stuck r within before own =
      let whole : children I node ≡ take i (children I node) ++ child_lines I node i ∷ drop (suc i) (children I node) =
      sym (take-append-drop i (children I node)) ∙ ap (λ xs. take i (children I node) ++ xs) (drop-cons (children I node) i root_lines within) in
      record {
        stick =
            subst (λ xs. FailInOrder (IsTreeOf claim (suc node.depth)) (TreeSticks claim (suc node.depth)) xs marks stuck r) (sym whole)
            (in_order-fails (IsTreeOf claim (suc node.depth)) (TreeSticks claim (suc node.depth)) (take i (children I node)) (child_lines I node i ∷ drop (suc i) (children I node)) marks middle stuck r before.trees (inl own.sticks));
      }

  -- the lines of a child that is made
  pub child-lines : (node : Node) (i : ℕ) (lines : List (List Group)) → i < length (children I node) → slice_get (children I node) i ≡ Some lines → child_lines I node i ≡ lines
  child-lines node i lines within made =
      let own = slice_get-get_or (children I node) i root_lines within in
      cc

  pub child-read : (node child : Node) (i : ℕ) (marks rest : List Mark) → i < length (children I node) → child.depth ≡ node.depth + 1 → slice_get (children I node) i ≡ Some child.lines → IsRead claim child marks rest → IsChildRead claim node i marks rest
  child-read node child i marks rest within deep made h =
      let down : child.depth ≡ suc node.depth = omega (arith, deep) in
      record {
        tree =
            subst (λ k. IsTreeOf claim k (child_lines I node i) marks rest) down
            (subst (λ lines. IsTreeOf claim child.depth lines marks rest) (sym (child-lines node i child.lines within made)) h.tree);
      }

  pub child-stuck : (node child : Node) (i : ℕ) (marks stuck : List Mark) (r : Reason) → i < length (children I node) → child.depth ≡ node.depth + 1 → slice_get (children I node) i ≡ Some child.lines → IsStuck claim child marks stuck r → IsChildStuck claim node i marks stuck r
  child-stuck node child i marks stuck r within deep made h =
      let down : child.depth ≡ suc node.depth = omega (arith, deep) in
      record {
        sticks =
            subst (λ k. TreeSticks claim k (child_lines I node i) marks stuck r) down
            (subst (λ lines. TreeSticks claim child.depth lines marks stuck r) (sym (child-lines node i child.lines within made)) h.sticks);
      }

  -- a mark that ends a child, and one that doesn't, of a child that isn't made
  pub end-read : (node : Node) (i : ℕ) (m : Mark) (marks rest : List Mark) → marks ≡ m ∷ rest → Ends claim (suc node.depth) (child_lines I node i) m → IsChildRead claim node i marks rest
  end-read node i m marks rest is ends = record {
    tree =
        subst (λ u. IsTreeOf claim (suc node.depth) (child_lines I node i) u rest) (sym is)
        (leaf-tree I (Ends claim) (length I.ships - suc node.depth) (suc node.depth) (child_lines I node i) m rest ends);
  }

  pub end-stuck : (node : Node) (i : ℕ) (m : Mark) (marks rest : List Mark) → marks ≡ m ∷ rest → (Ends claim (suc node.depth) (child_lines I node i) m → ⊥) → (m ≡ mark.Split → ⊥) → IsChildStuck claim node i marks marks (reason_of m)
  end-stuck node i m marks rest is open' leaf = record {
    sticks =
        subst (λ u. TreeSticks claim (suc node.depth) (child_lines I node i) u u (reason_of m)) (sym is)
        (wrong-tree I (Ends claim) (length I.ships - suc node.depth) (suc node.depth) (child_lines I node i) m rest open' (λ e. absurd (leaf e)));
  }

  pub read-shorter : (node : Node) (marks rest : List Mark) → IsRead claim node marks rest → length rest ≤ length marks
  read-shorter node marks rest h = tree-shorter I (Ends claim) (length I.ships - node.depth) node.depth node.lines marks rest h.tree

  pub sticks-shorter : (node : Node) (marks s : List Mark) (why : Reason) → IsStuck claim node marks s why → length s ≤ length marks
  sticks-shorter node marks s why h = stuck-shorter I (Ends claim) (length I.ships - node.depth) node.depth node.lines marks s why h.sticks

-- a bound reaches a cost however the depth of the child is written
pub deep-reached : (I : Instance) (node : Node) (i cost : ℕ) → (cost ≤ bound_of I (node.depth + 1) (child_lines I node i)) ↔ (cost ≤ bound_of I (suc node.depth) (child_lines I node i))
deep-reached I node i cost =
    let up : suc node.depth ≡ node.depth + 1 = omega arith in
    let deep = ap (λ k. bound_of I k (child_lines I node i)) up in
    (λ high. omega (arith, high, deep), λ high. omega (arith, high, deep))
