-- What the open leaves of a node show, from its mark, or from what is read of its children one by one.
use Rattle.std.proofs.Common.{◌≡◌, ℕ, suc, ◌+◌, ◌-◌, ◌<◌, ◌≤◌, List, [], ◌∷◌, ◌++◌, refl, sym, ◌∙◌, subst, length, take, inl, inr, arith, slice_get, Some}
use Rattle.std.proofs.lemmas.List.{take_more, take_all}
use Rattle.list_laws.proofs.Lists.{same-heads, same-tails}
use Rattle.lock_model.specs.declared.instance.Instance.{Instance}
use Rattle.lock_model.specs.declared.group.Group.{Group}
use Rattle.lock_rules.specs.Children.{children_of}
use Rattle.lock_rules.specs.Bound.{bound_of}
use Rattle.lock_rules.specs.Node.{Node, root_lines}
use Rattle.refute_rules.specs.Trees.{AreInOrder}
use Rattle.certificate_rules.specs.declared.certificate.Mark.TheVariants as mark
use Rattle.certificate_rules.specs.declared.certificate.Mark.{Mark}
use Rattle.certificate_rules.specs.declared.certificate.Reason.TheVariants as reason
use Rattle.certificate_rules.specs.Certificates.{IsMarkTree}
use Rattle.certificate_rules.specs.Low.{EndsShowing}
use Rattle.certificate_rules.proofs.FailLemmas.{in_order-unique, tree-unique}
use Rattle.certificate_rules.proofs.LowLemmas.{tree-less, tree-ends}
use Rattle.certificate_rules.proofs.TreeLemmas.{lacks-one, leaf-tree, tree-leaf, in_order-append, in_order-parts, in_order-weaker}
use Rattle.master_branch.specs.Node.{children, child_lines}
use Rattle.cert_check.specs.declared.claim.Claim.{Claim}
use Rattle.cert_check.proofs.ReadLemmas.{leaf-read, split-read, more-read, child-lines, child-read, end-read, end-stuck, deep-reached}
use Rattle.cert_check.specs.Reading.{Ends, IsTreeOf, TreeShows, IsChildStuck, IsReadLow, IsChildReadLow, AreReadLow, IsLoweredBy}
use Rattle.closing_rules.specs.declared.grounds.Ground.TheVariants as by

module _ (claim : Claim) where
  abbrev I : Instance
  I = claim.instance.now

  abbrev EndsWith : ℕ → ℕ → List (List Group) → Mark → Type 0
  EndsWith = EndsShowing I claim.cost claim.cuts.now claim.prices.now

  no-split : (k : ℕ) (lines : List (List Group)) (m : Mark) → Ends claim k lines m → m ≡ mark.Split → ⊥
  no-split k lines m ends e = subst (Ends claim k lines) e ends

  -- a mark that ends the node is a tree of it, which shows what the mark shows
  pub leaf-low : (node : Node) (low : ℕ) (m : Mark) (marks rest : List Mark) (least : ℕ) → marks ≡ m ∷ rest → Ends claim node.depth node.lines m → IsLoweredBy claim node.depth node.lines m low least → IsReadLow claim node low marks rest least
  leaf-low node low m marks rest least is ends lowered = record {
    read = leaf-read claim node m marks rest is ends;
    most = lowered.most;
    shown =
        subst (λ u. TreeShows claim least node.depth node.lines u rest) (sym is)
        (leaf-tree I (EndsWith least) (length I.ships - node.depth) node.depth node.lines m rest (ends, lowered.shown));
    greatest = λ n few shown.
        lowered.greatest n few (tree-leaf I (EndsWith n) (length I.ships - node.depth) node.depth node.lines m marks rest rest is (no-split node.depth node.lines m ends) shown).1;
  }

  -- behind a split mark trees of all children follow
  split-inner : (n lacking k : ℕ) (lines : List (List Group)) (marks inner rest : List Mark) → marks ≡ mark.Split ∷ inner
      → IsMarkTree I (EndsWith n) (suc lacking) k lines marks rest → AreInOrder (IsMarkTree I (EndsWith n) lacking (suc k)) (children_of I k lines) inner rest
  split-inner n lacking k lines marks inner rest is (inl h) = absurd (subst (EndsWith n k lines) (same-heads h.0 mark.Split rest inner (sym h.2 ∙ is)) h.1).0
  split-inner n lacking k lines marks inner rest is (inr h) =
      subst (λ u. AreInOrder (IsMarkTree I (EndsWith n) lacking (suc k)) (children_of I k lines) u rest) (same-tails mark.Split mark.Split h.0 inner (sym h.1 ∙ is)) h.2

  -- a split mark and the trees of all children are a tree of a node that lacks a ship
  pub split-low : (node : Node) (low : ℕ) (marks inner rest : List Mark) (least : ℕ) → node.depth < length I.ships → marks ≡ mark.Split ∷ inner → AreReadLow claim node (length (children I node)) low inner rest least → IsReadLow claim node low marks rest least
  split-low node low marks inner rest least lacks is h = record {
    read = split-read claim node marks inner rest lacks is h.read;
    most = h.most;
    shown =
        subst (λ n. IsMarkTree I (EndsWith least) n node.depth node.lines marks rest) (sym (lacks-one (length I.ships) node.depth lacks))
        (inr (inner, is, subst (λ xs. AreInOrder (TreeShows claim least (suc node.depth)) xs inner rest) all h.shown));
    greatest = λ n few shown.
        h.greatest n few
        (subst (λ xs. AreInOrder (TreeShows claim n (suc node.depth)) xs inner rest) (sym all)
        (split-inner n (length I.ships - suc node.depth) node.depth node.lines marks inner rest is
        (subst (λ n'. IsMarkTree I (EndsWith n) n' node.depth node.lines marks rest) (lacks-one (length I.ships) node.depth lacks) shown)));
  }
    where
      all : take (length (children I node)) (children I node) ≡ children I node
      all = take_all (length (children I node)) (children I node) (omega arith)

  -- trees in order end at the same mark, whatever they show
  order-same : (k n : ℕ) (xs : List (List (List Group))) (marks middle other : List Mark) → AreInOrder (IsTreeOf claim k) xs marks middle → AreInOrder (TreeShows claim n k) xs marks other → other ≡ middle
  order-same k n xs marks middle other read shown =
      in_order-unique (IsTreeOf claim k) (λ x m r s a b. tree-unique I (Ends claim) (λ j lines h. h) (length I.ships - k) k x m r s a b) xs marks other middle
      (in_order-weaker (TreeShows claim n k) (IsTreeOf claim k) (λ x m r h. tree-ends I claim.cuts.now claim.prices.now claim.cost n (length I.ships - k) k x m r h) xs marks other shown) read

  -- one more child is read
  pub more-low : (node : Node) (i low : ℕ) (marks middle rest : List Mark) (least less : ℕ) → i < length (children I node) → AreReadLow claim node i low marks middle least → IsChildReadLow claim node i least middle rest less → AreReadLow claim node (i + 1) low marks rest less
  more-low node i low marks middle rest least less within before own =
      let few = own.most in
      let earlier = before.most in
      record {
        read = more-read claim node i marks middle rest within before.read own.read;
        most = omega (arith, few, earlier);
        shown =
            subst (λ xs. AreInOrder (TreeShows claim less deep) xs marks rest) (sym more)
            (in_order-append (TreeShows claim less deep) first (child_lines I node i ∷ []) marks middle rest
            (in_order-weaker (TreeShows claim least deep) (TreeShows claim less deep)
            (λ x m r h. tree-less I claim.cuts.now claim.prices.now claim.cost least less (length I.ships - deep) deep x m r own.most h) first marks middle before.shown)
            (rest, own.shown, refl));
        greatest = λ n below shown.
            let parts = in_order-parts (TreeShows claim n deep) first (child_lines I node i ∷ []) marks rest (subst (λ xs. AreInOrder (TreeShows claim n deep) xs marks rest) more shown) in
            let same : parts.0 ≡ middle = order-same deep n first marks middle parts.0 before.read.trees parts.1 in
            let high : n ≤ least = before.greatest n below (subst (AreInOrder (TreeShows claim n deep) first marks) same parts.1) in
            own.greatest n high (subst (λ u. TreeShows claim n deep (child_lines I node i) u rest) same (subst (TreeShows claim n deep (child_lines I node i) parts.0) parts.2.2 parts.2.1));
      }
    where
      deep : ℕ
      deep = suc node.depth

      first : List (List (List Group))
      first = take i (children I node)

      more : take (i + 1) (children I node) ≡ first ++ child_lines I node i ∷ []
      more = take_more (children I node) i root_lines within

  pub child-low : (node child : Node) (i low : ℕ) (marks rest : List Mark) (least : ℕ) → i < length (children I node) → child.depth ≡ node.depth + 1 → slice_get (children I node) i ≡ Some child.lines → IsReadLow claim child low marks rest least → IsChildReadLow claim node i low marks rest least
  child-low node child i low marks rest least within deep made h =
      let down : child.depth ≡ suc node.depth = omega (arith, deep) in
      let lines : child_lines I node i ≡ child.lines = child-lines claim node i child.lines within made in
      record {
        read = child-read claim node child i marks rest within deep made h.read;
        most = h.most;
        shown =
            subst (λ k. TreeShows claim least k (child_lines I node i) marks rest) down
            (subst (λ own. TreeShows claim least child.depth own marks rest) (sym lines) h.shown);
        greatest = λ n few shown.
            h.greatest n few
            (subst (λ own. TreeShows claim n child.depth own marks rest) lines
            (subst (λ k. TreeShows claim n k (child_lines I node i) marks rest) (sym down) shown));
      }

  -- a bound mark of a child
  pub bound-low : (node : Node) (i low : ℕ) (marks rest : List Mark) → marks ≡ mark.Leaf by.Bound ∷ rest → claim.cost ≤ bound_of I (node.depth + 1) (child_lines I node i) → IsChildReadLow claim node i low marks rest low
  bound-low node i low marks rest is high =
      let ends : claim.cost ≤ bound_of I (suc node.depth) (child_lines I node i) = (deep-reached I node i claim.cost).0 high in
      record {
        read = end-read claim node i (mark.Leaf by.Bound) marks rest is ends;
        most = omega arith;
        shown =
            subst (λ u. TreeShows claim low (suc node.depth) (child_lines I node i) u rest) (sym is)
            (leaf-tree I (EndsWith low) (length I.ships - suc node.depth) (suc node.depth) (child_lines I node i) (mark.Leaf by.Bound) rest (ends, tt));
        greatest = λ n few _. few;
      }

  pub bound-stuck : (node : Node) (i : ℕ) (marks rest : List Mark) → marks ≡ mark.Leaf by.Bound ∷ rest → (claim.cost ≤ bound_of I (node.depth + 1) (child_lines I node i) → ⊥) → IsChildStuck claim node i marks marks reason.BoundLow
  bound-stuck node i marks rest is low =
      end-stuck claim node i (mark.Leaf by.Bound) marks rest is (λ high. low ((deep-reached I node i claim.cost).1 high)) (λ e. absurd cc)
