-- An accepted certificate shows a cheapest plan.
use Rattle.std.proofs.Common.{◌≡◌, ℕ, zero, suc, List, [], ◌∷◌, subst, length, inl, inr, arith}
use Rattle.lock_model.specs.declared.instance.Instance.{Instance}
use Rattle.lock_model.specs.declared.group.Group.{Group}
use Rattle.lock_rules.specs.Plan.{IsCheapest}
use Rattle.lock_rules.specs.Node.{root_lines}
use Rattle.lock_rules.specs.Children.{children_of}
use Rattle.price_rules.specs.Prices.{PriceList}
use Rattle.refute_rules.specs.Trees.{AreInOrder}
use Rattle.certificate_rules.specs.declared.certificate.Mark.{Mark}
use Rattle.certificate_rules.specs.declared.certificate.Mark.TheVariants as mark
use Rattle.closing_rules.specs.ProvedCuts.{CertCut}
use Rattle.closing_rules.specs.Laws.{TreeLaws}
use Rattle.certificate_rules.specs.Certificates.{Certificate, EndsNode, IsMarkTree, IsNoOpenLeaf, HasNoOpenLeaf, IsCertTree, Accepts}
use Rattle.certificate_rules.specs.Low.{ShowsCost, EndsShowing, IsTreeShowing, IsLow}
use Rattle.certificate_rules.proofs.LowLemmas.{showing-low, tree-ends}

-- ---- a tree shows every number where no mark is an open leaf

module _ (I : Instance) (cost : ℕ) (cuts : List CertCut) (prices : List PriceList) (n : ℕ) where
  abbrev Tree : ℕ → ℕ → List (List Group) → List Mark → List Mark → Type 0
  Tree = IsMarkTree I (EndsNode I cost cuts prices)

  abbrev Showing : ℕ → ℕ → List (List Group) → List Mark → List Mark → Type 0
  Showing = IsMarkTree I (EndsShowing I cost cuts prices n)

  leaf-shows : (k : ℕ) (lines : List (List Group)) (m : Mark) → IsNoOpenLeaf m → ShowsCost I cuts prices n k lines m
  leaf-shows k lines mark.Split h = tt
  leaf-shows k lines (mark.Leaf why) h = tt
  leaf-shows k lines mark.Open h = absurd h
  leaf-shows k lines (mark.OpenPriced number) h = absurd h

  -- it does, and no open leaf is among the marks that are left
  record IsWhole (lacking k : ℕ) (lines : List (List Group)) (m r : List Mark) : Type 0 where
    shown : Showing lacking k lines m r
    whole : HasNoOpenLeaf r

  order-whole : (lacking k : ℕ) → ((x : List (List Group)) (m r : List Mark) → Tree lacking k x m r → HasNoOpenLeaf m → IsWhole lacking k x m r)
      → (xs : List (List (List Group))) (m r : List Mark) → AreInOrder (Tree lacking k) xs m r → HasNoOpenLeaf m → AreInOrder (Showing lacking k) xs m r × HasNoOpenLeaf r
  order-whole lacking k one [] m r a whole = (a, subst HasNoOpenLeaf a whole)
  order-whole lacking k one (x ∷ xs) m r a whole =
      let first = one x m a.0 a.1 whole in
      let more = order-whole lacking k one xs a.0 r a.2 first.whole in
      ((a.0, first.shown, more.0), more.1)

  tree-whole : (lacking k : ℕ) (lines : List (List Group)) (m r : List Mark) → Tree lacking k lines m r → HasNoOpenLeaf m → IsWhole lacking k lines m r
  tree-whole zero k lines m r a whole =
      let own = subst HasNoOpenLeaf a.2 whole in
      record { shown = (a.0, (a.1, leaf-shows k lines a.0 own.0), a.2); whole = own.1 }
  tree-whole (suc lacking) k lines m r (inl a) whole =
      let own = subst HasNoOpenLeaf a.2 whole in
      record { shown = inl (a.0, (a.1, leaf-shows k lines a.0 own.0), a.2); whole = own.1 }
  tree-whole (suc lacking) k lines m r (inr a) whole =
      let own = subst HasNoOpenLeaf a.1 whole in
      let inner = order-whole lacking (suc k) (λ x m r t w. tree-whole lacking (suc k) x m r t w) (children_of I k lines) a.0 r a.2 own.1 in
      record { shown = inr (a.0, a.1, inner.0); whole = inner.1 }

-- ---- acceptance

-- a certificate that leaves no node open shows every number
pub whole-shows : (I : Instance) (C : Certificate) (n : ℕ) → HasNoOpenLeaf C.tree → IsCertTree I C → IsTreeShowing I C n
whole-shows I C n whole tree = (tree-whole I C.cost C.cuts C.prices n (length I.ships) 0 root_lines C.tree [] tree whole).shown

-- so its low is its cost
pub whole-low : (I : Instance) (C : Certificate) (low : ℕ) → HasNoOpenLeaf C.tree → IsLow I C low → low ≡ C.cost
whole-low I C low whole is =
    let tree = tree-ends I C.cuts C.prices C.cost low (length I.ships) 0 root_lines C.tree [] is.shown in
    let high = is.greatest C.cost (omega arith) (whole-shows I C C.cost whole tree) in
    let most = is.most in
    omega (arith, high, most)

-- acceptance means cheapest
pub accepted-cheapest : (I : Instance) (C : Certificate) → TreeLaws I → Accepts I C → IsCheapest I C.plan
accepted-cheapest I C laws good = record {
  legal = good.stands.legal;
  least = λ Q legal.
      let holds = showing-low I C C.cost (omega arith) laws good.stands.cuts (whole-shows I C C.cost good.whole good.stands.tree) Q legal in
      let same = good.stands.cost in
      omega (arith, holds, same);
}
