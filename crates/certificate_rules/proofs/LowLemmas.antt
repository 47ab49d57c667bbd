-- A certificate that stands proves its low.
use Rattle.std.proofs.Common.{◌≡◌, ℕ, zero, suc, ◌+◌, ◌≤◌, List, [], ◌∷◌, length, ◌⊎◌, inl, inr, sym, subst, arith, All, Contains, max}
use Rattle.std.proofs.lemmas.Bool.Decides.{leb_tells}
use Rattle.std.proofs.lemmas.List.Elements.{All-contains, All-map, All-weaker}
use Rattle.lock_model.specs.declared.instance.Instance.{Instance}
use Rattle.lock_model.specs.declared.group.Group.{Group}
use Rattle.lock_model.specs.declared.plan.Plan.{Plan}
use Rattle.lock_rules.specs.Plan.{IsLegal, cost_of}
use Rattle.lock_rules.specs.Node.{IsNode, root_lines}
use Rattle.lock_rules.specs.Trace.{IsUnder}
use Rattle.lock_rules.specs.Children.{children_of}
use Rattle.lock_rules.specs.Bound.{bound_of}
use Rattle.refute_rules.specs.Trees.{AreInOrder}
use Rattle.certificate_rules.specs.declared.certificate.Mark.TheVariants as mark
use Rattle.certificate_rules.specs.declared.certificate.Mark.{Mark}
use Rattle.price_rules.specs.Prices.{PriceList, PlainCut, CutHolds}
use Rattle.closing_rules.specs.declared.grounds.Ground.{Ground}
use Rattle.closing_rules.specs.declared.grounds.Ground.TheVariants as by
use Rattle.closing_rules.specs.ListedPrices.{cut_in, IsPricedBy}
use Rattle.closing_rules.specs.ProvedCuts.{CertCut, IsProved}
use Rattle.certificate_rules.specs.Certificates.{Certificate, cuts_in, EndsNode, IsMarkTree, Stands}
use Rattle.certificate_rules.specs.Low.{ShowsCost, EndsShowing, IsTreeShowing, IsLow}
use Rattle.certificate_rules.proofs.TreeLemmas.{tree-weaker}
use Rattle.closing_rules.specs.Laws.{TreeLaws}

-- ---- what an open leaf shows

-- less is reached too
pub priced-less : (I : Instance) (cuts : List PlainCut) (prices : List PriceList) (number k : ℕ) (lines : List (List Group)) (n less : ℕ) → less ≤ n → IsPricedBy I cuts prices number k lines n → IsPricedBy I cuts prices number k lines less
priced-less I cuts prices number k lines n less low priced = record {
  own = priced.own;
  there = priced.there;
  reached = record { high = λ chosen loose. let high = priced.reached.high chosen loose in omega (arith, low, high) };
}

module _ (I : Instance) (cuts : List CertCut) (prices : List PriceList) where
  -- a mark that shows a number shows each that is less
  pub shows-less : (n less k : ℕ) (lines : List (List Group)) (m : Mark) → less ≤ n → ShowsCost I cuts prices n k lines m → ShowsCost I cuts prices less k lines m
  shows-less n less k lines mark.Split low h = tt
  shows-less n less k lines (mark.Leaf why) low h = tt
  shows-less n less k lines mark.Open low h = omega (arith, low, h)
  shows-less n less k lines (mark.OpenPriced number) low (inl h) = inl (omega (arith, low, h))
  shows-less n less k lines (mark.OpenPriced number) low (inr h) = inr (priced-less I (cuts_in I cuts) prices number k lines n less low h)

  -- so does a tree
  pub tree-less : (cost n less lacking k : ℕ) (lines : List (List Group)) (m r : List Mark) → less ≤ n
      → IsMarkTree I (EndsShowing I cost cuts prices n) lacking k lines m r → IsMarkTree I (EndsShowing I cost cuts prices less) lacking k lines m r
  tree-less cost n less lacking k lines m r low h =
      tree-weaker I (EndsShowing I cost cuts prices n) (EndsShowing I cost cuts prices less)
      (λ j own mark ends. (ends.0, shows-less n less j own mark low ends.1)) lacking k lines m r h

  -- whose marks all end their nodes
  pub tree-ends : (cost n lacking k : ℕ) (lines : List (List Group)) (m r : List Mark)
      → IsMarkTree I (EndsShowing I cost cuts prices n) lacking k lines m r → IsMarkTree I (EndsNode I cost cuts prices) lacking k lines m r
  tree-ends cost n lacking k lines m r h = tree-weaker I (EndsShowing I cost cuts prices n) (EndsNode I cost cuts prices) (λ j own mark ends. ends.0) lacking k lines m r h

  -- Of an open leaf by prices the greater of its bound and of the greatest cost that it reaches is the most that it shows, of the
  -- numbers up to `most`.
  pub shows-most : (number k : ℕ) (lines : List (List Group)) (most cost n : ℕ) → ((other : ℕ) → other ≤ most → IsPricedBy I (cuts_in I cuts) prices number k lines other → other ≤ cost)
      → n ≤ most → ShowsCost I cuts prices n k lines (mark.OpenPriced number) → n ≤ max (bound_of I k lines) cost
  shows-most number k lines most cost n greatest few (inl h) = omega (arith, h)
  shows-most number k lines most cost n greatest few (inr h) = let reached = greatest n few h in omega (arith, reached)

  -- and it shows that, where it reaches that cost
  pub shows-greater : (number k : ℕ) (lines : List (List Group)) (cost : ℕ) → (cost ≡ 0) ⊎ IsPricedBy I (cuts_in I cuts) prices number k lines cost
      → ShowsCost I cuts prices (max (bound_of I k lines) cost) k lines (mark.OpenPriced number)
  shows-greater number k lines cost (inl none) = inl (omega (arith, none))
  shows-greater number k lines cost (inr reached) =
      elim (leb_tells cost (bound_of I k lines)) [
        | inl high ↦ let most = high.1 in inl (omega (arith, most))
        | inr low ↦
            let less = low.1 in
            let same : cost ≡ max (bound_of I k lines) cost = omega (arith, less) in
            inr (subst (IsPricedBy I (cuts_in I cuts) prices number k lines) same reached)
      ]

-- ---- a certificate has one low

pub low-same : (I : Instance) (C : Certificate) (m n : ℕ) → IsLow I C m → IsLow I C n → m ≡ n
low-same I C m n a b =
    let above = b.greatest m a.most a.shown in
    let below = a.greatest n b.most b.shown in
    omega (arith, above, below)

-- ---- and no plan costs less

module _ (I : Instance) (cost : ℕ) (cuts : List CertCut) (prices : List PriceList) (n : ℕ) (few : n ≤ cost) where
  abbrev Tree : ℕ → ℕ → List (List Group) → List Mark → List Mark → Type 0
  Tree = IsMarkTree I (EndsShowing I cost cuts prices n)

  module _ (laws : TreeLaws I) (proved : All (IsProved I) cuts) (P : Plan) (legal : IsLegal I P) where
    abbrev v : ℕ
    v = cost_of I P

    -- proved cuts hold
    cuts-hold : All CutHolds (cuts_in I cuts)
    cuts-hold = All-map CutHolds (λ (c : CertCut). cut_in I c.chamber c.ships) cuts (All-weaker (IsProved I) (λ (c : CertCut). CutHolds (cut_in I c.chamber c.ships)) laws.holds cuts proved)

    -- a ground that closes a node with the plan under it
    closes-holds : (k : ℕ) (lines : List (List Group)) (why : Ground) → IsNode I k lines → IsUnder I k lines P → EndsNode I cost cuts prices k lines (mark.Leaf why) → cost ≤ v
    closes-holds k lines by.Bound node under h = let b = laws.bound k lines node P legal under in omega (arith, h, b)
    closes-holds k lines (by.Cut number) node under h =
        let sound : IsProved I h.cut = subst (IsProved I) h.is (proved number h.cut h.known) in
        absurd (laws.cut h.cut k lines P sound node h.hits legal under)
    closes-holds k lines by.Throughput node under h = let b = laws.throughput P legal in omega (arith, h, b)
    closes-holds k lines (by.Probe s) node under h = let b = laws.probe k lines s node h.0 P legal under in omega (arith, h.1, b)
    closes-holds k lines (by.Price number) node under h = laws.price (cuts_in I cuts) k lines h.own cost cuts-hold h.reached P legal under
    closes-holds k lines (by.Swept number) node under h = laws.swept (cuts_in I cuts) cost cuts-hold h.swept P legal

    -- a mark that ends a node with the plan under it, and shows n where it leaves it open
    leaf-low : (k : ℕ) (lines : List (List Group)) (m : Mark) → IsNode I k lines → IsUnder I k lines P → EndsShowing I cost cuts prices n k lines m → n ≤ v
    leaf-low k lines mark.Split node under h = absurd h.0
    leaf-low k lines (mark.Leaf why) node under h = let closed = closes-holds k lines why node under h.0 in omega (arith, few, closed)
    leaf-low k lines mark.Open node under h = let b = laws.bound k lines node P legal under in let shown = h.1 in omega (arith, shown, b)
    leaf-low k lines (mark.OpenPriced number) node under (known, inl shown) = let b = laws.bound k lines node P legal under in omega (arith, shown, b)
    leaf-low k lines (mark.OpenPriced number) node under (known, inr shown) = laws.price (cuts_in I cuts) k lines shown.own n cuts-hold shown.reached P legal under

    order-low : (k : ℕ) (Child : List (List Group) → List Mark → List Mark → Type 0) → ((x : List (List Group)) (m r : List Mark) → IsNode I k x → IsUnder I k x P → Child x m r → n ≤ v)
        → (xs : List (List (List Group))) (m r : List Mark) (x : List (List Group)) → Contains xs x → IsNode I k x → IsUnder I k x P → AreInOrder Child xs m r → n ≤ v
    order-low k Child one [] m r x among node under a = absurd (omega (arith, among.1))
    order-low k Child one (y ∷ ys) m r x (zero, known, is) node under a =
        one y m a.0 (subst (IsNode I k) (sym is) node) (subst (λ u. IsUnder I k u P) (sym is) under) a.1
    order-low k Child one (y ∷ ys) m r x (suc i, known, is) node under a = order-low k Child one ys a.0 r x (i, omega (arith, known), is) node under a.2

    pub tree-low : (lacking k : ℕ) (lines : List (List Group)) (m r : List Mark) → lacking + k ≡ length I.ships → IsNode I k lines → IsUnder I k lines P → Tree lacking k lines m r → n ≤ v
    tree-low zero k lines m r count node under a = leaf-low k lines a.0 node under a.1
    tree-low (suc lacking) k lines m r count node under (inl a) = leaf-low k lines a.0 node under a.1
    tree-low (suc lacking) k lines m r count node under (inr a) =
        let way = laws.split k lines P node (omega (arith, count)) legal under in
        let child = All-contains (IsNode I (suc k)) (children_of I k lines) way.child (laws.child k lines node (omega (arith, count))) way.among in
        order-low (suc k) (Tree lacking (suc k)) (λ x m r own below t. tree-low lacking (suc k) x m r (omega (arith, count)) own below t) (children_of I k lines) a.0 r way.child way.among child way.under a.2

-- every legal plan costs at least what all open leaves show
pub showing-low : (I : Instance) (C : Certificate) (n : ℕ) → n ≤ C.cost → TreeLaws I → All (IsProved I) C.cuts → IsTreeShowing I C n → (P : Plan) → IsLegal I P → n ≤ cost_of I P
showing-low I C n few laws proved shown P legal =
    tree-low I C.cost C.cuts C.prices n few laws proved P legal (length I.ships) 0 root_lines C.tree [] (omega arith) laws.root (laws.all P legal) shown

-- so it costs at least the low
pub stands-low : (I : Instance) (C : Certificate) (low : ℕ) → TreeLaws I → Stands I C → IsLow I C low → (P : Plan) → IsLegal I P → low ≤ cost_of I P
stands-low I C low laws stands is P legal = showing-low I C low is.most laws stands.cuts is.shown P legal
