-- Reading marks along a tree: what is read of a node and of its children, with what all open leaves show, and where reading sticks.
use Rattle.std.specs.Prelude.{ℕ, suc, ◌≡◌, ◌≤◌, ◌-◌, ◌⊎◌, List, length, take}
use Rattle.lock_model.specs.declared.group.Group.{Group}
use Rattle.refute_rules.specs.Trees.{AreInOrder}
use Rattle.certificate_rules.specs.declared.certificate.Mark.{Mark}
use Rattle.certificate_rules.specs.declared.certificate.Reason.{Reason}
use Rattle.closing_rules.specs.ListedPrices.{IsPricedBy}
use Rattle.certificate_rules.specs.Certificates.{cuts_in, EndsNode, IsMarkTree}
use Rattle.certificate_rules.specs.Low.{ShowsCost, EndsShowing}
use Rattle.certificate_rules.specs.Failures.{FailInOrder, TreeFails}
use Rattle.master_branch.specs.Node.{children, child_lines}
use Rattle.lock_rules.specs.Node.{Node}
use Rattle.cert_check.specs.declared.claim.Claim.{Claim}

module _ (claim : Claim) where
  -- a mark ends a node of this depth
  abbrev pub Ends : ℕ → List (List Group) → Mark → Type 0
  Ends = EndsNode claim.instance.now claim.cost claim.cuts.now claim.prices.now

  -- the marks begin with a tree of a node of this depth, and the rest follows
  abbrev pub IsTreeOf : ℕ → List (List Group) → List Mark → List Mark → Type 0
  IsTreeOf k lines = IsMarkTree claim.instance.now Ends (length claim.instance.now.ships - k) k lines

  -- reading a tree of a node of this depth ends at `stuck`
  abbrev pub TreeSticks : ℕ → List (List Group) → List Mark → List Mark → Reason → Type 0
  TreeSticks k lines = TreeFails claim.instance.now Ends (length claim.instance.now.ships - k) k lines

  -- a mark shows a number of a node of this depth, where it leaves it open
  abbrev pub Shows : ℕ → ℕ → List (List Group) → Mark → Type 0
  Shows = ShowsCost claim.instance.now claim.cuts.now claim.prices.now

  -- the marks begin with a tree of a node of this depth whose open leaves all show a number, and the rest follows
  abbrev pub TreeShows : ℕ → ℕ → List (List Group) → List Mark → List Mark → Type 0
  TreeShows n k lines =
      IsMarkTree claim.instance.now (EndsShowing claim.instance.now claim.cost claim.cuts.now claim.prices.now n) (length claim.instance.now.ships - k) k lines

  -- the marks begin with a tree of the node, and the rest follows
  pub record IsRead (node : Node) (marks rest : List Mark) : Type 0 where
    pub tree : IsTreeOf node.depth node.lines marks rest

  -- reading a tree of the node ends at `stuck` for a reason
  pub record IsStuck (node : Node) (marks stuck : List Mark) (r : Reason) : Type 0 where
    pub sticks : TreeSticks node.depth node.lines marks stuck r

  -- the same of child i of a node
  pub record IsChildRead (node : Node) (i : ℕ) (marks rest : List Mark) : Type 0 where
    pub tree : IsTreeOf (suc node.depth) (child_lines claim.instance.now node i) marks rest

  pub record IsChildStuck (node : Node) (i : ℕ) (marks stuck : List Mark) (r : Reason) : Type 0 where
    pub sticks : TreeSticks (suc node.depth) (child_lines claim.instance.now node i) marks stuck r

  -- the marks begin with trees of the first n children of a node, and the rest follows
  pub record AreRead (node : Node) (n : ℕ) (marks rest : List Mark) : Type 0 where
    pub trees : AreInOrder (IsTreeOf (suc node.depth)) (take n (children claim.instance.now node)) marks rest

  -- reading trees of all children of a node ends at `stuck` for a reason
  pub record AreStuck (node : Node) (marks stuck : List Mark) (r : Reason) : Type 0 where
    pub stick : FailInOrder (IsTreeOf (suc node.depth)) (TreeSticks (suc node.depth)) (children claim.instance.now node) marks stuck r

  -- A tree of the node is read; of the numbers up to `low` the greatest that all its open leaves show is `least`.
  pub record IsReadLow (node : Node) (low : ℕ) (marks rest : List Mark) (least : ℕ) : Type 0 where
    pub read : IsRead node marks rest
    pub most : least ≤ low
    pub shown : TreeShows least node.depth node.lines marks rest
    pub greatest : (n : ℕ) → n ≤ low → TreeShows n node.depth node.lines marks rest → n ≤ least

  -- the same of child i of a node
  pub record IsChildReadLow (node : Node) (i low : ℕ) (marks rest : List Mark) (least : ℕ) : Type 0 where
    pub read : IsChildRead node i marks rest
    pub most : least ≤ low
    pub shown : TreeShows least (suc node.depth) (child_lines claim.instance.now node i) marks rest
    pub greatest : (n : ℕ) → n ≤ low → TreeShows n (suc node.depth) (child_lines claim.instance.now node i) marks rest → n ≤ least

  -- the same of the first n children of a node, in order
  pub record AreReadLow (node : Node) (n low : ℕ) (marks rest : List Mark) (least : ℕ) : Type 0 where
    pub read : AreRead node n marks rest
    pub most : least ≤ low
    pub shown : AreInOrder (TreeShows least (suc node.depth)) (take n (children claim.instance.now node)) marks rest
    pub greatest : (m : ℕ) → m ≤ low → AreInOrder (TreeShows m (suc node.depth)) (take n (children claim.instance.now node)) marks rest → m ≤ least

  -- and of all of them
  abbrev pub AreAllReadLow : Node → ℕ → List Mark → List Mark → ℕ → Type 0
  AreAllReadLow node = AreReadLow node (length (children claim.instance.now node))

  -- of the numbers up to `low` the greatest that a mark of a node of this depth shows is `least`
  pub record IsLoweredBy (k : ℕ) (lines : List (List Group)) (m : Mark) (low least : ℕ) : Type 0 where
    pub most : least ≤ low
    pub shown : Shows least k lines m
    pub greatest : (n : ℕ) → n ≤ low → Shows n k lines m → n ≤ least

  -- of the costs up to `most` the greatest that a node of this depth reaches by the prices of a number, and 0 where it reaches none
  pub record IsMostPriced (k : ℕ) (lines : List (List Group)) (number most cost : ℕ) : Type 0 where
    pub low : cost ≤ most
    pub known : (cost ≡ 0) ⊎ IsPricedBy claim.instance.now (cuts_in claim.instance.now claim.cuts.now) claim.prices.now number k lines cost
    pub greatest : (other : ℕ) → other ≤ most → IsPricedBy claim.instance.now (cuts_in claim.instance.now claim.cuts.now) claim.prices.now number k lines other → other ≤ cost
