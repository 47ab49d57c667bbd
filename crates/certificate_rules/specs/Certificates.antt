-- Certificates, whole and open, and when one stands and is accepted.
use Rattle.std.specs.Prelude.{ℕ, zero, suc, ◌≡◌, ◌<◌, ◌⊎◌, List, [], ◌∷◌, length, map, All, slice_index_or, ⊤}
use Rattle.lock_model.specs.Fitting.{deck_of}
use Rattle.lock_model.specs.declared.instance.Instance.{Instance}
use Rattle.lock_model.specs.declared.group.Group.{Group}
use Rattle.lock_model.specs.declared.plan.Plan.{Plan}
use Rattle.lock_rules.specs.Plan.{IsLegal, cost_of}
use Rattle.lock_rules.specs.Node.{root_lines}
use Rattle.lock_rules.specs.Children.{children_of}
use Rattle.lock_rules.specs.Bound.{bound_of}
use Rattle.lock_rules.specs.Cut.{HitsNode}
use Rattle.price_rules.specs.Prices.{PriceList, PlainCut}
use Rattle.refute_rules.specs.Trees.{AreInOrder}
use Rattle.certificate_rules.specs.declared.certificate.Mark.{Mark}
use Rattle.certificate_rules.specs.declared.certificate.Mark.TheVariants as mark
use Rattle.closing_rules.specs.Grounds.{IsClosedBy}
use Rattle.closing_rules.specs.ProvedCuts.{CertCut, IsProved}
use Rattle.closing_rules.specs.ListedPrices.{AreShapedPrices, cut_in, IsPricedBy, IsSweptBy}

pub record Certificate : Type 0 where
  pub cost : ℕ
  pub cuts : List CertCut
  pub plan : Plan
  pub prices : List PriceList
  pub tree : List Mark

-- the cut of this number is there and hits a group of the node
pub record IsCutBy (I : Instance) (cuts : List CertCut) (number : ℕ) (lines : List (List Group)) : Type 0 where
  pub cut : CertCut
  pub known : number < length cuts
  pub is : slice_index_or cuts number cut ≡ cut
  pub hits : HitsNode cut.ships (deck_of I cut.chamber cut.ships) I lines

-- the cuts as prices see them
abbrev pub cuts_in : Instance → List CertCut → List PlainCut
cuts_in I cuts = map (λ (c : CertCut). cut_in I c.chamber c.ships) cuts

-- the mark ends a node of depth k against this cost: it closes it, or leaves it open, by prices that are there where it names some
abbrev pub EndsNode : Instance → ℕ → List CertCut → List PriceList → ℕ → List (List Group) → Mark → Type 0
EndsNode I cost cuts prices k lines mark.Split = ⊥
EndsNode I cost cuts prices k lines (mark.Leaf why) =
    IsClosedBy I (IsCutBy I cuts) (IsPricedBy I (cuts_in I cuts) prices) (IsSweptBy I (cuts_in I cuts) prices) cost (bound_of I k lines) k lines why
EndsNode I cost cuts prices k lines mark.Open = ⊤
EndsNode I cost cuts prices k lines (mark.OpenPriced number) = number < length prices

-- the marks begin with one that ends the node, and the rest follows
abbrev pub IsEndLeaf : (ℕ → List (List Group) → Mark → Type 0) → ℕ → List (List Group) → List Mark → List Mark → Type 0
IsEndLeaf Ends k lines marks rest = (m : Mark) × Ends k lines m × (marks ≡ m ∷ rest)

-- The marks begin with one tree of a node of depth k that lacks so many ships, and the rest follows: a mark that ends it, or, where
-- it lacks a ship, a split mark and trees of all children in order.
abbrev pub IsMarkTree :
    Instance → (ℕ → List (List Group) → Mark → Type 0) → ℕ → ℕ → List (List Group) → List Mark → List Mark → Type 0
IsMarkTree I Ends zero k lines marks rest = IsEndLeaf Ends k lines marks rest
IsMarkTree I Ends (suc lacking) k lines marks rest =
    IsEndLeaf Ends k lines marks rest
    ⊎ ((inner : List Mark) × (marks ≡ mark.Split ∷ inner) × AreInOrder (IsMarkTree I Ends lacking (suc k)) (children_of I k lines) inner rest)

-- exactly one certificate tree of the root
abbrev pub IsCertTree : Instance → Certificate → Type 0
IsCertTree I C = IsMarkTree I (EndsNode I C.cost C.cuts C.prices) (length I.ships) 0 root_lines C.tree []

-- The plan is legal and has the cost, each cut is proved, each prices are one for each ship and of triples of these, and the marks are one certificate tree.
pub record Stands (I : Instance) (C : Certificate) : Type 0 where
  pub legal : IsLegal I C.plan
  pub cost : cost_of I C.plan ≡ C.cost
  pub cuts : All (IsProved I) C.cuts
  pub prices : All (AreShapedPrices I) C.prices
  pub tree : IsCertTree I C

abbrev pub IsNoOpenLeaf : Mark → Type 0
IsNoOpenLeaf mark.Split = ⊤
IsNoOpenLeaf (mark.Leaf why) = ⊤
IsNoOpenLeaf mark.Open = ⊥
IsNoOpenLeaf (mark.OpenPriced number) = ⊥

abbrev pub HasNoOpenLeaf : List Mark → Type 0
HasNoOpenLeaf [] = ⊤
HasNoOpenLeaf (m ∷ marks) = IsNoOpenLeaf m × HasNoOpenLeaf marks

-- It stands, and none of its marks leaves a node open.
pub record Accepts (I : Instance) (C : Certificate) : Type 0 where
  pub stands : Stands I C
  pub whole : HasNoOpenLeaf C.tree
