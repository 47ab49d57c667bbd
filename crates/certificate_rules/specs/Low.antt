-- What a certificate proves: no plan costs less than its low.
use Rattle.std.specs.Prelude.{ℕ, ◌≤◌, ◌⊎◌, List, [], length, ⊤}
use Rattle.lock_model.specs.declared.instance.Instance.{Instance}
use Rattle.lock_model.specs.declared.group.Group.{Group}
use Rattle.lock_rules.specs.Node.{root_lines}
use Rattle.lock_rules.specs.Bound.{bound_of}
use Rattle.price_rules.specs.Prices.{PriceList}
use Rattle.closing_rules.specs.ProvedCuts.{CertCut}
use Rattle.closing_rules.specs.ListedPrices.{IsPricedBy}
use Rattle.certificate_rules.specs.declared.certificate.Mark.{Mark}
use Rattle.certificate_rules.specs.Certificates.{Certificate, cuts_in, EndsNode, IsMarkTree}
use Rattle.certificate_rules.specs.declared.certificate.Mark.TheVariants as mark

-- A mark that leaves a node of depth k open shows n of it: the node's bound is as much, or the node reaches it by the mark's prices.
abbrev pub ShowsCost : Instance → List CertCut → List PriceList → ℕ → ℕ → List (List Group) → Mark → Type 0
ShowsCost I cuts prices n k lines mark.Split = ⊤
ShowsCost I cuts prices n k lines (mark.Leaf why) = ⊤
ShowsCost I cuts prices n k lines mark.Open = n ≤ bound_of I k lines
ShowsCost I cuts prices n k lines (mark.OpenPriced number) =
    (n ≤ bound_of I k lines) ⊎ IsPricedBy I (cuts_in I cuts) prices number k lines n

-- the mark ends the node against this cost, and shows n of it where it leaves it open
abbrev pub EndsShowing : Instance → ℕ → List CertCut → List PriceList → ℕ → ℕ → List (List Group) → Mark → Type 0
EndsShowing I cost cuts prices n k lines m = EndsNode I cost cuts prices k lines m × ShowsCost I cuts prices n k lines m

-- exactly one certificate tree of the root, each open leaf of which shows n
abbrev pub IsTreeShowing : Instance → Certificate → ℕ → Type 0
IsTreeShowing I C n = IsMarkTree I (EndsShowing I C.cost C.cuts C.prices n) (length I.ships) 0 root_lines C.tree []

-- The greatest number up to the cost that all open leaves show: the least of the cost and of what each leaf shows at the most.
pub record IsLow (I : Instance) (C : Certificate) (low : ℕ) : Type 0 where
  pub most : low ≤ C.cost
  pub shown : IsTreeShowing I C low
  pub greatest : (n : ℕ) → n ≤ C.cost → IsTreeShowing I C n → n ≤ low
