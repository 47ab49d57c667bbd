-- The first failure of the marks, and that a certificate that doesn't stand has one first failure.
use Rattle.std.specs.Prelude.{ℕ, ◌≡◌, ◌≤◌, ◌-◌, List, [], length, All}
use Rattle.lock_model.specs.declared.instance.Instance.{Instance}
use Rattle.lock_model.specs.declared.plan.Plan.{Plan}
use Rattle.lock_rules.specs.Plan.{IsLegal, cost_of}
use Rattle.lock_rules.specs.Node.{root_lines}
use Rattle.certificate_rules.specs.declared.certificate.FailurePlace.{FailurePlace}
use Rattle.certificate_rules.specs.declared.certificate.Reason.{Reason}
use Rattle.certificate_rules.specs.declared.certificate.Mark.{Mark}
use Rattle.closing_rules.specs.ProvedCuts.{CertCut, IsProved}
use Rattle.price_rules.specs.Prices.{PriceList}
use Rattle.closing_rules.specs.ListedPrices.{AreShapedPrices}
use Rattle.certificate_rules.specs.Certificates.{Certificate, EndsNode, IsMarkTree, Stands}
use Rattle.certificate_rules.specs.Low.{EndsShowing}
use Rattle.certificate_rules.specs.Failures.{MarksFail, FailsAt, Fails}
use Rattle.cert_check.specs.declared.claim.Claim.{Claim}

-- the same place and the same reason
pub record AreSameFailure (p q : FailurePlace) (r s : Reason) : Type 0 where
  pub place : p ≡ q
  pub reason : r ≡ s

-- No certificate fails first in two ways, none that stands fails, and none neither stands nor fails.
pub record HaveOneFailure : Type 0 where
  pub same : (I : Instance) (C : Certificate) (p q : FailurePlace) (r s : Reason) → Fails I C p r → Fails I C q s → AreSameFailure p q r s
  pub none : (I : Instance) (C : Certificate) (p : FailurePlace) (r : Reason) → Stands I C → Fails I C p r → ⊥
  pub some : (I : Instance) (C : Certificate) → (Stands I C → ⊥) → ((p : FailurePlace) (r : Reason) → Fails I C p r → ⊥) → ⊥

-- the plan is legal and has the cost, each cut is proved, and each prices are one for each ship and of triples of these
pub record HoldBeforeMarks (I : Instance) (cost : ℕ) (cuts : List CertCut) (prices : List PriceList) (plan : Plan) : Type 0 where
  pub legal : IsLegal I plan
  pub costs : cost_of I plan ≡ cost
  pub proved : All (IsProved I) cuts
  pub shaped : All (AreShapedPrices I) prices

-- the plan, the cost, a cut or prices fail first, whatever marks there are
pub record FailBeforeMarks (I : Instance) (cost : ℕ) (cuts : List CertCut) (prices : List PriceList) (plan : Plan) (p : FailurePlace) (r : Reason) : Type 0 where
  pub fails : FailsAt I cost cuts prices plan [] (λ stuck why. ⊥) p r

-- the marks fail first at mark p
pub record FailAtMark (I : Instance) (cost : ℕ) (cuts : List CertCut) (prices : List PriceList) (marks : List Mark) (p : ℕ) (r : Reason) : Type 0 where
  pub stuck : List Mark
  pub place : p ≡ length marks - length stuck
  pub fails : MarksFail I (EndsNode I cost cuts prices) marks stuck r

-- the marks are one tree of the root, and of the numbers up to the cost `low` is the greatest that all its open leaves show
pub record IsLowOfMarks (I : Instance) (cost : ℕ) (cuts : List CertCut) (prices : List PriceList) (marks : List Mark) (low : ℕ) : Type 0 where
  pub tree : IsMarkTree I (EndsNode I cost cuts prices) (length I.ships) 0 root_lines marks []
  pub most : low ≤ cost
  pub shown : IsMarkTree I (EndsShowing I cost cuts prices low) (length I.ships) 0 root_lines marks []
  pub greatest : (n : ℕ) → n ≤ cost → IsMarkTree I (EndsShowing I cost cuts prices n) (length I.ships) 0 root_lines marks [] → n ≤ low

-- the same of marks that are held against a claim
abbrev pub FailsBy : Claim → List Mark → ℕ → Reason → Type 0
FailsBy claim = FailAtMark claim.instance.now claim.cost claim.cuts.now claim.prices.now

abbrev pub IsLowBy : Claim → List Mark → ℕ → Type 0
IsLowBy claim = IsLowOfMarks claim.instance.now claim.cost claim.cuts.now claim.prices.now

-- and of the marks of a certificate
abbrev pub FailsInTree : Instance → Certificate → ℕ → Reason → Type 0
FailsInTree I C = FailAtMark I C.cost C.cuts C.prices C.tree

abbrev pub IsLowOfTree : Instance → Certificate → ℕ → Type 0
IsLowOfTree I C = IsLowOfMarks I C.cost C.cuts C.prices C.tree
