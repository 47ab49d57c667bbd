-- What a mark says that tells of a sweep.
use Rattle.std.specs.Prelude.{ℕ, ◌≡◌, Option, IfSome}
use Rattle.sweep_rules.specs.Uncut.{IsSwept}
use Rattle.closing_rules.specs.ListedPrices.{IsSweptBy}
use Rattle.certificate_rules.specs.Certificates.{cuts_in}
use Rattle.sweep.specs.declared.asked.SweepAsked.{SweepAsked}
use Rattle.sweep.specs.declared.sweeping.SweepEnd.{SweepEnd}
use Rattle.sweep.specs.Ends.{IsSweepEnd}
use Rattle.cert_check.specs.declared.claim.Claim.{Claim}

-- the cuts of the claim have swept its cost
abbrev pub HasSweptCost : Claim → Type 0
HasSweptCost claim = IsSwept claim.instance.now (cuts_in claim.instance.now claim.cuts.now) claim.cost

-- a node of depth k is the root, and they have swept it by the prices of this number
abbrev pub EndsBySweep : Claim → ℕ → ℕ → Type 0
EndsBySweep claim number k = IsSweptBy claim.instance.now (cuts_in claim.instance.now claim.cuts.now) claim.prices.now number k claim.cost

-- a sweep of the claim's cost by its cuts ends so, where it has an end
pub record EndsSweep (claim : Claim) (end : Option SweepEnd) : Type 0 where
  pub asked : SweepAsked
  pub instance : asked.instance.now ≡ claim.instance.now
  pub cuts : asked.cuts.now ≡ claim.chamber_cuts.now
  pub goal : asked.goal ≡ claim.cost
  pub is : IfSome end (IsSweepEnd asked)
