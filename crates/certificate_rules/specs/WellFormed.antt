-- Certificates that can be written down.
use Rattle.std.specs.Prelude.{ℕ, ◌≡◌, ◌≤◌, ◌<◌, ◌^◌, List, length, All, if◌then◌else◌, ⊤}
use Rattle.lock_model.specs.declared.limits.TheConstants.{FEW_SHIPS, MOST, SHIPS}
use Rattle.lock_model.specs.Limits.{Within}
use Rattle.lock_model.specs.Fleet.{is_large, most_lockages}
use Rattle.lock_model.specs.declared.ship.Ship.{Ship}
use Rattle.lock_model.specs.declared.instance.Instance.{Instance}
use Rattle.lock_model.specs.declared.plan.Lockage.{Lockage}
use Rattle.refute_rules.specs.declared.refutation.Quick.{Quick}
use Rattle.refute_rules.specs.declared.refutation.Quick.TheVariants.{Area, Row, Column}
use Rattle.refute_rules.specs.declared.refutation.Refutation.{Refutation}
use Rattle.closing_rules.specs.declared.grounds.Ground.{Ground}
use Rattle.closing_rules.specs.declared.grounds.Ground.TheVariants as by
use Rattle.certificate_rules.specs.declared.certificate.Mark.{Mark}
use Rattle.certificate_rules.specs.declared.numbering.Numbering.{Numbering}
use Rattle.certificate_rules.specs.declared.numbering.Numbering.TheVariants.{Few, Many}
use Rattle.closing_rules.specs.ProvedCuts.{CertCut}
use Rattle.price_rules.specs.Prices.{PriceList}
use Rattle.closing_rules.specs.ListedPrices.{ArePrices}
use Rattle.certificate_rules.specs.Certificates.{Certificate}
use Rattle.refute_rules.specs.declared.refutation.Refutation.TheVariants as refutation
use Rattle.certificate_rules.specs.declared.certificate.Mark.TheVariants as mark

-- how marks are numbered in a tree of an instance with these ships
unfoldable pub numbering_of : List Ship → Numbering
numbering_of ships = if is_large ships then Many else Few

-- the ships that a mark may name, from the first on
abbrev pub probed_ships : Numbering → ℕ
probed_ships Few = FEW_SHIPS
probed_ships Many = SHIPS

abbrev pub IsFormedReason : Quick → Type 0
IsFormedReason Area = ⊤
IsFormedReason (Row S) = 1 ≤ length S
IsFormedReason (Column S) = 1 ≤ length S

abbrev pub IsFormedRefutation : Refutation → Type 0
IsFormedRefutation (refutation.Quick q) = IsFormedReason q
IsFormedRefutation (refutation.Cases marks) = ⊤
IsFormedRefutation (refutation.Spots marks) = ⊤
IsFormedRefutation (refutation.Clash i j) = i < j
IsFormedRefutation (refutation.Berths marks) = ⊤

abbrev pub IsFormedCut : CertCut → Type 0
IsFormedCut c = Within 1 MOST (length c.ships) × IsFormedRefutation c.refutation

abbrev pub IsFormedLockage : Lockage → Type 0
IsFormedLockage l = Within 1 MOST (length l.ships) × (length l.spots ≡ length l.ships)

-- 1 to so many prices, none above 1,000,000
abbrev pub AreFormedPrices : ℕ → PriceList → Type 0
AreFormedPrices most prices = Within 1 most (length prices.ships) × ArePrices prices

abbrev pub IsFormedGround : Numbering → Ground → Type 0
IsFormedGround numbering (by.Probe s) = s < probed_ships numbering
IsFormedGround numbering (by.Cut number) = number < 2 ^ 63
IsFormedGround numbering (by.Price number) = number < 2 ^ 63
IsFormedGround numbering (by.Swept number) = number < 2 ^ 63
IsFormedGround numbering _ = ⊤

abbrev pub IsFormedMark : Numbering → Mark → Type 0
IsFormedMark numbering mark.Split = ⊤
IsFormedMark numbering (mark.Leaf why) = IsFormedGround numbering why
IsFormedMark numbering mark.Open = ⊤
IsFormedMark numbering (mark.OpenPriced number) = number < 2 ^ 63

-- what a certificate of an instance keeps that may be written down
pub record IsWellFormed (I : Instance) (C : Certificate) : Type 0 where
  pub cuts : All IsFormedCut C.cuts
  pub few : length C.plan.lockages ≤ most_lockages I.ships
  pub lockages : All IsFormedLockage C.plan.lockages
  pub prices : All (AreFormedPrices (most_lockages I.ships)) C.prices
  pub marks : All (IsFormedMark (numbering_of I.ships)) C.tree
