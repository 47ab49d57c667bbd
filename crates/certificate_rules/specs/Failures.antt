-- The first place and reason at which a certificate fails: the plan, the cost, the cuts in order, the prices in order, then the marks in order.
use Rattle.std.specs.Prelude.{ℕ, zero, suc, ◌≡◌, ◌≢◌, ◌-◌, ◌<◌, ◌⊎◌, List, [], ◌∷◌, length, take, All, slice_index_or}
use Rattle.lock_model.specs.declared.instance.Instance.{Instance}
use Rattle.lock_model.specs.declared.group.Group.{Group}
use Rattle.lock_model.specs.declared.plan.Plan.{Plan}
use Rattle.lock_rules.specs.Plan.{IsLegal, cost_of}
use Rattle.lock_rules.specs.Node.{root_lines}
use Rattle.lock_rules.specs.Children.{children_of}
use Rattle.price_rules.specs.Prices.{PriceList}
use Rattle.closing_rules.specs.declared.grounds.Ground.{Ground}
use Rattle.closing_rules.specs.declared.grounds.Ground.TheVariants as by
use Rattle.certificate_rules.specs.declared.certificate.Mark.{Mark}
use Rattle.certificate_rules.specs.declared.certificate.Mark.TheVariants as mark
use Rattle.certificate_rules.specs.declared.certificate.FailurePlace.{FailurePlace}
use Rattle.certificate_rules.specs.declared.certificate.FailurePlace.TheVariants as place
use Rattle.certificate_rules.specs.declared.certificate.Reason.{Reason}
use Rattle.certificate_rules.specs.declared.certificate.Reason.TheVariants as reason
use Rattle.closing_rules.specs.ProvedCuts.{CertCut, IsShaped, IsProved}
use Rattle.closing_rules.specs.ListedPrices.{AreShapedPrices}
use Rattle.certificate_rules.specs.Certificates.{Certificate, EndsNode, IsMarkTree}

-- why a node isn't closed so
abbrev pub ground_reason : Ground → Reason
ground_reason by.Bound = reason.BoundLow
ground_reason by.Throughput = reason.ThroughputLow
ground_reason (by.Probe s) = reason.ProbeWrong
ground_reason (by.Cut number) = reason.CutMisses
ground_reason (by.Price number) = reason.PriceLow
ground_reason (by.Swept number) = reason.SweptWrong

-- why a mark that should end a node doesn't; a split mark doesn't where no ship is lacking, an open leaf without prices always does, and
-- of one whose prices aren't there the reason is that of a root that isn't swept
abbrev pub reason_of : Mark → Reason
reason_of mark.Split = reason.SplitFull
reason_of (mark.Leaf why) = ground_reason why
reason_of mark.Open = reason.SplitFull
reason_of (mark.OpenPriced number) = reason.SweptWrong

-- reading one tree after the other from the marks on, it ends at `stuck` for a reason
abbrev pub FailInOrder :
    {X M : Type 0} → (X → List M → List M → Type 0) → (X → List M → List M → Reason → Type 0) → List X → List M → List M → Reason → Type 0
FailInOrder Tree Fails [] marks stuck r = ⊥
FailInOrder {X} {M} Tree Fails (x ∷ xs) marks stuck r =
    Fails x marks stuck r ⊎ ((middle : List M) × Tree x marks middle × FailInOrder Tree Fails xs middle stuck r)

-- no mark is left, or the first one doesn't end the node
abbrev pub FailsHere : (Mark → Type 0) → List Mark → List Mark → Reason → Type 0
FailsHere Ends [] stuck r = (stuck ≡ []) × (r ≡ reason.TreeShort)
FailsHere Ends (m ∷ ms) stuck r = (stuck ≡ m ∷ ms) × (Ends m → ⊥) × (r ≡ reason_of m)

-- Reading a tree of a node of depth k from the marks on, it ends at `stuck` for a reason.
abbrev pub TreeFails :
    Instance → (ℕ → List (List Group) → Mark → Type 0) → ℕ → ℕ → List (List Group) → List Mark → List Mark → Reason → Type 0
TreeFails I Ends zero k lines marks stuck r = FailsHere (Ends k lines) marks stuck r
TreeFails I Ends (suc lacking) k lines marks stuck r =
    FailsHere (λ m. Ends k lines m ⊎ (m ≡ mark.Split)) marks stuck r
    ⊎ ((inner : List Mark) × (marks ≡ mark.Split ∷ inner)
    × FailInOrder (IsMarkTree I Ends lacking (suc k)) (TreeFails I Ends lacking (suc k)) (children_of I k lines) inner stuck r)

-- The marks aren't one tree of the root: reading ends at `stuck`, or a tree is read and marks are left over.
abbrev pub MarksFail : Instance → (ℕ → List (List Group) → Mark → Type 0) → List Mark → List Mark → Reason → Type 0
MarksFail I Ends marks stuck r =
    TreeFails I Ends (length I.ships) 0 root_lines marks stuck r
    ⊎ ((stuck ≢ []) × (r ≡ reason.TreeLong) × IsMarkTree I Ends (length I.ships) 0 root_lines marks stuck)

-- cut number c is the first that isn't proved: it is misshaped, or its refutation fails
pub record CutFails (I : Instance) (cuts : List CertCut) (c : ℕ) (r : Reason) : Type 0 where
  pub cut : CertCut
  pub known : c < length cuts
  pub is : slice_index_or cuts c cut ≡ cut
  pub before : All (IsProved I) (take c cuts)
  pub unproved : ((IsShaped I cut → ⊥) × (r ≡ reason.CutShape)) ⊎ (IsShaped I cut × (IsProved I cut → ⊥) × (r ≡ reason.CutUnproved))

-- prices number v are the first that aren't one for each ship and of triples of these
pub record PricesFail (I : Instance) (prices : List PriceList) (v : ℕ) (r : Reason) : Type 0 where
  pub own : PriceList
  pub known : v < length prices
  pub is : slice_index_or prices v own ≡ own
  pub before : All (AreShapedPrices I) (take v prices)
  pub misshaped : AreShapedPrices I own → ⊥
  pub reason : r ≡ reason.PricesShape

-- The first place and reason at which a certificate fails; `Fail` says it of the marks that are left at the place.
abbrev pub FailsAt :
    Instance → ℕ → List CertCut → List PriceList → Plan → List Mark → (List Mark → Reason → Type 0) → FailurePlace → Reason → Type 0
FailsAt I cost cuts prices plan tree Fail place.Plan r = (IsLegal I plan → ⊥) × (r ≡ reason.PlanIllegal)
FailsAt I cost cuts prices plan tree Fail place.Cost r = IsLegal I plan × (cost_of I plan ≢ cost) × (r ≡ reason.CostWrong)
FailsAt I cost cuts prices plan tree Fail (place.Cut c) r = IsLegal I plan × (cost_of I plan ≡ cost) × CutFails I cuts c r
FailsAt I cost cuts prices plan tree Fail (place.Prices v) r = IsLegal I plan × (cost_of I plan ≡ cost) × All (IsProved I) cuts × PricesFail I prices v r
FailsAt I cost cuts prices plan tree Fail (place.Tree p) r =
    IsLegal I plan × (cost_of I plan ≡ cost) × All (IsProved I) cuts × All (AreShapedPrices I) prices
    × (stuck : List Mark) × (p ≡ length tree - length stuck) × Fail stuck r

abbrev pub Fails : Instance → Certificate → FailurePlace → Reason → Type 0
Fails I C = FailsAt I C.cost C.cuts C.prices C.plan C.tree (MarksFail I (EndsNode I C.cost C.cuts C.prices) C.tree)
