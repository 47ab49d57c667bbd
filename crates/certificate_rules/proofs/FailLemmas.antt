-- A certificate that fails at some place doesn't stand.
use Rattle.std.proofs.Common.{◌≡◌, ℕ, zero, suc, List, [], ◌∷◌, refl, sym, ◌∙◌, subst, length, ◌⊎◌, inl, inr, All}
use Rattle.list_laws.proofs.Lists.{same-tails, same-heads}
use Rattle.lock_model.specs.declared.instance.Instance.{Instance}
use Rattle.lock_model.specs.declared.group.Group.{Group}
use Rattle.lock_rules.specs.Node.{root_lines}
use Rattle.lock_rules.specs.Children.{children_of}
use Rattle.price_rules.specs.Prices.{PriceList}
use Rattle.refute_rules.specs.Trees.{AreInOrder}
use Rattle.certificate_rules.specs.declared.certificate.Mark.{Mark}
use Rattle.certificate_rules.specs.declared.certificate.Mark.TheVariants as mark
use Rattle.certificate_rules.specs.declared.certificate.FailurePlace.{FailurePlace}
use Rattle.certificate_rules.specs.declared.certificate.FailurePlace.TheVariants as place
use Rattle.certificate_rules.specs.declared.certificate.Reason.{Reason}
use Rattle.closing_rules.specs.ProvedCuts.{CertCut, IsProved}
use Rattle.closing_rules.specs.ListedPrices.{AreShapedPrices}
use Rattle.certificate_rules.specs.Certificates.{Certificate, EndsNode, IsMarkTree, Stands}
use Rattle.certificate_rules.specs.Failures.{FailInOrder, FailsHere, TreeFails, MarksFail, CutFails, PricesFail, Fails}

nil-cons : {X : Type 0} (x : X) (xs : List X) → [] ≡ x ∷ xs → ⊥
nil-cons x xs e = cc

pub in_order-unique : {X M : Type 0} (Tree : X → List M → List M → Type 0) → ((x : X) (m r s : List M) → Tree x m r → Tree x m s → r ≡ s) → (xs : List X) (m r s : List M) → AreInOrder Tree xs m r → AreInOrder Tree xs m s → r ≡ s
in_order-unique Tree one [] m r s a b = sym a ∙ b
in_order-unique Tree one (x ∷ xs) m r s a b =
    let same : a.0 ≡ b.0 = one x m a.0 b.0 a.1 b.1 in
    in_order-unique Tree one xs b.0 r s (subst (λ u. AreInOrder Tree xs u r) same a.2) b.2

in_order-not_fails : {X M : Type 0} (Tree : X → List M → List M → Type 0) (Failing : X → List M → List M → Reason → Type 0)
    → ((x : X) (m r s : List M) → Tree x m r → Tree x m s → r ≡ s) → ((x : X) (m r stuck : List M) (why : Reason) → Tree x m r → Failing x m stuck why → ⊥)
    → (xs : List X) (m r stuck : List M) (why : Reason) → AreInOrder Tree xs m r → FailInOrder Tree Failing xs m stuck why → ⊥
in_order-not_fails Tree Failing one never [] m r stuck why a f = absurd f
in_order-not_fails Tree Failing one never (x ∷ xs) m r stuck why a (inl f) = never x m a.0 stuck why a.1 f
in_order-not_fails Tree Failing one never (x ∷ xs) m r stuck why a (inr f) =
    in_order-not_fails Tree Failing one never xs f.0 r stuck why (subst (λ u. AreInOrder Tree xs u r) (one x m a.0 f.0 a.1 f.1) a.2) f.2

module _ (I : Instance) (Ends : ℕ → List (List Group) → Mark → Type 0) (no_split : (k : ℕ) (lines : List (List Group)) → Ends k lines mark.Split → ⊥) where
  abbrev Tree : ℕ → ℕ → List (List Group) → List Mark → List Mark → Type 0
  Tree = IsMarkTree I Ends

  leaf-split : (k : ℕ) (lines : List (List Group)) (m : Mark) (marks rest inner : List Mark) → Ends k lines m → marks ≡ m ∷ rest → marks ≡ mark.Split ∷ inner → ⊥
  leaf-split k lines m marks rest inner closes e f = no_split k lines (subst (Ends k lines) (same-heads m mark.Split rest inner (sym e ∙ f)) closes)

  -- the marks have one tree at their front at most
  pub tree-unique : (lacking k : ℕ) (lines : List (List Group)) (marks r s : List Mark) → Tree lacking k lines marks r → Tree lacking k lines marks s → r ≡ s
  tree-unique zero k lines marks r s a b = same-tails a.0 b.0 r s (sym a.2 ∙ b.2)
  tree-unique (suc lacking) k lines marks r s (inl a) (inl b) = same-tails a.0 b.0 r s (sym a.2 ∙ b.2)
  tree-unique (suc lacking) k lines marks r s (inl a) (inr b) = absurd (leaf-split k lines a.0 marks r b.0 a.1 a.2 b.1)
  tree-unique (suc lacking) k lines marks r s (inr a) (inl b) = absurd (leaf-split k lines b.0 marks s a.0 b.1 b.2 a.1)
  tree-unique (suc lacking) k lines marks r s (inr a) (inr b) =
      let same : a.0 ≡ b.0 = same-tails mark.Split mark.Split a.0 b.0 (sym a.1 ∙ b.1) in
      in_order-unique (Tree lacking (suc k)) (λ x m r s t u. tree-unique lacking (suc k) x m r s t u) (children_of I k lines) b.0 r s
      (subst (λ u. AreInOrder (Tree lacking (suc k)) (children_of I k lines) u r) same a.2) b.2

  leaf-not_here : (Closed' : Mark → Type 0) (marks stuck : List Mark) (why : Reason) (m : Mark) (rest : List Mark) → Closed' m → marks ≡ m ∷ rest → FailsHere Closed' marks stuck why → ⊥
  leaf-not_here Closed' [] stuck why m rest closes e f = nil-cons m rest e
  leaf-not_here Closed' (n ∷ ns) stuck why m rest closes e f = f.1 (subst Closed' (sym (same-heads n m ns rest e)) closes)

  pub tree-not_fails : (lacking k : ℕ) (lines : List (List Group)) (marks rest stuck : List Mark) (why : Reason) → Tree lacking k lines marks rest → TreeFails I Ends lacking k lines marks stuck why → ⊥
  tree-not_fails zero k lines marks rest stuck why a f = leaf-not_here (Ends k lines) marks stuck why a.0 rest a.1 a.2 f
  tree-not_fails (suc lacking) k lines marks rest stuck why (inl a) (inl f) = leaf-not_here (λ m. Ends k lines m ⊎ (m ≡ mark.Split)) marks stuck why a.0 rest (inl a.1) a.2 f
  tree-not_fails (suc lacking) k lines marks rest stuck why (inl a) (inr f) = leaf-split k lines a.0 marks rest f.0 a.1 a.2 f.1
  tree-not_fails (suc lacking) k lines marks rest stuck why (inr a) (inl f) = leaf-not_here (λ m. Ends k lines m ⊎ (m ≡ mark.Split)) marks stuck why mark.Split a.0 (inr refl) a.1 f
  tree-not_fails (suc lacking) k lines marks rest stuck why (inr a) (inr f) =
      let same : a.0 ≡ f.0 = same-tails mark.Split mark.Split a.0 f.0 (sym a.1 ∙ f.1) in
      in_order-not_fails (Tree lacking (suc k)) (TreeFails I Ends lacking (suc k))
      (λ x m r s t u. tree-unique lacking (suc k) x m r s t u) (λ x m r stuck why t u. tree-not_fails lacking (suc k) x m r stuck why t u) (children_of I k lines) f.0 rest stuck why
      (subst (λ u. AreInOrder (Tree lacking (suc k)) (children_of I k lines) u rest) same a.2) f.2

  pub marks-not_fail : (marks stuck : List Mark) (why : Reason) → Tree (length I.ships) 0 root_lines marks [] → MarksFail I Ends marks stuck why → ⊥
  marks-not_fail marks stuck why a (inl f) = tree-not_fails (length I.ships) 0 root_lines marks [] stuck why a f
  marks-not_fail marks stuck why a (inr f) = f.0 (tree-unique (length I.ships) 0 root_lines marks stuck [] f.2 a)

cuts-not_fail : (I : Instance) (cuts : List CertCut) (c : ℕ) (why : Reason) → All (IsProved I) cuts → CutFails I cuts c why → ⊥
cuts-not_fail I cuts c why proved f =
    let good : IsProved I f.cut = subst (IsProved I) f.is (proved c f.cut f.known) in
    elim f.unproved [ inl u ↦ u.0 good.shaped | inr u ↦ u.1 good ]

prices-not_fail : (I : Instance) (prices : List PriceList) (v : ℕ) (why : Reason) → All (AreShapedPrices I) prices → PricesFail I prices v why → ⊥
prices-not_fail I prices v why shaped f = f.misshaped (subst (AreShapedPrices I) f.is (shaped v f.own f.known))

-- a certificate that fails doesn't stand
pub fails-not_stands : (I : Instance) (C : Certificate) (at : FailurePlace) (why : Reason) → Fails I C at why → Stands I C → ⊥
fails-not_stands I C place.Plan why f a = f.0 a.legal
fails-not_stands I C place.Cost why f a = f.1 a.cost
fails-not_stands I C (place.Cut c) why f a = cuts-not_fail I C.cuts c why a.cuts f.2
fails-not_stands I C (place.Prices v) why f a = prices-not_fail I C.prices v why a.prices f.3
fails-not_stands I C (place.Tree p) why f a = marks-not_fail I (EndsNode I C.cost C.cuts C.prices) (λ k lines h. h) C.tree f.4 why a.tree f.6
