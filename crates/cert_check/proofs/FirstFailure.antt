-- A certificate has one first failure at most.
use Rattle.std.proofs.Common.{◌≡◌, ℕ, zero, suc, ◌<◌, ◌-◌, List, [], ◌∷◌, refl, sym, ap, ◌∙◌, subst, length, take, ◌⊎◌, inl, inr, slice_index_or, arith, get_or-take}
use Rattle.std.proofs.lemmas.Bool.Decides.{leb_tells}
use Rattle.std.proofs.lemmas.List.{get_or_default, length-take}
use Rattle.list_laws.proofs.Lists.{same-tails, same-heads}
use Rattle.lock_model.specs.declared.instance.Instance.{Instance}
use Rattle.lock_model.specs.declared.group.Group.{Group}
use Rattle.lock_model.specs.declared.plan.Plan.{Plan}
use Rattle.lock_rules.specs.Node.{root_lines}
use Rattle.lock_rules.specs.Children.{children_of}
use Rattle.certificate_rules.specs.declared.certificate.Mark.{Mark}
use Rattle.certificate_rules.specs.declared.certificate.Mark.TheVariants as mark
use Rattle.certificate_rules.specs.declared.certificate.FailurePlace.{FailurePlace}
use Rattle.certificate_rules.specs.declared.certificate.FailurePlace.TheVariants as place
use Rattle.certificate_rules.specs.declared.certificate.Reason.{Reason}
use Rattle.certificate_rules.specs.declared.certificate.Reason.TheVariants as reason
use Rattle.closing_rules.specs.ProvedCuts.{CertCut, IsShaped, IsProved}
use Rattle.price_rules.specs.Prices.{PriceList}
use Rattle.closing_rules.specs.ListedPrices.{AreShapedPrices}
use Rattle.certificate_rules.specs.Certificates.{IsMarkTree}
use Rattle.certificate_rules.specs.Failures.{FailInOrder, FailsHere, TreeFails, MarksFail, CutFails, PricesFail, FailsAt}
use Rattle.certificate_rules.proofs.FailLemmas.{tree-unique, tree-not_fails}
use Rattle.cert_check.specs.FirstFailure.{AreSameFailure}

-- the same marks are left, and the reason is the same
record AreSame {M : Type 0} (s t : List M) (p q : Reason) : Type 0 where
  left : s ≡ t
  why : p ≡ q

in_order-same : {X M : Type 0} (Tree : X → List M → List M → Type 0) (Failing : X → List M → List M → Reason → Type 0)
    → ((x : X) (m r s : List M) → Tree x m r → Tree x m s → r ≡ s)
    → ((x : X) (m r stuck : List M) (why : Reason) → Tree x m r → Failing x m stuck why → ⊥)
    → ((x : X) (m s t : List M) (p q : Reason) → Failing x m s p → Failing x m t q → AreSame s t p q)
    → (xs : List X) (m s t : List M) (p q : Reason) → FailInOrder Tree Failing xs m s p → FailInOrder Tree Failing xs m t q → AreSame s t p q
in_order-same Tree Failing one never same [] m s t p q a b = absurd a
in_order-same Tree Failing one never same (x ∷ xs) m s t p q (inl a) (inl b) = same x m s t p q a b
in_order-same Tree Failing one never same (x ∷ xs) m s t p q (inl a) (inr b) = absurd (never x m b.0 s p b.1 a)
in_order-same Tree Failing one never same (x ∷ xs) m s t p q (inr a) (inl b) = absurd (never x m a.0 t q a.1 b)
in_order-same Tree Failing one never same (x ∷ xs) m s t p q (inr a) (inr b) =
    in_order-same Tree Failing one never same xs b.0 s t p q (subst (λ u. FailInOrder Tree Failing xs u s p) (one x m a.0 b.0 a.1 b.1) a.2) b.2

here-same : (Ends : Mark → Type 0) (marks s t : List Mark) (p q : Reason) → FailsHere Ends marks s p → FailsHere Ends marks t q → AreSame s t p q
here-same Ends [] s t p q a b = record { left = a.0 ∙ sym b.0; why = a.1 ∙ sym b.1 }
here-same Ends (m ∷ ms) s t p q a b = record { left = a.0 ∙ sym b.0; why = a.2 ∙ sym b.2 }

module _ (I : Instance) (Ends : ℕ → List (List Group) → Mark → Type 0) (no_split : (k : ℕ) (lines : List (List Group)) → Ends k lines mark.Split → ⊥) where
  abbrev Failing : ℕ → ℕ → List (List Group) → List Mark → List Mark → Reason → Type 0
  Failing = TreeFails I Ends

  here-not_split : (k : ℕ) (lines : List (List Group)) (marks s inner : List Mark) (p : Reason) → FailsHere (λ m. Ends k lines m ⊎ (m ≡ mark.Split)) marks s p → marks ≡ mark.Split ∷ inner → ⊥
  here-not_split k lines [] s inner p f e = absurd cc
  here-not_split k lines (m ∷ ms) s inner p f e = f.1 (inr (same-heads m mark.Split ms inner e))

  tree-same : (lacking k : ℕ) (lines : List (List Group)) (marks s t : List Mark) (p q : Reason) → Failing lacking k lines marks s p → Failing lacking k lines marks t q → AreSame s t p q
  tree-same zero k lines marks s t p q a b = here-same (Ends k lines) marks s t p q a b
  tree-same (suc lacking) k lines marks s t p q (inl a) (inl b) = here-same (λ m. Ends k lines m ⊎ (m ≡ mark.Split)) marks s t p q a b
  tree-same (suc lacking) k lines marks s t p q (inl a) (inr b) = absurd (here-not_split k lines marks s b.0 p a b.1)
  tree-same (suc lacking) k lines marks s t p q (inr a) (inl b) = absurd (here-not_split k lines marks t a.0 q b a.1)
  tree-same (suc lacking) k lines marks s t p q (inr a) (inr b) =
      let same : a.0 ≡ b.0 = same-tails mark.Split mark.Split a.0 b.0 (sym a.1 ∙ b.1) in
      let Tree = IsMarkTree I Ends lacking (suc k) in
      in_order-same Tree (Failing lacking (suc k))
      (λ x m r u. tree-unique I Ends no_split lacking (suc k) x m r u)
      (λ x m r u why. tree-not_fails I Ends no_split lacking (suc k) x m r u why)
      (λ x m u v p q. tree-same lacking (suc k) x m u v p q) (children_of I k lines) b.0 s t p q
      (subst (λ u. FailInOrder Tree (Failing lacking (suc k)) (children_of I k lines) u s p) same a.2) b.2

  marks-same : (marks s t : List Mark) (p q : Reason) → MarksFail I Ends marks s p → MarksFail I Ends marks t q → AreSame s t p q
  marks-same marks s t p q (inl a) (inl b) = tree-same (length I.ships) 0 root_lines marks s t p q a b
  marks-same marks s t p q (inl a) (inr b) = absurd (tree-not_fails I Ends no_split (length I.ships) 0 root_lines marks t s p b.2 a)
  marks-same marks s t p q (inr a) (inl b) = absurd (tree-not_fails I Ends no_split (length I.ships) 0 root_lines marks s t q a.2 b)
  marks-same marks s t p q (inr a) (inr b) = record {
    left = tree-unique I Ends no_split (length I.ships) 0 root_lines marks s t a.2 b.2;
    why = a.1 ∙ sym b.1;
  }

unproved-is : (I : Instance) (cuts : List CertCut) (c : ℕ) (r : Reason) → (f : CutFails I cuts c r) → IsProved I f.cut → ⊥
unproved-is I cuts c r f good = elim f.unproved [ inl u ↦ u.0 good.shaped | inr u ↦ u.1 good ]

-- no cut before the first that isn't proved is another one
cut-earlier : (I : Instance) (cuts : List CertCut) (c d : ℕ) (p q : Reason) → CutFails I cuts c p → CutFails I cuts d q → c < d → ⊥
cut-earlier I cuts c d p q a b less =
    let here : c < length (take d cuts) = omega (arith, length-take d cuts, less, a.known) in
    let read : slice_index_or (take d cuts) c a.cut ≡ a.cut = get_or-take d cuts c a.cut less ∙ a.is in
    unproved-is I cuts c p a (subst (IsProved I) read (b.before c a.cut here))

cut-why : (I : Instance) (c d : CertCut) (p q : Reason) → c ≡ d
    → ((IsShaped I c → ⊥) × (p ≡ reason.CutShape)) ⊎ (IsShaped I c × (IsProved I c → ⊥) × (p ≡ reason.CutUnproved))
    → ((IsShaped I d → ⊥) × (q ≡ reason.CutShape)) ⊎ (IsShaped I d × (IsProved I d → ⊥) × (q ≡ reason.CutUnproved)) → p ≡ q
cut-why I c d p q same (inl a) (inl b) = a.1 ∙ sym b.1
cut-why I c d p q same (inl a) (inr b) = absurd (a.0 (subst (IsShaped I) (sym same) b.0))
cut-why I c d p q same (inr a) (inl b) = absurd (b.0 (subst (IsShaped I) same a.0))
cut-why I c d p q same (inr a) (inr b) = a.2 ∙ sym b.2

cut-same : (I : Instance) (cuts : List CertCut) (c d : ℕ) (p q : Reason) → CutFails I cuts c p → CutFails I cuts d q → (c ≡ d) × (p ≡ q)
cut-same I cuts c d p q a b =
    elim (leb_tells (suc c) d) [
      | inl earlier ↦ absurd (cut-earlier I cuts c d p q a b (omega (arith, earlier.1)))
      | inr later ↦ elim (leb_tells (suc d) c) [
        | inl earlier ↦ absurd (cut-earlier I cuts d c q p b a (omega (arith, earlier.1)))
        | inr same ↦
            let at : c ≡ d = omega (arith, later.1, same.1) in
            let one : a.cut ≡ b.cut = sym a.is ∙ get_or_default cuts c a.cut b.cut a.known ∙ ap (λ n. slice_index_or cuts n b.cut) at ∙ b.is in
            (at, cut-why I a.cut b.cut p q one a.unproved b.unproved)
      ]
    ]

-- no prices before the first that fail are others
prices-earlier : (I : Instance) (prices : List PriceList) (u v : ℕ) (p q : Reason) → PricesFail I prices u p → PricesFail I prices v q → u < v → ⊥
prices-earlier I prices u v p q a b less =
    let here : u < length (take v prices) = omega (arith, length-take v prices, less, a.known) in
    let read : slice_index_or (take v prices) u a.own ≡ a.own = get_or-take v prices u a.own less ∙ a.is in
    a.misshaped (subst (AreShapedPrices I) read (b.before u a.own here))

prices-same : (I : Instance) (prices : List PriceList) (u v : ℕ) (p q : Reason) → PricesFail I prices u p → PricesFail I prices v q → (u ≡ v) × (p ≡ q)
prices-same I prices u v p q a b =
    elim (leb_tells (suc u) v) [
      | inl earlier ↦ absurd (prices-earlier I prices u v p q a b (omega (arith, earlier.1)))
      | inr later ↦ elim (leb_tells (suc v) u) [
        | inl earlier ↦ absurd (prices-earlier I prices v u q p b a (omega (arith, earlier.1)))
        | inr same ↦ (omega (arith, later.1, same.1), a.reason ∙ sym b.reason)
      ]
    ]

-- two first failures are the same
module _ (I : Instance) (Ends : ℕ → List (List Group) → Mark → Type 0) (no_split : (k : ℕ) (lines : List (List Group)) → Ends k lines mark.Split → ⊥) (cost : ℕ) (cuts : List CertCut) (prices : List PriceList) (plan : Plan) (tree : List Mark) where
  abbrev FailsFirst : FailurePlace → Reason → Type 0
  FailsFirst = FailsAt I cost cuts prices plan tree (MarksFail I Ends tree)

  pub failing-same : (p q : FailurePlace) (r s : Reason) → FailsFirst p r → FailsFirst q s → AreSameFailure p q r s
  failing-same place.Plan place.Plan r s a b = record { place = refl; reason = a.1 ∙ sym b.1 }
  failing-same place.Plan place.Cost r s a b = absurd (a.0 b.0)
  failing-same place.Plan (place.Cut d) r s a b = absurd (a.0 b.0)
  failing-same place.Plan (place.Prices v) r s a b = absurd (a.0 b.0)
  failing-same place.Plan (place.Tree n) r s a b = absurd (a.0 b.0)
  failing-same place.Cost place.Plan r s a b = absurd (b.0 a.0)
  failing-same place.Cost place.Cost r s a b = record { place = refl; reason = a.2 ∙ sym b.2 }
  failing-same place.Cost (place.Cut d) r s a b = absurd (a.1 b.1)
  failing-same place.Cost (place.Prices v) r s a b = absurd (a.1 b.1)
  failing-same place.Cost (place.Tree n) r s a b = absurd (a.1 b.1)
  failing-same (place.Cut c) place.Plan r s a b = absurd (b.0 a.0)
  failing-same (place.Cut c) place.Cost r s a b = absurd (b.1 a.1)
  failing-same (place.Cut c) (place.Cut d) r s a b =
      let same = cut-same I cuts c d r s a.2 b.2 in
      record { place = ap place.Cut same.0; reason = same.1 }
  failing-same (place.Cut c) (place.Prices v) r s a b = absurd (unproved-is I cuts c r a.2 (subst (IsProved I) a.2.is (b.2 c a.2.cut a.2.known)))
  failing-same (place.Cut c) (place.Tree n) r s a b = absurd (unproved-is I cuts c r a.2 (subst (IsProved I) a.2.is (b.2 c a.2.cut a.2.known)))
  failing-same (place.Prices u) place.Plan r s a b = absurd (b.0 a.0)
  failing-same (place.Prices u) place.Cost r s a b = absurd (b.1 a.1)
  failing-same (place.Prices u) (place.Cut d) r s a b = absurd (unproved-is I cuts d s b.2 (subst (IsProved I) b.2.is (a.2 d b.2.cut b.2.known)))
  failing-same (place.Prices u) (place.Prices v) r s a b =
      let same = prices-same I prices u v r s a.3 b.3 in
      record { place = ap place.Prices same.0; reason = same.1 }
  failing-same (place.Prices u) (place.Tree n) r s a b = absurd (a.3.misshaped (subst (AreShapedPrices I) a.3.is (b.3 u a.3.own a.3.known)))
  failing-same (place.Tree m) place.Plan r s a b = absurd (b.0 a.0)
  failing-same (place.Tree m) place.Cost r s a b = absurd (b.1 a.1)
  failing-same (place.Tree m) (place.Cut d) r s a b = absurd (unproved-is I cuts d s b.2 (subst (IsProved I) b.2.is (a.2 d b.2.cut b.2.known)))
  failing-same (place.Tree m) (place.Prices v) r s a b = absurd (b.3.misshaped (subst (AreShapedPrices I) b.3.is (a.3 v b.3.own b.3.known)))
  failing-same (place.Tree m) (place.Tree n) r s a b =
      let same = marks-same I Ends no_split tree a.4 b.4 r s a.6 b.6 in
      record { place = ap place.Tree (a.5 ∙ ap (λ u. length tree - length u) same.left ∙ sym b.5); reason = same.why }
