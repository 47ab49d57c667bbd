-- What the answers say, from the first failure of a certificate or from its low.
use Rattle.std.proofs.Common.{◌≡◌, ◌↔◌, ℕ, ◌∙◌, ap₂, sym, subst}
use Rattle.lock_model.specs.Deck.{Deck, IsDeck}
use Rattle.lock_model.specs.declared.instance.Instance.{Instance}
use Rattle.lock_rules.specs.Heredity.{IsHereditary}
use Rattle.lock_model.specs.Normal.{HasNormal}
use Rattle.certificate_rules.specs.declared.certificate.FailurePlace.{FailurePlace}
use Rattle.certificate_rules.specs.declared.certificate.Reason.{Reason}
use Rattle.certificate_rules.specs.Certificates.{Certificate, EndsNode, Stands, HasNoOpenLeaf}
use Rattle.certificate_rules.specs.Low.{IsLow}
use Rattle.certificate_rules.specs.Failures.{Fails}
use Rattle.certificate_rules.proofs.FailLemmas.{fails-not_stands}
use Rattle.closing_rules.proofs.LawLemmas.{tree-laws}
use Rattle.certificate_rules.proofs.LowLemmas.{stands-low, low-same}
use Rattle.certificate_rules.proofs.AcceptLemmas.{whole-low, accepted-cheapest}
use Rattle.lock_rules.specs.Plan.{IsCheapest}
use Rattle.cert_check.specs.FirstFailure.{AreSameFailure}
use Rattle.cert_check.proofs.FirstFailure.{failing-same}
use Rattle.cert_check.proofs.SomeFailure.{fails-first}
use Rattle.cert_check.specs.Proven.{IsProvenLow}
use Rattle.cert_check.specs.declared.answers.Answer.TheVariants as answer

module _ (I : Instance) (C : Certificate) where
  -- ---- one first failure

  pub fails-same : (p q : FailurePlace) (r s : Reason) → Fails I C p r → Fails I C q s → AreSameFailure p q r s
  fails-same p q r s a b = failing-same I (EndsNode I C.cost C.cuts C.prices) (λ k lines h. h) C.cost C.cuts C.prices C.plan C.tree p q r s a b

  pub fails-somewhere : (Stands I C → ⊥) → ((p : FailurePlace) (r : Reason) → Fails I C p r → ⊥) → ⊥
  fails-somewhere other never =
      fails-first I (EndsNode I C.cost C.cuts C.prices) C.cost C.cuts C.prices C.plan C.tree
      (λ h. other (record { legal = h.0; cost = h.1; cuts = h.2; prices = h.3; tree = h.4 })) never

  -- ---- what each answer says

  pub stands-stands : (low paid : ℕ) → paid ≡ C.cost → Stands I C → IsLow I C low → (m n : ℕ) → (answer.Stands low paid ≡ answer.Stands m n) ↔ (Stands I C × IsLow I C m × (n ≡ C.cost))
  stands-stands low paid own good is m n = (
    λ e.
        let lows : low ≡ m = cc in
        let costs : paid ≡ n = cc in
        (good, subst (IsLow I C) lows is, sym costs ∙ own),
    λ h. ap₂ (λ u v. answer.Stands u v) (low-same I C low m is h.1) (own ∙ sym h.2),
  )

  pub stands-rejected : (low paid : ℕ) → Stands I C → (p : FailurePlace) (r : Reason) → (answer.Stands low paid ≡ answer.Rejected p r) ↔ Fails I C p r
  stands-rejected low paid good p r = (λ e. absurd cc, λ f. absurd (fails-not_stands I C p r f good))

  pub rejected-stands : (p : FailurePlace) (r : Reason) → Fails I C p r → (m n : ℕ) → (answer.Rejected p r ≡ answer.Stands m n) ↔ (Stands I C × IsLow I C m × (n ≡ C.cost))
  rejected-stands p r f m n = (λ e. absurd cc, λ h. absurd (fails-not_stands I C p r f h.0))

  pub rejected-rejected : (p : FailurePlace) (r : Reason) → Fails I C p r → (q : FailurePlace) (s : Reason) → (answer.Rejected p r ≡ answer.Rejected q s) ↔ Fails I C q s
  rejected-rejected p r f q s = (
    λ e.
        let place : p ≡ q = cc in
        let why : r ≡ s = cc in
        subst (λ q. Fails I C q s) place (subst (λ s. Fails I C p s) why f),
    λ g.
        let same = fails-same p q r s f g in
        ap₂ (λ u v. answer.Rejected u v) same.place same.reason,
  )

  pub stands-proven : IsHereditary → ((d : Deck) → IsDeck d → HasNormal d) → (low paid : ℕ) → paid ≡ C.cost → Stands I C → IsLow I C low → (m n : ℕ) → answer.Stands low paid ≡ answer.Stands m n → IsProvenLow I C.plan m n
  stands-proven law normal low paid own good is m n e =
      let lows : low ≡ m = cc in
      let costs : paid ≡ n = cc in
      record {
        legal = good.legal;
        costs = good.cost ∙ sym own ∙ costs;
        least = stands-low I C m (tree-laws law normal I) good (subst (IsLow I C) lows is);
      }

  -- of a certificate that leaves no node open
  pub stands-cheapest : IsHereditary → ((d : Deck) → IsDeck d → HasNormal d) → (low paid : ℕ) → paid ≡ C.cost → Stands I C → IsLow I C low → (m n : ℕ) → answer.Stands low paid ≡ answer.Stands m n → HasNoOpenLeaf C.tree → IsCheapest I C.plan × (m ≡ n)
  stands-cheapest law normal low paid own good is m n e whole =
      let lows : low ≡ m = cc in
      let costs : paid ≡ n = cc in
      (accepted-cheapest I C (tree-laws law normal I) (record { stands = good; whole = whole }), sym lows ∙ whole-low I C low whole is ∙ sym own ∙ costs)
