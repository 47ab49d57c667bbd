-- What is known of a plan that is put together with the kept plan of a residual.
use Rattle.std.proofs.Common.{◌≡◌, ℕ, ◌+◌, ◌<◌, ◌≤◌, length, map, All, Option, Some, None, IfSome, IsSomeAnd, refl, sym, ap, ◌∙◌, subst, arith}
use Rattle.std.specs.List.Sorted.{IsStrictlyIncreasing}
use Rattle.std.proofs.lemmas.List.{length-append, length-map}
use Rattle.lock_model.specs.declared.limits.TheConstants.{SHIPS}
use Rattle.lock_model.specs.declared.instance.Instance.{Instance}
use Rattle.lock_model.specs.declared.plan.Lockage.{Lockage}
use Rattle.lock_model.specs.declared.plan.Plan.{Plan}
use Rattle.lock_rules.specs.Plan.{IsLegal, cost_of}
use Rattle.lock_rules.proofs.LegalLemmas.{legal-ships}
use Rattle.replan.specs.declared.remainder.Residual.{Residual}
use Rattle.replan.specs.Kept.{kept_of}
use Rattle.replan.specs.Rest.{ships_left, added_of, IsRest, IsLeft}
use Rattle.replan.specs.Together.{renumbered, joined, Keeps}
use Rattle.replan.proofs.RenumberLemmas.{rest-ships, left-rise}
use Rattle.replan.proofs.JoinLemmas.{legal-joined, keeps-joined, kept-early}
use Rattle.replan.proofs.CostLemmas.{cost-joined, few}

-- a rest that is there, and of which the plan is legal
record HasRest (I : Instance) (K : Plan) (M : ℕ) (Q : Plan) (o : Option Instance) : Type 0 where
  whole : Instance
  is : o ≡ Some whole
  rest : IsRest I K M whole
  legal : IsLegal whole Q

has_rest : (I : Instance) (K : Plan) (M : ℕ) (Q : Plan) (o : Option Instance) → IfSome o (IsRest I K M) → IsSomeAnd o (λ R. IsLegal R Q) → HasRest I K M Q o
has_rest I K M Q None rest legal = absurd legal
has_rest I K M Q (Some R) rest legal = record { whole = R; is = refl; rest = rest; legal = legal }

module _ (I : Instance) (r : Residual) (Q P : Plan) (M : ℕ) (left : IsLeft I (kept_of P M) M r) (legal : IsSomeAnd r.rest (λ R. IsLegal R Q)) where
  here : HasRest I (kept_of P M) M Q r.rest
  here = has_rest I (kept_of P M) M Q r.rest left.rest legal

  same : joined r.kept r.numbers Q ≡ joined (kept_of P M) (ships_left I (kept_of P M)) Q
  same = λ i. joined (left.kept i) (left.numbers i) Q

  pub put-known : All (λ l. All (λ s. s < length r.numbers) l.ships) Q.lockages
  put-known =
      subst (λ ns. All (λ (l : Lockage). All (λ s. s < length ns) l.ships) Q.lockages) (sym left.numbers)
      (subst (λ n. All (λ (l : Lockage). All (λ s. s < n) l.ships) Q.lockages) (rest-ships I here.whole (kept_of P M) M here.rest) (legal-ships here.whole Q here.legal))

  pub put-rising : IsStrictlyIncreasing r.numbers
  put-rising = subst IsStrictlyIncreasing (sym left.numbers) (left-rise I here.whole (kept_of P M) M here.rest)

  pub put-legal : IsLegal I (joined r.kept r.numbers Q)
  put-legal = subst (IsLegal I) (sym same) (legal-joined I here.whole (kept_of P M) M here.rest left.can.legal (kept-early P M) Q here.legal)

  pub put-few : length r.kept.lockages + length Q.lockages ≤ SHIPS
  put-few =
      omega (
        arith,
        few I (joined r.kept r.numbers Q) put-legal,
        length-append r.kept.lockages (map (renumbered r.numbers) Q.lockages),
        length-map Q.lockages (renumbered r.numbers),
        I.limits.ship_count.1,
      )

  pub put-keeps : Keeps r.kept M (joined r.kept r.numbers Q)
  put-keeps =
      subst (λ K. Keeps K M (joined r.kept r.numbers Q)) (sym left.kept)
      (subst (Keeps (kept_of P M) M) (sym same) (keeps-joined I here.whole (kept_of P M) M here.rest left.can.legal (kept-early P M) Q here.legal))

  pub put-cost : (R : Instance) → r.rest ≡ Some R → cost_of I (joined r.kept r.numbers Q) ≡ cost_of R Q + r.added
  put-cost R is =
      let one : here.whole ≡ R = cc (here.is, is) in
      ap (cost_of I) same
      ∙ cost-joined I here.whole (kept_of P M) M here.rest Q here.legal
      ∙ ap (λ x. cost_of x Q + added_of I (kept_of P M) M) one
      ∙ ap (λ n. cost_of R Q + n) (sym left.added)
