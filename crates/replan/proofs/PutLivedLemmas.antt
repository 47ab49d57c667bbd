-- What is known of a plan that is put together with the begun lockages of a residual as lived.
use Rattle.std.proofs.Common.{◌≡◌, ℕ, ◌+◌, ◌<◌, ◌≤◌, length, map, nat_eq, All, Option, Some, None, IfSome, IsSomeAnd, refl, sym, ap, ◌∙◌, subst, arith}
use Rattle.std.specs.List.Sorted.{IsStrictlyIncreasing}
use Rattle.std.proofs.lemmas.List.{length-append, length-map}
use Rattle.lock_model.specs.declared.limits.TheConstants.{SHIPS}
use Rattle.lock_model.specs.declared.instance.Instance.{Instance}
use Rattle.lock_model.specs.declared.plan.Lockage.{Lockage}
use Rattle.lock_model.specs.declared.plan.Plan.{Plan}
use Rattle.lock_rules.specs.Plan.{served_in, IsLegal, cost_of}
use Rattle.lock_rules.proofs.LegalLemmas.{legal-ships}
use Rattle.replan.specs.declared.remainder.Residual.{Residual}
use Rattle.replan.specs.GoingOn.{CanGoOn, IsGoneOn}
use Rattle.replan.specs.Kept.{kept_of}
use Rattle.replan.specs.Lived.{IsLivedRest, IsLivedLeft}
use Rattle.replan.specs.Rest.{ships_left, added_of}
use Rattle.replan.specs.Together.{renumbered, joined}
use Rattle.replan.proofs.AheadLemmas.{gone-on}
use Rattle.replan.proofs.CostLemmas.{few}
use Rattle.replan.proofs.ListLemmas.{filtered-rise}
use Rattle.replan.proofs.LivedLemmas.{ships-count}

-- a rest that is there, and of which the plan is legal
record HasLived (I : Instance) (P : Plan) (M : ℕ) (Q : Plan) (o : Option Instance) : Type 0 where
  whole : Instance
  is : o ≡ Some whole
  rest : IsLivedRest I P M whole
  legal : IsLegal whole Q

has_lived : (I : Instance) (P : Plan) (M : ℕ) (Q : Plan) (o : Option Instance) → IfSome o (IsLivedRest I P M) → IsSomeAnd o (λ R. IsLegal R Q) → HasLived I P M Q o
has_lived I P M Q None rest legal = absurd legal
has_lived I P M Q (Some R) rest legal = record { whole = R; is = refl; rest = rest; legal = legal }

module _ (I : Instance) (r : Residual) (Q P : Plan) (M : ℕ) (left : IsLivedLeft I P M r) (legal : IsSomeAnd r.rest (λ R. IsLegal R Q)) where
  here : HasLived I P M Q r.rest
  here = has_lived I P M Q r.rest left.rest legal

  same : joined r.kept r.numbers Q ≡ joined (kept_of P M) (ships_left I (kept_of P M)) Q
  same = λ i. joined (left.kept i) (left.numbers i) Q

  gone : IsGoneOn I here.whole P M Q (joined r.kept r.numbers Q)
  gone = subst (IsGoneOn I here.whole P M Q) (sym same) (gone-on I here.whole P M left.can here.rest Q here.legal)

  pub lived-known : All (λ l. All (λ s. s < length r.numbers) l.ships) Q.lockages
  lived-known =
      subst (λ ns. All (λ (l : Lockage). All (λ s. s < length ns) l.ships) Q.lockages) (sym left.numbers)
      (subst (λ n. All (λ (l : Lockage). All (λ s. s < n) l.ships) Q.lockages) (ships-count I here.whole P M left.can here.rest) (legal-ships here.whole Q here.legal))

  pub lived-rising : IsStrictlyIncreasing r.numbers
  lived-rising = subst IsStrictlyIncreasing (sym left.numbers) (filtered-rise (λ s. nat_eq (served_in (kept_of P M).lockages s) 0) (length I.ships))

  pub lived-few : length r.kept.lockages + length Q.lockages ≤ SHIPS
  lived-few =
      omega (
        arith,
        few I (joined r.kept r.numbers Q) gone.legal,
        length-append r.kept.lockages (map (renumbered r.numbers) Q.lockages),
        length-map Q.lockages (renumbered r.numbers),
        I.limits.ship_count.1,
      )

  pub lived-legal : IsLegal I (joined r.kept r.numbers Q)
  lived-legal = gone.legal

  pub lived-can : CanGoOn I P M (joined r.kept r.numbers Q)
  lived-can = gone.can

  pub lived-cost : (R : Instance) → r.rest ≡ Some R → cost_of I (joined r.kept r.numbers Q) ≡ cost_of R Q + r.added
  lived-cost R is =
      let one : here.whole ≡ R = cc (here.is, is) in
      gone.cost ∙ ap (λ x. cost_of x Q + added_of I (kept_of P M) M) one ∙ ap (λ n. cost_of R Q + n) (sym left.added)
