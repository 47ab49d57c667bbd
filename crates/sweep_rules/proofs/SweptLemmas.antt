-- No legal plan costs less than a cost that is swept by cuts that hold.
use Rattle.std.proofs.Common.{ℕ, ◌≤◌, List, length, All, Contains, sum_by, sym, ◌∙◌, arith}
use Rattle.lock_model.specs.declared.instance.Instance.{Instance}
use Rattle.lock_model.specs.declared.group.Group.{Group}
use Rattle.lock_model.specs.declared.plan.Plan.{Plan}
use Rattle.lock_rules.specs.Plan.{IsLegal, times_in, cost_of}
use Rattle.lock_rules.specs.Lines.{line_of, groups_of}
use Rattle.lock_rules.specs.Arrival.{numbers_from}
use Rattle.lock_rules.specs.Node.{root_lines}
use Rattle.lock_rules.specs.Heredity.{IsHereditary}
use Rattle.lock_rules.proofs.LegalLemmas.{legal-chambers}
use Rattle.lock_rules.proofs.LineLemmas.{sum_by-lines}
use Rattle.lock_rules.proofs.NodeLemmas.{root-under}
use Rattle.lock_rules.proofs.SplitLemmas.{times_on-groups, served_in-sum}
use Rattle.price_rules.specs.Prices.{PlainCut, CutHolds, IsUncut}
use Rattle.price_rules.proofs.LooseLemmas.{plan-loose}
use Rattle.price_rules.proofs.ReachLemmas.{plan-flow, uncut-fewer}
use Rattle.std.proofs.lemmas.List.Elements.{All-weaker}
use Rattle.sweep_rules.specs.Uncut.{IsUncutPlan, IsSwept}

-- the lines of a legal plan are an uncut plan where the cuts hold, given heredity
pub plan-uncut : IsHereditary → (I : Instance) (cuts : List PlainCut) → All CutHolds cuts → (P : Plan) → IsLegal I P → IsUncutPlan I cuts (groups_of P)
plan-uncut law I cuts hold P legal = record {
  uncut = λ c known. ((plan-loose I P legal law cuts hold 0 root_lines (root-under I P)).each c known).uncut;
  once = λ s known.
      (λ i. sum_by (λ c. times_on-groups s (line_of P c) i) (numbers_from 0 (length I.chambers)))
      ∙ sum_by-lines (λ l. times_in l.ships s) (length I.chambers) P (legal-chambers I P legal)
      ∙ sym (served_in-sum s P.lockages)
      ∙ legal.once s known;
}

-- NO LEGAL PLAN COSTS LESS than a cost that is swept by cuts that hold, given heredity.
pub swept-holds : IsHereditary → (I : Instance) (cuts : List PlainCut) → All CutHolds cuts → (cost : ℕ) → IsSwept I cuts cost → (P : Plan) → IsLegal I P → cost ≤ cost_of I P
swept-holds law I cuts hold cost swept P legal = omega (arith, swept.least (groups_of P) (plan-uncut law I cuts hold P legal), plan-flow I P legal)

-- an uncut plan of more cuts is one of fewer
pub uncut_plan-fewer : (I : Instance) (cuts more : List PlainCut) → All (Contains more) cuts → (lines : ℕ → List Group) → IsUncutPlan I more lines → IsUncutPlan I cuts lines
uncut_plan-fewer I cuts more among lines plan = record {
  uncut = λ c known. All-weaker (IsUncut I c more) (IsUncut I c cuts) (uncut-fewer I c cuts more among) (lines c) (plan.uncut c known);
  once = plan.once;
}

-- WHAT IS SWEPT STAYS SWEPT with more cuts and a lower cost.
pub swept-stays : (I : Instance) (cuts more : List PlainCut) → All (Contains more) cuts → (cost less : ℕ) → less ≤ cost → IsSwept I cuts cost → IsSwept I more less
swept-stays I cuts more among cost less low swept = record {
  least = λ lines plan. omega (arith, low, swept.least lines (uncut_plan-fewer I cuts more among lines plan));
}
