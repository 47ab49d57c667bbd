-- A text names one plan, or has one first fault.
use Rattle.std.proofs.Common.{◌≡◌, ℕ, List, Result, Ok, Err, IfOk, IfErr, ap}
use Rattle.lock_model.specs.declared.instance.Instance.{Instance}
use Rattle.lock_model.specs.declared.plan.Plan.{Plan}
use Rattle.line_text.proofs.ReaderLemmas as reader
use Rattle.plan_text.specs.declared.kinds.BadPlan.{BadPlan}
use Rattle.plan_text.specs.declared.kinds.PlanKind.{PlanKind}
use Rattle.plan_text.specs.Faults.{bad}
use Rattle.plan_text.specs.Reading.{reading, IsPlanText, IsPlanFault}

lockages-one : (P Q : Plan) → P.lockages ≡ Q.lockages → P ≡ Q
lockages-one P Q same = ap (λ ls. record { lockages = ls }) same

module _ (I : Instance) (text : List ℕ) where
  pub IsPlanText-one : (P Q : Plan) → IsPlanText I text P → IsPlanText I text Q → P ≡ Q
  unfolding IsPlanText
  IsPlanText-one P Q first second = reader.one_value (reading I text) (λ (R : Plan). R.lockages) lockages-one P Q first second

  pub IsPlanText-no_fault : (P : Plan) (line : ℕ) (kind : PlanKind) → IsPlanText I text P → IsPlanFault I text line kind → ⊥
  unfolding IsPlanText IsPlanFault
  IsPlanText-no_fault P line kind first second = reader.no_fault (reading I text) (λ (R : Plan). R.lockages) P (bad line kind) first second

  -- a reader that is right where it answers answers all that is so
  pub reads_each : (r : Result Plan BadPlan) → IfOk r (λ P. reading I text ≡ Ok P.lockages) → IfErr r (λ b. reading I text ≡ Err b) → (P : Plan) → IsPlanText I text P → r ≡ Ok P
  unfolding IsPlanText
  reads_each r ok err P means = reader.reads_each (reading I text) (λ (Q : Plan). Q.lockages) lockages-one r ok err P means

  pub refuses_each : (r : Result Plan BadPlan) → IfOk r (λ P. reading I text ≡ Ok P.lockages) → IfErr r (λ b. reading I text ≡ Err b) → (line : ℕ) (kind : PlanKind) → IsPlanFault I text line kind → r ≡ Err (bad line kind)
  unfolding IsPlanFault
  refuses_each r ok err line kind fault = reader.refuses_each (reading I text) (λ (Q : Plan). Q.lockages) r ok err (bad line kind) fault

  -- from what a text reads as
  pub text_if : (r : Result Plan BadPlan) → IfOk r (λ P. reading I text ≡ Ok P.lockages) → IfOk r (IsPlanText I text)
  unfolding IsPlanText
  text_if (Ok P) read = read
  text_if (Err b) read = read

  pub fault_if : (r : Result Plan BadPlan) → IfErr r (λ b. reading I text ≡ Err b) → IfErr r (λ b. IsPlanFault I text b.line b.kind)
  unfolding IsPlanFault
  fault_if (Ok P) err = err
  fault_if (Err b) err = err
