-- The driver may take a book on still.
use Rattle.std.proofs.Common.{◌≡◌, ℕ, ◌≤◌, List, sym, ap, ◌∙◌, subst, arith, IfOk, Ok, Err}
use Rattle.std.specs.declared.result.Result.{Result}
use Rattle.std.specs.Prelude.{Box}
use Rattle.lock_model.specs.declared.plan.Plan.{Plan}
use Rattle.lock_rules.specs.Plan.{IsLegal, cost_of}
use Rattle.refute_rules.specs.Cuts.{Cut}
use Rattle.book_rules.specs.Book.{Book, Case}
use Rattle.book_rules.specs.Cheap.{opening_cost}
use Rattle.book_rules.specs.Ends.{HoldsNothing}
use Rattle.book_core.specs.Keeps.{IsSound}
use Rattle.solve_workers.specs.Driving.{IsDriven}
use Rattle.solve_workers.specs.Holding.{IsRunning}
use Rattle.solve_workers.specs.Opening.{IsReady, opened_with}
use Rattle.solve_workers.proofs.DrivenLemmas.{driven_cost, running_still}

pub ready_driven : (case : Case) (cost : ℕ) (old new : Book) → IsReady case cost old → IsDriven old new → HoldsNothing new → IsReady case cost new
ready_driven case cost old new ready driven free = record {
  case_is = driven.case ∙ ready.case_is;
  opening = let same = driven_cost old new driven in let most = ready.opening in omega (arith, same, most);
  free = free;
  running = running_still old new driven ready.running;
}

pub ready_again : (case : Case) (cost : ℕ) (old new : Book) → IsReady case cost old → new.case ≡ old.case → opening_cost new ≤ opening_cost old → HoldsNothing new → IsRunning new → IsReady case cost new
ready_again case cost old new ready same less free running = record {
  case_is = same ∙ ready.case_is;
  opening = let most = ready.opening in omega (arith, less, most);
  free = free;
  running = running;
}

ready-within : (case : Case) (low high : ℕ) (b : Book) → low ≤ high → IsReady case low b → IsReady case high b
ready-within case low high b less ready = record {
  case_is = ready.case_is;
  opening = let most = ready.opening in omega (arith, most, less);
  free = ready.free;
  running = ready.running;
}

-- a book that costs no more than one that the driver may take
pub ready_within_ok : {E Z : Type 0} (case : Case) (low high : ℕ) (b : Book) (r : Result (Box Book Z) E) → IsReady case high b → low ≡ opening_cost b → IfOk r (λ n. IsReady case low n.value) → IfOk r (λ n. IsReady case high n.value)
ready_within_ok case low high b (Ok new) ready same is = ready-within case low high new.value (let most = ready.opening in omega (arith, most, same)) is
ready_within_ok case low high b (Err e) ready same is = tt

-- the best plan is one of the case, and costs at most what the opening plan does
pub best_legal : (case : Case) (b : Book) (plan : Plan) → b.case ≡ case → plan ≡ b.best → IsLegal b.case.instance b.best → IsLegal case.instance plan
best_legal case b plan same is legal = subst (λ (c : Case). IsLegal c.instance plan) same (subst (λ p. IsLegal b.case.instance p) (sym is) legal)

pub best_within : (case : Case) (b : Book) (plan : Plan) (most : ℕ) → b.case ≡ case → plan ≡ b.best → most ≡ opening_cost b → IsSound b → cost_of case.instance plan ≤ most
best_within case b plan most same is opening sound =
    let cost : cost_of case.instance plan ≡ cost_of b.case.instance b.best = (λ j. cost_of (sym same j).instance (is j)) in
    let less = sound.parts.cheap.best in
    omega (arith, cost, less, opening)

-- a plan costs what the book costs that it was opened with
pub opened_within : (case : Case) (plan : Plan) (cuts : List Cut) (cost : ℕ) (b : Book) → b ≡ opened_with case plan cuts → cost ≡ opening_cost b → cost_of case.instance plan ≤ cost
opened_within case plan cuts cost b is costs = let same : cost ≡ cost_of case.instance plan = costs ∙ ap opening_cost is in omega (arith, same)
