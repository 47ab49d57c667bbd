-- A step of the next ship makes a node one deeper.
use Rattle.std.proofs.Common.{◌≡◌, ℕ, suc, ◌+◌, ◌<◌, List, length, map, sym, ap, ◌∙◌, subst, arith, slice_index_or, Contains}
use Rattle.std.proofs.lemmas.List.{get_or-map, length-map}
use Rattle.std.proofs.lemmas.List.Elements.{All-contains}
use Rattle.lock_model.specs.declared.limits.TheConstants.{SHIPS}
use Rattle.lock_model.specs.declared.instance.Instance.{Instance}
use Rattle.lock_model.specs.declared.group.Group.{Group}
use Rattle.lock_rules.specs.Arrival.{next_ship}
use Rattle.lock_rules.specs.Node.{line_at, times_on, IsNode}
use Rattle.lock_rules.specs.Children.{children_by, children_of}
use Rattle.lock_rules.proofs.SplitLemmas.{missing-known, next-missing}
use Rattle.lock_rules.proofs.ChildLemmas.{next-absent}
use Rattle.lock_rules.proofs.NodeLemmas.{children-nodes}
use Rattle.master_branch.specs.declared.step.Step.{Step}
use Rattle.lock_rules.proofs.SizeLemmas.{node-kept}
use Rattle.master_branch.specs.Row.{groups_held}
use Rattle.master_branch.specs.Steps.{steps_by, lines_after, IsStep}
use Rattle.master_branch.proofs.RowLemmas.{groups-held-few}
use Rattle.master_branch.proofs.StepLemmas.{steps-each, steps-children}

-- what a step of ship s finds in a node of depth k, and makes of it
pub record MayStep (I : Instance) (k s : ℕ) (lines : List (List Group)) (step : Step) : Type 0 where
  pub known : s < length I.ships
  pub allowed : IsStep I s lines step
  pub absent : (c : ℕ) → times_on s (line_at lines c) ≡ 0
  pub room : groups_held lines < SHIPS
  pub node : IsNode I (k + 1) (lines_after I s lines step)

-- the lines after step i are child i's
pub step-child : (I : Instance) (k s : ℕ) (lines : List (List Group)) (i : ℕ) (d : Step) (e : List (List Group)) → s ≡ next_ship I k → i < length (steps_by I s lines)
    → slice_index_or (children_of I k lines) i e ≡ lines_after I s lines (slice_index_or (steps_by I s lines) i d)
step-child I k s lines i d e next here =
    let all : children_of I k lines ≡ map (lines_after I s lines) (steps_by I s lines) =
    subst (λ t. children_of I k lines ≡ map (lines_after I t lines) (steps_by I t lines)) (sym next) (sym (steps-children I (next_ship I k) lines)) in
    ap (λ xs. slice_index_or xs i e) all ∙ get_or-map (lines_after I s lines) (steps_by I s lines) i d e here

pub length-steps : (I : Instance) (k s : ℕ) (lines : List (List Group)) → s ≡ next_ship I k → length (steps_by I s lines) ≡ length (children_of I k lines)
length-steps I k s lines next =
    sym (length-map (steps_by I s lines) (lines_after I s lines))
    ∙ ap length (steps-children I s lines)
    ∙ ap (λ t. length (children_by I t lines)) next

pub ship-known : (I : Instance) (k s : ℕ) → k < length I.ships → s ≡ next_ship I k → s < length I.ships
ship-known I k s less next = subst (λ t. t < length I.ships) (sym next) (missing-known I k (next_ship I k) (next-missing I k less))

pub may-step : (I : Instance) (k s : ℕ) (lines : List (List Group)) (step : Step) → IsNode I k lines → k < length I.ships → s ≡ next_ship I k → Contains (steps_by I s lines) step → MayStep I k s lines step
may-step I k s lines step node less next chosen =
    let up : suc k ≡ k + 1 = omega arith in
    let kept = node-kept I k lines node in
    let here : chosen.0 < length (children_of I k lines) = omega (arith, chosen.1, length-steps I k s lines next) in
    record {
      known = ship-known I k s less next;
      allowed = All-contains (IsStep I s lines) (steps_by I s lines) step (steps-each I s lines) chosen;
      absent = λ c. subst (λ t. times_on t (line_at lines c) ≡ 0) (sym next) (next-absent I k lines node less c);
      room = omega (arith, groups-held-few lines kept.some, kept.depth, less, I.limits.ship_count.1);
      node = subst (λ n. IsNode I n (lines_after I s lines step)) up
          (subst (IsNode I (suc k)) (step-child I k s lines chosen.0 step lines next chosen.1 ∙ ap (lines_after I s lines) chosen.2)
          (children-nodes I k lines node less chosen.0 lines here));
    }
