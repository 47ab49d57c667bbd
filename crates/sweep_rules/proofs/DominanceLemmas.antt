-- A label that serves for another has its completions.
use Rattle.std.proofs.Common.{ℕ, ◌≤◌, List, cond, sym, ap, ◌∙◌, arith}
use Rattle.lock_model.specs.declared.instance.Instance.{Instance}
use Rattle.lock_model.specs.declared.group.Group.{Group}
use Rattle.price_rules.specs.Prices.{PlainCut}
use Rattle.sweep_rules.specs.Label.{Label}
use Rattle.sweep_rules.specs.Completion.{IsCompletion, EndsBelow}
use Rattle.sweep_rules.specs.Dominance.{ServesFor}
use Rattle.sweep_rules.proofs.OverLemmas.{completion-on}
use Rattle.sweep_rules.proofs.ReadyLemmas.{lawful-sooner}

module _ (I : Instance) (cuts : List PlainCut) where
  -- A COMPLETION OF A LABEL IS ONE OF A LABEL THAT SERVES FOR IT.
  pub serves-completion : (a b : Label) → ServesFor I cuts a b → (lines : ℕ → List Group) (starts : ℕ → List ℕ) → IsCompletion I cuts b lines starts → IsCompletion I cuts a lines starts
  serves-completion a b serves lines starts completion = record {
    uncut = completion.uncut;
    lawful = λ c known.
        lawful-sooner I cuts b.served c (b.ready c) (a.ready c) (lines c) (starts c) (completion-on I cuts b lines starts completion c known) (serves.ready c known) (completion.lawful c known);
    once = λ s known. completion.once s known ∙ ap (λ t. cond t 0 1) (sym (serves.served s known));
  }

  pub serves-ends : (goal : ℕ) (a b : Label) → ServesFor I cuts a b → EndsBelow I cuts goal b → EndsBelow I cuts goal a
  serves-ends goal a b serves ends = record {
    lines = ends.lines;
    starts = ends.starts;
    is = serves-completion a b serves ends.lines ends.starts ends.is;
    below = omega (arith, serves.flow, ends.below);
  }

  -- what ends below a total ends below a greater one
  pub ends-more : (total goal : ℕ) (a : Label) → total ≤ goal → EndsBelow I cuts total a → EndsBelow I cuts goal a
  ends-more total goal a more ends = record { lines = ends.lines; starts = ends.starts; is = ends.is; below = omega (arith, more, ends.below) }

  -- each label serves for itself
  pub serves-itself : (a : Label) → ServesFor I cuts a a
  serves-itself a = record { served = λ s known. λ i. a.served s; ready = λ c known way s wanted. omega arith; flow = omega arith }
