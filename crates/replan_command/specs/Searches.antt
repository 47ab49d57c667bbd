-- What is left to be searched, and a search of it that ended well.
use Rattle.std.specs.Prelude.{ℕ, ◌≡◌, ◌+◌, ◌<◌, List, length, All, ⊤}
use Rattle.lock_model.specs.declared.instance.Instance.{Instance}
use Rattle.lock_model.specs.declared.plan.Plan.{Plan}
use Rattle.lock_model.specs.declared.verdict.Verdict.{Verdict}
use Rattle.lock_model.specs.declared.verdict.Verdict.TheVariants.{Optimal, OpenNodes, OpenTurns}
use Rattle.lock_rules.specs.Singles.{singles_of}
use Rattle.command_words.specs.declared.commands.DayRest.{DayRest}
use Rattle.command_words.specs.declared.commands.ReplanOptions.{ReplanOptions}
use Rattle.book_rules.specs.Book.{Book}
use Rattle.book_rules.specs.Ends.{EndsWell}
use Rattle.replan.specs.declared.remainder.Residual.{Residual}
use Rattle.replan_command.specs.Rests.{IsLeftFor}

-- what is left of the instance once a part of some plan is kept
pub record IsLeftOf (I : Instance) (D : DayRest) (r : Residual) : Type 0 where
  pub given : Plan
  pub left : IsLeftFor I given D r

-- a search with the nodes and turns that are asked for ended well
pub record HasSearched (options : ReplanOptions) (b : Book) : Type 0 where
  pub nodes : b.case.nodes ≡ options.nodes
  pub turns : b.case.turns ≡ options.turns
  pub well : EndsWell (singles_of b.case.instance) b

-- the ships that the verdict names have numbers, and its lower bound stays below `bound` when it is raised
abbrev pub IsToldBelow : ℕ → List ℕ → ℕ → Verdict → Type 0
IsToldBelow bound ns added Optimal = ⊤
IsToldBelow bound ns added (OpenNodes used low) = low + added < bound
IsToldBelow bound ns added (OpenTurns chamber ships turns low) = All (λ s. s < length ns) ships × (low + added < bound)
