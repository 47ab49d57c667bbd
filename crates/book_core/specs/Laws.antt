-- What every list of events keeps.
use Rattle.std.specs.Prelude.{List, [], ◌∷◌, ◌≡◌}
use Rattle.std.specs.declared.option.Option.{Option}
use Rattle.std.specs.List.{AllByRecursion}
use Rattle.lock_model.specs.declared.instance.Instance.{Instance}
use Rattle.lock_model.specs.declared.plan.Plan.{Plan}
use Rattle.lock_rules.specs.Plan.{IsLegal}
use Rattle.mooring_rules.specs.declared.breaks.BrokenPlan.{BrokenPlan}
use Rattle.book_rules.specs.Book.{Case, Book, opening_book}
use Rattle.book_rules.specs.Events.{Event, IsOwed, replace}
use Rattle.book_rules.specs.Step.{step}
use Rattle.book_core.specs.Replies.{IsFirstOf}
use Rattle.book_core.specs.Keeps.{IsSound}

-- These events, one after the other, lead from one book to another. Each is a step of the machine, accepted or refused, by what `judge_plan` says of its plan.
abbrev pub RunsTo : Book → List Event → Book → Type 0
RunsTo b [] end = b ≡ end
RunsTo b (e ∷ es) end = (found : Option BrokenPlan) × IsFirstOf b.case.instance e found × RunsTo (step (λ _ _. found) b e).0 es end

-- The event has no plan, or its plan is legal or has a first break. `judge_plan` shows it of each plan that it is given.
pub record IsJudgeable (I : Instance) (e : Event) : Type 0 where
  pub found : Option BrokenPlan
  pub first : IsFirstOf I e found

-- After its opening and any list of events, accepted or refused, whose conditions hold, a book is sound: it is the replay of its
-- history, it covers, and its parts are kept. Every list of events whose plans are judgeable leads to some book, and legal plans are
-- judgeable.
pub record EveryListKeeps (case : Case) (plan : Plan) : Type 0 where
  pub keeps : (events : List Event) (end : Book) → AllByRecursion IsOwed events → RunsTo (opening_book case plan) events end → IsSound end
  pub runs : (events : List Event) → AllByRecursion (IsJudgeable case.instance) events → (end : Book) × RunsTo (opening_book case plan) events end
  pub judgeable : (P : Plan) → IsLegal case.instance P → IsJudgeable case.instance (replace P)
