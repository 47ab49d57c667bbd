-- What has been read of a plan so far.
use Rattle.std.specs.Prelude.{◌<◌, ◌++◌, List, [], ◌∷◌, length, Option, None, Some, IfSome, Result, Ok}
use Rattle.lock_model.specs.declared.limits.TheConstants.{SHIPS}
use Rattle.lock_model.specs.declared.instance.Instance.{Instance}
use Rattle.lock_model.specs.declared.plan.Lockage.{Lockage}
use Rattle.line_text.specs.Steps.{◌>>◌}
use Rattle.plan_text.specs.declared.berth.Berth.{Berth}
use Rattle.plan_text.specs.declared.berth.Head.{Head}
use Rattle.plan_text.specs.declared.kinds.BadPlan.{BadPlan}
use Rattle.plan_text.specs.Berths.{check_hosts, lockage_of}

-- the lockages that are whole, and the line and the berths of the one that isn't, if there is one
pub record Draft : Type 0 where
  pub lockages : List Lockage
  pub head : Option Head
  pub berths : List Berth

abbrev pub no_draft : Draft
no_draft = record { lockages = []; head = None; berths = [] }

-- there is room for the lockage that isn't whole
pub record IsDraft (lockages : List Lockage) (head : Option Head) : Type 0 where
  pub room : IfSome head (λ h. length lockages < SHIPS)

-- the lockage of this line, if any, has got its last berth
abbrev pub close_by : Instance → Draft → Option Head → Result Draft BadPlan
close_by I draft None = Ok draft
close_by I draft (Some head) = do
  check_hosts draft.berths draft.berths
  Ok (record { lockages = draft.lockages ++ lockage_of I head draft.berths ∷ []; head = None; berths = [] })

unfoldable pub close : Instance → Draft → Result Draft BadPlan
close I draft = close_by I draft draft.head
