-- What a method of the book does: the step of the book machine for its event, or nothing for want of memory.
use Rattle.std.specs.Prelude.{ℕ, ◌≡◌, ◌<◌, ◌≤◌, ◌↔◌, ⊤, true, Some, None, IsNone, IfSome}
use Rattle.std.specs.declared.option.Option.{Option}
use Rattle.lock_model.specs.declared.instance.Instance.{Instance}
use Rattle.lock_model.specs.declared.plan.Plan.{Plan}
use Rattle.lock_rules.specs.Plan.{IsLegal}
use Rattle.mooring_rules.specs.declared.breaks.BrokenPlan.{BrokenPlan}
use Rattle.mooring_rules.specs.PlanBreaks.{IsFirstBrokenPlan}
use Rattle.master_branch.specs.Node.{IsNodeOf}
use Rattle.closing_rules.specs.declared.grounds.Ground.{Ground}
use Rattle.book_rules.specs.declared.book.ShownLow.{ShownLow}
use Rattle.book_rules.specs.Book.{Book, slot_at, slot_low, best_cost, is_held}
use Rattle.book_rules.specs.Events as machine
use Rattle.book_rules.specs.Events.{Event, replace}
use Rattle.book_rules.specs.Step.{step, closed, low_shown}
use Rattle.book_core.specs.declared.reply.Grant.{Grant}
use Rattle.book_core.specs.declared.reply.Grant.TheVariants as grant
use Rattle.book_core.specs.declared.reply.Refusal.{Refusal}
use Rattle.book_core.specs.declared.reply.Reply.{Reply}
use Rattle.book_core.specs.declared.reply.Reply.TheVariants as reply
use Rattle.book_core.specs.declared.reply.Refusal.TheVariants as refusing

-- the machine's refusal; none for want of memory
abbrev pub refusal_told : Refusal → Option (machine.Reply BrokenPlan)
refusal_told (refusing.Ended worker) = Some (machine.Ended worker)
refusal_told (refusing.Holds id) = Some (machine.Holds id)
refusal_told (refusing.NodesSpent used) = Some (machine.NodesSpent used)
refusal_told refusing.Idle = Some machine.Idle
refusal_told refusing.Done = Some machine.Done
refusal_told (refusing.NotHeld id) = Some (machine.NotHeld id)
refusal_told (refusing.Whole id) = Some (machine.Whole id)
refusal_told (refusing.Cheaper bound best) = Some (machine.Cheaper bound best)
refusal_told (refusing.NoHit number) = Some (machine.NoHit number)
refusal_told refusing.OtherDeck = Some machine.OtherDeck
refusal_told (refusing.NotLegal found) = Some (machine.NotLegal found)
refusal_told (refusing.NotCheaper cost best) = Some (machine.NotCheaper cost best)
refusal_told refusing.NoMemory = None
refusal_told (refusing.Absent ship) = Some (machine.Absent ship)
refusal_told (refusing.Clashes id) = Some (machine.Clashes id)
refusal_told refusing.OtherPrices = Some machine.OtherPrices
refusal_told (refusing.NoPrices number) = Some (machine.NoPrices number)
refusal_told refusing.NotShown = Some machine.NotShown
refusal_told refusing.NotRoot = Some machine.NotRoot
refusal_told refusing.NotSwept = Some machine.NotSwept
refusal_told (refusing.Lower cost known) = Some (machine.Lower cost known)

-- the machine's reply; none for want of memory
abbrev pub told : Reply → Option (machine.Reply BrokenPlan)
told (reply.Node id node) = Some (machine.Node id node)
told (reply.Made count) = Some (machine.Made count)
told reply.Closed = Some machine.Closed
told reply.LowShown = Some machine.LowShown
told (reply.Posted number) = Some (machine.Posted number)
told (reply.Priced number) = Some (machine.Priced number)
told reply.Parked = Some machine.Parked
told (reply.Replaced cost) = Some (machine.Replaced cost)
told (reply.Released count) = Some (machine.Released count)
told (reply.Refused why) = refusal_told why

-- what `judge_plan` says of a plan: nothing of a legal one, else its first break
pub record IsJudged (I : Instance) (P : Plan) (found : Option BrokenPlan) : Type 0 where
  pub none : IsNone found ↔ IsLegal I P
  pub some : IfSome found (IsFirstBrokenPlan I P)

-- what is said of the plan of an event, if it has one
abbrev pub IsFirstOf : Instance → Event → Option BrokenPlan → Type 0
IsFirstOf I (replace plan) found = IsJudged I plan found
IsFirstOf I _ found = ⊤

-- The reply and the book after it are those of the machine's step, where `found` is the first break of the event's plan.
pub record Answers (old : Book) (e : Event) (r : Reply) (new : Book) : Type 0 where
  pub found : Option BrokenPlan
  pub judged : IsFirstOf old.case.instance e found
  pub answer : machine.Reply BrokenPlan
  pub said : told r ≡ Some answer
  pub same : step (λ _ _. found) old e ≡ (new, answer)

-- slot id is closed on this ground where this cost is at least the best one
pub data IsShutAt (old : Book) (id : ℕ) (why : Ground) (cost : ℕ) (r : Reply) (new : Book) : Type 0 where
  IsCheaper : cost < best_cost old → r ≡ reply.Refused (refusing.Cheaper cost (best_cost old)) → new ≡ old → IsShutAt old id why cost r new
  IsShut : best_cost old ≤ cost → r ≡ reply.Closed → new ≡ closed old id why → IsShutAt old id why cost r new

-- this is shown of slot id where its cost is more than is known of the slot, and there is memory
pub data IsLowAt (old : Book) (id : ℕ) (low : ShownLow) (r : Reply) (new : Book) : Type 0 where
  IsLower : low.cost ≤ slot_low (slot_at old id) → r ≡ reply.Refused (refusing.Lower low.cost (slot_low (slot_at old id))) → new ≡ old
      → IsLowAt old id low r new
  IsHigher : slot_low (slot_at old id) < low.cost → r ≡ reply.LowShown → new ≡ low_shown old id low → IsLowAt old id low r new
  IsUnkept : r ≡ reply.Refused refusing.NoMemory → new ≡ old → IsLowAt old id low r new

-- there was no memory, and the book is as it was
pub record Wants (old : Book) (r : Reply) (new : Book) : Type 0 where
  pub want : r ≡ reply.Refused refusing.NoMemory
  pub same : new ≡ old

-- an event that takes memory: a step of the machine, or none for want of memory
pub data Does (old : Book) (e : Event) (r : Reply) (new : Book) : Type 0 where
  Steps : Answers old e r new → Does old e r new
  Stays : Wants old r new → Does old e r new

-- a node that is given is one of the instance
abbrev pub HasNode : Instance → Reply → Type 0
HasNode I (reply.Node id node) = IsNodeOf I node
HasNode I _ = ⊤

-- the machine's reply to a taking that left this book
abbrev pub grant_told : Book → Grant → machine.Reply BrokenPlan
grant_told new (grant.Slot id) = machine.Node id (slot_at new id).node
grant_told new (grant.Ended worker) = machine.Ended worker
grant_told new (grant.Holds id) = machine.Holds id
grant_told new (grant.NodesSpent used) = machine.NodesSpent used
grant_told new grant.Idle = machine.Idle
grant_told new grant.Done = machine.Done

-- what came of a taking by worker w, and the book after it, are those of the machine's step
pub record Grants (old : Book) (w : ℕ) (g : Grant) (new : Book) : Type 0 where
  pub found : Option BrokenPlan
  pub same : step (λ _ _. found) old (machine.take w) ≡ (new, grant_told new g)

-- a worker holds the slot that was given
abbrev pub IsInHand : Book → Grant → Type 0
IsInHand b (grant.Slot id) = is_held (slot_at b id).state ≡ true
IsInHand b _ = ⊤
