-- What the driver makes of a book.
use Rattle.std.specs.Prelude.{◌≡◌, ◌≤◌, List, [], ◌∷◌, ⊤}
use Rattle.std.specs.declared.option.Option.{Option}
use Rattle.lock_model.specs.declared.limits.TheConstants.{WORKERS}
use Rattle.lock_model.specs.declared.instance.Instance.{Instance}
use Rattle.mooring_rules.specs.declared.breaks.BrokenPlan.{BrokenPlan}
use Rattle.book_rules.specs.Book.{Book}
use Rattle.book_rules.specs.Events.{Event, IsOwed, take, release}
use Rattle.book_rules.specs.Step.{step}
use Rattle.book_rules.specs.Room.{room_of}
use Rattle.book_core.specs.Replies.{IsFirstOf}

-- an event, and what was found of its plan
pub record Deed : Type 0 where
  pub event : Event
  pub found : Option BrokenPlan

-- an event of the driver, who doesn't end
abbrev pub IsDrivers : Event → Type 0
IsDrivers (take w) = w ≡ WORKERS
IsDrivers (release w) = ⊥
IsDrivers _ = ⊤

-- the driver makes the event and keeps what is owed, and what was found of its plan is so
pub record IsDeed (I : Instance) (d : Deed) : Type 0 where
  pub owed : IsOwed d.event
  pub drivers : IsDrivers d.event
  pub judged : IsFirstOf I d.event d.found

abbrev pub AreDeeds : Instance → List Deed → Type 0
AreDeeds I [] = ⊤
AreDeeds I (d ∷ ds) = IsDeed I d × AreDeeds I ds

-- the book after these events
abbrev pub after_deeds : Book → List Deed → Book
after_deeds b [] = b
after_deeds b (d ∷ ds) = after_deeds (step (λ _ _. d.found) b d.event).0 ds

-- Events of the driver make the new book of the old one: the case, the opening plan and who has ended stay, and the room of the history doesn't grow.
pub record IsDriven (old new : Book) : Type 0 where
  pub deeds : List Deed
  pub each : AreDeeds old.case.instance deeds
  pub after : after_deeds old deeds ≡ new
  pub case : new.case ≡ old.case
  pub opening : new.opening ≡ old.opening
  pub ended : new.ended ≡ old.ended
  pub room : room_of new ≤ room_of old
