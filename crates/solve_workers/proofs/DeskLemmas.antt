-- What becomes of the driver's book while prices are asked about the slot that it holds.
use Rattle.std.proofs.Common.{◌≡◌, refl, Bool, true, false}
use Rattle.std.specs.Bool.{OnTrue, OnFalse}
use Rattle.book_rules.specs.Book.{Book}
use Rattle.book_rules.specs.Ends.{HoldsNothing}
use Rattle.price_search.specs.declared.desk.InHand.{InHand}
use Rattle.price_search.specs.Holding.{Stays, Ends}
use Rattle.solve_workers.specs.Driving.{IsDriven}
use Rattle.solve_workers.specs.Holding.{HoldsOnly}
use Rattle.solve_workers.specs.Offering.{HasDriven, HasFreed}
use Rattle.solve_workers.proofs.DrivenLemmas.{driven_none, driven_then}

module _ (b new : Book) (held : InHand) where
  -- an event of the driver by which the slot stays held
  pub stays_held : (HoldsOnly b held.id held.node.now → HoldsOnly new held.id held.node.now) → IsDriven b new → Stays (HasDriven held) b new
  stays_held stays driven began has = record { holds = stays has.holds; driven = driven_then began b new has.driven driven }

  -- an event of the driver that may close the slot
  pub ends_held : (closed : Bool) → (closed ≡ true → HoldsOnly b held.id held.node.now → HoldsNothing new) → (closed ≡ false → HoldsOnly b held.id held.node.now → HoldsOnly new held.id held.node.now) → IsDriven b new → Ends (HasDriven held) HasFreed b new closed
  ends_held true shut kept driven = λ began has. record { free = shut refl has.holds; driven = driven_then began b new has.driven driven }
  ends_held false shut kept driven = stays_held (kept refl) driven

  -- what is known at the end, where the book began as it was
  module _ (holds : HoldsOnly b held.id held.node.now) where
    begins : HasDriven held b b
    begins = record { holds = holds; driven = driven_none b }

    pub ends_free : (closed : Bool) → Ends (HasDriven held) HasFreed b new closed → OnTrue closed (HoldsNothing new)
    ends_free true ends = (ends b begins).free
    ends_free false ends = tt

    pub ends_still : (closed : Bool) → Ends (HasDriven held) HasFreed b new closed → OnFalse closed (HoldsOnly new held.id held.node.now)
    ends_still true ends = tt
    ends_still false ends = (ends b begins).holds

    pub ends_driven : (closed : Bool) → Ends (HasDriven held) HasFreed b new closed → IsDriven b new
    ends_driven true ends = (ends b begins).driven
    ends_driven false ends = (ends b begins).driven
