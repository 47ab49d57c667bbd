-- A book by its fields.
use Rattle.std.specs.Prelude.{length, vec_capacity}
use Rattle.book_rules.specs.Book.{Book as Told}
use Rattle.book_core.specs.declared.book.Book.TheInside.{Inside}
use Rattle.flow_bounds.specs.Roster.{IsRosterOf}
use Rattle.book_core.specs.Stored.{slots_of}
use Rattle.book_core.specs.Hands.{ids_of, AreNodes}
use Rattle.book_core.specs.Path.{IsPath}
use Rattle.book_core.specs.Keeps.{IsSound, AreTables, AreCosts, CountsLows, HasRoom}

abbrev pub seen : Inside → Told
seen a = record {
  case = a.case;
  opening = a.opening;
  slots = slots_of a.case.instance a.slots.items;
  cuts = a.cuts;
  prices = a.prices.items;
  plans = a.plans.items;
  best = a.best;
  used = a.used;
  ended = a.ended;
  history = a.history.items;
}

-- what its fields keep
pub record IsKept (a : Inside) : Type 0 where
  pub sound : IsSound (seen a)
  pub tables : AreTables (slots_of a.case.instance a.slots.items) a.ended (ids_of a.hands) a.back a.waiting.items
  pub nodes : AreNodes a.case.instance (slots_of a.case.instance a.slots.items) a.hands
  pub path : IsPath a.case.instance (slots_of a.case.instance a.slots.items) a.path
  pub roster_is : IsRosterOf a.case.instance a.roster
  pub costs : AreCosts (seen a) a.best_cost a.opening_cost a.throughput
  pub lows : CountsLows a.history.items a.shown_lows
  pub room : HasRoom a.case.nodes (length a.cuts) (length a.plans.items) (length a.prices.items) a.shown_lows (vec_capacity a.history)
