-- After every list of events a book keeps its parts.
use Rattle.std.specs.declared.option.Option.{Option}
use Rattle.lock_model.specs.declared.instance.Instance.{Instance}
use Rattle.lock_model.specs.declared.plan.Plan.{Plan}
use Rattle.book_rules.specs.Book.{Case, Book, opening_book}
use Rattle.book_rules.specs.Events.{Event, IsOwed}
use Rattle.book_rules.specs.Step
use Rattle.book_rules.specs.Cover.{KeepsBook}
use Rattle.book_rules.specs.Parts.{KeepsParts}
use Rattle.book_rules.proofs.FamilyLemmas.{family-step, opening-family}
use Rattle.book_rules.proofs.StateLemmas.{states-step, opening-states}
use Rattle.book_rules.proofs.LowLemmas.{lows-step, opening-lows}
use Rattle.book_rules.proofs.WorkerLemmas.{workers-step, opening-workers}
use Rattle.book_rules.proofs.BudgetLemmas.{budget-step}
use Rattle.book_rules.proofs.RoomLemmas.{room-step, opening-room, opening-budget}
use Rattle.book_rules.proofs.CheapLemmas.{cheap-step, opening-cheap}
use Rattle.book_rules.proofs.BackLemmas.{back-step, opening-back}

pub opening-parts : (case : Case) (plan : Plan) → KeepsParts (opening_book case plan)
opening-parts case plan = record {
  family = opening-family case plan;
  states = opening-states case plan;
  lows = opening-lows case plan;
  workers = opening-workers case plan;
  budget = opening-budget case plan;
  room = opening-room case plan;
  cheap = opening-cheap case plan;
  back = opening-back case plan;
}

module _ {Break : Type 0} (broken : Instance → Plan → Option Break) where
  -- each event keeps the parts, accepted or refused
  pub parts-step : (b : Book) → KeepsBook b → KeepsParts b → (e : Event) → IsOwed e → KeepsParts (Step.step broken b e).0
  parts-step b book keeps e owed = record {
    family = family-step broken b keeps.family e owed;
    states = states-step broken b keeps.states e owed;
    lows = lows-step broken b keeps.lows e owed;
    workers = workers-step broken b keeps.workers e owed;
    budget = budget-step broken b book keeps.budget e owed;
    room = room-step broken b keeps.budget keeps.workers.nine keeps.room e owed;
    cheap = cheap-step broken b book keeps.cheap e owed;
    back = back-step broken b keeps.workers.nine keeps.back e owed;
  }
