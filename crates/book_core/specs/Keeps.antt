-- What every book keeps.
use Rattle.std.specs.Prelude.{ℕ, Bool, ◌≡◌, ◌+◌, ◌*◌, ◌≤◌, List, length, count_by, None}
use Rattle.std.specs.declared.option.Option.{Option}
use Rattle.lock_model.specs.declared.limits.TheConstants.{WORKERS_AND_DRIVER}
use Rattle.lock_model.specs.declared.instance.Instance.{Instance}
use Rattle.lock_model.specs.declared.plan.Plan.{Plan}
use Rattle.lock_rules.specs.Plan.{IsLegal}
use Rattle.lock_rules.specs.Throughput.{throughput_of}
use Rattle.mooring_rules.specs.declared.breaks.BrokenPlan.{BrokenPlan}
use Rattle.book_rules.specs.declared.book.Entry.{Entry}
use Rattle.book_rules.specs.Book.{Book, Slot, best_cost}
use Rattle.book_rules.specs.Cover.{KeepsBook}
use Rattle.book_rules.specs.Parts.{KeepsParts}
use Rattle.book_rules.specs.Cheap.{opening_cost}
use Rattle.book_rules.specs.History.{is_show_low}
use Rattle.book_rules.specs.Room.{count_false}
use Rattle.book_rules.specs.Replay.{IsReplayed}
use Rattle.book_core.specs.Case.{IsCase}
use Rattle.book_core.specs.declared.waiting.Waiting.{Waiting}
use Rattle.book_core.specs.Tables.{AreHands, AreBack, AreWaiting}

-- a function that finds no break of a legal plan
pub record PassesLegal (first_break : Instance → Plan → Option BrokenPlan) : Type 0 where
  pub passes : (I : Instance) (P : Plan) → IsLegal I P → first_break I P ≡ None

-- the book is the replay of its history, by whatever finds no break of a legal plan
pub record Replays (b : Book) : Type 0 where
  pub replay : (first_break : Instance → Plan → Option BrokenPlan) → PassesLegal first_break → IsReplayed first_break b

-- What every event keeps.
pub record IsSound (b : Book) : Type 0 where
  pub case : IsCase b.case
  pub keeps : KeepsBook b
  pub replays : Replays b
  pub parts : KeepsParts b

-- The tables are those of the slots, and no more than nine workers have ended or gave a slot back that is Back still.
pub record AreTables (slots : List Slot) (ended : List Bool) (hands : List (Option ℕ)) (back : List ℕ) (waiting : List Waiting) : Type 0 where
  pub hands_are : AreHands slots hands
  pub back_are : AreBack slots back
  pub few : length back + count_false ended ≤ WORKERS_AND_DRIVER
  pub waiting_are : AreWaiting slots waiting

-- the costs of the best plan and of the opening one, and the throughput
pub record AreCosts (b : Book) (best opening throughput : ℕ) : Type 0 where
  pub best_is : best ≡ best_cost b
  pub opening_is : opening ≡ opening_cost b
  pub throughput_is : throughput ≡ throughput_of b.case.instance

-- the entries of costs that were shown are so many
pub record CountsLows (history : List Entry) (lows : ℕ) : Type 0 where
  pub count : lows ≡ count_by is_show_low history

-- room for the history: what was taken at opening, and one entry for each posting, of cuts or prices, each replace and each cost that
-- was shown
pub record HasRoom (nodes cuts plans prices lows capacity : ℕ) : Type 0 where
  pub enough : 3 * nodes + 32 + cuts + plans + prices + lows ≤ capacity

-- room for one entry more than that
pub record IsMoreRoom (b : Book) (entries : ℕ) : Type 0 where
  pub count : entries ≡ 3 * b.case.nodes + 33 + length b.cuts + length b.plans + length b.prices + count_by is_show_low b.history
