-- No more slots are Back than workers have ended.
use Rattle.std.proofs.Common.{◌≡◌, ℕ, suc, ◌+◌, ◌≤◌, length, refl, sym, subst, arith, Bool, true, false, cond, slice_set, nat_le}
use Rattle.std.specs.declared.option.Option.{Option}
use Rattle.lock_model.specs.declared.limits.TheConstants.{WORKERS_AND_DRIVER}
use Rattle.lock_model.specs.declared.instance.Instance.{Instance}
use Rattle.lock_model.specs.declared.plan.Plan.{Plan}
use Rattle.lock_rules.specs.Plan.{cost_of}
use Rattle.lock_rules.specs.Children.{children_of}
use Rattle.book_rules.specs.declared.book.SlotState.TheVariants as slot
use Rattle.book_rules.specs.Book.{Case, Book, slot_at, best_cost, bound_at, opening_book, is_back}
use Rattle.lock_rules.specs.Node.{root}
use Rattle.book_rules.specs.Events.{Event, IsOwed}
use Rattle.book_rules.specs.Step
use Rattle.book_rules.specs.Room.{count_false}
use Rattle.book_rules.specs.Waiting.{KeepsBack}
use Rattle.book_rules.proofs.MoveLemmas.{Stays, TakesBack, TakesFresh, Splits, Closes, Parks, Shows, Posts, Prices, Replaces, Ends, GivesBack, IsRunning, each-move}
use Rattle.book_rules.proofs.TallyLemmas.{one, count-turned, count-append, count-children, count-outdone, count-low, count_false-set}
use Rattle.closing_rules.specs.declared.grounds.Ground.TheVariants as by

module _ {Break : Type 0} (broken : Instance → Plan → Option Break) (b : Book) where
  ends-count : (w : ℕ) → length b.ended ≡ WORKERS_AND_DRIVER → IsRunning b w → count_false (slice_set b.ended w true) + 1 ≡ count_false b.ended
  ends-count w nine runs = count_false-set b.ended w (omega (arith, nine, runs.known)) runs.running

  -- no more slots are Back than workers have ended
  pub back-step : length b.ended ≡ WORKERS_AND_DRIVER → KeepsBack b → (e : Event) → IsOwed e → KeepsBack (Step.step broken b e).0
  back-step nine keeps e owed =
      elim (each-move broken b e owed) [
        | Stays refused same ↦ subst KeepsBack (sym same) keeps
        | TakesBack w id runs none first at same ↦ subst KeepsBack (sym same) (record { few = omega (arith, keeps.few, count-turned is_back b id slot.Back (slot.Held w) at) })
        | TakesFresh w id runs none no_back next at left same ↦ subst KeepsBack (sym same) (record { few = omega (arith, keeps.few, count-turned is_back b id slot.Fresh (slot.Held w) at) })
        | Splits w id at lacks same ↦
            let node = (slot_at b id).node in
            let slots = (Step.with_state b id (slot.Split (length b.slots))).slots in
            subst KeepsBack (sym same)
            (record {
              few =
                  omega (
                    arith,
                    keeps.few,
                    count-turned is_back b id (slot.Held w) (slot.Split (length b.slots)) at,
                    count-append is_back slots (Step.children_in b id),
                    count-children is_back refl refl b.case.instance (best_cost b) id (suc node.depth) 0 (children_of b.case.instance node.depth node.lines),
                  );
            })
        | Closes old why id from at tells same ↦ subst KeepsBack (sym same) (record { few = omega (arith, keeps.few, count-turned is_back b id old (slot.Closed why) at) })
        | Parks w id c p at tells same ↦ subst KeepsBack (sym same) (record { few = omega (arith, keeps.few, count-turned is_back b id (slot.Held w) (slot.Parked c p) at) })
        | Shows id low grows may same ↦ subst KeepsBack (sym same) (record { few = omega (arith, keeps.few, count-low is_back b id low may.known) })
        | Posts cut grows good own same ↦ subst KeepsBack (sym same) (record { few = keeps.few })
        | Prices prices grows good own same ↦ subst KeepsBack (sym same) (record { few = keeps.few })
        | Replaces plan grows cheaper same ↦ subst KeepsBack (sym same) (record { few = omega (arith, keeps.few, count-outdone is_back refl (cost_of b.case.instance plan) b.slots) })
        | Ends w runs none same ↦ subst KeepsBack (sym same) (record { few = omega (arith, keeps.few, ends-count w nine runs) })
        | GivesBack w id runs at same ↦ subst KeepsBack (sym same) (record { few = omega (arith, keeps.few, ends-count w nine runs, count-turned is_back b id (slot.Held w) slot.Back at) })
      ]

pub opening-back : (case : Case) (plan : Plan) → KeepsBack (opening_book case plan)
opening-back case plan = record { few = by_bound (nat_le (cost_of case.instance plan) (bound_at case.instance root)) }
  where
    by_bound : (t : Bool) → one (is_back (cond t (slot.Closed by.Bound) slot.Fresh)) + 0 + WORKERS_AND_DRIVER ≤ WORKERS_AND_DRIVER
    by_bound true = omega arith
    by_bound false = omega arith

-- ---- the list and the first Back slot
