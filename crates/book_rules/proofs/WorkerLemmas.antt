-- Every event keeps what a book knows of its workers.
use Rattle.std.proofs.Common.{◌≡◌, ◌≢◌, ℕ, zero, suc, ◌<◌, ◌≤◌, List, [], ◌∷◌, ◌++◌, length, map, refl, sym, ap, ◌∙◌, subst, Bool, true, false, cond, slice_index_or, slice_set, inl, inr, ◌⊎◌, nat_le, true≢false}
use Rattle.std.specs.declared.option.Option.{Option}
use Rattle.std.proofs.lemmas.List.{length-set, get_or-set_other}
use Rattle.lock_model.specs.declared.limits.TheConstants.{WORKERS, WORKERS_AND_DRIVER}
use Rattle.lock_model.specs.declared.instance.Instance.{Instance}
use Rattle.lock_model.specs.declared.plan.Plan.{Plan}
use Rattle.lock_rules.specs.Plan.{cost_of}
use Rattle.book_rules.specs.declared.book.Entry.{Entry}
use Rattle.book_rules.specs.declared.book.Entry.TheVariants as entry
use Rattle.book_rules.specs.declared.book.SlotState.{SlotState}
use Rattle.book_rules.specs.declared.book.SlotState.TheVariants as slot
use Rattle.book_rules.specs.Book.{Case, Slot, Book, no_slot, best_cost, bound_at, new_slot, opening_book, is_held}
use Rattle.lock_rules.specs.Node.{root}
use Rattle.book_rules.specs.Events.{Event, IsOwed}
use Rattle.book_rules.specs.Step
use Rattle.book_rules.specs.Workers.{KeepsWorkers}
use Rattle.book_rules.proofs.MoveLemmas.{Stays, TakesBack, TakesFresh, Splits, Closes, Parks, Shows, Posts, Prices, Replaces, Ends, GivesBack, IsRunning, HoldsNone, turned, each-move}
use Rattle.book_rules.proofs.TallyLemmas.{Kept, Closed, outdone-is}
use Rattle.book_rules.proofs.TurnLemmas.{Turned, Untouched, turned-at, Parent, Old, Child, Past, split-at, kid, outdone-at, low-at}
use Rattle.closing_rules.specs.declared.grounds.Ground.TheVariants as by

-- slot id of the slots is held by worker w
abbrev pub Holds : List Slot → ℕ → ℕ → Type 0
Holds slots id w = (slice_index_or slots id no_slot).state ≡ slot.Held w

pub not-held : (s : SlotState) (w : ℕ) → is_held s ≡ false → s ≡ slot.Held w → ⊥
not-held s w e f = true≢false (sym (ap is_held f) ∙ e)

pub same-worker : (v w : ℕ) → slot.Held v ≡ slot.Held w → v ≡ w
same-worker v w e = cc

-- what is held was held before, by a worker that goes on
kept-workers : (b new : Book) → KeepsWorkers b → length new.ended ≡ WORKERS_AND_DRIVER → ((id w : ℕ) → Holds new.slots id w → Holds b.slots id w × (slice_index_or new.ended w false ≡ false)) → KeepsWorkers new
kept-workers b new keeps nine before = record {
  nine = nine;
  known = λ id w h. keeps.known id w (before id w h).0;
  running = λ id w h. (before id w h).1;
  one = λ id other w h g. keeps.one id other w (before id w h).0 (before other w g).0;
}

-- where the same workers go on
same-workers : (b new : Book) → KeepsWorkers b → new.ended ≡ b.ended → ((id w : ℕ) → Holds new.slots id w → Holds b.slots id w) → KeepsWorkers new
same-workers b new keeps same before =
    kept-workers b new keeps (ap length same ∙ keeps.nine) (λ id w h.
    let old = before id w h in
    (old, ap (λ ended. slice_index_or ended w false) same ∙ keeps.running id w old))

-- where worker w ends, what is held is held by others
ended-workers : (b new : Book) (w : ℕ) → KeepsWorkers b → new.ended ≡ slice_set b.ended w true → ((id v : ℕ) → Holds new.slots id v → Holds b.slots id v × (v ≢ w)) → KeepsWorkers new
ended-workers b new w keeps same before =
    kept-workers b new keeps (ap length same ∙ length-set b.ended w true ∙ keeps.nine) (λ id v h.
    let old = before id v h in
    (old.0, ap (λ ended. slice_index_or ended v false) same ∙ get_or-set_other b.ended w v true false old.1 ∙ keeps.running id v old.0))

-- where slot id turns to a state that isn't held
pub turned-holds : (b : Book) (id : ℕ) (new : SlotState) → id < length b.slots → is_held new ≡ false → (other w : ℕ) → Holds (Step.with_state b id new).slots other w → Holds b.slots other w × (other ≢ id)
turned-holds b id new known free other w h =
    elim (turned-at b id new known other) [
      | Turned is e ↦ absurd (not-held new w free (sym (ap (λ (s : Slot). s.state) e) ∙ h))
      | Untouched not_id e ↦ (sym (ap (λ (s : Slot). s.state) e) ∙ h, not_id)
    ]

-- where slot id turns to worker w, which held none
taken-workers : (b : Book) (w id used : ℕ) (e : Entry) → KeepsWorkers b → id < length b.slots → IsRunning b w → HoldsNone b w → KeepsWorkers (turned b id (slot.Held w) used b.ended e)
taken-workers b w id used e keeps known runs none = record {
  nine = keeps.nine;
  known = λ other v h. elim (held other v h) [ inl new ↦ subst (λ u. u ≤ WORKERS) (sym new.1) runs.known | inr old ↦ keeps.known other v old ];
  running = λ other v h. elim (held other v h) [ inl new ↦ subst (λ u. slice_index_or b.ended u false ≡ false) (sym new.1) runs.running | inr old ↦ keeps.running other v old ];
  one = λ first other v h g. both first other v (held first v h) (held other v g);
}
  where
    held : (other v : ℕ) → Holds (Step.with_state b id (slot.Held w)).slots other v → ((other ≡ id) × (v ≡ w)) ⊎ Holds b.slots other v
    held other v h =
        elim (turned-at b id (slot.Held w) known other) [
          | Turned is same ↦ inl (is, sym (same-worker w v (sym (ap (λ (s : Slot). s.state) same) ∙ h)))
          | Untouched not_id same ↦ inr (sym (ap (λ (s : Slot). s.state) same) ∙ h)
        ]

    both : (first other v : ℕ) → ((first ≡ id) × (v ≡ w)) ⊎ Holds b.slots first v → ((other ≡ id) × (v ≡ w)) ⊎ Holds b.slots other v → first ≡ other
    both first other v (inl a) (inl c) = a.0 ∙ sym c.0
    both first other v (inl a) (inr old) = absurd (none other (subst (λ u. Holds b.slots other u) a.1 old))
    both first other v (inr old) (inl c) = absurd (none first (subst (λ u. Holds b.slots first u) c.1 old))
    both first other v (inr old) (inr older) = keeps.one first other v old older

-- a new slot is free
pub new-free : (t : Bool) → is_held (cond t (slot.Closed by.Bound) slot.Fresh) ≡ false
new-free true = refl
new-free false = refl

pub split-holds : (b : Book) (id : ℕ) → id < length b.slots → (other w : ℕ) → Holds (Step.with_children b id).slots other w → Holds b.slots other w
split-holds b id known other w h =
    elim (split-at b id known other) [
      | Parent is e ↦ absurd (not-held (slot.Split (length b.slots)) w refl (sym (ap (λ (s : Slot). s.state) e) ∙ h))
      | Old not_id here e ↦ sym (ap (λ (s : Slot). s.state) e) ∙ h
      | Child k is here e ↦ absurd (not-held (kid b id k).state w (new-free (nat_le (best_cost b) (bound_at b.case.instance (kid b id k).node))) (sym (ap (λ (s : Slot). s.state) e) ∙ h))
      | Past past e ↦ absurd (not-held (slot.Closed by.Bound) w refl (sym (ap (λ (s : Slot). s.state) e) ∙ h))
    ]

pub outdone-holds : (cost : ℕ) (slots : List Slot) (id w : ℕ) → Holds (map (Step.outdone cost) slots) id w → Holds slots id w
outdone-holds cost slots id w h =
    let s = slice_index_or slots id no_slot in
    let at = outdone-at cost slots id in
    elim (outdone-is cost s) [
      | Kept e same ↦ sym (ap (λ (s : Slot). s.state) (at ∙ same)) ∙ h
      | Closed e high same ↦ absurd (not-held (slot.Closed by.Bound) w refl (sym (ap (λ (s : Slot). s.state) (at ∙ same)) ∙ h))
    ]

module _ {Break : Type 0} (broken : Instance → Plan → Option Break) (b : Book) where
  pub workers-step : KeepsWorkers b → (e : Event) → IsOwed e → KeepsWorkers (Step.step broken b e).0
  workers-step keeps e owed =
      elim (each-move broken b e owed) [
        | Stays refused same ↦ subst KeepsWorkers (sym same) keeps
        | TakesBack w id runs none first at same ↦ subst KeepsWorkers (sym same) (taken-workers b w id b.used (entry.Take w) keeps at.known runs none)
        | TakesFresh w id runs none no_back next at left same ↦ subst KeepsWorkers (sym same) (taken-workers b w id (suc b.used) (entry.Take w) keeps at.known runs none)
        | Splits w id at lacks same ↦ subst KeepsWorkers (sym same) (same-workers b (Step.noted (Step.with_children b id) (entry.Split id)) keeps refl (split-holds b id at.known))
        | Closes old why id from at tells same ↦
            subst KeepsWorkers (sym same) (same-workers b (turned b id (slot.Closed why) b.used b.ended (entry.Close id why)) keeps refl (λ other v h. (turned-holds b id (slot.Closed why) at.known refl other v h).0))
        | Parks w id c p at tells same ↦
            subst KeepsWorkers (sym same) (same-workers b (turned b id (slot.Parked c p) b.used b.ended (entry.Park id c p)) keeps refl (λ other v h. (turned-holds b id (slot.Parked c p) at.known refl other v h).0))
        | Shows id low grows may same ↦ subst KeepsWorkers (sym same) (same-workers b (Step.low_shown b id low) keeps refl (λ other v h. sym (ap (λ (s : Slot). s.state) (low-at b id low other)) ∙ h))
        | Posts cut grows good own same ↦ subst KeepsWorkers (sym same) (same-workers b (Step.noted (record b { cuts = b.cuts ++ cut ∷ [] }) entry.Post) keeps refl (λ other v h. h))
        | Prices prices grows good own same ↦ subst KeepsWorkers (sym same) (same-workers b (Step.noted (record b { prices = b.prices ++ prices ∷ [] }) entry.Prices) keeps refl (λ other v h. h))
        | Replaces plan grows cheaper same ↦ subst KeepsWorkers (sym same) (same-workers b (Step.replaced b plan) keeps refl (outdone-holds (cost_of b.case.instance plan) b.slots))
        | Ends w runs none same ↦
            subst KeepsWorkers (sym same) (ended-workers b (Step.noted (record b { ended = slice_set b.ended w true }) (entry.Release w)) w keeps refl (λ other v h. (h, λ e. none other (subst (λ u. Holds b.slots other u) e h))))
        | GivesBack w id runs at same ↦
            subst KeepsWorkers (sym same)
            (ended-workers b (turned b id slot.Back b.used (slice_set b.ended w true) (entry.Release w)) w keeps refl (λ other v h.
            let old = turned-holds b id slot.Back at.known refl other v h in
            (old.0, λ e. old.1 (keeps.one other id w (subst (λ u. Holds b.slots other u) e old.0) at.is))))
      ]

pub opening-workers : (case : Case) (plan : Plan) → KeepsWorkers (opening_book case plan)
opening-workers case plan = record {
  nine = refl;
  known = λ id w h. absurd (none id w h);
  running = λ id w h. absurd (none id w h);
  one = λ id other w h g. absurd (none id w h);
}
  where
    none : (id w : ℕ) → Holds (opening_book case plan).slots id w → ⊥
    none zero w h = not-held (new_slot case.instance (cost_of case.instance plan) 0 0 root).state w (new-free (nat_le (cost_of case.instance plan) (bound_at case.instance root))) h
    none (suc id) w h = not-held (slot.Closed by.Bound) w refl h
