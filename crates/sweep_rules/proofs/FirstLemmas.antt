-- Each uncut plan is a completion of a first label.
use Rattle.std.proofs.Common.{◌≡◌, ℕ, ◌+◌, ◌<◌, List, [], ◌∷◌, length, cond, sum_by, refl, sym, ap, ◌∙◌, arith, slice_index_or}
use Rattle.lock_model.specs.Fleet.{chamber_at}
use Rattle.lock_model.specs.declared.instance.Instance.{Instance}
use Rattle.lock_model.specs.declared.group.Group.{Group}
use Rattle.lock_model.specs.declared.way.Stand.{Stand}
use Rattle.lock_rules.specs.Lawful.{duration_of, stand_after}
use Rattle.lock_rules.specs.Timetable.{start_of, timetable_from, timetable_of, starts_of}
use Rattle.lock_rules.specs.Arrival.{numbers_from}
use Rattle.lock_rules.specs.Bound.{flow_of}
use Rattle.lock_rules.proofs.TimetableLemmas.{timetable-lawful}
use Rattle.price_rules.specs.Prices.{PlainCut, flow_over}
use Rattle.sweep_rules.specs.Uncut.{IsUncutPlan}
use Rattle.sweep_rules.specs.Label.{Label, IsFirstLabel}
use Rattle.sweep_rules.specs.Completion.{IsCompletion, flow_starting, flow_completed}
use Rattle.sweep_rules.specs.Gain.{IsWayOn}
use Rattle.sweep_rules.proofs.ReadyLemmas.{lawful-after}

-- the starts of lines in their earliest timetables
abbrev pub starts_in : Instance → (ℕ → List Group) → ℕ → List ℕ
starts_in I lines c = starts_of (timetable_of I c (lines c))

pub flow-starts : (I : Instance) (c : ℕ) (stand : Stand) (from : ℕ) (gs : List Group) → flow_starting I c gs (starts_of (timetable_from I c stand from gs)) ≡ flow_of I gs (timetable_from I c stand from gs)
flow-starts I c stand from [] = refl
flow-starts I c stand from (g ∷ gs) =
    let rest = flow-starts I c (stand_after g.way) (start_of I c stand from g + duration_of I c g.ships) gs in
    omega (arith, rest)

module _ (I : Instance) (cuts : List PlainCut) (label : Label) (first : IsFirstLabel I cuts label) (lines : ℕ → List Group) (plan : IsUncutPlan I cuts lines) where
  first-on : (c : ℕ) → c < length I.chambers → IsWayOn I c cuts label.served (lines c)
  first-on c known = record {
    uncut = plan.uncut c known;
    missing = λ j d here i e inside. first.served (slice_index_or (slice_index_or (lines c) j d).ships i e) ((plan.uncut c known j d here).known i e inside);
  }

  -- AN UNCUT PLAN IS A COMPLETION of a first label, by its earliest timetables,
  pub first-completion : IsCompletion I cuts label lines (starts_in I lines)
  first-completion = record {
    uncut = plan.uncut;
    lawful = λ c known.
        lawful-after I cuts label.served c (chamber_at I c).stands (chamber_at I c).opens (label.ready c) (λ way. (first.ready c known way).before) (lines c) (starts_in I lines c) (first-on c known)
        (timetable-lawful I c known (chamber_at I c).stands (chamber_at I c).opens (lines c));
    once = λ s known. plan.once s known ∙ ap (λ b. cond b 0 1) (sym (first.served s known));
  }

  -- at its cost.
  pub first-cost : label.flow + flow_completed I lines (starts_in I lines) ≡ flow_over I lines
  first-cost =
      let flows : flow_completed I lines (starts_in I lines) ≡ flow_over I lines =
      λ i. sum_by (λ c. flow-starts I c (chamber_at I c).stands (chamber_at I c).opens (lines c) i) (numbers_from 0 (length I.chambers)) in
      omega (arith, flows, first.flow)
