-- The least flow times of lines, from a chamber's state and from its minutes by way.
use Rattle.std.proofs.Common.{◌≡◌, ℕ, ◌+◌, ◌-◌, ◌<◌, ◌≤◌, List, [], ◌∷◌, length, All, refl, arith}
use Rattle.std.proofs.lemmas.List.Sums.{sum_by-le-sum_by}
use Rattle.lock_model.specs.Fleet.{ship_at, chamber_at}
use Rattle.lock_model.specs.declared.instance.Instance.{Instance}
use Rattle.lock_model.specs.declared.group.Group.{Group}
use Rattle.lock_model.specs.declared.way.Way.{Way}
use Rattle.lock_model.specs.declared.way.Stand.{Stand}
use Rattle.lock_rules.specs.Lawful.{AreLawfulFrom, IsFree, duration_of, stand_before, stand_after}
use Rattle.lock_rules.specs.Timetable.{ready_at, last_arrival, start_of, timetable_from, starts_of}
use Rattle.lock_rules.specs.Bound.{flow_of}
use Rattle.lock_rules.proofs.FreeLemmas.{first_free-least}
use Rattle.lock_rules.proofs.TimetableLemmas.{start_of-least, start_of-lawful, last_arrival-least, timetable-lawful}
use Rattle.sweep_rules.specs.Completion.{AreLawfulAfter, flow_starting}
use Rattle.sweep_rules.specs.Gain.{timetable_after}
use Rattle.sweep_rules.proofs.FirstLemmas.{flow-starts}

module _ (I : Instance) (c : ℕ) (known : c < length I.chambers) where
  -- the earliest start is at most a free minute for which the chamber may be ready, and by which the ships have arrived
  pub start-least : (stand : Stand) (from : ℕ) (g : Group) (t : ℕ) → ready_at (chamber_at I c) stand from g.way ≤ t → All (λ s. (ship_at I s).arrival ≤ t) g.ships
      → IsFree (chamber_at I c).closures t (t + duration_of I c g.ships) → start_of I c stand from g ≤ t
  start-least stand from g t ready arrived free =
      first_free-least (chamber_at I c).closures (duration_of I c g.ships) (last_arrival I (ready_at (chamber_at I c) stand from g.way) g.ships) t
      (last_arrival-least I (ready_at (chamber_at I c) stand from g.way) t g.ships ready arrived) free

  -- from a chamber that is done no later, the earliest flow times are no more than those of lawful starts
  pub flow-starting : (stand : Stand) (from later : ℕ) (gs : List Group) (ts : List ℕ) → from ≤ later → AreLawfulFrom I c stand later gs ts → flow_of I gs (timetable_from I c stand from gs) ≤ flow_starting I c gs ts
  flow-starting stand from later [] ts early lawful = omega arith
  flow-starting stand from later (g ∷ gs) [] early lawful = absurd lawful
  flow-starting stand from later (g ∷ gs) (t ∷ ts) early lawful =
      let start = start_of I c stand from g in
      let first : start ≤ t = start_of-least I c known stand from later g t early lawful.0 in
      let end : ℕ = start + duration_of I c g.ships in
      let done : ℕ = t + duration_of I c g.ships in
      let less = sum_by-le-sum_by (λ s. end - (ship_at I s).arrival) (λ s. done - (ship_at I s).arrival) g.ships (λ s. omega arith) in
      let rest = flow-starting (stand_after g.way) end done gs ts (omega arith) lawful.1 in
      omega (arith, less, rest)

  -- the same from minutes by the way of the first group
  pub flow-after : (ready : Way → ℕ) (gs : List Group) (ts : List ℕ) → AreLawfulAfter I c ready gs ts → flow_of I gs (timetable_after I c ready gs) ≤ flow_starting I c gs ts
  flow-after ready [] ts lawful = omega arith
  flow-after ready (g ∷ gs) ts lawful = flow-starting (stand_before g.way) (ready g.way) (ready g.way) (g ∷ gs) ts (omega arith) lawful

  -- a chamber that is done later has no less flow time
  pub flow-later : (stand : Stand) (from later : ℕ) (gs : List Group) → from ≤ later → flow_of I gs (timetable_from I c stand from gs) ≤ flow_of I gs (timetable_from I c stand later gs)
  flow-later stand from later gs early =
      omega (arith, flow-starting stand from later gs (starts_of (timetable_from I c stand later gs)) early (timetable-lawful I c known stand later gs), flow-starts I c stand later gs)

  -- nor has one that is ready later for the way of the first group
  pub flow-ready : (stand : Stand) (from : ℕ) (ready : Way → ℕ) (gs : List Group) → ((g : Group) (rest : List Group) → gs ≡ g ∷ rest → ready_at (chamber_at I c) stand from g.way ≤ ready g.way)
      → flow_of I gs (timetable_from I c stand from gs) ≤ flow_of I gs (timetable_after I c ready gs)
  flow-ready stand from ready [] less = omega arith
  flow-ready stand from ready (g ∷ gs) less =
      let other : ℕ = start_of I c (stand_before g.way) (ready g.way) g in
      let lawful = start_of-lawful I c known (stand_before g.way) (ready g.way) g in
      let first : start_of I c stand from g ≤ other = start-least stand from g other (omega (arith, less g gs refl, lawful.later)) lawful.arrived lawful.free in
      let end : ℕ = start_of I c stand from g + duration_of I c g.ships in
      let done : ℕ = other + duration_of I c g.ships in
      let own = sum_by-le-sum_by (λ s. end - (ship_at I s).arrival) (λ s. done - (ship_at I s).arrival) g.ships (λ s. omega arith) in
      let rest = flow-later (stand_after g.way) end done gs (omega arith) in
      omega (arith, own, rest)

  -- nor where both are told by way
  pub flow-minutes : (ready later : Way → ℕ) (gs : List Group) → ((g : Group) (rest : List Group) → gs ≡ g ∷ rest → ready g.way ≤ later g.way)
      → flow_of I gs (timetable_after I c ready gs) ≤ flow_of I gs (timetable_after I c later gs)
  flow-minutes ready later [] less = omega arith
  flow-minutes ready later (g ∷ gs) less = flow-later (stand_before g.way) (ready g.way) (later g.way) (g ∷ gs) (less g gs refl)
