-- Of two walks along the same groups, one that is behind gains no less; a ship that has entered a line puts its walk behind.
use Rattle.std.proofs.Common.{◌≡◌, ℕ, ◌+◌, ◌-◌, ◌<◌, ◌≤◌, List, [], ◌∷◌, ◌++◌, length, All, sum_by, cond, true, false, nat_lt, take, drop, arith, ap, ◌∙◌, sym}
use Rattle.std.proofs.lemmas.List.{take_more}
use Rattle.std.proofs.lemmas.List.Elements.{All-head, All-tail, All-cons, All-nil}
use Rattle.std.proofs.lemmas.List.Sums.{sum_by-le-sum_by}
use Rattle.lock_model.specs.Fleet.{ship_at, chamber_at}
use Rattle.lock_model.specs.declared.instance.Instance.{Instance}
use Rattle.lock_model.specs.declared.group.Group.{Group}
use Rattle.lock_rules.specs.Lawful.{stand_after}
use Rattle.lock_rules.specs.Timetable.{start_of}
use Rattle.lock_rules.specs.Children.{insert_number, with_ship}
use Rattle.lock_rules.proofs.TimetableLemmas.{closures_kept, start_of-lawful}
use Rattle.lock_rules.proofs.TraceLemmas.{Dominates-itself, Dominates-later, Dominates-skipped, start_of-kept}
use Rattle.master_branch.specs.Steps.{group_in}
use Rattle.flow_bounds.specs.declared.walk.Walk.{Walk}
use Rattle.flow_bounds.specs.Walk.{walk_start, serve, serve_all, walk_at, AreWalks}
use Rattle.flow_bounds.specs.Entering.{IsBehind}
use Rattle.flow_bounds.proofs.LoadLemmas.{sum-insert}
use Rattle.flow_bounds.proofs.WalkLemmas.{serve_all-append, walk-gain}

-- what holds of some ships and one more holds of them
All-without : (P : ℕ → Type 0) (s : ℕ) (xs : List ℕ) → All P (insert_number s xs) → All P xs
All-without P s [] all = All-nil P
All-without P s (x ∷ xs) all =
    elim (nat_lt s x) as (λ b. All P (cond b (s ∷ x ∷ xs) (x ∷ insert_number s xs)) → All P (x ∷ xs)) [
      | true ↦ λ all. All-tail P s (x ∷ xs) all
      | false ↦ λ all. All-cons P x xs (All-head P x (insert_number s xs) all) (All-without P s xs (All-tail P x (insert_number s xs) all))
    ] all

-- the walk after one more group of the line
pub walk-step : (I : Instance) (c : ℕ) (line : List Group) (ws : List Walk) → AreWalks I c line ws → (p : ℕ) → p < length line → (g : Group) → g ≡ group_in line p
    → walk_at ws (p + 1) ≡ serve I c (walk_at ws p) g
walk-step I c line ws walks p less g is =
    let start = walk_start I c in
    let more : take (p + 1) line ≡ take p line ++ g ∷ [] = take_more line p _ less ∙ ap (λ x. take p line ++ x ∷ []) (sym is) in
    walks.each (p + 1) (omega arith)
    ∙ ap (serve_all I c start) more
    ∙ serve_all-append I c start (take p line) (g ∷ [])
    ∙ ap (λ w. serve I c w g) (sym (walks.each p (omega arith)))

module _ (I : Instance) (c : ℕ) (known : c < length I.chambers) where
  starts-later : (w v : Walk) (g : Group) → IsBehind I c w v → start_of I c v.stand v.done g ≤ start_of I c w.stand w.done g
  starts-later w v g behind =
      let lawful = start_of-lawful I c known w.stand w.done g in
      start_of-kept I c known v.stand w.stand v.done w.done (start_of I c w.stand w.done g) g g.ships (record { done = behind.done; ready = behind.ready }) lawful lawful.arrived (omega arith)

  -- it stays behind
  pub behind-served : (w v : Walk) (g : Group) → IsBehind I c w v → IsBehind I c (serve I c w g) (serve I c v g)
  behind-served w v g behind =
      let later = Dominates-later (chamber_at I c) (stand_after g.way) (serve I c v g).done (serve I c w g).done (closures_kept I c known) (omega (arith, starts-later w v g behind)) in
      record { done = later.done; ready = later.ready }

  gains-more : (w v : Walk) (g : Group) → IsBehind I c w v → (serve I c v g).flow + w.flow ≤ (serve I c w g).flow + v.flow
  gains-more w v g behind =
      let later = starts-later w v g behind in
      omega (arith, sum_by-le-sum_by (λ s. (serve I c v g).done - (ship_at I s).arrival) (λ s. (serve I c w g).done - (ship_at I s).arrival) g.ships (λ s. omega arith))

  pub behind-gains : (w v : Walk) (gs : List Group) → IsBehind I c w v → (serve_all I c v gs).flow + w.flow ≤ (serve_all I c w gs).flow + v.flow
  behind-gains w v [] behind = omega arith
  behind-gains w v (g ∷ gs) behind = omega (arith, gains-more w v g behind, behind-gains (serve I c w g) (serve I c v g) gs (behind-served w v g behind))

  -- a walk behind the walks along a line ends with no less than it has and they gain
  pub behind-ends : (line : List Group) (ws : List Walk) → AreWalks I c line ws → (i : ℕ) → i ≤ length line → (w : Walk) → IsBehind I c w (walk_at ws i)
      → (walk_at ws (length line)).flow + w.flow ≤ (serve_all I c w (drop i line)).flow + (walk_at ws i).flow
  behind-ends line ws walks i within w behind = omega (arith, behind-gains w (walk_at ws i) (drop i line) behind, walk-gain I c line ws walks i within)

  -- one group more puts a walk behind
  pub behind-opened : (v : Walk) (g : Group) → IsBehind I c (serve I c v g) v
  behind-opened v g =
      let skipped = Dominates-skipped I c known v.stand v.stand v.done v.done (start_of I c v.stand v.done g) g (Dominates-itself (chamber_at I c) v.stand v.done) (start_of-lawful I c known v.stand v.done g) in
      record { done = skipped.done; ready = skipped.ready }

  -- one ship more in a group does
  pub behind-joined : (v : Walk) (s : ℕ) (g : Group) → IsBehind I c (serve I c v (with_ship s g)) (serve I c v g)
  behind-joined v s g =
      let start = start_of I c v.stand v.done (with_ship s g) in
      let lawful = start_of-lawful I c known v.stand v.done (with_ship s g) in
      let handled : sum_by (λ s. (ship_at I s).handling) g.ships ≤ sum_by (λ s. (ship_at I s).handling) (insert_number s g.ships) = omega (arith, sum-insert (λ s. (ship_at I s).handling) s g.ships) in
      let early = start_of-kept I c known v.stand v.stand v.done v.done start (with_ship s g) g.ships (Dominates-itself (chamber_at I c) v.stand v.done) lawful (All-without (λ s. (ship_at I s).arrival ≤ start) s g.ships lawful.arrived) handled in
      let later = Dominates-later (chamber_at I c) (stand_after g.way) (serve I c v g).done (serve I c v (with_ship s g)).done (closures_kept I c known) (omega (arith, early, handled)) in
      record { done = later.done; ready = later.ready }
