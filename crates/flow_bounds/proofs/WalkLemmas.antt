-- What a walk along a line adds up is the flow time of the line.
use Rattle.std.proofs.Common.{◌≡◌, ℕ, suc, ◌+◌, ◌<◌, ◌≤◌, List, [], ◌∷◌, ◌++◌, ◌*◌, length, take, drop, refl, arith, ap, ◌∙◌, sym, inl, inr, slice_set, get_or-set_same, get_or-set_other}
use Rattle.std.specs.List.{insert}
use Rattle.std.proofs.lemmas.List.{take-append-drop, take-set, drop-set, take-append-le, length-append, length-set}
use Rattle.std.proofs.Math.Seq.{take-length, drop-cons}
use Rattle.std.proofs.lemmas.Bool.Decides.{leb_tells}
use Rattle.lock_model.specs.declared.instance.Instance.{Instance}
use Rattle.lock_model.specs.declared.group.Group.{Group}
use Rattle.lock_model.specs.declared.way.Way.TheVariants.{Up}
use Rattle.lock_rules.specs.Timetable.{timetable_from}
use Rattle.lock_rules.specs.Bound.{flow_of, line_flow}
use Rattle.master_branch.specs.Steps.{group_in}
use Rattle.flow_bounds.specs.declared.walk.Walk.{Walk}
use Rattle.flow_bounds.specs.Most.{group_flow}
use Rattle.flow_bounds.specs.Walk.{AreWalks, no_walk, serve, serve_all, walk_at, walk_start}

-- the groups to come add their flow times
pub serve_all-flow : (I : Instance) (c : ℕ) (w : Walk) (gs : List Group) → (serve_all I c w gs).flow ≡ w.flow + flow_of I gs (timetable_from I c w.stand w.done gs)
serve_all-flow I c w [] = omega arith
serve_all-flow I c w (g ∷ gs) = omega (arith, serve_all-flow I c (serve I c w g) gs)

pub serve_all-line : (I : Instance) (c : ℕ) (line : List Group) → (serve_all I c (walk_start I c) line).flow ≡ line_flow I c line
serve_all-line I c line = omega (arith, serve_all-flow I c (walk_start I c) line)

pub serve_all-append : (I : Instance) (c : ℕ) (w : Walk) (xs ys : List Group) → serve_all I c w (xs ++ ys) ≡ serve_all I c (serve_all I c w xs) ys
serve_all-append I c w [] ys = refl
serve_all-append I c w (x ∷ xs) ys = serve_all-append I c (serve I c w x) xs ys

-- the walk goes on with the next group of a line
pub serve_all-next : (I : Instance) (c : ℕ) (line : List Group) (i : ℕ) (g : Group) → i < length line → g ≡ group_in line i → (w v : Walk) → v ≡ serve I c w g
    → serve_all I c v (drop (i + 1) line) ≡ serve_all I c w (drop i line)
serve_all-next I c line i g less own w v is =
    let up : suc i ≡ i + 1 = omega arith in
    let here : drop i line ≡ g ∷ drop (i + 1) line = drop-cons line i (record { way = Up; ships = [] }) less ∙ (λ k. sym own k ∷ drop (up k) line) in
    ap (λ w. serve_all I c w (drop (i + 1) line)) is ∙ sym (ap (serve_all I c w) here)

-- walks that are in step gain the same
pub gains-alike : (I : Instance) (c : ℕ) (w v : Walk) (gs : List Group) → w.stand ≡ v.stand → w.done ≡ v.done → (serve_all I c w gs).flow + v.flow ≡ (serve_all I c v gs).flow + w.flow
gains-alike I c w v gs stand done =
    let rest : flow_of I gs (timetable_from I c w.stand w.done gs) ≡ flow_of I gs (timetable_from I c v.stand v.done gs) = λ i. flow_of I gs (timetable_from I c (stand i) (done i) gs) in
    omega (arith, serve_all-flow I c w gs, serve_all-flow I c v gs, rest)

-- a walk after a part of a line goes on to its end
pub walk-gain : (I : Instance) (c : ℕ) (line : List Group) (ws : List Walk) → AreWalks I c line ws → (i : ℕ) → i ≤ length line
    → (serve_all I c (walk_at ws i) (drop i line)).flow ≡ (walk_at ws (length line)).flow
walk-gain I c line ws walks i within =
    let start = walk_start I c in
    let whole : take (length line) line ≡ line = take-length line in
    ap (λ w. (serve_all I c w (drop i line)).flow) (walks.each i within)
    ∙ ap (λ w. w.flow) (sym (serve_all-append I c start (take i line) (drop i line)))
    ∙ ap (λ gs. (serve_all I c start gs).flow) (take-append-drop i line ∙ sym whole)
    ∙ ap (λ w. w.flow) (sym (walks.each (length line) (omega arith)))

-- where it is in step with the walks, a walk ends with what they gain from there on
pub finish-in-step : (I : Instance) (c : ℕ) (line : List Group) (ws : List Walk) → AreWalks I c line ws → (i : ℕ) → i ≤ length line → (w : Walk)
    → w.stand ≡ (walk_at ws i).stand → w.done ≡ (walk_at ws i).done
    → (serve_all I c w (drop i line)).flow + (walk_at ws i).flow ≡ (walk_at ws (length line)).flow + w.flow
finish-in-step I c line ws walks i within w stand done =
    gains-alike I c w (walk_at ws i) (drop i line) stand done ∙ ap (λ n. n + w.flow) (walk-gain I c line ws walks i within)

-- the flow times of the walks don't fall
pub walk-grows : (I : Instance) (c : ℕ) (line : List Group) (ws : List Walk) → AreWalks I c line ws → (i : ℕ) → i ≤ length line → (walk_at ws i).flow ≤ (walk_at ws (length line)).flow
walk-grows I c line ws walks i within = omega (arith, walk-gain I c line ws walks i within, serve_all-flow I c (walk_at ws i) (drop i line))

pub last-walk : (I : Instance) (c : ℕ) (line : List Group) (ws : List Walk) → AreWalks I c line ws → (n : ℕ) → n ≡ length line → (walk_at ws n).flow ≡ line_flow I c line
last-walk I c line ws walks n end =
    ap (λ n. (walk_at ws n).flow) end
    ∙ ap (λ w. w.flow) (walks.each (length line) (omega arith))
    ∙ ap (λ gs. (serve_all I c (walk_start I c) gs).flow) (take-length line)
    ∙ serve_all-line I c line

-- a group put into a line, or in the place of one
pub walk-insert : (I : Instance) (c : ℕ) (line : List Group) (p : ℕ) (g : Group)
    → (serve_all I c (serve I c (serve_all I c (walk_start I c) (take p line)) g) (drop p line)).flow ≡ line_flow I c (insert line p g)
walk-insert I c line p g =
    ap (λ w. w.flow) (sym (serve_all-append I c (walk_start I c) (take p line) (g ∷ drop p line)))
    ∙ serve_all-line I c (insert line p g)

pub walk-set : (I : Instance) (c : ℕ) (line : List Group) (p : ℕ) (g : Group) → p < length line
    → (serve_all I c (serve I c (serve_all I c (walk_start I c) (take p line)) g) (drop (p + 1) line)).flow ≡ line_flow I c (slice_set line p g)
walk-set I c line p g less =
    let parts : slice_set line p g ≡ take p line ++ g ∷ drop (p + 1) line =
    sym (take-append-drop p (slice_set line p g)) ∙ (λ i. take-set line p g i ++ drop-set line p g less i) in
    ap (λ w. w.flow) (sym (serve_all-append I c (walk_start I c) (take p line) (g ∷ drop (p + 1) line)))
    ∙ serve_all-line I c (take p line ++ g ∷ drop (p + 1) line)
    ∙ ap (line_flow I c) (sym parts)

-- one group more, and the walk after it
pub walks-more : (I : Instance) (c : ℕ) (gs : List Group) (ws : List Walk) (g : Group) (w : Walk) → AreWalks I c gs ws → length gs + 1 < length ws
    → w ≡ serve I c (serve_all I c (walk_start I c) gs) g → w.done ≤ 1000000 + (length gs + 1) * 12000000 → w.flow ≤ (length gs + 1) * group_flow
    → AreWalks I c (gs ++ g ∷ []) (slice_set ws (length gs + 1) w)
walks-more I c gs ws g w walks room is done flow =
    let start = walk_start I c in
    record {
      room = omega (arith, length-append gs (g ∷ []), length-set ws (length gs + 1) w);
      each = λ i within. elim (leb_tells i (length gs)) [
        | inl old ↦ at_old i old.1 ∙ walks.each i old.1 ∙ ap (serve_all I c start) (sym (take-append-le i gs (g ∷ []) old.1))
        | inr new ↦
            let last = at_new i within new.1 in
            let all : i ≡ length (gs ++ g ∷ []) = omega (arith, last, length-append gs (g ∷ [])) in
            last_is i last ∙ is ∙ sym (serve_all-append I c start gs (g ∷ [])) ∙ ap (serve_all I c start) (sym (take-length (gs ++ g ∷ [])) ∙ ap (λ n. take n (gs ++ g ∷ [])) (sym all))
      ];
      done = λ i within. elim (leb_tells i (length gs)) [
        | inl old ↦ omega (arith, ap (λ w. w.done) (at_old i old.1), walks.done i old.1)
        | inr new ↦
            let last = at_new i within new.1 in
            omega (arith, ap (λ w. w.done) (last_is i last), last, done)
      ];
      flow = λ i within. elim (leb_tells i (length gs)) [
        | inl old ↦ omega (arith, ap (λ w. w.flow) (at_old i old.1), walks.flow i old.1)
        | inr new ↦
            let last = at_new i within new.1 in
            omega (arith, ap (λ w. w.flow) (last_is i last), last, flow)
      ];
    }
  where
    at_old : (i : ℕ) → i ≤ length gs → walk_at (slice_set ws (length gs + 1) w) i ≡ walk_at ws i
    at_old i old = get_or-set_other ws (length gs + 1) i w no_walk (λ e. omega (arith, e, old))

    at_new : (i : ℕ) → i ≤ length (gs ++ g ∷ []) → length gs < i → i ≡ length gs + 1
    at_new i within new = omega (arith, length-append gs (g ∷ []))

    last_is : (i : ℕ) → i ≡ length gs + 1 → walk_at (slice_set ws (length gs + 1) w) i ≡ w
    last_is i last = ap (walk_at (slice_set ws (length gs + 1) w)) last ∙ get_or-set_same ws (length gs + 1) w no_walk room
