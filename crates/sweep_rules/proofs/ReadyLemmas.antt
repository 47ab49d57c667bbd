-- Lines behind a label: what a start says of its minutes, and what a start there says of a chamber's state.
use Rattle.std.proofs.Common.{◌≡◌, ℕ, ◌<◌, ◌≤◌, max, Bool, false, List, [], ◌∷◌, length, All, Contains, refl, subst, arith}
use Rattle.std.proofs.lemmas.List.Elements.{All-head, All-tail, All-cons, All-nil, All-weaker, All-contains}
use Rattle.lock_model.specs.Fleet.{ship_at, chamber_at}
use Rattle.lock_model.specs.declared.chamber.Chamber.{Chamber}
use Rattle.lock_model.specs.declared.instance.Instance.{Instance}
use Rattle.lock_model.specs.declared.group.Group.{Group}
use Rattle.lock_model.specs.declared.way.Way.{Way}
use Rattle.lock_model.specs.declared.way.Way.TheVariants.{Up, Down}
use Rattle.lock_model.specs.declared.way.Stand.{Stand}
use Rattle.lock_rules.specs.Lawful.{HasTurned, IsLawfulStart, AreLawfulFrom, stand_before}
use Rattle.lock_rules.specs.Timetable.{ready_at}
use Rattle.lock_rules.proofs.TimetableLemmas.{ready_at-least}
use Rattle.price_rules.specs.Prices.{PlainCut, Spares, IsUncut}
use Rattle.sweep_rules.specs.Label.{IsWanted}
use Rattle.sweep_rules.specs.Completion.{AreLawfulAfter}
use Rattle.sweep_rules.specs.Gain.{IsWayOn}

-- a chamber that stands for a way needs no turn, and is ready for it at once
pub turned-before : (c : Chamber) (way : Way) (from to : ℕ) → HasTurned c (stand_before way) way from to
turned-before c Up from to = tt
turned-before c Down from to = tt

pub ready_at-before : (c : Chamber) (way : Way) (from : ℕ) → ready_at c (stand_before way) from way ≡ from
ready_at-before c Up from = refl
ready_at-before c Down from = refl

-- a start at or behind a minute is lawful where the chamber stands for its way and is free at that minute
pub start-after : (I : Instance) (c : ℕ) (stand : Stand) (from ready : ℕ) (g : Group) (t : ℕ) → ready ≤ t → IsLawfulStart I c stand from g t → IsLawfulStart I c (stand_before g.way) ready g t
start-after I c stand from ready g t h lawful = record {
  arrived = lawful.arrived;
  later = h;
  turned = turned-before (chamber_at I c) g.way ready t;
  free = lawful.free;
}

-- a ship of a group that no cut hits isn't hit alone
pub spared-alone : (I : Instance) (c : ℕ) (cuts : List PlainCut) (ships : List ℕ) (s : ℕ) → Contains ships s → All (Spares I c ships) cuts → All (Spares I c (s ∷ [])) cuts
spared-alone I c cuts ships s held spared =
    All-weaker (Spares I c ships) (Spares I c (s ∷ [])) (λ cut h. record {
      spared = λ hits. h.spared (record {
        among = All-weaker (Contains (s ∷ [])) (Contains ships) (λ x one. All-contains (Contains ships) (s ∷ []) x (All-cons (Contains ships) s [] held (All-nil (Contains ships))) one) cut.ships hits.among;
        sizes = hits.sizes;
        tight = hits.tight;
      });
    }) cuts spared

-- each missing ship of an uncut group is wanted
pub ship-wanted : (I : Instance) (c : ℕ) (cuts : List PlainCut) (served : ℕ → Bool) (g : Group) → IsUncut I c cuts g → All (λ s. served s ≡ false) g.ships → (s : ℕ) → Contains g.ships s → IsWanted I cuts served c g.way s
ship-wanted I c cuts served g uncut missing s held = record {
  known = All-contains (λ s. s < length I.ships) g.ships s uncut.known held;
  missing = All-contains (λ s. served s ≡ false) g.ships s missing held;
  same = All-contains (λ s. (ship_at I s).way ≡ g.way) g.ships s uncut.good.way held;
  alone = spared-alone I c cuts g.ships s held uncut.spared;
}

-- a ship of the group
pub record HasShip (g : Group) : Type 0 where
  pub ship : ℕ
  pub held : Contains g.ships ship

pub some-ship : (g : Group) → 1 ≤ length g.ships → HasShip g
some-ship g some = first g.ships some
  where
    first : (ss : List ℕ) → 1 ≤ length ss → HasShip (record { way = g.way; ships = ss })
    first [] h = absurd (omega arith)
    first (s ∷ ss) h = record { ship = s; held = (0, omega arith, refl) }

pub uncut-ship : (I : Instance) (c : ℕ) (cuts : List PlainCut) (g : Group) → IsUncut I c cuts g → HasShip g
uncut-ship I c cuts g uncut = some-ship g uncut.good.count.0

-- the first and the others of the groups to go on by
pub way_on-head : (I : Instance) (c : ℕ) (cuts : List PlainCut) (served : ℕ → Bool) (g : Group) (gs : List Group) → IsWayOn I c cuts served (g ∷ gs) → IsUncut I c cuts g × All (λ s. served s ≡ false) g.ships
way_on-head I c cuts served g gs on =
    (All-head (IsUncut I c cuts) g gs on.uncut, All-head (λ (g : Group). All (λ s. served s ≡ false) g.ships) g gs on.missing)

pub way_on-tail : (I : Instance) (c : ℕ) (cuts : List PlainCut) (served : ℕ → Bool) (g : Group) (gs : List Group) → IsWayOn I c cuts served (g ∷ gs) → IsWayOn I c cuts served gs
way_on-tail I c cuts served g gs on = record {
  uncut = All-tail (IsUncut I c cuts) g gs on.uncut;
  missing = All-tail (λ (g : Group). All (λ s. served s ≡ false) g.ships) g gs on.missing;
}

module _ (I : Instance) (cuts : List PlainCut) (served : ℕ → Bool) (c : ℕ) where
  -- no start is before a minute that is at most both another minute and the first arrival of a wanted ship
  pub start-ready : (low at t : ℕ) (g : Group) → ((s : ℕ) → IsWanted I cuts served c g.way s → at ≤ max low (ship_at I s).arrival) → IsUncut I c cuts g → All (λ s. served s ≡ false) g.ships
      → low ≤ t → All (λ s. (ship_at I s).arrival ≤ t) g.ships → at ≤ t
  start-ready low at t g before uncut missing h arrived =
      let one = uncut-ship I c cuts g uncut in
      let early : (ship_at I one.ship).arrival ≤ t = All-contains (λ s. (ship_at I s).arrival ≤ t) g.ships one.ship arrived one.held in
      omega (arith, before one.ship (ship-wanted I c cuts served g uncut missing one.ship one.held))

  -- what is lawful from a chamber's state is lawful from minutes that are no later than the state and the first arrival allow
  pub lawful-after : (stand : Stand) (from : ℕ) (ready : Way → ℕ)
      → ((way : Way) (s : ℕ) → IsWanted I cuts served c way s → ready way ≤ max (ready_at (chamber_at I c) stand from way) (ship_at I s).arrival)
      → (gs : List Group) (ts : List ℕ) → IsWayOn I c cuts served gs → AreLawfulFrom I c stand from gs ts → AreLawfulAfter I c ready gs ts
  lawful-after stand from ready before [] [] on lawful = tt
  lawful-after stand from ready before [] (t ∷ ts) on lawful = absurd lawful
  lawful-after stand from ready before (g ∷ gs) [] on lawful = absurd lawful
  lawful-after stand from ready before (g ∷ gs) (t ∷ ts) on lawful =
      let first = lawful.0 in
      let low = ready_at-least (chamber_at I c) stand from t g.way first.later first.turned in
      let own = way_on-head I c cuts served g gs on in
      (start-after I c stand from (ready g.way) g t (start-ready (ready_at (chamber_at I c) stand from g.way) (ready g.way) t g (before g.way) own.0 own.1 low first.arrived) first, lawful.1)

-- what is lawful from some minutes is lawful from others that the first start isn't before
pub lawful-others : (I : Instance) (c : ℕ) (ready other : Way → ℕ) (gs : List Group) (ts : List ℕ)
    → ((g : Group) (rest : List Group) (t : ℕ) (later : List ℕ) → gs ≡ g ∷ rest → ts ≡ t ∷ later → IsLawfulStart I c (stand_before g.way) (ready g.way) g t → other g.way ≤ t)
    → AreLawfulAfter I c ready gs ts → AreLawfulAfter I c other gs ts
lawful-others I c ready other [] [] before lawful = tt
lawful-others I c ready other [] (t ∷ ts) before lawful = absurd lawful
lawful-others I c ready other (g ∷ gs) [] before lawful = absurd lawful
lawful-others I c ready other (g ∷ gs) (t ∷ ts) before lawful =
    (start-after I c (stand_before g.way) (ready g.way) (other g.way) g t (before g gs t ts refl refl lawful.0) lawful.0, lawful.1)

-- and from earlier ones
pub lawful-sooner : (I : Instance) (cuts : List PlainCut) (served : ℕ → Bool) (c : ℕ) (ready early : Way → ℕ) (gs : List Group) (ts : List ℕ) → IsWayOn I c cuts served gs
    → ((way : Way) (s : ℕ) → IsWanted I cuts served c way s → early way ≤ ready way) → AreLawfulAfter I c ready gs ts → AreLawfulAfter I c early gs ts
lawful-sooner I cuts served c ready early gs ts on less lawful =
    lawful-others I c ready early gs ts (λ g rest t later line times first.
    let own = way_on-head I c cuts served g rest (subst (IsWayOn I c cuts served) line on) in
    let one = uncut-ship I c cuts g own.0 in
    let h : early g.way ≤ ready g.way = less g.way one.ship (ship-wanted I c cuts served g own.0 own.1 one.ship one.held) in
    let after : ready g.way ≤ t = first.later in
    omega arith) lawful
