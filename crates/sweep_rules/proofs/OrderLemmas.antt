-- A label goes on by a group with which no equal ship before its ships stays missing.
use Rattle.std.proofs.Common.{◌≡◌, ℕ, zero, suc, ◌+◌, ◌*◌, ◌<◌, ◌≤◌, Bool, true, false, List, [], ◌∷◌, length, map, All, Contains, sum_by, ◌⊎◌, inl, inr, refl, sym, ap, ◌∙◌, subst, arith}
use Rattle.std.proofs.Math.Nat.{mul-le-mul_left, mul-suc}
use Rattle.std.proofs.lemmas.Bool.Decides.{eqb_tells, leb_tells}
use Rattle.std.proofs.lemmas.List.Elements.{All-contains}
use Rattle.lock_model.specs.Fleet.{ship_at}
use Rattle.lock_model.specs.Fitting.{size_of}
use Rattle.lock_model.specs.declared.deck.Size.{Size}
use Rattle.lock_model.specs.declared.instance.Instance.{Instance}
use Rattle.lock_model.specs.declared.group.Group.{Group}
use Rattle.lock_model.specs.declared.way.Way.{Way}
use Rattle.lock_model.specs.declared.way.Way.TheVariants.{Up, Down}
use Rattle.lock_rules.specs.Plan.{times_in}
use Rattle.lock_rules.proofs.AmongLemmas.{times-contains, contains-times}
use Rattle.price_rules.specs.Prices.{PlainCut}
use Rattle.sweep_rules.specs.Label.{Label, CanGoOn, IsGoneOn}
use Rattle.sweep_rules.specs.Completion.{AreLawfulAfter, IsCompletion, EndsBelow, flow_completed}
use Rattle.sweep_rules.specs.Covering.{IsReplaced}
use Rattle.sweep_rules.specs.Equal.{IsEqualBefore, AreSwapped, IsInOrder}
use Rattle.sweep_rules.proofs.SoonestLemmas.{IsSoonest, soonest-least}
use Rattle.sweep_rules.proofs.GoingLemmas.{soonest-can, soonest-ends, soonest-some, soonest-arrived}
use Rattle.sweep_rules.proofs.SwapLemmas.{sum_by-less}
use Rattle.sweep_rules.proofs.EqualLemmas.{swap_group, swap_lines, swap-completion, swap-flow}

-- ---- deciding whether a group is in order
abbrev Decided : Type 0 → Type 0
Decided P = P ⊎ (P → ⊥)

decide-both : (P Q : Type 0) → Decided P → Decided Q → Decided (P × Q)
decide-both P Q (inl p) (inl q) = inl (p, q)
decide-both P Q (inl p) (inr m) = inr (λ h. m h.1)
decide-both P Q (inr n) q = inr (λ h. n h.0)

decide-below : (P : ℕ → Type 0) → ((s : ℕ) → Decided (P s)) → (n : ℕ) → ((s : ℕ) × (s < n) × P s) ⊎ ((s : ℕ) → s < n → P s → ⊥)
decide-below P each zero = inr (λ s less h. absurd (omega (arith, less)))
decide-below P each (suc n) =
    elim (decide-below P each n) [
      | inl found ↦ inl (found.0, omega (arith, found.1), found.2)
      | inr none ↦ elim (each n) [
        | inl here ↦ inl (n, omega arith, here)
        | inr not_here ↦ inr (λ s less h. elim (leb_tells (suc s) n) [
          | inl below ↦ none s below.1 h
          | inr above ↦ not_here (subst P (last s n less above.1) h)
        ])
      ]
    ]
  where
    last : (s n : ℕ) → s < suc n → n < suc s → s ≡ n
    last s n less above = omega (arith, less, above)

decide-number : (m n : ℕ) → Decided (m ≡ n)
decide-number m n = elim (eqb_tells m n) [ inl same ↦ inl same.1 | inr other ↦ inr other.1 ]

decide-less : (m n : ℕ) → Decided (m < n)
decide-less m n = elim (leb_tells (suc m) n) [ inl less ↦ inl less.1 | inr more ↦ inr (λ h. absurd (omega (arith, h, more.1))) ]

decide-way : (v w : Way) → Decided (v ≡ w)
decide-way Up Up = inl refl
decide-way Up Down = inr (λ e. cc)
decide-way Down Up = inr (λ e. cc)
decide-way Down Down = inl refl

decide-size : (s t : Size) → Decided (s ≡ t)
decide-size s t =
    elim (decide-both ((s.length ≡ t.length) × (s.width ≡ t.width)) (s.cargo ≡ t.cargo) (decide-both (s.length ≡ t.length) (s.width ≡ t.width) (decide-number s.length t.length) (decide-number s.width t.width)) (decide-number s.cargo t.cargo)) [
      | inl same ↦ inl (λ i. record { length = same.0.0 i; width = same.0.1 i; cargo = same.1 i })
      | inr other ↦ inr (λ e. other ((ap (λ s. s.length) e, ap (λ s. s.width) e), ap (λ s. s.cargo) e))
    ]

decide-missing : (b : Bool) → Decided (b ≡ false)
decide-missing true = inr (λ e. cc)
decide-missing false = inl refl

decide-held : (ss : List ℕ) (s : ℕ) → Decided (Contains ss s)
decide-held ss s =
    elim (leb_tells 1 (times_in ss s)) [
      | inl some ↦ inl (times-contains ss s some.1)
      | inr none ↦ inr (λ held. absurd (omega (arith, none.1, contains-times ss s held)))
    ]

decide-not : (P : Type 0) → Decided P → Decided (P → ⊥)
decide-not P (inl p) = inr (λ n. n p)
decide-not P (inr n) = inl n

decide-either : (P Q : Type 0) → Decided P → Decided Q → Decided (P ⊎ Q)
decide-either P Q (inl p) q = inl (inl p)
decide-either P Q (inr m) (inl q) = inl (inr q)
decide-either P Q (inr m) (inr n) = inr (neither m n)
  where
    neither : (P → ⊥) → (Q → ⊥) → P ⊎ Q → ⊥
    neither m n (inl p) = m p
    neither m n (inr q) = n q

decide-equal : (I : Instance) (a b : ℕ) → Decided (IsEqualBefore I a b)
decide-equal I a b =
    let s = ship_at I a in
    let t = ship_at I b in
    let Shape : Type 0 = (s.way ≡ t.way) × (size_of s ≡ size_of t) in
    let Order : Type 0 = (s.arrival < t.arrival) ⊎ ((s.arrival ≡ t.arrival) × (a < b)) in
    let shape : Decided Shape = decide-both (s.way ≡ t.way) (size_of s ≡ size_of t) (decide-way s.way t.way) (decide-size (size_of s) (size_of t)) in
    let order : Decided Order = decide-either (s.arrival < t.arrival) ((s.arrival ≡ t.arrival) × (a < b)) (decide-less s.arrival t.arrival) (decide-both (s.arrival ≡ t.arrival) (a < b) (decide-number s.arrival t.arrival) (decide-less a b)) in
    elim (decide-both Shape ((s.handling ≡ t.handling) × Order) shape (decide-both (s.handling ≡ t.handling) Order (decide-number s.handling t.handling) order)) [
      | inl all ↦ inl (record { way = all.0.0; size = all.0.1; handling = all.1.0; order = all.1.1 })
      | inr other ↦ inr (λ e. other ((e.way, e.size), (e.handling, e.order)))
    ]

module _ (I : Instance) (served : ℕ → Bool) (g : Group) where
  -- b is in the group, and an equal ship before it is missing and not in it
  abbrev IsBroken : ℕ → ℕ → Type 0
  IsBroken a b = (IsEqualBefore I a b × Contains g.ships b) × ((served a ≡ false) × (Contains g.ships a → ⊥))

  decide-broken : (a b : ℕ) → Decided (IsBroken a b)
  decide-broken a b =
      decide-both (IsEqualBefore I a b × Contains g.ships b) ((served a ≡ false) × (Contains g.ships a → ⊥))
      (decide-both (IsEqualBefore I a b) (Contains g.ships b) (decide-equal I a b) (decide-held g.ships b))
      (decide-both (served a ≡ false) (Contains g.ships a → ⊥) (decide-missing (served a)) (decide-not (Contains g.ships a) (decide-held g.ships a)))

  abbrev IsBrokenBy : ℕ → Type 0
  IsBrokenBy a = (b : ℕ) × (b < length I.ships) × IsBroken a b

  decide-broken_by : (a : ℕ) → Decided (IsBrokenBy a)
  decide-broken_by a =
      elim (decide-below (IsBroken a) (decide-broken a) (length I.ships)) [
        | inl found ↦ inl found
        | inr none ↦ inr (λ found. none found.0 found.1 found.2)
      ]

  order-or_broken : All (λ s. s < length I.ships) g.ships → IsInOrder I served g ⊎ ((a : ℕ) × (a < length I.ships) × IsBrokenBy a)
  order-or_broken known =
      elim (decide-below IsBrokenBy decide-broken_by (length I.ships)) [
        | inl found ↦ inr found
        | inr none ↦ inl (record {
          first = λ a b ship equal held missing. elim (decide-held g.ships a) [
            | inl here ↦ here
            | inr not_here ↦ absurd (none a ship (b, All-contains (λ s. s < length I.ships) g.ships b known held, ((equal, held), (missing, not_here))))
          ];
        })
      ]

-- ---- equal ships in the order in which they go
abbrev rank_of : Instance → ℕ → ℕ
rank_of I s = length I.ships * (ship_at I s).arrival + s

rank-less : (I : Instance) (a b : ℕ) → a < length I.ships → IsEqualBefore I a b → rank_of I a < rank_of I b
rank-less I a b known equal =
    let n = length I.ships in
    elim equal.order [
      | inl sooner ↦ omega (arith, known, mul-le-mul_left n sooner, mul-suc n (ship_at I a).arrival)
      | inr at_once ↦ omega (arith, at_once.1, ap (λ t. n * t) at_once.0)
    ]

record IsSome (gs : List Group) : Type 0 where
  head : Group
  rest : List Group
  is : gs ≡ head ∷ rest

-- a line that has a start has a group
line-some : (I : Instance) (c : ℕ) (ready : Way → ℕ) (gs : List Group) (t : ℕ) (ts later : List ℕ) → ts ≡ t ∷ later → AreLawfulAfter I c ready gs ts → IsSome gs
line-some I c ready [] t [] later at lawful = absurd (none t later at)
  where
    none : (t : ℕ) (later : List ℕ) → [] ≡ t ∷ later → ⊥
    none t later e = cc
line-some I c ready [] t (u ∷ us) later at lawful = absurd lawful
line-some I c ready (g ∷ gs) t ts later at lawful = record { head = g; rest = gs; is = refl }

map-some : (f : Group → Group) (gs : List Group) (h : Group) (hs : List Group) → map f gs ≡ h ∷ hs → IsSome gs
map-some f [] h hs e = absurd (none h hs e)
  where
    none : (h : Group) (hs : List Group) → [] ≡ h ∷ hs → ⊥
    none h hs e = cc
map-some f (g ∷ gs) h hs e = record { head = g; rest = gs; is = refl }

abbrev soonest-swap : (f : Group → Group) (lines : ℕ → List Group) (starts : ℕ → List ℕ) (n : ℕ) → IsSoonest lines starts n → IsSoonest (λ c. map f (lines c)) starts n
soonest-swap f lines starts n soonest = record {
  chamber = soonest.chamber;
  below = soonest.below;
  group = f soonest.group;
  others = map f soonest.others;
  start = soonest.start;
  times = soonest.times;
  line = ap (map f) soonest.line;
  at = soonest.at;
  first = λ d less h hs u us line at.
      let some = map-some f (lines d) h hs line in
      soonest.first d less some.head some.rest u us some.is at;
}

-- a chamber and a group in order by which the label can go on, to labels that have a completion of a total below the goal
pub record GoesInOrder (I : Instance) (cuts : List PlainCut) (goal : ℕ) (label : Label) : Type 0 where
  pub chamber : ℕ
  pub group : Group
  pub can : CanGoOn I cuts label chamber group
  pub in_order : IsInOrder I label.served group
  pub ends : (next : Label) → IsGoneOn I cuts label chamber group next → EndsBelow I cuts goal next

module _ (I : Instance) (cuts : List PlainCut) (closed : AreSwapped I cuts) (goal : ℕ) (label : Label) where
  -- swapping goes on until the first group is in order
  goes-in_order : (left : ℕ) (lines : ℕ → List Group) (starts : ℕ → List ℕ) → IsCompletion I cuts label lines starts → label.flow + flow_completed I lines starts < goal
      → (f : IsSoonest lines starts (length I.chambers)) → sum_by (rank_of I) f.group.ships < left → GoesInOrder I cuts goal label
  goes-in_order zero lines starts completion below f less = absurd (omega (arith, less))
  goes-in_order (suc left) lines starts completion below f less =
      let can = soonest-can I cuts goal label lines starts completion f in
      elim (order-or_broken I label.served f.group can.uncut.known) [
        | inl in_order ↦ record { chamber = f.chamber; group = f.group; can = can; in_order = in_order; ends = soonest-ends I cuts goal label lines starts completion f below }
        | inr broken ↦
            (let a = broken.0 in
            let b = broken.2.0 in
            let known_a : a < length I.ships = broken.1 in
            let known_b : b < length I.ships = broken.2.1 in
            let equal : IsEqualBefore I a b = broken.2.2.0.0 in
            let held : Contains f.group.ships b = broken.2.2.0.1 in
            let out : Contains f.group.ships a → ⊥ = broken.2.2.1.1 in
            let alike : label.served a ≡ label.served b = broken.2.2.1.0 ∙ sym (All-contains (λ s. label.served s ≡ false) f.group.ships b can.missing held) in
            let here : (ship_at I b).arrival ≤ f.start = All-contains (λ s. (ship_at I s).arrival ≤ f.start) f.group.ships b (soonest-arrived I cuts goal label lines starts completion f) held in
            let late : (c : ℕ) → c < length I.chambers → (t : ℕ) (later : List ℕ) → starts c ≡ t ∷ later → (ship_at I b).arrival ≤ t = λ c known t later at.
            let some = line-some I c (label.ready c) (lines c) t (starts c) later at (completion.lawful c known) in
            omega (arith, here, soonest-least lines starts (length I.chambers) f c known some.head some.rest t later some.is at) in
            let none : times_in f.group.ships a ≡ 0 = no-times f.group.ships a out in
            let fewer = sum_by-less a b (rank_of I) (rank-less I a b known_a equal) f.group.ships none (contains-times f.group.ships b held) in
            goes-in_order left (swap_lines a b lines) starts
            (swap-completion I cuts closed a b known_a known_b equal label lines starts completion alike late)
            (omega (arith, below, swap-flow I cuts closed a b known_a known_b equal label lines starts completion alike late))
            (soonest-swap (swap_group a b) lines starts (length I.chambers) f)
            (omega (arith, fewer, less)))
      ]
    where
      no-times : (ss : List ℕ) (s : ℕ) → (Contains ss s → ⊥) → times_in ss s ≡ 0
      no-times ss s out = elim (leb_tells 1 (times_in ss s)) [ inl some ↦ absurd (out (times-contains ss s some.1)) | inr none ↦ omega (arith, none.1) ]

  -- A LABEL GOES ON BY A GROUP IN ORDER to labels that have a completion of a total below the goal, where the cuts have all swaps of equal ships,
  pub label-goes_in_order : EndsBelow I cuts goal label → (s : ℕ) → s < length I.ships → label.served s ≡ false → GoesInOrder I cuts goal label
  label-goes_in_order ends s known missing =
      let f = soonest-some I cuts label ends.lines ends.starts ends.is s known missing in
      goes-in_order (suc (sum_by (rank_of I) f.group.ships)) ends.lines ends.starts ends.is ends.below f (omega arith)

-- SO A LABEL IS REPLACED WHERE EACH IS THAT IT GOES ON TO BY A GROUP IN ORDER.
pub replaced-in_order : (I : Instance) (cuts : List PlainCut) → AreSwapped I cuts → (goal : ℕ) (labels : List Label) (label : Label) (s : ℕ) → s < length I.ships → label.served s ≡ false
    → ((c : ℕ) (g : Group) → CanGoOn I cuts label c g → IsInOrder I label.served g → (next : Label) × IsGoneOn I cuts label c g next × IsReplaced I cuts goal labels next) → IsReplaced I cuts goal labels label
replaced-in_order I cuts closed goal labels label s known missing gone = record {
  by = λ total high ends.
      let first = label-goes_in_order I cuts closed total label ends s known missing in
      let next = gone first.chamber first.group first.can first.in_order in
      next.2.by total high (first.ends next.0 next.1);
}
