-- What a successor is worth by its sums, and what a line's own groups are worth.
use Rattle.std.proofs.Common.{◌≡◌, ℕ, suc, ◌+◌, ◌-◌, ◌*◌, ◌<◌, ◌≤◌, max, pos, neg_ℤ, ◌-ℤ◌, ◌≤ℤ◌, true, false, not, List, [], ◌∷◌, length, drop, filter, sum_by, All, refl, sym, ap, ◌∙◌, subst, arith, to_z, of_z, w64, slice_index_or}
use Rattle.std.proofs.Math.Seq.{drop-cons}
use Rattle.std.proofs.lemmas.Int.{ints}
use Rattle.std.proofs.lemmas.List.Elements.{All-head, All-tail, All-weaker}
use Rattle.lock_model.specs.declared.limits.TheConstants.{SHIPS}
use Rattle.lock_model.specs.Fleet.{ship_at, chamber_at}
use Rattle.lock_model.specs.declared.chamber.Chamber.{Chamber}
use Rattle.lock_model.specs.declared.instance.Instance.{Instance}
use Rattle.lock_model.specs.declared.group.Group.{Group}
use Rattle.lock_model.specs.declared.way.Stand.{Stand}
use Rattle.lock_rules.specs.Lawful.{duration_of, stand_after}
use Rattle.lock_rules.specs.Timetable.{first_free, ready_at, last_arrival, start_of, timetable_from}
use Rattle.lock_rules.specs.Arrival.{first_ships}
use Rattle.lock_rules.specs.Bound.{flow_of}
use Rattle.lock_rules.specs.Trace.{has_number}
use Rattle.price_rules.specs.Prices.{PriceList, is_missing, price_at, paid_by, paid_in, charged_on, charged_by, charged_in}
use Rattle.price_rules.proofs.ReachLemmas.{filter-none}
use Rattle.price_groups.specs.Worth.{arrivals_of, end_after, worth_of, worth_from, IsKeptGroup}
use Rattle.price_successors.proofs.SumLemmas.{start-sums, worth-sums}

-- the ships of a line's groups are within the limit
pub ships-within : (I : Instance) (line : List Group) (i : ℕ) (item : Group) → i < length line → item ≡ slice_index_or line i item → All (λ g. All (λ s. s < length I.ships) g.ships) line → All (λ s. s < SHIPS) item.ships
ships-within I line i item here is numbers =
    All-weaker (λ s. s < length I.ships) (λ s. s < SHIPS) (λ s h. omega (arith, h, I.limits.ship_count.1)) item.ships (subst (λ (g : Group). All (λ s. s < length I.ships) g.ships) (sym is) (numbers i item here))

-- a line of the first k ships pays nothing
pub kept-free : (I : Instance) (k : ℕ) (prices : PriceList) (line : List Group) → All (IsKeptGroup I k) line → paid_in I k prices line ≡ 0
kept-free I k prices [] own = refl
kept-free I k prices (g ∷ gs) own =
    let kept = has_number (first_ships I k) in
    let none : filter (is_missing I k) g.ships ≡ [] = filter-none (is_missing I k) g.ships (All-weaker (λ s. kept s ≡ true) (λ s. is_missing I k s ≡ false) (λ s h. ap not h) g.ships (All-head (IsKeptGroup I k) g gs own).kept) in
    omega (arith, ap (sum_by (price_at prices)) none, kept-free I k prices gs (All-tail (IsKeptGroup I k) g gs own))

-- what one group more of a line is charged
pub charged-next : (prices : PriceList) (line : List Group) (i : ℕ) (item : Group) (charge total sum : ℕ) → i < length line → item ≡ slice_index_or line i item → charge ≡ charged_on prices item.ships
    → total ≡ sum + charged_in prices (drop i line) → total ≡ (sum + charge) + charged_in prices (drop (i + 1) line)
charged-next prices line i item charge total sum here is charges all =
    let up : suc i ≡ i + 1 = omega arith in
    let cons : drop i line ≡ item ∷ drop (i + 1) line = drop-cons line i item here ∙ (λ j. sym is j ∷ drop (up j) line) in
    let parts : charged_in prices (drop i line) ≡ charged_on prices item.ships + charged_in prices (drop (i + 1) line) = ap (charged_in prices) cons in
    omega (arith, all, parts, charges)

module _ (I : Instance) (c k : ℕ) (prices : PriceList) where
  -- so its worth is its flow time and what it is charged
  pub kept-worth : (stand : Stand) (from : ℕ) (line : List Group) (flow charges : ℕ) → All (IsKeptGroup I k) line → flow_of I line (timetable_from I c stand from line) ≡ flow → charged_in prices line ≡ charges
      → flow ≤ SHIPS * 10000000000 → charges ≤ SHIPS * 255000000 → to_z w64 (100 * flow + charges) ≡ worth_from I c k prices stand from line
  kept-worth stand from line flow charges own is charged small light =
      step (flow_of I line (timetable_from I c stand from line)) flow (charged_in prices line) charges (paid_in I k prices line) is charged (kept-free I k prices line own) small light
    where
      step : (x f d e p : ℕ) → x ≡ f → d ≡ e → p ≡ 0 → f ≤ SHIPS * 10000000000 → e ≤ SHIPS * 255000000 → to_z w64 (100 * f + e) ≡ (pos (100 * x + d) -ℤ pos p)
      step x f d e p h j z small light = omega (arith, ints)

  -- one group more of a line
  pub flow-next : (stand : Stand) (from : ℕ) (line : List Group) (i : ℕ) (item : Group) (end : ℕ) (flow total sum : ℕ) → i < length line → item ≡ slice_index_or line i item → end ≡ end_after I c stand from item
      → flow ≡ sum_by (λ s. end - (ship_at I s).arrival) item.ships
      → total ≡ sum + flow_of I (drop i line) (timetable_from I c stand from (drop i line))
      → total ≡ (sum + flow) + flow_of I (drop (i + 1) line) (timetable_from I c (stand_after item.way) end (drop (i + 1) line))
  flow-next stand from line i item end flow total sum here is ends flows all =
      let up : suc i ≡ i + 1 = omega arith in
      let rest = drop (i + 1) line in
      let cons : drop i line ≡ item ∷ rest = drop-cons line i item here ∙ (λ j. sym is j ∷ drop (up j) line) in
      let one : flow_of I (drop i line) (timetable_from I c stand from (drop i line)) ≡ sum_by (λ s. end_after I c stand from item - (ship_at I s).arrival) item.ships + flow_of I rest (timetable_from I c (stand_after item.way) (end_after I c stand from item) rest) =
      ap (λ line. flow_of I line (timetable_from I c stand from line)) cons in
      let same : sum_by (λ s. end_after I c stand from item - (ship_at I s).arrival) item.ships ≡ flow = (λ j. sum_by (λ s. sym ends j - (ship_at I s).arrival) item.ships) ∙ sym flows in
      let later : flow_of I rest (timetable_from I c (stand_after item.way) (end_after I c stand from item) rest) ≡ flow_of I rest (timetable_from I c (stand_after item.way) end rest) = (λ j. flow_of I rest (timetable_from I c (stand_after item.way) (sym ends j) rest)) in
      omega (arith, all, one, same, later)

  module _ (stand : Stand) (from : ℕ) (g : Group) where
    -- the end of a successor from its sums
    pub sums-end : (chamber : Chamber) (r l m f d : ℕ) → chamber ≡ chamber_at I c → r ≡ ready_at chamber stand from g.way → l ≡ last_arrival I 0 g.ships → m ≡ max r l → f ≡ first_free chamber.closures d m → d ≡ duration_of I c g.ships → f + d ≡ end_after I c stand from g
    sums-end chamber r l m f d at ready last most free long =
        let when : m ≡ max (ready_at (chamber_at I c) stand from g.way) (last_arrival I 0 g.ships) = most ∙ (λ i. max ((ready ∙ (λ j. ready_at (at j) stand from g.way)) i) (last i)) in
        let start : f ≡ start_of I c stand from g = free ∙ (λ i. first_free (at i).closures (long i) (when i)) ∙ sym (start-sums I c stand from g) in
        (λ i. start i + long i)

    -- its worth
    pub sums-worth : c < length I.chambers → (end pays charges : ℕ) → end ≡ end_after I c stand from g → pays ≡ paid_by I k prices g + 100 * arrivals_of I g.ships → charges ≡ charged_by prices g
        → (pos (100 * (length g.ships * end) + charges) -ℤ pos pays) ≡ worth_of I c k prices stand from g
    sums-worth known end pays charges ends paid charged =
        (λ i. pos (100 * (length g.ships * ends i) + charged i) -ℤ pos (paid i)) ∙ sym (worth-sums I c stand from g known k prices)

-- which is reckoned in numbers of its type
pub sums-plain : (f d p n : ℕ) → f ≡ n → f ≤ 240000000 → d ≤ 255000000 → p ≤ 808000000 → to_z w64 (of_z w64 (to_z w64 (100 * f + d) -ℤ to_z w64 p)) ≡ (pos (100 * n + d) -ℤ pos p)
sums-plain f d p n e few light fair = omega (arith, ints)

-- and is not far below 0
pub sums-low : (f d p : ℕ) → f ≤ 240000000 → d ≤ 255000000 → p ≤ 808000000 → neg_ℤ (pos 808000000) ≤ℤ to_z w64 (of_z w64 (to_z w64 (100 * f + d) -ℤ to_z w64 p))
sums-low f d p few light fair = omega (arith, ints)

-- nor far above
pub sums-high : (f d p : ℕ) → f ≤ 240000000 → d ≤ 255000000 → p ≤ 808000000 → to_z w64 (of_z w64 (to_z w64 (100 * f + d) -ℤ to_z w64 p)) ≤ℤ pos 30000000000
sums-high f d p few light fair = omega (arith, ints)
