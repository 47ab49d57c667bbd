-- Closing a slot, and showing a cost of it: what is refused, and what is known where nothing is refused.
use Rattle.std.proofs.Common.{◌≡◌, ℕ, ◌<◌, ◌≤◌, refl, arith, Bool, true, false, not, cond, Some, None, slice_get, nat_eq, nat_le, nat_lt, leb-false}
use Rattle.std.proofs.lemmas.Bool.{false≢true, not-false}
use Rattle.std.proofs.lemmas.Bool.Decides.{Decides-eqb}
use Rattle.std.specs.Bool.{⊤}
use Rattle.std.specs.declared.option.Option.{Option}
use Rattle.list_laws.proofs.Variants.{some-not_none}
use Rattle.lock_model.specs.declared.instance.Instance.{Instance}
use Rattle.lock_rules.specs.Arrival.{missing_ships}
use Rattle.lock_rules.specs.Throughput.{throughput_of}
use Rattle.price_rules.specs.Prices.{PriceList}
use Rattle.refute_rules.specs.Cuts.{Cut}
use Rattle.closing_rules.specs.declared.grounds.Ground.{Ground}
use Rattle.closing_rules.specs.declared.grounds.Ground.TheVariants as by
use Rattle.closing_rules.specs.Grounds.{IsClosedBy}
use Rattle.book_rules.specs.Book.{Book, slot_at, slot_low, best_cost}
use Rattle.closing_rules.specs.ListedPrices.{IsPricedBy, IsSweptBy}
use Rattle.book_rules.specs.Events.{Reply, is_acceptance, Cheaper, NoHit, Absent, NoPrices, NotShown, NotRoot, NotSwept, Lower}
use Rattle.book_rules.specs.Shown.{Shown, IsShown, Swept, IsSweptCost}
use Rattle.book_rules.specs.States.{IsHitBy, cuts_in}
use Rattle.book_rules.specs.Step
use Rattle.book_rules.proofs.ShownLemmas.{shown-holds, swept-held}
use Rattle.book_rules.proofs.TestLemmas.{not-below, has_number-decides, is_node_hit-decides}

-- nothing, or a refusal
abbrev pub MayRefuse : {Break : Type 0} → Option (Reply Break) → Type 0
MayRefuse None = ⊤
MayRefuse (Some r) = is_acceptance r ≡ false

module _ (b : Book) (id : ℕ) where
  abbrev I : Instance
  I = b.case.instance

  -- slot id may be closed so
  abbrev pub MayCloseBy : Ground → Type 0
  MayCloseBy why =
      IsClosedBy I (IsHitBy I b.cuts) (IsPricedBy I (cuts_in I b.cuts) b.prices) (IsSweptBy I (cuts_in I b.cuts) b.prices)
      (best_cost b) (slot_at b id).bound (slot_at b id).node.depth (slot_at b id).node.lines why

  hit-by : (number : ℕ) (o : Option Cut) → slice_get b.cuts number ≡ o → Step.hits_in b id o ≡ true → IsHitBy I b.cuts number (slot_at b id).node.lines
  hit-by number None e hit = absurd (false≢true hit)
  hit-by number (Some cut) e hit = record { cut = cut; there = e; hits = (is_node_hit-decides I cut (slot_at b id).node.lines).0 hit }

  module _ (Break : Type 0) where
    refuse_or : (t : Bool) (r : Reply Break) (o : Option (Reply Break)) → is_acceptance r ≡ false → MayRefuse o → MayRefuse (cond t (Some r) o)
    refuse_or true r o f h = f
    refuse_or false r o f h = h

    cheaper-refuses : (bound : ℕ) → MayRefuse {Break = Break} (Step.cheaper_than (best_cost b) bound)
    cheaper-refuses bound = refuse_or (nat_lt bound (best_cost b)) (Cheaper bound (best_cost b)) None refl tt

    pub may-refuse : (why : Ground) → MayRefuse {Break = Break} (Step.refusal_of b id why)
    may-refuse by.Bound = cheaper-refuses (slot_at b id).bound
    may-refuse by.Throughput = cheaper-refuses (throughput_of I)
    may-refuse (by.Probe s) = refuse_or (not (Step.lacks_ship b id s)) (Absent s) (Step.cheaper_than (best_cost b) (Step.probe_at b id s)) refl (cheaper-refuses (Step.probe_at b id s))
    may-refuse (by.Cut number) = refuse_or (not (Step.hits_in b id (slice_get b.cuts number))) (NoHit number) None refl tt
    may-refuse (by.Price number) = refl
    may-refuse (by.Swept number) = refl

    pub may-refuse_price : (number : ℕ) (shown : Shown) (o : Option PriceList) → MayRefuse {Break = Break} (Step.price_refusal b id number shown o)
    may-refuse_price number shown None = refl
    may-refuse_price number shown (Some prices) = refuse_or (not (Step.is_shown b id prices shown)) NotShown (Step.cheaper_than (best_cost b) shown.cost) refl (cheaper-refuses shown.cost)

    pub may-refuse_low : (number : ℕ) (shown : Shown) (o : Option PriceList) → MayRefuse {Break = Break} (Step.low_refusal b id number shown o)
    may-refuse_low number shown None = refl
    may-refuse_low number shown (Some prices) =
        let low = slot_low (slot_at b id) in
        refuse_or (not (Step.is_shown b id prices shown)) NotShown (cond (nat_le shown.cost low) (Some (Lower shown.cost low)) None) refl
        (refuse_or (nat_le shown.cost low) (Lower shown.cost low) None refl tt)

    swept-refuses : (number : ℕ) (swept : Swept) (o : Option PriceList) → MayRefuse {Break = Break} (Step.sweep_by_prices b number swept o)
    swept-refuses number swept None = refl
    swept-refuses number swept (Some prices) =
        refuse_or (not (Step.is_swept b swept)) NotSwept (Step.cheaper_than (best_cost b) swept.cost) refl (cheaper-refuses swept.cost)

    pub may-refuse_sweep : (number : ℕ) (swept : Swept) (o : Option PriceList) → MayRefuse {Break = Break} (Step.sweep_refusal b id number swept o)
    may-refuse_sweep number swept o =
        refuse_or (not (nat_eq (slot_at b id).node.depth 0)) NotRoot (Step.sweep_by_prices b number swept o) refl (swept-refuses number swept o)

  module _ {Break : Type 0} where
    none-of : (t : Bool) (r : Reply Break) (o : Option (Reply Break)) → cond t (Some r) o ≡ None → (t ≡ false) × (o ≡ None)
    none-of true r o e = absurd (some-not_none r e)
    none-of false r o e = (refl, e)

    none-cheaper : (bound : ℕ) → Step.cheaper_than {Break = Break} (best_cost b) bound ≡ None → best_cost b ≤ bound
    none-cheaper bound e = not-below bound (best_cost b) (none-of (nat_lt bound (best_cost b)) (Cheaper bound (best_cost b)) None e).0

    -- where nothing is refused, it may be closed so
    pub unrefused-may : (why : Ground) → Step.refusal_of {Break = Break} b id why ≡ None → MayCloseBy why
    unrefused-may by.Bound e = none-cheaper (slot_at b id).bound e
    unrefused-may by.Throughput e = none-cheaper (throughput_of I) e
    unrefused-may (by.Probe s) e =
        let both = none-of (not (Step.lacks_ship b id s)) (Absent s) (Step.cheaper_than (best_cost b) (Step.probe_at b id s)) e in
        ((has_number-decides (missing_ships I (slot_at b id).node.depth) s).0 (not-false (Step.lacks_ship b id s) both.0), none-cheaper (Step.probe_at b id s) both.1)
    unrefused-may (by.Cut number) e =
        let hit = Step.hits_in b id (slice_get b.cuts number) in
        hit-by number (slice_get b.cuts number) refl (not-false hit (none-of (not hit) (NoHit number) None e).0)
    unrefused-may (by.Price number) e = absurd (some-not_none NotShown e)
    unrefused-may (by.Swept number) e = absurd (some-not_none NotSwept e)

    -- where what was shown isn't refused, slot id may be closed by the prices
    pub shown-may : (number : ℕ) (shown : Shown) → IsShown shown → (o : Option PriceList) → slice_get b.prices number ≡ o → Step.price_refusal {Break = Break} b id number shown o ≡ None → MayCloseBy (by.Price number)
    shown-may number shown reached None there e = absurd (some-not_none (NoPrices number) e)
    shown-may number shown reached (Some prices) there e =
        let own = Step.is_shown b id prices shown in
        let both = none-of (not own) NotShown (Step.cheaper_than (best_cost b) shown.cost) e in
        shown-holds b id number prices there shown reached (not-false own both.0) (best_cost b) (none-cheaper shown.cost both.1)

    -- where what was shown isn't refused, slot id reaches its cost, which is more than was known of it
    pub low-may : (number : ℕ) (shown : Shown) → IsShown shown → (o : Option PriceList) → slice_get b.prices number ≡ o → Step.low_refusal {Break = Break} b id number shown o ≡ None
        → (slot_low (slot_at b id) < shown.cost)
        × IsPricedBy I (cuts_in I b.cuts) b.prices number (slot_at b id).node.depth (slot_at b id).node.lines shown.cost
    low-may number shown reached None there e = absurd (some-not_none (NoPrices number) e)
    low-may number shown reached (Some prices) there e =
        let low = slot_low (slot_at b id) in
        let own = Step.is_shown b id prices shown in
        let both = none-of (not own) NotShown (cond (nat_le shown.cost low) (Some (Lower shown.cost low)) None) e in
        let more = none-of (nat_le shown.cost low) (Lower shown.cost low) None both.1 in
        (leb-false shown.cost low more.0, shown-holds b id number prices there shown reached (not-false own both.0) shown.cost (omega arith))

    by_prices-may : (number : ℕ) (swept : Swept) → IsSweptCost swept → (slot_at b id).node.depth ≡ 0 → (o : Option PriceList) → slice_get b.prices number ≡ o
        → Step.sweep_by_prices {Break = Break} b number swept o ≡ None → MayCloseBy (by.Swept number)
    by_prices-may number swept holds root None there e = absurd (some-not_none (NoPrices number) e)
    by_prices-may number swept holds root (Some prices) there e =
        let own = Step.is_swept b swept in
        let both = none-of (not own) NotSwept (Step.cheaper_than (best_cost b) swept.cost) e in
        swept-held b id number prices there root swept holds (not-false own both.0) (none-cheaper swept.cost both.1)

    -- where what was swept isn't refused, slot id may be closed by it
    pub swept-may : (number : ℕ) (swept : Swept) → IsSweptCost swept → Step.sweep_refusal {Break = Break} b id number swept (slice_get b.prices number) ≡ None
        → MayCloseBy (by.Swept number)
    swept-may number swept holds e =
        let root = nat_eq (slot_at b id).node.depth 0 in
        let both = none-of (not root) NotRoot (Step.sweep_by_prices b number swept (slice_get b.prices number)) e in
        by_prices-may number swept holds ((Decides-eqb (slot_at b id).node.depth 0).0 (not-false root both.0)) (slice_get b.prices number) refl both.1
