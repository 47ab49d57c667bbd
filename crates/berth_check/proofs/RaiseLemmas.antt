-- Raising places: what the hosts and the orders of a case force.
use Rattle.std.proofs.lemmas.Option.{none-some, same_Some}
use Rattle.std.specs.List.{AllByRecursion}
use Rattle.std.specs.declared.option.Option.{Option}
use Rattle.std.proofs.lemmas.Bool.Decides.{eqb_tells}
use Rattle.std.proofs.lemmas.List.{get_or-set_other, get_or_default}
use Rattle.std.proofs.lemmas.Grind.{get_or-set_at}
use Rattle.std.proofs.lemmas.List.Elements.{All-from_recursion}
use Rattle.lock_model.specs.declared.placement.Moor.{Moor}
use Rattle.lock_model.specs.declared.placement.Moor.TheVariants.{Quay, Ship}
use Rattle.refute_rules.specs.Decided.{berth_in}
use Rattle.refute_rules.specs.Known.{host_of, moor_host, berth_y, y_within}
use Rattle.refute_rules.specs.SpotFaults.{IsInsideAlong}
use Rattle.std.proofs.Common.{ℤ, ◌⊎◌, cond, map, get_or, set, ◌≡◌, ℕ, zero, suc, ◌+◌, ◌-◌, ◌<◌, ◌≤◌, List, [], ◌∷◌, length, inl, inr, refl, sym, ap, ◌∙◌, subst, arith, Some, None}
use Rattle.lock_model.specs.Deck.{Deck}
use Rattle.refute_rules.specs.Reasons.{length_at}
use Rattle.refute_rules.specs.declared.choices.Berth.{Berth}
use Rattle.refute_rules.specs.declared.choices.Choice.{Choice}
use Rattle.refute_rules.specs.declared.choices.Choice.TheVariants.{Lies, Before, Below, LiesAt}
use Rattle.refute_rules.specs.Choices.{IsKnownMoor}
use Rattle.refute_rules.specs.BerthCases.{host_in}
use Rattle.refute_rules.specs.BerthTrees.{AreUnordered}
use Rattle.berth_check.specs.Raises.{x_at, IsForced, IsHostObeyed, IsOrderObeyed, AreOrdersObeyed, AreSettled, AreBelow, AreFirstInside, HasPlaces, rise_left, IsKnownChoice, AreKnown, IsOf}

module _ (d : Deck) (case : List Choice) (xs : List ℕ) (i k : ℕ) where
  pub near_forced : i < length d.ships → k < length d.ships → Some k ≡ host_in case i → x_at xs i < x_at xs k → IsForced d case xs i (x_at xs k)
  near_forced ki kk e less = record { known = ki; higher = less; forced = λ x o m. let a = m.most k kk in let b = (o.within i k (sym e)).0 in omega (arith, a, b) }

  pub far_forced : (value : ℕ) → i < length d.ships → k < length d.ships → Some k ≡ host_in case i → x_at xs k + length_at d k < x_at xs i + length_at d i → value ≡ x_at xs i + length_at d i - length_at d k → IsForced d case xs k value
  far_forced value ki kk e less v = record {
    known = kk;
    higher = omega (arith, less, v);
    forced = λ x o m. let a = m.most i ki in let b = (o.within i k (sym e)).1 in omega (arith, a, b, v);
  }

  pub host_obeyed : Some k ≡ host_in case i → x_at xs k ≤ x_at xs i → x_at xs i + length_at d i ≤ x_at xs k + length_at d k → IsHostObeyed d case xs i
  host_obeyed e near far = record { obeyed = λ j h. subst (λ u. (x_at xs u ≤ x_at xs i) × (x_at xs i + length_at d i ≤ x_at xs u + length_at d u)) (same_Some k j (e ∙ h)) (near, far) }

pub host_none : (d : Deck) (case : List Choice) (xs : List ℕ) (i : ℕ) → None ≡ host_in case i → IsHostObeyed d case xs i
host_none d case xs i e = record { obeyed = λ k h. absurd (none-some k (e ∙ h)) }

-- the berth that a case tells is that of a ship of the deck
pub berth-known : (d : Deck) (case : List Choice) → AllByRecursion (IsKnownChoice d) case → (i : ℕ) (b : Berth) → berth_in case i ≡ Some b → (i < length d.ships) × IsKnownMoor d b.moor
berth-known d [] known i b e = absurd (none-some b e)
berth-known d (Lies j c ∷ cs) known i b e =
    elim (eqb_tells j i) [
      | inl y ↦
          let same : c ≡ b = same_Some c b (sym (ap (λ t. cond t (Some c) (berth_in cs i)) y.0) ∙ e) in
          (subst (λ k. k < length d.ships) y.1 known.0.0, subst (λ (u : Berth). IsKnownMoor d u.moor) same known.0.1)
      | inr n ↦ berth-known d cs known.1 i b (sym (ap (λ t. cond t (Some c) (berth_in cs i)) n.0) ∙ e)
    ]
berth-known d (Before j k ∷ cs) known i b e = berth-known d cs known.1 i b e
berth-known d (Below j k ∷ cs) known i b e = absurd known.0
berth-known d (LiesAt j v ∷ cs) known i b e = absurd known.0

moor-known : (d : Deck) (m : Moor) (k : ℕ) → IsKnownMoor d m → moor_host m ≡ Some k → k < length d.ships
moor-known d Quay k known e = absurd (none-some k e)
moor-known d (Ship j) k known e = subst (λ u. u < length d.ships) (same_Some j k e) known

pub host-known : (d : Deck) (case : List Choice) → AreKnown d case → (i k : ℕ) → host_in case i ≡ Some k → (i < length d.ships) × (k < length d.ships)
host-known d case known i k e = at (berth_in case i) refl e
  where
    at : (o : Option Berth) → berth_in case i ≡ o → host_of o ≡ Some k → (i < length d.ships) × (k < length d.ships)
    at None f h = absurd (none-some k h)
    at (Some b) f h = let own = berth-known d case known.all i b f in (own.0, moor-known d b.moor k own.1 h)

pub known_host : (d : Deck) (case : List Choice) (i k : ℕ) → AreKnown d case → Some k ≡ host_in case i → k < length d.ships
known_host d case i k known e = (host-known d case known i k (sym e)).1

pub y-known : (d : Deck) (case : List Choice) → AreKnown d case → (steps i : ℕ) (y : ℤ) → y_within d case steps i ≡ Some y → i < length d.ships
y-known d case known zero i y e = absurd (none-some y e)
y-known d case known (suc steps) i y e = at (berth_in case i) refl e
  where
    at : (o : Option Berth) → berth_in case i ≡ o → berth_y d i o (y_within d case steps) ≡ Some y → i < length d.ships
    at None f h = absurd (none-some y h)
    at (Some b) f h = (berth-known d case known.all i b f).0

pub known_pair : (d : Deck) (case : List Choice) (i j : ℕ) → AreKnown d case → AreUnordered d case i j → (i < length d.ships) × (j < length d.ships)
known_pair d case i j known u = (y-known d case known (length d.ships) i u.overlap.yi u.overlap.known_i, y-known d case known (length d.ships) j u.overlap.yj u.overlap.known_j)

-- orders
module _ (d : Deck) (case : List Choice) (xs : List ℕ) (i j : ℕ) where
  pub order_forced : (value : ℕ) → j < length d.ships → i < length d.ships → IsOf case (Before i j) → x_at xs j < value → value ≡ x_at xs i + length_at d i + d.gap → IsForced d case xs j value
  order_forced value kj ki h less v = record { known = kj; higher = less; forced = λ x o m. let a = m.most i ki in let b = o.order i j h.stands in omega (arith, a, b, v) }

pub order_obeyed : (d : Deck) (xs : List ℕ) (i j : ℕ) → x_at xs i + length_at d i + d.gap ≤ x_at xs j → IsOrderObeyed d xs (Before i j)
order_obeyed d xs i j h = record { obeyed = λ k l e. subst (λ u. x_at xs k + length_at d k + d.gap ≤ x_at xs u) (second i j k l e) (subst (λ u. x_at xs u + length_at d u + d.gap ≤ x_at xs j) (first i j k l e) h) }
  where
    first : (i j k l : ℕ) → Before i j ≡ Before k l → i ≡ k
    first i j k l e = cc

    second : (i j k l : ℕ) → Before i j ≡ Before k l → j ≡ l
    second i j k l e = cc

pub berth_obeyed : (d : Deck) (xs : List ℕ) (i : ℕ) (b : Berth) → IsOrderObeyed d xs (Lies i b)
berth_obeyed d xs i b = record { obeyed = λ k l e. absurd (differ k l e) }
  where
    differ : (k l : ℕ) → Lies i b ≡ Before k l → ⊥
    differ k l e = cc

pub choice_known : (d : Deck) (case : List Choice) (k : ℕ) (c : Choice) → AreKnown d case → k < length case → c ≡ get_or case k c → IsKnownChoice d c
choice_known d case k c known less e = subst (IsKnownChoice d) (sym e) (All-from_recursion (IsKnownChoice d) case known.all k c less)

pub choice_of_case : (case : List Choice) (k : ℕ) (c : Choice) → k < length case → c ≡ get_or case k c → IsOf case c
choice_of_case case k c less e = record { stands = (k, less, sym e) }

pub orders_begun : (d : Deck) (case : List Choice) (xs : List ℕ) → AreOrdersObeyed d case xs 0
orders_begun d case xs = record { each = λ k less z. absurd (omega (arith, less)) }

module _ (d : Deck) (case : List Choice) (xs : List ℕ) (count : ℕ) where
  pub orders_more : (c : Choice) → count < length case → c ≡ get_or case count c → IsOrderObeyed d xs c → AreOrdersObeyed d case xs count → AreOrdersObeyed d case xs (count + 1)
  orders_more c less e here before = record {
    each = λ k below u.
        elim (eqb_tells count k) [
          | inl y ↦ subst (λ n. IsOrderObeyed d xs (get_or case n u)) y.1 (subst (IsOrderObeyed d xs) (e ∙ get_or_default case count c u less) here)
          | inr n ↦ before.each k (omega (arith, below, n.1)) u
        ];
  }

  pub orders_whole : length case ≤ count → AreOrdersObeyed d case xs count → AreOrdersObeyed d case xs (length case)
  orders_whole long before = record { each = λ k below u. before.each k (omega (arith, below, long)) u }

-- settling
room-less : (most : ℕ) (xs : List ℕ) (i value : ℕ) → i < length xs → x_at xs i < value → value ≤ most → rise_left most (set xs i value) < rise_left most xs
room-less most [] i value here less up = absurd (omega (arith, here))
room-less most (x ∷ xs) zero value here less up = omega (arith, less, up)
room-less most (x ∷ xs) (suc i) value here less up = omega (arith, room-less most xs i value (omega (arith, here)) less up)

module _ (d : Deck) (case : List Choice) (xs : List ℕ) where
  pub settled_places : AreKnown d case → AreFirstInside d xs (length d.ships) → AreSettled d case xs → HasPlaces d case
  settled_places known inside settled = record {
    x = x_at xs;
    obey = record {
      inside = inside.inside;
      within = λ i k e. (settled.hosts.each i (host-known d case known i k e).0).obeyed k e;
      order = λ i j h. (settled.orders.each h.0 h.1 (Before i j)).obeyed i j h.2;
    };
  }

  pub no_places : (ship value : ℕ) → AreBelow d case xs → AreFirstInside d xs (length d.ships) → IsForced d case xs ship value → (IsInsideAlong d ship value → ⊥) → HasPlaces d case → ⊥
  no_places ship value below inside forced out h =
      let up = forced.forced h.x h.obey (below.below h.x h.obey) in
      let far = (h.obey.inside ship forced.known).1 in
      let near = (inside.inside ship forced.known).0 in
      let higher = forced.higher in
      out (omega (arith, near, higher), omega (arith, up, far))

  raised-at : (ship value i : ℕ) → ship < length xs → (x_at (set xs ship value) i ≡ x_at xs i) ⊎ ((i ≡ ship) × (x_at (set xs ship value) i ≡ value))
  raised-at ship value i here =
      elim (eqb_tells i ship) [
        | inl y ↦ inr (y.1, get_or-set_at xs ship i value 0 y.1 here)
        | inr n ↦ inl (get_or-set_other xs ship i value 0 n.1)
      ]

  pub raised_below : (ship value : ℕ) → ship < length xs → AreBelow d case xs → IsForced d case xs ship value → AreBelow d case (set xs ship value)
  raised_below ship value here below forced = record {
    below = λ x o. record {
      most = λ i known.
          elim (raised-at ship value i here) [
            | inl same ↦ subst (λ v. v ≤ x i) (sym same) ((below.below x o).most i known)
            | inr hit ↦ subst (λ v. v ≤ x i) (sym hit.1) (subst (λ k. value ≤ x k) (sym hit.0) (forced.forced x o (below.below x o)))
          ];
    };
  }

  pub raised_inside : (ship value : ℕ) → ship < length xs → AreFirstInside d xs (length d.ships) → IsInsideAlong d ship value → AreFirstInside d (set xs ship value) (length d.ships)
  raised_inside ship value here inside at = record {
    inside = λ i known.
        elim (raised-at ship value i here) [
          | inl same ↦ subst (IsInsideAlong d i) (sym same) (inside.inside i known)
          | inr hit ↦ subst (IsInsideAlong d i) (sym hit.1) (subst (λ k. IsInsideAlong d k value) (sym hit.0) at)
        ];
  }

  pub raised_less : (ship value : ℕ) → ship < length xs → IsForced d case xs ship value → IsInsideAlong d ship value → rise_left d.length (set xs ship value) < rise_left d.length xs
  raised_less ship value here forced at = let far = at.1 in room-less d.length xs ship value here forced.higher (omega (arith, far))

-- the first places
pub start_below : (d : Deck) (case : List Choice) (xs : List ℕ) → ((i : ℕ) → i < length d.ships → x_at xs i ≡ d.end) → AreBelow d case xs
start_below d case xs at = record { below = λ x o. record { most = λ i known. let e = at i known in let near = (o.inside i known).0 in omega (arith, e, near) } }

pub start_no_places : (d : Deck) (case : List Choice) (xs : List ℕ) → ((i : ℕ) → i < length d.ships → x_at xs i ≡ d.end) → (AreFirstInside d xs (length d.ships) → ⊥) → HasPlaces d case → ⊥
start_no_places d case xs at out h =
    out (record { inside = λ i known. let e = at i known in let near = (h.obey.inside i known).0 in let far = (h.obey.inside i known).1 in (omega (arith, e), omega (arith, e, near, far)) })

-- what `first_order_raise` goes by
pub ruleset of_orders = (choice_known, choice_of_case, orders_begun, orders_more, orders_whole)

-- what `settle` goes by
pub ruleset of_places = (settled_places, no_places, raised_below, raised_inside, raised_less)
