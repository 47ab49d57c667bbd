-- In a spot case that leads no ship back to itself and decides every berth, every y is known.
use Rattle.std.proofs.Common.{◌≡◌, ℕ, zero, suc, ◌+◌, ◌-◌, ◌<◌, ◌≤◌, ℤ, List, [], ◌∷◌, length, inl, inr, refl, sym, ap, ◌∙◌, subst, arith, Some, None, option_map, Contains}
use Rattle.std.proofs.lemmas.Option.{same_Some, none-some}
use Rattle.std.specs.declared.option.Option.{Option}
use Rattle.std.specs.List.{AllByRecursion}
use Rattle.lock_model.specs.Deck.{Deck}
use Rattle.lock_model.specs.declared.placement.Moor.{Moor}
use Rattle.lock_model.specs.declared.placement.Moor.TheVariants.{Quay, Ship}
use Rattle.refute_rules.specs.declared.choices.Berth.{Berth}
use Rattle.refute_rules.specs.declared.choices.Choice.{Choice}
use Rattle.refute_rules.specs.Decided.{berth_in}
use Rattle.refute_rules.specs.Known.{moor_host, host_of, host_and_more, hosts_within, quay_y, guest_y, moored_y, berth_y, y_within, y_in, HasKnownHosts}
use Rattle.lock_rules.proofs.TreeLemmas.{contains-among}
use Rattle.list_laws.specs.Among.{IsAmong, AreDistinct}
use Rattle.list_laws.proofs.Distinct.{few-distinct}

-- what a mapped option tells
pub map-some : {X Y : Type 0} (f : X → Y) (o : Option X) (y : Y) → option_map f o ≡ Some y → (x : X) × (o ≡ Some x) × (f x ≡ y)
map-some f None y e = absurd (none-some y e)
map-some f (Some x) y e = (x, refl, same_Some (f x) y e)

map-none : {X Y : Type 0} (f : X → Y) (o : Option X) → option_map f o ≡ None → o ≡ None
map-none f None e = refl
map-none f (Some x) e = absurd (none-some (f x) (sym e))

pub positive : (n i : ℕ) → i < n → (m : ℕ) × (n ≡ suc m)
positive zero i h = absurd (omega (arith, h))
positive (suc m) i h = (m, refl)

-- ---- with more steps

berth_y-more : (d : Deck) (i : ℕ) (o : Option Berth) (told more : ℕ → Option ℤ) → ((k : ℕ) (z : ℤ) → told k ≡ Some z → more k ≡ Some z) → (y : ℤ) → berth_y d i o told ≡ Some y → berth_y d i o more ≡ Some y
berth_y-more d i None told more f y e = absurd (none-some y e)
berth_y-more d i (Some b) told more f y e = by_moor b.moor e
  where
    by_moor : (m : Moor) → moored_y d i b.rank m told ≡ Some y → moored_y d i b.rank m more ≡ Some y
    by_moor Quay h = h
    by_moor (Ship k) h =
        let from = map-some (guest_y d i k b.rank) (told k) y h in
        ap (option_map (guest_y d i k b.rank)) (f k from.0 from.1) ∙ ap (λ z. Some z) from.2

-- y that is known in some steps is known in more
pub y-more : (d : Deck) (case : List Choice) (steps i : ℕ) (y : ℤ) → y_within d case steps i ≡ Some y → y_within d case (suc steps) i ≡ Some y
y-more d case zero i y e = absurd (none-some y e)
y-more d case (suc steps) i y e = berth_y-more d i (berth_in case i) (y_within d case steps) (y_within d case (suc steps)) (y-more d case steps) y e

host-more : (o : Option ℕ) (more further : ℕ → List ℕ) → ((k x : ℕ) → IsAmong (more k) x → IsAmong (further k) x) → (x : ℕ) → IsAmong (host_and_more o more) x → IsAmong (host_and_more o further) x
host-more None more further f x h = absurd h
host-more (Some k) more further f x (inl e) = inl e
host-more (Some k) more further f x (inr h) = inr (f k x h)

hosts-more : (case : List Choice) (steps i x : ℕ) → IsAmong (hosts_within case steps i) x → IsAmong (hosts_within case (suc steps) i) x
hosts-more case zero i x h = absurd h
hosts-more case (suc steps) i x h = host-more (host_of (berth_in case i)) (hosts_within case steps) (hosts_within case (suc steps)) (hosts-more case steps) x h

hosts-later : (case : List Choice) (steps more i x : ℕ) → IsAmong (hosts_within case steps i) x → IsAmong (hosts_within case (more + steps) i) x
hosts-later case steps zero i x h =
    let e : steps ≡ 0 + steps = omega arith in
    subst (λ n. IsAmong (hosts_within case n i) x) e h
hosts-later case steps (suc more) i x h =
    let e : suc (more + steps) ≡ suc more + steps = omega arith in
    subst (λ n. IsAmong (hosts_within case n i) x) e (hosts-more case (more + steps) i x (hosts-later case steps more i x h))

-- ---- the chain of hosts

module _ (d : Deck) (case : List Choice) (hosts : HasKnownHosts d case) (free : (i : ℕ) → Contains (hosts_within case (length d.ships) i) i → ⊥) where
  chain-known : (steps i : ℕ) → i < length d.ships → AllByRecursion (λ x. x < length d.ships) (hosts_within case steps i)
  chain-known zero i known = tt
  chain-known (suc steps) i known = by_host (host_of (berth_in case i)) refl (λ k host. chain-known steps k host)
    where
      by_host : (o : Option ℕ) → host_of (berth_in case i) ≡ o → ((k : ℕ) → k < length d.ships → AllByRecursion (λ x. x < length d.ships) (hosts_within case steps k)) → AllByRecursion (λ x. x < length d.ships) (host_and_more o (hosts_within case steps))
      by_host None e more = tt
      by_host (Some k) e more = let host = hosts.each i k known e in (host, more k host)

  chain-distinct : (steps i : ℕ) → steps ≤ length d.ships → AreDistinct (i ∷ hosts_within case steps i)
  chain-distinct zero i few = ((λ h. h), tt)
  chain-distinct (suc steps) i few = (back, rest (host_of (berth_in case i)) (λ k. chain-distinct steps k (omega (arith, few))))
    where
      back : IsAmong (hosts_within case (suc steps) i) i → ⊥
      back h =
          let e : (length d.ships - suc steps) + suc steps ≡ length d.ships = omega (arith, few) in
          free i (contains-among (hosts_within case (length d.ships) i) i (subst (λ n. IsAmong (hosts_within case n i) i) e (hosts-later case (suc steps) (length d.ships - suc steps) i i h)))

      rest : (o : Option ℕ) → ((k : ℕ) → AreDistinct (k ∷ hosts_within case steps k)) → AreDistinct (host_and_more o (hosts_within case steps))
      rest None more = tt
      rest (Some k) more = more k

  module _ (decided : (i : ℕ) → i < length d.ships → (b : Berth) × (berth_in case i ≡ Some b)) where
    unknown-long : (steps i : ℕ) → i < length d.ships → y_within d case steps i ≡ None → length (hosts_within case steps i) ≡ steps
    unknown-long zero i known e = refl
    unknown-long (suc steps) i known e =
        let own = decided i known in
        by_moor own.0 own.0.moor refl own.1 (sym (ap (λ o. berth_y d i o (y_within d case steps)) own.1) ∙ e) (λ k host none. unknown-long steps k host none)
      where
        by_moor : (b : Berth) (m : Moor) → b.moor ≡ m → berth_in case i ≡ Some b → moored_y d i b.rank b.moor (y_within d case steps) ≡ None → ((k : ℕ) → k < length d.ships → y_within d case steps k ≡ None → length (hosts_within case steps k) ≡ steps) → length (hosts_within case (suc steps) i) ≡ suc steps
        by_moor b Quay f own h more = absurd (none-some (quay_y d i b.rank) (sym h ∙ ap (λ m. moored_y d i b.rank m (y_within d case steps)) f))
        by_moor b (Ship k) f own h more =
            let host : host_of (berth_in case i) ≡ Some k = ap host_of own ∙ ap moor_host f in
            let none = map-none (guest_y d i k b.rank) (y_within d case steps k) (sym (ap (λ m. moored_y d i b.rank m (y_within d case steps)) f) ∙ h) in
            ap (λ o. length (host_and_more o (hosts_within case steps))) host ∙ ap suc (more k (hosts.each i k known host) none)

    -- y is known of every ship
    pub y-known : (i : ℕ) → i < length d.ships → (y : ℤ) × (y_in d case i ≡ Some y)
    y-known i known = told (y_in d case i) refl
      where
        told : (o : Option ℤ) → y_in d case i ≡ o → (y : ℤ) × (y_in d case i ≡ Some y)
        told (Some y) e = (y, e)
        told None e =
            let long = unknown-long (length d.ships) i known e in
            let few = few-distinct (length d.ships) (i ∷ hosts_within case (length d.ships) i) (chain-distinct (length d.ships) i (omega arith)) (known, chain-known (length d.ships) i known) in
            absurd (omega (arith, long, few))
