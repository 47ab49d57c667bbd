-- The y of a ship by its berth, and how far it can be from 0.
use Rattle.std.proofs.Common.{◌≡◌, ℕ, zero, suc, ◌*◌, ◌<◌, ◌≤◌, ℤ, pos, ◌+ℤ◌, ◌≤ℤ◌, List, [], ◌∷◌, length, inl, inr, refl, sym, ap, ◌∙◌, subst, arith, slice_index_or, Some, None, option_map}
use Rattle.std.proofs.lemmas.Option.{none-some, same_Some}
use Rattle.std.specs.declared.option.Option.{Option}
use Rattle.std.proofs.lemmas.Int.{ints}
use Rattle.std.proofs.lemmas.Bool.Decides.{leb_tells}
use Rattle.lock_model.specs.declared.limits.TheConstants.{MOST}
use Rattle.lock_model.specs.Deck.{Deck, IsDeck, no_size}
use Rattle.lock_model.specs.declared.deck.Size.{Size}
use Rattle.lock_model.specs.declared.placement.Rank.{Rank}
use Rattle.lock_model.specs.declared.placement.Rank.TheVariants.{Left, Right}
use Rattle.lock_model.specs.declared.placement.Moor.{Moor}
use Rattle.lock_model.specs.declared.placement.Moor.TheVariants.{Quay, Ship}
use Rattle.refute_rules.specs.Reasons.{width_at}
use Rattle.refute_rules.specs.declared.choices.Berth.{Berth}
use Rattle.refute_rules.specs.declared.choices.Choice.{Choice}
use Rattle.refute_rules.specs.Decided.{berth_in}
use Rattle.refute_rules.specs.Known.{quay_y, guest_y, moored_y, berth_y, y_within}
use Rattle.spot_place.specs.OnWay.{berth_at, lying}
use Rattle.refute_rules.proofs.KnownLemmas.{map-some}
use Rattle.spot_place.proofs.CaseLemmas.{berth-hit, berth-miss}

-- ---- bounds

size-beyond : (xs : List Size) (i : ℕ) → length xs ≤ i → slice_index_or xs i no_size ≡ no_size
size-beyond [] i h = refl
size-beyond (x ∷ xs) zero h = absurd (omega (arith, h))
size-beyond (x ∷ xs) (suc i) h = size-beyond xs i (omega (arith, h))

pub width-small : (d : Deck) → IsDeck d → (i : ℕ) → width_at d i ≤ 100000
width-small d good i = elim (leb_tells (suc i) (length d.ships)) [
  | inl y ↦ (good.sizes i no_size y.1).wide.1
  | inr n ↦ let beyond = ap (λ (s : Size). s.width) (size-beyond d.ships i (omega (arith, n.1))) in omega (arith, beyond)
]

-- so far from 0 at most
pub record IsNear (steps : ℕ) (y : ℤ) : Type 0 where
  pub low : pos 0 ≤ℤ (y +ℤ pos (200000 * steps))
  pub high : y ≤ℤ pos (200000 * steps)

module _ (d : Deck) (good : IsDeck d) (case : List Choice) where
  quay-near : (i : ℕ) (r : Rank) (steps : ℕ) → IsNear (suc steps) (quay_y d i r)
  quay-near i Left steps = record { low = omega (arith, ints); high = omega (arith, ints) }
  quay-near i Right steps =
      let own = width-small d good i in
      let wide = good.wide.1 in
      record { low = omega (arith, ints, own, wide); high = omega (arith, ints, own, wide) }

  guest-near : (i k : ℕ) (r : Rank) (steps : ℕ) (y : ℤ) → IsNear steps y → IsNear (suc steps) (guest_y d i k r y)
  guest-near i k Left steps y near =
      let own = width-small d good k in
      let side = good.clear.2 in
      let low = near.low in
      let high = near.high in
      record { low = omega (arith, ints, own, side, low, high); high = omega (arith, ints, own, side, low, high) }
  guest-near i k Right steps y near =
      let own = width-small d good i in
      let side = good.clear.2 in
      let low = near.low in
      let high = near.high in
      record { low = omega (arith, ints, own, side, low, high); high = omega (arith, ints, own, side, low, high) }

  pub y-near : (steps i : ℕ) (y : ℤ) → y_within d case steps i ≡ Some y → IsNear steps y
  y-near zero i y e = absurd (none-some y e)
  y-near (suc steps) i y e = by_berth (berth_in case i) e (y-near steps)
    where
      by_moor : (r : Rank) (m : Moor) → moored_y d i r m (y_within d case steps) ≡ Some y → ((k : ℕ) (z : ℤ) → y_within d case steps k ≡ Some z → IsNear steps z) → IsNear (suc steps) y
      by_moor r Quay e near = subst (IsNear (suc steps)) (same_Some (quay_y d i r) y e) (quay-near i r steps)
      by_moor r (Ship k) e near =
          let from = map-some (guest_y d i k r) (y_within d case steps k) y e in
          subst (IsNear (suc steps)) from.2 (guest-near i k r steps from.0 (near k from.0 from.1))

      by_berth : (o : Option Berth) → berth_y d i o (y_within d case steps) ≡ Some y → ((k : ℕ) (z : ℤ) → y_within d case steps k ≡ Some z → IsNear steps z) → IsNear (suc steps) y
      by_berth None e near = absurd (none-some y e)
      by_berth (Some b) e near = by_moor b.rank b.moor e near

  pub y-low : (steps i : ℕ) (y : ℤ) → steps ≤ MOST → Some y ≡ y_within d case steps i → pos 0 ≤ℤ (y +ℤ pos 2000000)
  y-low steps i y few e = let low = (y-near steps i y (sym e)).low in omega (arith, ints, low, few)

  pub y-high : (steps i : ℕ) (y : ℤ) → steps ≤ MOST → Some y ≡ y_within d case steps i → y ≤ℤ pos 2000000
  y-high steps i y few e = let high = (y-near steps i y (sym e)).high in omega (arith, ints, high, few)

-- ---- y by the berth

module _ (d : Deck) (ms : List Berth) (i : ℕ) where
  pub y-undecided : (steps : ℕ) → length ms ≤ i → None ≡ y_within d (lying ms) steps i
  y-undecided zero h = refl
  y-undecided (suc steps) h = sym (ap (λ o. berth_y d i o (y_within d (lying ms) steps)) (berth-miss ms [] i h))

  y-moored : (steps fewer : ℕ) → steps ≡ suc fewer → i < length ms → y_within d (lying ms) steps i ≡ moored_y d i (berth_at ms i).rank (berth_at ms i).moor (y_within d (lying ms) fewer)
  y-moored steps fewer e h = ap (λ n. y_within d (lying ms) n i) e ∙ ap (λ o. berth_y d i o (y_within d (lying ms) fewer)) (berth-hit ms [] i h)

  pub y-quay : (steps fewer : ℕ) → steps ≡ suc fewer → i < length ms → (berth_at ms i).moor ≡ Quay → Some (quay_y d i (berth_at ms i).rank) ≡ y_within d (lying ms) steps i
  y-quay steps fewer e h m = sym (y-moored steps fewer e h ∙ ap (λ m. moored_y d i (berth_at ms i).rank m (y_within d (lying ms) fewer)) m)

  pub y-guest : (steps fewer k : ℕ) (o : Option ℤ) → steps ≡ suc fewer → i < length ms → (berth_at ms i).moor ≡ Ship k → o ≡ y_within d (lying ms) fewer k → option_map (guest_y d i k (berth_at ms i).rank) o ≡ y_within d (lying ms) steps i
  y-guest steps fewer k o e h m t =
      sym (y-moored steps fewer e h ∙ ap (λ m. moored_y d i (berth_at ms i).rank m (y_within d (lying ms) fewer)) m ∙ ap (option_map (guest_y d i k (berth_at ms i).rank)) (sym t))
