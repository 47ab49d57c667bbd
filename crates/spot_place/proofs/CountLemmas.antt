-- How many spot values there are.
use Rattle.std.proofs.Common.{◌≡◌, ℕ, zero, suc, ◌+◌, ◌-◌, ◌<◌, ◌≤◌, List, [], ◌∷◌, ◌++◌, length, map, filter, flat_map, cond, Bool, true, false, ◌&&◌, nat_le, inl, inr, sym, ◌∙◌, arith}
use Rattle.std.proofs.lemmas.Bool.{false≢true}
use Rattle.std.proofs.lemmas.Bool.Decides.{leb_tells}
use Rattle.lock_model.specs.Deck.{Deck, IsDeck}
use Rattle.lock_model.specs.Ships.{RisesFrom}
use Rattle.lock_model.specs.declared.deck.Size.{Size}
use Rattle.lock_rules.specs.Bound.{least_number}
use Rattle.refute_rules.specs.Values.{is_kept, shifts_of, values_after, spot_values}
use Rattle.list_laws.specs.Among.{IsAmong}
use Rattle.refute_rules.proofs.Among.{among-append}
use Rattle.lock_rules.proofs.AmongLemmas.{among-filter}
use Rattle.deck_laws.proofs.MemberLemmas.{among-rising, rising-rises}

rises-few : (low n : ℕ) (xs : List ℕ) → low ≤ n → RisesFrom low xs → ((x : ℕ) → IsAmong xs x → x < n) → low + length xs ≤ n
rises-few low n [] h rises below = omega (arith, h)
rises-few low n (x ∷ xs) h rises below =
    let first = below x (inl (λ t. x)) in
    let rest = rises-few (suc x) n xs (omega (arith, first)) rises.1 (λ y g. below y (inr g)) in
    let from = rises.0 in
    omega (arith, rest, from)

kept-small : (d : Deck) (t : ℕ) → is_kept d t ≡ true → t ≤ d.length
kept-small d t e =
    elim (leb_tells (t + least_number (map (λ (s : Size). s.length) d.ships) + d.end) d.length) [
      | inl y ↦ let h = y.1 in omega (arith, h)
      | inr n ↦ absurd (clash (nat_le d.end t) (nat_le (t + least_number (map (λ (s : Size). s.length) d.ships) + d.end) d.length) n.0 e)
    ]
  where
    clash : (a b : Bool) → b ≡ false → (a && b) ≡ true → ⊥
    clash true b f g = false≢true (sym f ∙ g)
    clash false b f g = false≢true g

values-kept : (d : Deck) (k t : ℕ) → IsAmong (values_after d k) t → is_kept d t ≡ true
values-kept d zero t h = (among-filter (is_kept d) (d.end ∷ []) t h).1
values-kept d (suc k) t h =
    elim (among-append (values_after d k) (filter (is_kept d) (flat_map (shifts_of d) (values_after d k))) t (among-rising (values_after d k ++ filter (is_kept d) (flat_map (shifts_of d) (values_after d k))) t h)) [
      | inl g ↦ values-kept d k t g
      | inr g ↦ (among-filter (is_kept d) (flat_map (shifts_of d) (values_after d k)) t g).1
    ]

values-rise : (d : Deck) (k : ℕ) → RisesFrom 0 (values_after d k)
values-rise d zero = elim (is_kept d d.end) as (λ b. RisesFrom 0 (cond b (d.end ∷ []) [])) [ true ↦ (omega arith, tt) | false ↦ tt ]
values-rise d (suc k) = rising-rises (values_after d k ++ filter (is_kept d) (flat_map (shifts_of d) (values_after d k)))

pub few-values : (d : Deck) → IsDeck d → length (spot_values d) ≤ 100001
few-values d good =
    let long = good.long.1 in
    let few = rises-few 0 100001 (spot_values d) (omega arith) (values-rise d (length d.ships - 1)) (λ t h. let small = kept-small d t (values-kept d (length d.ships - 1) t h) in omega (arith, small, long)) in
    omega (arith, few)
