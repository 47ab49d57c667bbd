-- Sets of ships as the bits of numbers.
use Rattle.std.proofs.Common.{◌≡◌, ◌≢◌, ℕ, ◌*◌, ◌^◌, ◌%◌, ◌<◌, ◌||◌, max, Bool, true, false, inl, inr, refl, sym, ap, ◌∙◌, arith, bit_and, bit_or}
use Rattle.std.specs.Int.{bit_at, w128}
use Rattle.std.proofs.lemmas.Bool.Decides.{eqb_tells}
use Rattle.std.proofs.lemmas.Nat.Bits.{bit_at-zero, bit_at_and, bit_at_or, bit_at-lt, bit_at_set_same, bit_at_set_other, same_from_bits}
use Rattle.lock_model.specs.declared.limits.TheConstants.{SHIPS}
use Rattle.sweep_labels.specs.Ships.{is_in, AreApart, HoldsAll, IsWith}

differ : {X : Type 0} → true ≡ false → X
differ e = cc

-- a bit is 1 where the ship is in, else 0
pub in-one : (n s : ℕ) → is_in n s ≡ true → bit_at n s ≡ 1
unfolding is_in
in-one n s is = elim (eqb_tells (bit_at n s) 1) [ inl y ↦ y.1 | inr m ↦ differ (sym is ∙ m.0) ]

pub one-in : (n s : ℕ) → bit_at n s ≡ 1 → is_in n s ≡ true
unfolding is_in
one-in n s is = elim (eqb_tells (bit_at n s) 1) [ inl y ↦ y.0 | inr m ↦ absurd (m.1 is) ]

pub in-zero : (n s : ℕ) → is_in n s ≡ false → bit_at n s ≡ 0
unfolding is_in
in-zero n s is = elim (eqb_tells (bit_at n s) 1) [ inl y ↦ differ (sym y.0 ∙ is) | inr m ↦ zero (bit_at n s) (bit_at-lt n s) m.1 ]
  where
    zero : (b : ℕ) → b < 2 → b ≢ 1 → b ≡ 0
    zero b few other = omega arith

pub zero-in : (n s : ℕ) → bit_at n s ≡ 0 → is_in n s ≡ false
unfolding is_in
zero-in n s is = elim (eqb_tells (bit_at n s) 1) [ inl y ↦ absurd (omega (arith, y.1, is)) | inr m ↦ m.0 ]

pub none-in : (s : ℕ) → is_in 0 s ≡ false
none-in s = zero-in 0 s (bit_at-zero s)

pub in-either : (a b s : ℕ) → is_in (bit_or a b) s ≡ (is_in a s || is_in b s)
in-either a b s = split (is_in a s) refl (is_in b s) refl
  where
    bits : bit_at (bit_or a b) s ≡ max (bit_at a s) (bit_at b s)
    bits = bit_at_or a b s

    split : (x : Bool) → is_in a s ≡ x → (y : Bool) → is_in b s ≡ y → is_in (bit_or a b) s ≡ (x || y)
    split true is y other = one-in (bit_or a b) s (omega (arith, bits, in-one a s is, bit_at-lt b s))
    split false is true other = one-in (bit_or a b) s (omega (arith, bits, in-zero a s is, in-one b s other))
    split false is false other = zero-in (bit_or a b) s (omega (arith, bits, in-zero a s is, in-zero b s other))

pub apart : (a b : ℕ) → bit_and a b ≡ 0 → AreApart a b
apart a b none = record { none = λ s is. zero-in b s (omega (arith, in-one a s is, bit_at_and a b s, bit_at-lt b s, bit_at-zero s, ap (λ n. bit_at n s) none)) }

pub apart-none : (a b : ℕ) → AreApart a b → bit_and a b ≡ 0
apart-none a b are = same_from_bits (bit_and a b) 0 (λ s. split s (is_in a s) refl)
  where
    split : (s : ℕ) (x : Bool) → is_in a s ≡ x → bit_at (bit_and a b) s ≡ bit_at 0 s
    split s true is = omega (arith, bit_at-zero s, bit_at_and a b s, in-zero b s (are.none s is), in-one a s is)
    split s false is = omega (arith, bit_at-zero s, bit_at_and a b s, in-zero a s is)

pub holds : (a b : ℕ) → bit_and a b ≡ b → HoldsAll a b
holds a b same = record { all = λ s is. one-in a s (omega (arith, in-one b s is, bit_at_and a b s, bit_at-lt a s, ap (λ n. bit_at n s) same)) }

pub holds-same : (a b : ℕ) → HoldsAll a b → bit_and a b ≡ b
holds-same a b are = same_from_bits (bit_and a b) b (λ s. split s (is_in b s) refl)
  where
    split : (s : ℕ) (x : Bool) → is_in b s ≡ x → bit_at (bit_and a b) s ≡ bit_at b s
    split s true is = omega (arith, bit_at_and a b s, in-one b s is, in-one a s (are.all s is))
    split s false is = omega (arith, bit_at_and a b s, in-zero b s is)

pub with-ship : (a s : ℕ) → s < SHIPS → IsWith a s (bit_or a (1 * 2 ^ s % 2 ^ 128))
with-ship a s few = record {
  own = one-in (bit_or a (1 * 2 ^ s % 2 ^ 128)) s (bit_at_set_same w128 a s (omega (arith, few)));
  others = λ t other. same t (bit_at_set_other w128 a s (omega (arith, few)) t other) (is_in a t) refl;
}
  where
    same : (t : ℕ) → bit_at (bit_or a (1 * 2 ^ s % 2 ^ 128)) t ≡ bit_at a t → (x : Bool) → is_in a t ≡ x → is_in (bit_or a (1 * 2 ^ s % 2 ^ 128)) t ≡ is_in a t
    same t bits true is = one-in (bit_or a (1 * 2 ^ s % 2 ^ 128)) t (bits ∙ in-one a t is) ∙ sym is
    same t bits false is = zero-in (bit_or a (1 * 2 ^ s % 2 ^ 128)) t (bits ∙ in-zero a t is) ∙ sym is
