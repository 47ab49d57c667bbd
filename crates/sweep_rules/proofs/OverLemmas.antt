-- Ships and sums over the lines of all chambers.
use Rattle.std.proofs.Common.{◌≡◌, ◌≢◌, ℕ, zero, suc, ◌+◌, ◌<◌, ◌≤◌, Bool, true, false, cond, List, [], ◌∷◌, length, All, sum_by, inl, inr, refl, arith, slice_index_or}
use Rattle.std.proofs.lemmas.Bool.Decides.{eqb_tells, leb_tells}
use Rattle.std.proofs.lemmas.List.Sums.{sum_by-cons}
use Rattle.lock_model.specs.declared.instance.Instance.{Instance}
use Rattle.lock_model.specs.declared.group.Group.{Group}
use Rattle.lock_rules.specs.Plan.{times_in}
use Rattle.lock_rules.specs.Arrival.{numbers_from}
use Rattle.lock_rules.specs.Node.{times_on}
use Rattle.lock_model.specs.Ships.{RisesFrom}
use Rattle.lock_rules.proofs.TreeLemmas.{times_in-hit, times_in-miss, low-times_in}
use Rattle.lock_rules.proofs.SplitLemmas.{times_in-at}
use Rattle.lock_rules.proofs.NodeLemmas.{group-line}
use Rattle.price_rules.specs.Prices.{PlainCut, IsUncut}
use Rattle.sweep_rules.specs.Uncut.{times_over}
use Rattle.sweep_rules.specs.Label.{Label}
use Rattle.sweep_rules.specs.Completion.{IsCompletion}
use Rattle.sweep_rules.specs.Gain.{IsWayOn}

-- rising numbers hold each number once at most
pub rising-once : (low : ℕ) (xs : List ℕ) → RisesFrom low xs → (s : ℕ) → times_in xs s ≤ 1
rising-once low [] rises s = omega arith
rising-once low (x ∷ xs) rises s =
    elim (eqb_tells x s) [
      | inl same ↦ elim (leb_tells 1 (times_in xs s)) [
        | inl again ↦ absurd (omega (arith, same.1, low-times_in s (suc x) xs rises.1 again.1))
        | inr once ↦ omega (arith, times_in-hit s x xs same.0, once.1)
      ]
      | inr other ↦ omega (arith, times_in-miss s x xs other.0, rising-once (suc x) xs rises.1 s)
    ]

-- a part is at most the sum
pub sum-at : (f : ℕ → ℕ) (low n c : ℕ) → low ≤ c → c < low + n → f c ≤ sum_by f (numbers_from low n)
sum-at f low zero c h less = absurd (omega arith)
sum-at f low (suc n) c h less =
    elim (leb_tells (suc low) c) [
      | inl later ↦ omega (arith, sum_by-cons f low (numbers_from (suc low) n), sum-at f (suc low) n c later.1 (omega arith))
      | inr here ↦ first low c (omega (arith, here.1))
    ]
  where
    first : (low c : ℕ) → low ≡ c → f c ≤ sum_by f (low ∷ numbers_from (suc low) n)
    first low c same = omega (arith, sum_by-cons f low (numbers_from (suc low) n), apart low c same)
      where
        apart : (low c : ℕ) → low ≡ c → f low ≡ f c
        apart low c same = λ i. f (same i)

-- sums that are the same but in one place
pub sum-same : (f g : ℕ → ℕ) (low n : ℕ) → ((d : ℕ) → low ≤ d → d < low + n → f d ≡ g d) → sum_by f (numbers_from low n) ≡ sum_by g (numbers_from low n)
sum-same f g low zero same = refl
sum-same f g low (suc n) same =
    omega (
      arith,
      sum_by-cons f low (numbers_from (suc low) n),
      sum_by-cons g low (numbers_from (suc low) n),
      same low (omega arith) (omega arith),
      sum-same f g (suc low) n (λ d h less. same d (omega arith) (omega arith)),
    )

pub sum-but_one : (f g : ℕ → ℕ) (x low n c : ℕ) → low ≤ c → c < low + n → f c ≡ g c + x → ((d : ℕ) → d ≢ c → f d ≡ g d) → sum_by f (numbers_from low n) ≡ sum_by g (numbers_from low n) + x
sum-but_one f g x low zero c h less own others = absurd (omega arith)
sum-but_one f g x low (suc n) c h less own others =
    elim (eqb_tells low c) [
      | inl same ↦
          let here : f low ≡ g low + x = put low c same.1 own in
          let rest = sum-same f g (suc low) n (λ d above below. others d (λ e. absurd (omega (arith, e, same.1)))) in
          omega (arith, here, rest, sum_by-cons f low (numbers_from (suc low) n), sum_by-cons g low (numbers_from (suc low) n))
      | inr other ↦
          let rest = sum-but_one f g x (suc low) n c (above low c h other.1) (omega arith) own others in
          omega (arith, others low other.1, rest, sum_by-cons f low (numbers_from (suc low) n), sum_by-cons g low (numbers_from (suc low) n))
    ]
  where
    put : (low c : ℕ) → low ≡ c → f c ≡ g c + x → f low ≡ g low + x
    put low c same own = cc

    above : (low c : ℕ) → low ≤ c → low ≢ c → suc low ≤ c
    above low c h other = elim (leb_tells (suc low) c) [ inl y ↦ y.1 | inr m ↦ absurd (other (omega (arith, m.1))) ]

-- what serves no more than the missing ships, each once, serves no served one
pub missing-once : (b : Bool) (n : ℕ) → n ≡ cond b 0 1 → 1 ≤ n → b ≡ false
missing-once true n e some = absurd (omega (arith, e))
missing-once false n e some = refl

-- a ship of a group in a chamber's line is counted
pub times_over-some : (I : Instance) (lines : ℕ → List Group) (c : ℕ) → c < length I.chambers → (j : ℕ) (d : Group) → j < length (lines c) → (i e : ℕ) → i < length (slice_index_or (lines c) j d).ships
    → 1 ≤ times_over I (slice_index_or (slice_index_or (lines c) j d).ships i e) lines
times_over-some I lines c known j d here i e inside =
    let g = slice_index_or (lines c) j d in
    let s = slice_index_or g.ships i e in
    let some : 1 ≤ times_in g.ships s = times_in-at g.ships i e inside in
    omega (arith, some, group-line s (lines c) j d here, sum-at (λ c. times_on s (lines c)) 0 (length I.chambers) c (omega arith) (omega arith))

-- lines that serve each missing ship once and no served one are of missing ships
pub missing-on : (I : Instance) (cuts : List PlainCut) (served : ℕ → Bool) (lines : ℕ → List Group)
    → ((c : ℕ) → c < length I.chambers → All (IsUncut I c cuts) (lines c)) → ((s : ℕ) → s < length I.ships → times_over I s lines ≡ cond (served s) 0 1)
    → (c : ℕ) → c < length I.chambers → IsWayOn I c cuts served (lines c)
missing-on I cuts served lines uncut once c known = record {
  uncut = uncut c known;
  missing = λ j d here i e inside.
      let s = slice_index_or (slice_index_or (lines c) j d).ships i e in
      let ship : s < length I.ships = (uncut c known j d here).known i e inside in
      missing-once (served s) (times_over I s lines) (once s ship) (times_over-some I lines c known j d here i e inside);
}

-- a completion's lines are of missing ships
pub completion-on : (I : Instance) (cuts : List PlainCut) (label : Label) (lines : ℕ → List Group) (starts : ℕ → List ℕ) → IsCompletion I cuts label lines starts
    → (c : ℕ) → c < length I.chambers → IsWayOn I c cuts label.served (lines c)
completion-on I cuts label lines starts completion = missing-on I cuts label.served lines completion.uncut completion.once
