-- The ships that a label misses, counted, and their prices.
use Rattle.std.proofs.Common.{◌≡◌, ℕ, ◌+◌, ◌<◌, ◌≤◌, not, nat_eq, Bool, true, false, cond, List, [], ◌∷◌, ◌++◌, length, All, sum_by, filter, inl, inr, refl, sym, ap, ◌∙◌, arith}
use Rattle.std.specs.List.{flat_map}
use Rattle.std.proofs.lemmas.Bool.Decides.{eqb_tells, leb_tells}
use Rattle.std.proofs.lemmas.List.Sums.{sum_by-cons, sum_by-append}
use Rattle.std.proofs.lemmas.List.Elements.{All-head, All-tail}
use Rattle.lock_model.specs.declared.instance.Instance.{Instance}
use Rattle.lock_model.specs.declared.group.Group.{Group}
use Rattle.lock_rules.specs.Plan.{times_in}
use Rattle.lock_rules.specs.Arrival.{numbers_from}
use Rattle.lock_rules.specs.Node.{times_on}
use Rattle.lock_rules.proofs.CountLemmas.{times_in-append, times_in-between, times_in-above, times_in-outside}
use Rattle.lock_rules.specs.Trace.{has_number}
use Rattle.lock_rules.proofs.LeafLemmas.{has_number-some}
use Rattle.lock_rules.proofs.TreeLemmas.{times_in-miss}
use Rattle.price_rules.proofs.ChargeLemmas.{one}
use Rattle.price_rules.specs.Prices.{PriceList, is_missing, price_at, paid_by, paid_in}
use Rattle.sweep_rules.specs.Gain.{ships_missing}

-- all ships of some groups
abbrev pub ships_of : List Group → List ℕ
ships_of [] = []
ships_of (g ∷ gs) = g.ships ++ ships_of gs

pub times_in-ships_of : (gs : List Group) (s : ℕ) → times_in (ships_of gs) s ≡ times_on s gs
times_in-ships_of [] s = refl
times_in-ships_of (g ∷ gs) s = omega (arith, times_in-append g.ships (ships_of gs) s, times_in-ships_of gs s)

-- at depth 0 all ships are missing
none_first : (I : Instance) (ss : List ℕ) → filter (is_missing I 0) ss ≡ ss
none_first I [] = refl
none_first I (s ∷ ss) = ap (λ rest. s ∷ rest) (none_first I ss)

pub paid-ships : (I : Instance) (prices : PriceList) (gs : List Group) → paid_in I 0 prices gs ≡ sum_by (price_at prices) (ships_of gs)
paid-ships I prices [] = refl
paid-ships I prices (g ∷ gs) =
    let own : paid_by I 0 prices g ≡ sum_by (price_at prices) g.ships = ap (sum_by (price_at prices)) (none_first I g.ships) in
    omega (arith, own, paid-ships I prices gs, sum_by-append (price_at prices) g.ships (ships_of gs))

pub times_in-flat : (f : ℕ → List ℕ) (cs : List ℕ) (s : ℕ) → times_in (flat_map f cs) s ≡ sum_by (λ c. times_in (f c) s) cs
times_in-flat f [] s = refl
times_in-flat f (c ∷ cs) s = omega (arith, times_in-append (f c) (flat_map f cs) s, times_in-flat f cs s, sum_by-cons (λ c. times_in (f c) s) c cs)

-- a number that passes a test stands in what is left as often as before, another one doesn't
pub times_in-kept : (p : ℕ → Bool) (xs : List ℕ) (s : ℕ) → p s ≡ true → times_in (filter p xs) s ≡ times_in xs s
times_in-kept p [] s pass = refl
times_in-kept p (x ∷ xs) s pass =
    elim (eqb_tells x s) [
      | inl same ↦ ap (λ b. times_in (cond b (x ∷ filter p xs) (filter p xs)) s) (ap p same.1 ∙ pass) ∙ ap {B = ℕ} (λ n. cond (nat_eq x s) 1 0 + n) (times_in-kept p xs s pass)
      | inr other ↦ skipped (p x) (times_in-miss s x (filter p xs) other.0) (times_in-miss s x xs other.0) (times_in-kept p xs s pass)
    ]
  where
    skipped : (b : Bool) → times_in (x ∷ filter p xs) s ≡ 0 + times_in (filter p xs) s → times_in (x ∷ xs) s ≡ 0 + times_in xs s → times_in (filter p xs) s ≡ times_in xs s
        → times_in (cond b (x ∷ filter p xs) (filter p xs)) s ≡ times_in (x ∷ xs) s
    skipped true own whole rest = omega (arith, own, whole, rest)
    skipped false own whole rest = omega (arith, whole, rest)

pub times_in-lost : (p : ℕ → Bool) (xs : List ℕ) (s : ℕ) → p s ≡ false → times_in (filter p xs) s ≡ 0
times_in-lost p [] s fail = refl
times_in-lost p (x ∷ xs) s fail =
    elim (eqb_tells x s) [
      | inl same ↦ ap (λ b. times_in (cond b (x ∷ filter p xs) (filter p xs)) s) (ap p same.1 ∙ fail) ∙ times_in-lost p xs s fail
      | inr other ↦ skipped (p x) (times_in-miss s x (filter p xs) other.0) (times_in-lost p xs s fail)
    ]
  where
    skipped : (b : Bool) → times_in (x ∷ filter p xs) s ≡ 0 + times_in (filter p xs) s → times_in (filter p xs) s ≡ 0 → times_in (cond b (x ∷ filter p xs) (filter p xs)) s ≡ 0
    skipped true own rest = omega (arith, own, rest)
    skipped false own rest = rest

module _ (I : Instance) (served : ℕ → Bool) where
  pub missing-one : (s : ℕ) → s < length I.ships → served s ≡ false → times_in (ships_missing I served) s ≡ 1
  missing-one s known out =
      times_in-kept (λ s. not (served s)) (numbers_from 0 (length I.ships)) s (ap not out) ∙ times_in-between 0 (length I.ships) s (omega arith) (omega (arith, known))

  pub missing-none : (s : ℕ) → served s ≡ true → times_in (ships_missing I served) s ≡ 0
  missing-none s is = times_in-lost (λ s. not (served s)) (numbers_from 0 (length I.ships)) s (ap not is)

  pub missing-past : (s : ℕ) → length I.ships ≤ s → times_in (ships_missing I served) s ≡ 0
  missing-past s past =
      elim (served s) as (λ b. served s ≡ b → times_in (ships_missing I served) s ≡ 0) [
        | true ↦ λ is. missing-none s is
        | false ↦ λ out. times_in-kept (λ s. not (served s)) (numbers_from 0 (length I.ships)) s (ap not out) ∙ times_in-above 0 (length I.ships) s (omega (arith, past))
      ] refl

  -- no ship is missing twice
  pub missing-most : (s : ℕ) → times_in (ships_missing I served) s ≤ 1
  missing-most s =
      elim (leb_tells (length I.ships) s) [
        | inl past ↦ omega (arith, missing-past s past.1)
        | inr known ↦ by (served s) (missing-none s) (missing-one s known.1)
      ]
    where
      by : (b : Bool) → (b ≡ true → times_in (ships_missing I served) s ≡ 0) → (b ≡ false → times_in (ships_missing I served) s ≡ 1) → times_in (ships_missing I served) s ≤ 1
      by true none once = omega (arith, none refl)
      by false none once = omega (arith, once refl)

  -- so what counts no more than it stands among them counts no more than whether it does
  pub missing-has : (few s : ℕ) → few ≤ times_in (ships_missing I served) s → few ≤ one (has_number (ships_missing I served) s)
  missing-has few s less =
      elim (leb_tells 1 (times_in (ships_missing I served) s)) [
        | inl some ↦ omega (arith, less, missing-most s, ap one (has_number-some (ships_missing I served) s some.1))
        | inr none ↦ omega (arith, less, none.1)
      ]

  -- numbers that count each missing ship once and no other count as the missing ships do
  pub missing-counts : (count : ℕ → ℕ) → ((s : ℕ) → s < length I.ships → count s ≡ cond (served s) 0 1) → ((s : ℕ) → length I.ships ≤ s → count s ≡ 0) → (s : ℕ) → count s ≡ times_in (ships_missing I served) s
  missing-counts count once past s =
      elim (leb_tells (length I.ships) s) [
        | inl out ↦ past s out.1 ∙ sym (missing-past s out.1)
        | inr known ↦ by (served s) refl (once s known.1) known.1
      ]
    where
      by : (b : Bool) → served s ≡ b → count s ≡ cond (served s) 0 1 → s < length I.ships → count s ≡ times_in (ships_missing I served) s
      by true is counted known = counted ∙ ap (λ b. cond b 0 1) is ∙ sym (missing-none s is)
      by false out counted known = counted ∙ ap (λ b. cond b 0 1) out ∙ sym (missing-one s known out)

-- groups of ships of the instance hold no other number
pub times_on-past : (I : Instance) (gs : List Group) → All (λ g. All (λ s. s < length I.ships) g.ships) gs → (s : ℕ) → length I.ships ≤ s → times_on s gs ≡ 0
times_on-past I [] known s past = refl
times_on-past I (g ∷ gs) known s past =
    omega (
      arith,
      times_in-outside (length I.ships) g.ships s (All-head (λ (g : Group). All (λ s. s < length I.ships) g.ships) g gs known) past,
      times_on-past I gs (All-tail (λ (g : Group). All (λ s. s < length I.ships) g.ships) g gs known) s past,
    )
