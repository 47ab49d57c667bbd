-- Two numbers swapped in rising numbers.
use Rattle.std.proofs.Common.{◌≡◌, ◌≢◌, ℕ, suc, ◌+◌, ◌<◌, ◌≤◌, cond, List, [], ◌∷◌, length, map, All, sum_by, nat_eq, inl, inr, refl, sym, ap, ◌∙◌, subst, arith}
use Rattle.std.proofs.lemmas.Bool.{ne_eqb, eq-eqb}
use Rattle.std.proofs.lemmas.Bool.Decides.{eqb_tells}
use Rattle.std.proofs.lemmas.List.{length-map}
use Rattle.std.proofs.lemmas.List.Sums.{sum_by-cons}
use Rattle.std.proofs.lemmas.List.Elements.{All-head, All-tail, All-map}
use Rattle.lock_model.specs.Ships.{RisesFrom}
use Rattle.lock_rules.specs.Plan.{times_in}
use Rattle.lock_rules.specs.Children.{insert_number}
use Rattle.lock_rules.proofs.TreeLemmas.{length-insert_number, times_in-hit, times_in-miss}
use Rattle.lock_rules.proofs.ChildLemmas.{times_in-insert_number}
use Rattle.lock_rules.proofs.CountLemmas.{sum_by-counts}
use Rattle.lock_rules.proofs.NodeLemmas.{RisesFrom-insert, All-insert_number}
use Rattle.sweep_rules.specs.Equal.{swapped}

module _ (a b : ℕ) where
  pub swapped-first : (s : ℕ) → s ≡ a → swapped a b s ≡ b
  swapped-first s same = λ i. cond (eq-eqb s a same i) b (cond (nat_eq s b) a s)

  pub swapped-second : (s : ℕ) → s ≢ a → s ≡ b → swapped a b s ≡ a
  swapped-second s other same = (λ i. cond (ne_eqb s a other i) b (cond (nat_eq s b) a s)) ∙ (λ i. cond (eq-eqb s b same i) a s)

  pub swapped-other : (s : ℕ) → s ≢ a → s ≢ b → swapped a b s ≡ s
  swapped-other s other apart = (λ i. cond (ne_eqb s a other i) b (cond (nat_eq s b) a s)) ∙ (λ i. cond (ne_eqb s b apart i) a s)

  -- what holds of both and of all others holds of a swapped number
  pub swapped-cases : (P : ℕ → ℕ → Type 0) → ((s : ℕ) → s ≡ a → P s b) → ((s : ℕ) → s ≢ a → s ≡ b → P s a) → ((s : ℕ) → s ≢ a → s ≢ b → P s s) → (s : ℕ) → P s (swapped a b s)
  swapped-cases P first second others s =
      elim (eqb_tells s a) [
        | inl same ↦ subst (P s) (sym (swapped-first s same.1)) (first s same.1)
        | inr other ↦ elim (eqb_tells s b) [
          | inl same ↦ subst (P s) (sym (swapped-second s other.1 same.1)) (second s other.1 same.1)
          | inr apart ↦ subst (P s) (sym (swapped-other s other.1 apart.1)) (others s other.1 apart.1)
        ]
      ]

  -- what is the same of both is the same of a swapped number
  pub swapped-alike : {X : Type 0} (f : ℕ → X) → f a ≡ f b → (s : ℕ) → f (swapped a b s) ≡ f s
  swapped-alike f same = swapped-cases (λ s t. f t ≡ f s) (λ s e. sym same ∙ sym (ap f e)) (λ s other e. same ∙ sym (ap f e)) (λ s other apart. refl)

  pub swapped-twice : a ≢ b → (s : ℕ) → swapped a b (swapped a b s) ≡ s
  swapped-twice differ =
      swapped-cases (λ s t. swapped a b t ≡ s)
      (λ s same. swapped-second b (λ e. differ (sym e)) refl ∙ sym same)
      (λ s other same. swapped-first a refl ∙ sym same)
      (λ s other apart. swapped-other s other apart)

  pub swapped-test : a ≢ b → (s x : ℕ) → nat_eq (swapped a b s) x ≡ nat_eq s (swapped a b x)
  swapped-test differ s x =
      elim (eqb_tells (swapped a b s) x) [
        | inl same ↦ same.0 ∙ sym (eq-eqb s (swapped a b x) (sym (swapped-twice differ s) ∙ ap (swapped a b) same.1))
        | inr other ↦ other.0 ∙ sym (ne_eqb s (swapped a b x) (λ e. other.1 (ap (swapped a b) e ∙ swapped-twice differ x)))
      ]

-- numbers in rising order
abbrev pub sort_numbers : List ℕ → List ℕ
sort_numbers [] = []
sort_numbers (s ∷ ss) = insert_number s (sort_numbers ss)

pub times_in-sort : (ss : List ℕ) (x : ℕ) → times_in (sort_numbers ss) x ≡ times_in ss x
times_in-sort [] x = refl
times_in-sort (s ∷ ss) x = times_in-insert_number s x (sort_numbers ss) ∙ ap {B = ℕ} (λ n. cond (nat_eq s x) 1 0 + n) (times_in-sort ss x)

pub length-sort : (ss : List ℕ) → length (sort_numbers ss) ≡ length ss
length-sort [] = refl
length-sort (s ∷ ss) = length-insert_number s (sort_numbers ss) ∙ ap suc (length-sort ss)

pub All-sort : (P : ℕ → Type 0) (ss : List ℕ) → All P ss → All P (sort_numbers ss)
All-sort P [] all = all
All-sort P (s ∷ ss) all = All-insert_number P s (sort_numbers ss) (All-head P s ss all) (All-sort P ss (All-tail P s ss all))

pub rises-sort : (ss : List ℕ) → ((x : ℕ) → times_in ss x ≤ 1) → RisesFrom 0 (sort_numbers ss)
rises-sort [] once = tt
rises-sort (s ∷ ss) once =
    let none : times_in (sort_numbers ss) s ≡ 0 = omega (arith, times_in-sort ss s, once s, times_in-hit s s ss (eq-eqb s s refl)) in
    RisesFrom-insert 0 s (sort_numbers ss) (omega arith) none (rises-sort ss (λ x. omega (arith, once x)))

-- the ships with a and b swapped
abbrev pub swap_ships : ℕ → ℕ → List ℕ → List ℕ
swap_ships a b ss = sort_numbers (map (swapped a b) ss)

module _ (a b : ℕ) where
  pub times_in-swap : a ≢ b → (ss : List ℕ) (x : ℕ) → times_in (swap_ships a b ss) x ≡ times_in ss (swapped a b x)
  times_in-swap differ ss x = times_in-sort (map (swapped a b) ss) x ∙ each ss
    where
      each : (ss : List ℕ) → times_in (map (swapped a b) ss) x ≡ times_in ss (swapped a b x)
      each [] = refl
      each (s ∷ ss) = λ i. cond (swapped-test a b differ s x i) 1 0 + each ss i

  pub length-swap : (ss : List ℕ) → length (swap_ships a b ss) ≡ length ss
  length-swap ss = length-sort (map (swapped a b) ss) ∙ length-map ss (swapped a b)

  pub All-swap : (P : ℕ → Type 0) (ss : List ℕ) → All (λ s. P (swapped a b s)) ss → All P (swap_ships a b ss)
  All-swap P ss all = All-sort P (map (swapped a b) ss) (All-map P (swapped a b) ss all)

  pub rises-swap : a ≢ b → (ss : List ℕ) → ((x : ℕ) → times_in ss x ≤ 1) → RisesFrom 0 (swap_ships a b ss)
  rises-swap differ ss once = rises-sort (map (swapped a b) ss) (λ x. omega (arith, times_in-sort (map (swapped a b) ss) x, times_in-swap differ ss x, once (swapped a b x)))

  pub sum_by-swap : (f : ℕ → ℕ) (ss : List ℕ) → sum_by f (swap_ships a b ss) ≡ sum_by (λ s. f (swapped a b s)) ss
  sum_by-swap f ss = sum_by-counts f (swap_ships a b ss) (map (swapped a b) ss) (times_in-sort (map (swapped a b) ss)) ∙ each ss
    where
      each : (ss : List ℕ) → sum_by f (map (swapped a b) ss) ≡ sum_by (λ s. f (swapped a b s)) ss
      each [] = refl
      each (s ∷ ss) = omega (arith, each ss, sum_by-cons f (swapped a b s) (map (swapped a b) ss), sum_by-cons (λ s. f (swapped a b s)) s ss)

  -- a sum of numbers that are the same for both stays
  pub sum_by-alike : (f : ℕ → ℕ) → f a ≡ f b → (ss : List ℕ) → sum_by f (swap_ships a b ss) ≡ sum_by f ss
  sum_by-alike f same ss = sum_by-swap f ss ∙ (λ i. sum_by (λ s. swapped-alike a b f same s i) ss)

  -- where a isn't there, b gives its place to a
  no_more : (f : ℕ → ℕ) → f a ≤ f b → (s : ℕ) → s ≢ a → f (swapped a b s) ≤ f s
  no_more f less = swapped-cases a b (λ s t. s ≢ a → f t ≤ f s) (λ s same other. absurd (other same)) (λ s other same apart. omega (arith, less, ap f same)) (λ s other apart out. omega arith)

  sum_by-no_more : (f : ℕ → ℕ) → f a ≤ f b → (ss : List ℕ) → times_in ss a ≡ 0 → sum_by (λ s. f (swapped a b s)) ss ≤ sum_by f ss
  sum_by-no_more f less [] none = omega arith
  sum_by-no_more f less (s ∷ ss) none =
      let other : s ≢ a = λ e. absurd (omega (arith, none, times_in-hit a s ss (eq-eqb s a e))) in
      let rest : times_in ss a ≡ 0 = omega (arith, none) in
      omega (arith, no_more f less s other, sum_by-no_more f less ss rest, sum_by-cons f s ss, sum_by-cons (λ s. f (swapped a b s)) s ss)

  sum_by-fewer : (f : ℕ → ℕ) → f a < f b → (ss : List ℕ) → times_in ss a ≡ 0 → 1 ≤ times_in ss b → sum_by (λ s. f (swapped a b s)) ss < sum_by f ss
  sum_by-fewer f less [] none some = absurd (omega (arith, some))
  sum_by-fewer f less (s ∷ ss) none some =
      let other : s ≢ a = λ e. absurd (omega (arith, none, times_in-hit a s ss (eq-eqb s a e))) in
      let rest : times_in ss a ≡ 0 = omega (arith, none) in
      elim (eqb_tells s b) [
        | inl same ↦
            (let own : f (swapped a b s) ≡ f a = ap f (swapped-second a b s other same.1) in
            omega (arith, own, less, ap f same.1, sum_by-no_more f (omega arith) ss rest, sum_by-cons f s ss, sum_by-cons (λ s. f (swapped a b s)) s ss))
        | inr apart ↦
            (let here : 1 ≤ times_in ss b = omega (arith, some, times_in-miss b s ss apart.0) in
            omega (arith, no_more f (omega arith) s other, sum_by-fewer f less ss rest here, sum_by-cons f s ss, sum_by-cons (λ s. f (swapped a b s)) s ss))
      ]

  pub sum_by-less : (f : ℕ → ℕ) → f a < f b → (ss : List ℕ) → times_in ss a ≡ 0 → 1 ≤ times_in ss b → sum_by f (swap_ships a b ss) < sum_by f ss
  sum_by-less f less ss none some = omega (arith, sum_by-swap f ss, sum_by-fewer f less ss none some)
