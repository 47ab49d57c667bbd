-- The case at hand and the stack of cases after it.
use Rattle.std.proofs.Common.{◌≡◌, ℕ, suc, ◌+◌, ◌-◌, ◌≤◌, List, [], ◌∷◌, ◌++◌, reverse, length, map, take, flat_map, filter, cond, not, nat_eq, Bool, true, false, refl, sym, ap, ◌∙◌, subst, arith, append_assoc}
use Rattle.std.proofs.lemmas.List.{reverse-append, take-take, take-append-le, take_all, length-take-le}
use Rattle.lock_model.specs.Deck.{Deck}
use Rattle.lock_model.specs.declared.placement.Rank.TheVariants.{Left, Right}
use Rattle.lock_model.specs.declared.placement.Moor.TheVariants.{Quay, Ship}
use Rattle.lock_rules.specs.Arrival.{numbers_from}
use Rattle.refute_rules.specs.declared.choices.Berth.{Berth}
use Rattle.refute_rules.specs.declared.choices.Choice.{Choice}
use Rattle.refute_rules.specs.declared.choices.Choice.TheVariants.{Lies}
use Rattle.refute_rules.specs.BerthTrees.{OfBerth}
use Rattle.berth_check.specs.declared.pending.Branch.{Branch}
use Rattle.berth_check.specs.Pending.{AreKept, cases_after, extensions, with_berth, host_cases}

pub reverse_push : {X : Type 0} (xs : List X) (x : X) → reverse (xs ++ x ∷ []) ≡ x ∷ reverse xs
reverse_push xs x = reverse-append xs (x ∷ [])

-- branches speak of the options that they keep alone
pub kept_same : (most : ℕ) (case more : List Choice) (bs : List Branch) → AreKept most bs → take most case ≡ take most more → cases_after case bs ≡ cases_after more bs
kept_same most case more [] kept same = refl
kept_same most case more (b ∷ bs) kept same =
    let here : take b.kept case ≡ take b.kept more = sym (take-take b.kept most case kept.0) ∙ ap (take b.kept) same ∙ take-take b.kept most more kept.0 in
    ap (λ cs. (cs ++ b.choice ∷ []) ∷ cases_after case bs) here ∙ ap (λ os. (take b.kept more ++ b.choice ∷ []) ∷ os) (kept_same b.kept case more bs kept.1 here)

kept_more : (few most : ℕ) (bs : List Branch) → few ≤ most → AreKept few bs → AreKept most bs
kept_more few most [] less kept = tt
kept_more few most (b ∷ bs) less kept = let first = kept.0 in (omega (arith, less, first), kept.1)

module _ (case : List Choice) (before after : List Branch) (b : Branch) (more : after ≡ before ++ b ∷ []) where
  last-first : reverse after ≡ b ∷ reverse before
  last-first = ap reverse more ∙ reverse_push before b

  -- one more branch, behind the whole case
  pub branch_put : b.kept ≡ length case → cases_after case (reverse after) ≡ (case ++ b.choice ∷ []) ∷ cases_after case (reverse before)
  branch_put whole =
      let all : take b.kept case ≡ case = take_all b.kept case (omega (arith, whole)) in
      ap (cases_after case) last-first ∙ ap (λ cs. (cs ++ b.choice ∷ []) ∷ cases_after case (reverse before)) all

  -- the last branch goes
  told : AreKept (length case) (reverse after) → (b.kept ≤ length case) × AreKept b.kept (reverse before)
  told kept = subst (AreKept (length case)) last-first kept

  pub branch_below : AreKept (length case) (reverse after) → b.kept ≤ length case
  branch_below kept = (told kept).0

  pub branch_left : (most : ℕ) → AreKept (length case) (reverse after) → b.kept ≤ most → AreKept most (reverse before)
  branch_left most kept less = kept_more b.kept most (reverse before) less (told kept).1

  pub branch_taken : (next : List Choice) → AreKept (length case) (reverse after) → next ≡ take b.kept case ++ b.choice ∷ [] → cases_after case (reverse after) ≡ next ∷ cases_after next (reverse before)
  branch_taken next kept e =
      let size : length (take b.kept case) ≡ b.kept = length-take-le b.kept case (told kept).0 in
      let same : take b.kept next ≡ take b.kept case = ap (take b.kept) e ∙ take-append-le b.kept (take b.kept case) (b.choice ∷ []) (omega (arith, size)) ∙ take_all b.kept (take b.kept case) (omega (arith, size)) in
      ap (cases_after case) last-first ∙ ap (λ cs. cs ∷ cases_after case (reverse before)) (sym e) ∙ ap (λ os. next ∷ os) (kept_same b.kept case next (reverse before) (told kept).1 (sym same))

module _ (case : List Choice) (ship : ℕ) where
  abbrev pub hosts_from : ℕ → ℕ → List (List Choice)
  hosts_from host n = flat_map (host_cases case ship) (numbers_from host (n - host))

  pub hosts_begun : (n : ℕ) (old : List (List Choice)) → old ≡ hosts_from n n ++ old
  hosts_begun n old = let none : n - n ≡ 0 = omega arith in sym (ap (λ k. flat_map (host_cases case ship) (numbers_from n k) ++ old) none)

  pub hosts_more : (host before n : ℕ) (old middle new : List (List Choice)) → before ≡ host + 1 → before ≤ n → middle ≡ hosts_from before n ++ old → new ≡ host_cases case ship host ++ middle → new ≡ hosts_from host n ++ old
  hosts_more host before n old middle new e less a b =
      let count : n - host ≡ suc (n - before) = omega (arith, e, less) in
      let next : suc host ≡ before = omega (arith, e) in
      let parts : hosts_from host n ≡ host_cases case ship host ++ hosts_from before n = ap (λ k. flat_map (host_cases case ship) (numbers_from host k)) count ∙ ap (λ k. host_cases case ship host ++ flat_map (host_cases case ship) (numbers_from k (n - before))) next in
      b ∙ ap (λ cs. host_cases case ship host ++ cs) a ∙ sym (append_assoc (host_cases case ship host) (hosts_from before n) old) ∙ ap (λ cs. cs ++ old) (sym parts)

  pub hosts_done : (host n : ℕ) (old new : List (List Choice)) → host ≤ 0 → new ≡ hosts_from host n ++ old → new ≡ flat_map (host_cases case ship) (numbers_from 0 n) ++ old
  hosts_done host n old new none e =
      let zero-host : host ≡ 0 = omega (arith, none) in
      let all : n - 0 ≡ n = omega arith in
      e ∙ ap (λ k. flat_map (host_cases case ship) (numbers_from k (n - k)) ++ old) zero-host ∙ ap (λ k. flat_map (host_cases case ship) (numbers_from 0 k) ++ old) all

  abbrev at_host : ℕ → List Berth
  at_host k = record { rank = Left; moor = Ship k } ∷ record { rank = Right; moor = Ship k } ∷ []

  abbrev with_all : List Berth → List (List Choice)
  with_all berths = map (λ choice. case ++ choice ∷ []) (map (Lies ship) berths)

  hosts-next : (k : ℕ) (ks : List ℕ) (b : Bool) → with_all (flat_map at_host (filter (λ k. not (nat_eq k ship)) ks)) ≡ flat_map (host_cases case ship) ks → with_all (flat_map at_host (cond (not b) (k ∷ filter (λ k. not (nat_eq k ship)) ks) (filter (λ k. not (nat_eq k ship)) ks))) ≡ cond b [] (with_berth case ship Left (Ship k) ∷ with_berth case ship Right (Ship k) ∷ []) ++ flat_map (host_cases case ship) ks
  hosts-next k ks true e = e
  hosts-next k ks false e = ap (λ cs. with_berth case ship Left (Ship k) ∷ with_berth case ship Right (Ship k) ∷ cs) e

  hosts-same : (ks : List ℕ) → with_all (flat_map at_host (filter (λ k. not (nat_eq k ship)) ks)) ≡ flat_map (host_cases case ship) ks
  hosts-same [] = refl
  hosts-same (k ∷ ks) = hosts-next k ks (nat_eq k ship) (hosts-same ks)

  pub berths_pushed : (d : Deck) (old hosts right new : List (List Choice)) → hosts ≡ flat_map (host_cases case ship) (numbers_from 0 (length d.ships)) ++ old → right ≡ with_berth case ship Right Quay ∷ hosts → new ≡ with_berth case ship Left Quay ∷ right → new ≡ extensions d case (OfBerth ship) ++ old
  berths_pushed d old hosts right new a b c =
      c ∙ ap (λ cs. with_berth case ship Left Quay ∷ cs) b ∙ ap (λ cs. with_berth case ship Left Quay ∷ with_berth case ship Right Quay ∷ cs) (a ∙ ap (λ cs. cs ++ old) (sym (hosts-same (numbers_from 0 (length d.ships)))))
