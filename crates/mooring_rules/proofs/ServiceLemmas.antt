-- One ship and one lockage more in the counts.
use Rattle.std.proofs.Common.{◌≡◌, ℕ, suc, ◌+◌, ◌<◌, List, [], ◌∷◌, length, take, get_or, cond, nat_eq, inl, inr, ap, ◌∙◌, arith}
use Rattle.std.proofs.lemmas.Bool.Decides.{eqb_tells}
use Rattle.std.proofs.Math.Seq.{take-suc}
use Rattle.lock_model.specs.declared.plan.Lockage.{Lockage}
use Rattle.lock_rules.specs.Plan.{times_in, served_in}
use Rattle.lock_rules.proofs.CountLemmas.{times_in-append}
use Rattle.lock_rules.proofs.LeafLemmas.{served_in-append}

times_in-more : (xs : List ℕ) (i s : ℕ) → i < length xs → times_in (take (i + 1) xs) s ≡ times_in (take i xs) s + cond (nat_eq (get_or xs i 0) s) 1 0
times_in-more xs i s within =
    let next : i + 1 ≡ suc i = omega arith in
    let one : times_in (get_or xs i 0 ∷ []) s ≡ cond (nat_eq (get_or xs i 0) s) 1 0 = omega arith in
    ap (λ n. times_in (take n xs) s) next
    ∙ ap (λ ys. times_in ys s) (take-suc xs i 0 within)
    ∙ times_in-append (take i xs) (get_or xs i 0 ∷ []) s
    ∙ ap (λ n. times_in (take i xs) s + n) one

-- the ship itself
pub times_in-hit_more : (xs : List ℕ) (i s : ℕ) → i < length xs → get_or xs i 0 ≡ s → times_in (take (i + 1) xs) s ≡ times_in (take i xs) s + 1
times_in-hit_more xs i s within same =
    elim (eqb_tells (get_or xs i 0) s) [
      | inl y ↦ times_in-more xs i s within ∙ ap (λ b. times_in (take i xs) s + cond b 1 0) y.0
      | inr n ↦ absurd (n.1 same)
    ]

-- another ship
pub times_in-miss_more : (xs : List ℕ) (i s : ℕ) → i < length xs → (get_or xs i 0 ≡ s → ⊥) → times_in (take (i + 1) xs) s ≡ times_in (take i xs) s
times_in-miss_more xs i s within other =
    elim (eqb_tells (get_or xs i 0) s) [
      | inl y ↦ absurd (other y.1)
      | inr n ↦ omega (arith, times_in-more xs i s within ∙ ap (λ b. times_in (take i xs) s + cond b 1 0) n.0)
    ]

-- a lockage
pub served_in-more : (ls : List Lockage) (i s : ℕ) (l : Lockage) → i < length ls → l ≡ get_or ls i l → served_in (take (i + 1) ls) s ≡ served_in (take i ls) s + times_in l.ships s
served_in-more ls i s l within read =
    let next : i + 1 ≡ suc i = omega arith in
    let one : served_in (get_or ls i l ∷ []) s ≡ times_in l.ships s = omega (arith, ap (λ (l : Lockage). times_in l.ships s) read) in
    ap (λ n. served_in (take n ls) s) next
    ∙ ap (λ ms. served_in ms s) (take-suc ls i l within)
    ∙ served_in-append (take i ls) (get_or ls i l ∷ []) s
    ∙ ap (λ n. served_in (take i ls) s + n) one
