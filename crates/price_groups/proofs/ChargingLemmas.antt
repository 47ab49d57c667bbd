-- The ships of a number, told by its bits.
use Rattle.std.proofs.Common.{◌≡◌, ℕ, ◌<◌, ◌≤◌, false, nat_eq, inl, inr, List, All, sym, ◌∙◌, arith}
use Rattle.std.specs.Int.{bit_at}
use Rattle.std.proofs.lemmas.Bool.Decides.{eqb_tells, leb_tells}
use Rattle.lock_model.specs.declared.limits.TheConstants.{SHIPS}
use Rattle.lock_rules.specs.Plan.{times_in}
use Rattle.lock_rules.specs.Trace.{has_number}
use Rattle.lock_rules.proofs.AmongLemmas.{contains-times, times-contains}
use Rattle.lock_rules.proofs.CountLemmas.{times_in-outside}
use Rattle.lock_rules.proofs.LeafLemmas.{has_number-some}
use Rattle.lock_rules.proofs.SplitLemmas.{has_number-none}
use Rattle.price_groups.specs.Masks.{IsMask}

pub told : (mask s : ℕ) (ships : List ℕ) → s < SHIPS → IsMask mask ships → nat_eq (bit_at mask s) 1 ≡ has_number ships s
told mask s ships known is =
    elim (eqb_tells (bit_at mask s) 1) [
      | inl set ↦ set.0 ∙ sym (has_number-some ships s (contains-times ships s (is.only s (omega (arith, known)) set.1)))
      | inr unset ↦ unset.0 ∙ sym (has_number-none ships s (none unset.1))
    ]
  where
    none : ¬ (bit_at mask s ≡ 1) → times_in ships s ≡ 0
    none out =
        elim (leb_tells 1 (times_in ships s)) [
          | inl some ↦ absurd (out (is.has s (times-contains ships s some.1)))
          | inr no' ↦ omega (arith, no'.1)
        ]

pub untold : (s : ℕ) (ships : List ℕ) → SHIPS ≤ s → All (λ s. s < SHIPS) ships → false ≡ has_number ships s
untold s ships past all = sym (has_number-none ships s (times_in-outside SHIPS ships s all past))
