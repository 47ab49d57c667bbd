-- Groups that were looked at one after the other, and ships that a group lacks.
use Rattle.std.proofs.Common.{◌≡◌, ℕ, ◌<◌, ◌≤◌, inl, inr, List, [], length, All, Contains, subst, arith}
use Rattle.std.proofs.lemmas.Bool.Decides.{leb_tells}
use Rattle.std.proofs.lemmas.List.{get_or_default}
use Rattle.lock_model.specs.declared.instance.Instance.{Instance}
use Rattle.lock_model.specs.declared.group.Group.{Group}
use Rattle.lock_rules.specs.Plan.{times_in}
use Rattle.lock_rules.proofs.AmongLemmas.{times-contains}
use Rattle.master_branch.specs.Steps.{group_in}

abbrev HasKnown : Instance → Group → Type 0
HasKnown I g = All (λ s. s < length I.ships) g.ships

pub all_known : (I : Instance) (gs : List Group) (n : ℕ) → length gs ≤ n → ((k : ℕ) → k < n → HasKnown I (group_in gs k)) → All (HasKnown I) gs
all_known I gs n long each k e here = subst (HasKnown I) (get_or_default gs k (group_in [] 0) e here) (each k (omega (arith, long, here)))

-- a ship that isn't among some stands there no time
pub lacked : (ships : List ℕ) (s : ℕ) → ¬ Contains ships s → times_in ships s ≡ 0
lacked ships s lacks = elim (leb_tells 1 (times_in ships s)) [
  | inl some ↦ absurd (lacks (times-contains ships s some.1))
  | inr none ↦ omega (arith, none.1)
]
