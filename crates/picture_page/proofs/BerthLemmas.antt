-- Each place of a lockage has a ship of the instance.
use Rattle.std.proofs.Common.{ℕ, ◌<◌, List, length, All, get_or, subst, sym, inl, inr}
use Rattle.std.proofs.lemmas.Bool.{cases_lt}
use Rattle.std.proofs.lemmas.List.{get_or_past}
use Rattle.std.proofs.lemmas.List.Elements.{All-get_or}
use Rattle.lock_model.specs.declared.instance.Instance.{Instance}

pub place-known : (I : Instance) (ships : List ℕ) (k : ℕ) → All (λ s. s < length I.ships) ships → get_or ships k 0 < length I.ships
place-known I ships k known =
    elim (cases_lt k (length ships)) [
      | inl here ↦ All-get_or (λ s. s < length I.ships) ships k 0 here known
      | inr past ↦ subst (λ (s : ℕ). s < length I.ships) (sym (get_or_past ships k 0 past)) I.limits.ship_count.0
    ]

pub ruleset of_berths = (place-known)
