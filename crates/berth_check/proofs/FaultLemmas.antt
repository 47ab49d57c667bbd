-- Faults of a berth case, from what is looked up.
use Rattle.std.proofs.Common.{◌≡◌, ℕ, ◌<◌, List, sym, ◌∙◌, subst, Some, None}
use Rattle.std.proofs.lemmas.Option.{none-some, same_Some}
use Rattle.lock_model.specs.Deck.{Deck}
use Rattle.refute_rules.specs.Reasons.{length_at}
use Rattle.refute_rules.specs.declared.choices.Choice.{Choice}
use Rattle.refute_rules.specs.BerthCases.{host_in}
use Rattle.refute_rules.specs.BerthFaults.{IsTooLong}

module _ (d : Deck) (case : List Choice) (i : ℕ) where
  pub long_yes : (k : ℕ) → Some k ≡ host_in case i → length_at d k < length_at d i → IsTooLong d case i
  long_yes k e longer = record { host = k; lies = sym e; longer = longer }

  pub long_no : (k : ℕ) → Some k ≡ host_in case i → IsTooLong d case i → length_at d k < length_at d i
  long_no k e h = subst (λ u. length_at d u < length_at d i) (sym (same_Some k h.host (e ∙ h.lies))) h.longer

  pub long_none : None ≡ host_in case i → IsTooLong d case i → ⊥
  long_none e h = none-some h.host (e ∙ h.lies)
