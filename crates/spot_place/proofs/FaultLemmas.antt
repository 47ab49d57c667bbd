-- A host that has no place yet makes no fault of its guest.
use Rattle.std.proofs.Common.{◌≡◌, ℕ, List, sym, ap, ◌∙◌, Some, None}
use Rattle.std.proofs.lemmas.Option.{none-some, same_Some}
use Rattle.lock_model.specs.Deck.{Deck}
use Rattle.refute_rules.specs.declared.choices.Choice.{Choice}
use Rattle.refute_rules.specs.Decided.{berth_in, x_in}
use Rattle.refute_rules.specs.Known.{host_of}
use Rattle.refute_rules.specs.SpotFaults.{IsPastHost}

pub no_host_x : (d : Deck) (case : List Choice) (i k : ℕ) → host_of (berth_in case i) ≡ Some k → x_in case k ≡ None → IsPastHost d case i → ⊥
no_host_x d case i k host e h = none-some h.host_x (sym e ∙ ap (x_in case) (same_Some k h.host (sym host ∙ h.lies)) ∙ h.other)
