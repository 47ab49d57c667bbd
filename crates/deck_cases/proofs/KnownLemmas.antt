-- Hosts that lead on, and known y, from what is looked up.
use Rattle.std.proofs.Common.{◌≡◌, ◌≢◌, ℕ, zero, suc, ◌+◌, ◌<◌, ℤ, Bool, IsTrue, ◌↔◌, List, ◌∷◌, length, Contains, sym, ap, ◌∙◌, subst, arith, Some, None, option_map, slice_index_or}
use Rattle.std.proofs.lemmas.Option.{none-some, same_Some}
use Rattle.std.specs.declared.option.Option.{Option}
use Rattle.lock_model.specs.Deck.{Deck}
use Rattle.lock_model.specs.declared.placement.Rank.{Rank}
use Rattle.lock_model.specs.declared.placement.Moor.TheVariants.{Ship}
use Rattle.refute_rules.specs.declared.choices.Choice.{Choice}
use Rattle.refute_rules.specs.Decided.{berth_in}
use Rattle.refute_rules.specs.Known.{host_of, host_and_more, hosts_within, berth_y, guest_y, y_within, y_in}
use Rattle.refute_rules.specs.SpotFaults.{IsInsideAcross, IsOutsideAcross}

contains-later : (x : ℕ) (xs : List ℕ) (y : ℕ) → Contains xs y → Contains (x ∷ xs) y
contains-later x xs y h = let less = h.1 in (suc h.0, omega (arith, less), h.2)

contains-next : (x : ℕ) (xs : List ℕ) (y : ℕ) → x ≢ y → Contains (x ∷ xs) y → Contains xs y
contains-next x xs y n h = step h.0 h.1 h.2
  where
    step : (k : ℕ) → k < length (x ∷ xs) → slice_index_or (x ∷ xs) k y ≡ y → Contains xs y
    step zero less e = absurd (n e)
    step (suc k) less e = (k, omega (arith, less), e)

-- the hosts from a ship on are its host and the hosts from that on
hosts-step : (case : List Choice) (steps before from host : ℕ) → steps ≡ before + 1 → Some host ≡ host_of (berth_in case from) → hosts_within case steps from ≡ host ∷ hosts_within case before host
hosts-step case steps before from host e h =
    let same : steps ≡ suc before = omega (arith, e) in
    ap (λ k. hosts_within case k from) same ∙ ap (λ o. host_and_more o (hosts_within case before)) (sym h)

pub leads_here : (case : List Choice) (steps before from host ship : ℕ) → steps ≡ before + 1 → Some host ≡ host_of (berth_in case from) → host ≡ ship → Contains (hosts_within case steps from) ship
leads_here case steps before from host ship e h same = subst (λ hosts. Contains hosts ship) (sym (hosts-step case steps before from host e h)) (0, omega arith, same)

pub leads_later : (case : List Choice) (steps before from host ship : ℕ) (b : Bool) → steps ≡ before + 1 → Some host ≡ host_of (berth_in case from) → host ≢ ship → IsTrue b ↔ Contains (hosts_within case before host) ship → IsTrue b ↔ Contains (hosts_within case steps from) ship
leads_later case steps before from host ship b e h n tells =
    let step = hosts-step case steps before from host e h in (
      λ yes. subst (λ hosts. Contains hosts ship) (sym step) (contains-later host (hosts_within case before host) ship (tells.0 yes)),
      λ has. tells.1 (contains-next host (hosts_within case before host) ship n (subst (λ hosts. Contains hosts ship) step has)),
    )

pub y_host : (d : Deck) (case : List Choice) (steps before ship host : ℕ) (rank : Rank) (host_y : Option ℤ) → steps ≡ before + 1 → Some (record { rank = rank; moor = Ship host }) ≡ berth_in case ship → host_y ≡ y_within d case before host → option_map (guest_y d ship host rank) host_y ≡ y_within d case steps ship
y_host d case steps before ship host rank host_y e berth told =
    let same : steps ≡ suc before = omega (arith, e) in
    ap (option_map (guest_y d ship host rank)) told ∙ ap (λ o. berth_y d ship o (y_within d case before)) berth ∙ ap (λ k. y_within d case k ship) (sym same)

pub across_outside : (d : Deck) (case : List Choice) (i : ℕ) (y : ℤ) → Some y ≡ y_in d case i → (IsInsideAcross d i y → ⊥) → IsOutsideAcross d case i
across_outside d case i y e out = record { y = y; known = sym e; outside = out }

pub across_inside : (d : Deck) (case : List Choice) (i : ℕ) (y : ℤ) → Some y ≡ y_in d case i → IsInsideAcross d i y → IsOutsideAcross d case i → ⊥
across_inside d case i y e inside out = out.outside (subst (IsInsideAcross d i) (same_Some y out.y (e ∙ out.known)) inside)

pub across_open : (d : Deck) (case : List Choice) (i : ℕ) → None ≡ y_in d case i → IsOutsideAcross d case i → ⊥
across_open d case i e out = none-some out.y (e ∙ out.known)
