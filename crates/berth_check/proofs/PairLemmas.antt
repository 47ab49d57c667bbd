-- Two ships of a berth case, from what is looked up.
use Rattle.std.proofs.Common.{◌≡◌, ◌≢◌, ℕ, ◌+◌, ◌<◌, ◌≤◌, ℤ, inl, inr, List, [], length, drop, get_or, Contains, sym, ap, ◌∙◌, subst, arith, Some, None}
use Rattle.std.proofs.lemmas.List.{drop_all, drop_more, get_or_default}
use Rattle.std.proofs.lemmas.Map.Made.{Contains-tail}
use Rattle.std.proofs.lemmas.Option.{none-some, same_Some}
use Rattle.lock_model.specs.Deck.{Deck}
use Rattle.refute_rules.specs.declared.choices.Choice.{Choice}
use Rattle.refute_rules.specs.declared.choices.Choice.TheVariants.{Before}
use Rattle.refute_rules.specs.Known.{y_in}
use Rattle.refute_rules.specs.BerthCases.{host_in, HasOrder, DoOverlap, ShareHost}
use Rattle.berth_check.specs.PairReads.{ArePassing, IsOrderLater}

module _ (d : Deck) (case : List Choice) (i j : ℕ) where
  pub overlap_yes : (p q : ℤ) → Some p ≡ y_in d case i → Some q ≡ y_in d case j → (ArePassing d i p j q → ⊥) → DoOverlap d case i j
  overlap_yes p q a b n = record { yi = p; yj = q; known_i = sym a; known_j = sym b; not_below = λ h. n (inl h); not_above = λ h. n (inr h) }

  pub overlap_no : (p q : ℤ) → Some p ≡ y_in d case i → Some q ≡ y_in d case j → ArePassing d i p j q → DoOverlap d case i j → ⊥
  overlap_no p q a b h o =
      let first : p ≡ o.yi = same_Some p o.yi (a ∙ o.known_i) in
      let second : q ≡ o.yj = same_Some q o.yj (b ∙ o.known_j) in
      elim (subst (λ u. ArePassing d i o.yi j u) second (subst (λ u. ArePassing d i u j q) first h)) [ inl u ↦ o.not_below u | inr u ↦ o.not_above u ]

  pub overlap_first : None ≡ y_in d case i → DoOverlap d case i j → ⊥
  overlap_first a o = none-some o.yi (a ∙ o.known_i)

  pub overlap_second : None ≡ y_in d case j → DoOverlap d case i j → ⊥
  overlap_second a o = none-some o.yj (a ∙ o.known_j)

module _ (case : List Choice) (i j : ℕ) where
  pub host_yes : (h k : ℕ) → Some h ≡ host_in case i → Some k ≡ host_in case j → h ≡ k → ShareHost case i j
  host_yes h k a b e = record { host = h; of_i = sym a; of_j = sym (ap Some e ∙ b) }

  pub host_no : (h k : ℕ) → Some h ≡ host_in case i → Some k ≡ host_in case j → h ≢ k → ShareHost case i j → ⊥
  host_no h k a b n s = n (same_Some h s.host (a ∙ s.of_i) ∙ sym (same_Some k s.host (b ∙ s.of_j)))

  pub host_first : None ≡ host_in case i → ShareHost case i j → ⊥
  host_first a s = none-some s.host (a ∙ s.of_i)

  pub host_second : None ≡ host_in case j → ShareHost case i j → ⊥
  host_second a s = none-some s.host (a ∙ s.of_j)

-- an order in the options that are left
module _ (case : List Choice) (i j : ℕ) where
  pub order_begun : IsOrderLater case (drop 0 case) i j
  order_begun = record { later = λ h. h }

  pub order_passed : (k : ℕ) (z : Choice) → k < length case → (get_or case k z ≡ Before i j → ⊥) → IsOrderLater case (drop k case) i j → IsOrderLater case (drop (k + 1) case) i j
  order_passed k z here n l = record {
    later = λ h. Contains-tail (get_or case k z) (drop (k + 1) case) (Before i j) n (subst (λ cs. Contains cs (Before i j)) (drop_more case k z here) (l.later h));
  }

  pub order_found : (k : ℕ) (z : Choice) → k < length case → get_or case k z ≡ Before i j → HasOrder case i j
  order_found k z here same = (k, here, get_or_default case k (Before i j) z here ∙ same)

  pub order_absent : (k : ℕ) → length case ≤ k → IsOrderLater case (drop k case) i j → HasOrder case i j → ⊥
  order_absent k long l h = nothing (subst (λ cs. Contains cs (Before i j)) (drop_all k case long) (l.later h))
    where
      nothing : Contains [] (Before i j) → ⊥
      nothing o = let short : o.0 < 0 = o.1 in omega (arith, short)

-- what `do_overlap` goes by
pub ruleset of_overlaps = (overlap_yes, overlap_no, overlap_first, overlap_second)

-- what `share_host` goes by
pub ruleset of_hosts = (host_yes, host_no, host_first, host_second)

-- what `has_order` goes by
pub ruleset of_orders = (order_begun, order_passed, order_found, order_absent)
