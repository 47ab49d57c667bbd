-- The ships that a chamber waits for.
use Rattle.std.proofs.Common.{◌≡◌, ◌≢◌, ℕ, ◌+◌, ◌<◌, ◌≤◌, inl, inr, List, [], ◌∷◌, ◌++◌, length, All, Contains, sym, ap, ◌∙◌, subst, arith, slice_index_or}
use Rattle.std.specs.List.Sorted.{IsNonDecreasingBy, IsPermutation}
use Rattle.std.proofs.lemmas.Bool.Decides.{eqb_tells}
use Rattle.std.proofs.lemmas.List.{get_or_default}
use Rattle.std.proofs.lemmas.List.Elements.{All-cons, Contains-append_left, Contains-append_right, Contains-get_or}
use Rattle.std.proofs.lemmas.List.Sorted.{Contains-permutation}
use Rattle.lock_model.specs.Fleet.{ship_at, no_ship}
use Rattle.lock_model.specs.declared.group.Group.{Group}
use Rattle.lock_model.specs.declared.instance.Instance.{Instance}
use Rattle.lock_model.specs.declared.ship.Ship.{Ship}
use Rattle.lock_model.specs.declared.way.Way.{Way}
use Rattle.price_groups.specs.Asks.{LineAsk}
use Rattle.price_groups.specs.Sparing.{LacksSome, IsSpared, AreForbidden}
use Rattle.price_rules.specs.Prices.{PlainCut, Spares}
use Rattle.sweep_labels.specs.declared.arrivals.Coming.{Coming}
use Rattle.sweep_labels.specs.Coming.{no_coming, AreByArrival, IsListed, AreComing}
use Rattle.sweep_arcs.specs.Awaited.{IsAwaited, coming_of, AreAwaited}

pub rising-by : (items : List Coming) → IsNonDecreasingBy (λ one. one.arrival) items → AreByArrival items
rising-by items rising = record { rising = λ j k less within. rising j k no_coming (omega (arith, less)) within }

-- where no cut hits a ship alone, none of the sets that are forbidden is in its group
pub spared-alone : (I : Instance) (c : ℕ) (cuts : List PlainCut) (sets : List (List ℕ)) → AreForbidden I c cuts sets → (s : ℕ) → s < length I.ships → All (Spares I c (s ∷ [])) cuts → (g : Group) → g.ships ≡ s ∷ [] → All (IsSpared sets) (g ∷ [])
spared-alone I c cuts sets forbids s known alone g is =
    All-cons (IsSpared sets) g [] (record { missed = subst (λ ships. All (LacksSome ships) sets) (sym is) (forbids.missed (s ∷ []) (All-cons (λ s. s < length I.ships) s [] known (nothing (λ s. s < length I.ships))) alone) }) (nothing (IsSpared sets))
  where
    nothing : {X : Type 0} (p : X → Type 0) → All p []
    nothing p = λ j d here. absurd (omega (arith, here))

-- the arrival of a ship of the instance, however it was come by
pub own-arrival : (I : Instance) (ships : List Ship) (s : ℕ) (d : Ship) → ships ≡ I.ships → s < length I.ships → (slice_index_or ships s d).arrival ≡ (ship_at I s).arrival
own-arrival I ships s d same known = ap (λ (ship : Ship). ship.arrival) (ap (λ ships. slice_index_or ships s d) same ∙ get_or_default I.ships s d no_ship known)

pub put-kept : (old new : List Coming) (item : Coming) → new ≡ old ++ item ∷ [] → (one : Coming) → Contains old one → Contains new one
put-kept old new item is one held = subst (λ items. Contains items one) (sym is) (Contains-append_left old (item ∷ []) one held)

pub put-own : (old new : List Coming) (item : Coming) → new ≡ old ++ item ∷ [] → Contains new item
put-own old new item is = subst (λ items. Contains items item) (sym is) (Contains-append_right old (item ∷ []) item (Contains-get_or (item ∷ []) 0 item (omega arith)))

module _ (ask : LineAsk) (way : Way) where
  pub awaited-none : (items : List Coming) → AreAwaited ask way 0 items
  awaited-none items = record { each = λ s less. absurd (omega (arith, less)) }

  -- one ship more, which is listed where the chamber may want it
  pub awaited-more : (n : ℕ) (old new : List Coming) → AreAwaited ask way n old → ((one : Coming) → Contains old one → Contains new one) → (IsAwaited ask way n → Contains new (coming_of ask n)) → AreAwaited ask way (n + 1) new
  awaited-more n old new are kept own = record {
    each = λ s less is. elim (eqb_tells s n) [
      | inl same ↦ subst (λ s. Contains new (coming_of ask s)) (sym same.1) (own (subst (IsAwaited ask way) same.1 is))
      | inr other ↦ kept (coming_of ask s) (are.each s (before s other.1 less) is)
    ];
  }
    where
      before : (s : ℕ) → s ≢ n → s < n + 1 → s < n
      before s other less = omega arith

  -- in order of arrival
  pub coming-all : (listed ordered : List Coming) → AreAwaited ask way (length ask.instance.ships) listed → IsPermutation listed ordered → AreByArrival ordered → AreComing ask.instance ask.cuts ask.chamber way ordered
  coming-all listed ordered are moved rising = record {
    by_arrival = rising;
    whole = λ served s wanted. at s (Contains-permutation listed ordered (coming_of ask s) moved (are.each s wanted.known (served, wanted)));
  }
    where
      at : (s : ℕ) → Contains ordered (coming_of ask s) → IsListed ask.instance ordered s
      at s held =
          let same : slice_index_or ordered held.0 no_coming ≡ coming_of ask s = get_or_default ordered held.0 no_coming (coming_of ask s) held.1 ∙ held.2 in
          record { place = held.0; within = held.1; ship = ap (λ (one : Coming). one.ship) same; arrival = ap (λ (one : Coming). one.arrival) same }
