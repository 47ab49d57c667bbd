-- The options of an open split are about ships of the deck.
use Rattle.std.proofs.Common.{◌≡◌, ℕ, ◌+◌, ◌<◌, ◌≤◌, List, [], ◌∷◌, ◌++◌, length, not, nat_eq, true, arith}
use Rattle.std.specs.List.{AllByRecursion}
use Rattle.list_laws.proofs.ByRecursion.{all-append}
use Rattle.lock_model.specs.Deck.{Deck}
use Rattle.lock_model.specs.declared.placement.Rank.TheVariants.{Left, Right}
use Rattle.lock_model.specs.declared.placement.Moor.TheVariants.{Ship}
use Rattle.lock_rules.specs.Arrival.{numbers_from}
use Rattle.refute_rules.specs.declared.choices.Berth.{Berth}
use Rattle.refute_rules.specs.declared.choices.Choice.{Choice}
use Rattle.refute_rules.specs.declared.choices.Choice.TheVariants.{Lies}
use Rattle.refute_rules.specs.Choices.{berths_of}
use Rattle.refute_rules.specs.Values.{others}
use Rattle.refute_rules.proofs.Among.{all-map, all-flat_map, all-weaker, all-numbers}
use Rattle.refute_rules.proofs.Packing.{all-filter}
use Rattle.refute_rules.specs.BerthTrees.{Split, OfBerth, OfOrder, IsOpen, split_options}
use Rattle.berth_check.specs.Raises.{IsKnownChoice, AreKnown}
use Rattle.berth_check.proofs.RaiseLemmas.{known_pair}

berths-known : (d : Deck) (i : ℕ) → i < length d.ships → AllByRecursion (λ (b : Berth). IsKnownChoice d (Lies i b)) (berths_of (length d.ships) i)
berths-known d i known =
    let n = length d.ships in
    let below : AllByRecursion (λ k. k < n) (numbers_from 0 n) = all-weaker (λ k. (0 ≤ k) × (k < 0 + n)) (λ k. k < n) (λ k h. omega (arith, h.1)) (numbers_from 0 n) (all-numbers 0 n) in
    let hosts : AllByRecursion (λ k. (k < n) × (not (nat_eq k i) ≡ true)) (others n i) = all-filter (λ k. k < n) (λ k. not (nat_eq k i)) (numbers_from 0 n) below in (
      (known, tt),
      (
        (known, tt),
        all-flat_map (λ (b : Berth). IsKnownChoice d (Lies i b)) (λ k. record { rank = Left; moor = Ship k } ∷ record { rank = Right; moor = Ship k } ∷ []) (others n i)
            (all-weaker (λ k. (k < n) × (not (nat_eq k i) ≡ true)) (λ k. AllByRecursion (λ (b : Berth). IsKnownChoice d (Lies i b)) (record { rank = Left; moor = Ship k } ∷ record { rank = Right; moor = Ship k } ∷ [])) (λ k h. ((known, h.0), ((known, h.0), tt))) (others n i) hosts),
      ),
    )

pub options-known : (d : Deck) (case : List Choice) (split : Split) → AreKnown d case → IsOpen d case split → AllByRecursion (IsKnownChoice d) (split_options d split)
options-known d case (OfBerth i) known h = all-map (IsKnownChoice d) (Lies i) (berths_of (length d.ships) i) (berths-known d i h.0)
options-known d case (OfOrder i j) known h = let ships = known_pair d case i j known h in ((ships.0, ships.1), ((ships.1, ships.0), tt))

pub extended-known : (d : Deck) (case : List Choice) (choice : Choice) → AreKnown d case → IsKnownChoice d choice → AreKnown d (case ++ choice ∷ [])
extended-known d case choice known h = record { all = all-append (IsKnownChoice d) case (choice ∷ []) known.all (h, tt) }
