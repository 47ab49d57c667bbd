-- The options of a split by number.
use Rattle.std.proofs.Common.{◌≡◌, ℕ, zero, suc, ◌*◌, ◌<◌, List, [], ◌∷◌, ◌++◌, length, map, slice_index_or, sym, ap, ◌∙◌, arith}
use Rattle.std.specs.List.{AllByRecursion}
use Rattle.std.proofs.lemmas.List.{get_or-map, length-map}
use Rattle.list_laws.proofs.ByRecursion.{all-append}
use Rattle.lock_model.specs.Deck.{Deck}
use Rattle.refute_rules.specs.declared.choices.Berth.{Berth}
use Rattle.refute_rules.specs.declared.choices.Choice.{Choice}
use Rattle.refute_rules.specs.declared.choices.Choice.TheVariants.{Lies, Before}
use Rattle.refute_rules.specs.Choices.{berths_of}
use Rattle.deck_cases.specs.Berths.{first_berth}
use Rattle.deck_cases.proofs.BerthLemmas.{berths-length}
use Rattle.refute_rules.specs.BerthTrees.{Split, OfBerth, IsOpen, split_options}
use Rattle.berth_check.specs.Raises.{IsKnownChoice, AreKnown}
use Rattle.berth_check.proofs.OptionLemmas.{options-known, extended-known}
use Rattle.berth_place.specs.Known.{IsBerth, AreBerths}

module _ (d : Deck) (ship : ℕ) (known : ship < length d.ships) where
  pub option_count : length (split_options d (OfBerth ship)) ≡ 2 * length d.ships
  option_count = length-map (berths_of (length d.ships) ship) (Lies ship) ∙ berths-length (length d.ships) ship known

  pub berth_number : (option : ℕ) (b : Berth) → option < 2 * length d.ships → b ≡ slice_index_or (berths_of (length d.ships) ship) option first_berth → Lies ship b ≡ slice_index_or (split_options d (OfBerth ship)) option (Before 0 0)
  berth_number option b less e =
      let size = berths-length (length d.ships) ship known in
      ap (Lies ship) e ∙ sym (get_or-map (Lies ship) (berths_of (length d.ships) ship) option first_berth (Before 0 0) (omega (arith, size, less)))

at-number : (P : Choice → Type 0) (cs : List Choice) (k : ℕ) → AllByRecursion P cs → k < length cs → P (slice_index_or cs k (Before 0 0))
at-number P [] k all h = absurd (omega (arith, h))
at-number P (c ∷ cs) zero all h = all.0
at-number P (c ∷ cs) (suc k) all h = at-number P cs k all.1 (omega (arith, h))

-- a case with an option of an open split is about ships of the deck
pub known_more : (d : Deck) (case : List Choice) (split : Split) (k : ℕ) → AreKnown d case → IsOpen d case split → k < length (split_options d split) → AreKnown d (case ++ slice_index_or (split_options d split) k (Before 0 0) ∷ [])
known_more d case split k known is_open less = extended-known d case (slice_index_or (split_options d split) k (Before 0 0)) known (at-number (IsKnownChoice d) (split_options d split) k (options-known d case split known is_open) less)

all-berths : (ship : ℕ) (bs : List Berth) → AllByRecursion IsBerth (map (Lies ship) bs)
all-berths ship [] = tt
all-berths ship (b ∷ bs) = (tt, all-berths ship bs)

pub berths_more : (d : Deck) (case : List Choice) (ship k : ℕ) → AreBerths case → k < length (split_options d (OfBerth ship)) → AreBerths (case ++ slice_index_or (split_options d (OfBerth ship)) k (Before 0 0) ∷ [])
berths_more d case ship k berths less = record { all = all-append IsBerth case (slice_index_or (split_options d (OfBerth ship)) k (Before 0 0) ∷ []) berths.all (at-number IsBerth (split_options d (OfBerth ship)) k (all-berths ship (berths_of (length d.ships) ship)) less, tt) }
