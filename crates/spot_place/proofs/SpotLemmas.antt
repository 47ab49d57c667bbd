-- The spots of a kept spot case that is whole.
use Rattle.std.proofs.Common.{◌≡◌, ℕ, ◌<◌, ◌≤◌, ℤ, pos, ◌≤ℤ◌, negsuc, List, [], length, inr, refl, ap, ◌∙◌, arith, Some}
use Rattle.std.proofs.lemmas.Int.{ints, by_lt_z}
use Rattle.lock_model.specs.Placement.{IsLegalPlacement, spot_at}
use Rattle.lock_model.specs.declared.placement.Spot.{Spot}
use Rattle.refute_rules.specs.Known.{y_in, host_of, HasKnownHosts}
use Rattle.refute_rules.specs.SpotFaults.{LeadsBack, Outside}
use Rattle.refute_rules.specs.Spots.{IsWholeSpots, AreSpotsOfCase}
use Rattle.spot_place.specs.OnWay.{berth_at}
use Rattle.spot_place.specs.SpotCase.{OnWay, case_on, IsOnWay}
use Rattle.spot_place.specs.ShipSpots.{IsSpotOf}
use Rattle.spot_place.proofs.CaseLemmas.{berth-hit}
use Rattle.refute_rules.proofs.KnownLemmas.{y-known}
use Rattle.spot_place.proofs.KeptLemmas.{berths-same, host-in_deck}
use Rattle.spot_place.proofs.TakeLemmas.{length-whole}
use Rattle.spot_place.proofs.WholeLemmas.{whole-legal}

natural : (y : ℤ) → pos 0 ≤ℤ y → (n : ℕ) × (y ≡ pos n)
natural (pos n) h = (n, refl)
natural (negsuc n) h = absurd (omega (arith, ints, h))

module _ (s : OnWay) (way : IsOnWay s.deck s.berths s.places) (whole : IsWholeSpots s.deck (case_on s)) where
  pub whole-places : length s.places ≡ length s.deck.ships
  whole-places = length-whole s way whole.all

  pub whole-berths : length s.berths ≡ length s.deck.ships
  whole-berths = let e = whole-places in omega (arith, e, way.behind, way.ships)

  whole-hosts : HasKnownHosts s.deck (case_on s)
  whole-hosts = record { each = λ i k known e. host-in_deck s.deck s.berths way.known i k (ap host_of (berths-same s.berths [] s.places i) ∙ e) }

  -- y is known, and not below 0
  pub whole-y : (i : ℕ) → i < length s.deck.ships → (y : ℕ) × (y_in s.deck (case_on s) i ≡ Some (pos y))
  whole-y i known =
      let full = whole-berths in
      let y = y-known s.deck (case_on s) whole-hosts (λ i h. whole.faultless (LeadsBack i) h) (λ i known. (berth_at s.berths i, berth-hit s.berths s.places i (omega (arith, known, full)))) i known in
      let n = natural y.0 (by_lt_z y.0 (pos 0) (λ less. absurd (whole.faultless (Outside i) (inr (record { y = y.0; known = y.1; outside = λ inside. let low = inside.0 in omega (arith, ints, less, low) })))) (λ low. low)) in
      (n.0, y.1 ∙ ap (λ z. Some z) n.1)

  pub spots-legal : (spots : List Spot) → AreSpotsOfCase s.deck (case_on s) spots → IsLegalPlacement s.deck spots
  spots-legal spots are = whole-legal s.deck (case_on s) whole.faultless whole-hosts spots are

  pub spots-are : (spots : List Spot) (n : ℕ) → length spots ≡ n → length s.deck.ships ≤ n → n ≤ length s.deck.ships → ((i : ℕ) → i < n → IsSpotOf s.deck (case_on s) i (spot_at spots i)) → AreSpotsOfCase s.deck (case_on s) spots
  spots-are spots n count low high each = record {
    count = omega (arith, count, low, high);
    x = λ i h. (each i (omega (arith, h, low))).x;
    y = λ i h. (each i (omega (arith, h, low))).y;
    berth = λ i h. (each i (omega (arith, h, low))).berth;
  }
