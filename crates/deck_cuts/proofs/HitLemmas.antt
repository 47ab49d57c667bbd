-- From what a cut hits ship by ship to whole lists, and what a hit means.
use Rattle.std.proofs.Common.{ℕ, ◌<◌, ◌≤◌, List, [], length, map, All, Contains, sym, ap, ◌∙◌, subst, arith, get_or, Bool, IsTrue, ◌↔◌, IfOk, Ok, Err}
use Rattle.std.specs.declared.result.Result.{Result}
use Rattle.std.proofs.lemmas.List.{ext_get_or, length-map, get_or-map}
use Rattle.std.proofs.lemmas.List.Elements.{All-from_get_or, All-weaker, All-contains, All-nil, All-map}
use Rattle.std.specs.List.Sorted.{IsStrictlyIncreasing}
use Rattle.lock_model.specs.declared.limits.TheConstants.{MOST}
use Rattle.lock_model.specs.Deck.{Deck, IsDeck, IsSize, no_size}
use Rattle.lock_model.specs.Fitting.{Fits, size_of, deck_of, IsNoRoomier}
use Rattle.lock_model.specs.Fleet.{ship_at, chamber_at, no_ship, no_chamber}
use Rattle.lock_model.specs.declared.deck.Size.{Size}
use Rattle.lock_model.specs.declared.instance.Instance.{Instance}
use Rattle.lock_rules.specs.Cut.{Hits}
use Rattle.lock_rules.proofs.CutLemmas.{IsPart, IsPart-among, fits-part}
use Rattle.lock_rules.proofs.SplitLemmas.{times_in-at, All-times, RisesFrom-increasing}
use Rattle.lock_rules.specs.Plan.{times_in}
use Rattle.no_memory.specs.declared.NoMemory.{NoMemory}
use Rattle.refute_rules.specs.declared.refutation.Refutation.{Refutation}
use Rattle.refute_rules.specs.Refutes.{IsRefuted}
use Rattle.refute_rules.specs.Cuts.{Cut, IsCut}
use Rattle.refute_rules.proofs.RefuteLemmas.{refuted-unfit}
use Rattle.deck_laws.proofs.HeredityLemmas.{hereditary}
use Rattle.deck_laws.proofs.NormalLemmas.{has-normal}
use Rattle.deck_cuts.specs.CutHits.{AreShipsHit}

-- a refuted deck doesn't fit
pub refuted_unfit : (d : Deck) (r : Refutation) → IsDeck d → IsRefuted d r → Fits d → ⊥
refuted_unfit d r limits refuted = refuted-unfit d r limits (has-normal d limits) refuted

pub refuted_told : (d : Deck) (r : Refutation) (o : Result Bool NoMemory) → IsDeck d → IfOk o (λ b. IsTrue b ↔ IsRefuted d r) → IfOk o (λ b. IsTrue b → Fits d → ⊥)
refuted_told d r (Ok b) limits tells = λ yes. refuted_unfit d r limits (tells.0 yes)
refuted_told d r (Err e) limits tells = tt

-- the deck of a cut doesn't fit
pub cut_unfit : (c : Cut) → IsCut c → Fits c.deck → ⊥
cut_unfit c is = refuted_unfit c.deck c.refutation is.deck is.refuted

pub hits_whole : (c : Cut) (I : Instance) (chamber : ℕ) (S : List ℕ) → IsCut c → IsNoRoomier (chamber_at I chamber) c.deck → AreShipsHit c.ships c.deck.ships I S → Hits c.ships c.deck I chamber S
hits_whole c I chamber S is tight hit =
    let size : ℕ → Size = λ s. size_of (ship_at I s) in
    record {
      among = All-from_get_or (Contains S) c.ships 0 (λ i known. (hit.each i known).among);
      sizes =
          ext_get_or no_size c.deck.ships (map size c.ships) (sym is.count ∙ sym (length-map c.ships size)) (λ i known.
          let here : i < length c.ships = omega (arith, is.count, known) in
          (hit.each i here).same ∙ sym (get_or-map size c.ships i 0 no_size here));
      tight = tight;
    }

pub hits_ships : (c : Cut) (I : Instance) (chamber : ℕ) (S : List ℕ) → Hits c.ships c.deck I chamber S → AreShipsHit c.ships c.deck.ships I S
hits_ships c I chamber S hits =
    let size : ℕ → Size = λ s. size_of (ship_at I s) in
    record {
      each = λ i known. record {
        among = hits.among i 0 known;
        same = ap (λ sizes. get_or sizes i no_size) hits.sizes ∙ get_or-map size c.ships i 0 no_size known;
      };
    }

-- a few ships of an instance make a deck within the limits
deck_within : (I : Instance) (chamber : ℕ) → chamber < length I.chambers → (ships : List ℕ) → All (λ s. s < length I.ships) ships → 1 ≤ length ships → length ships ≤ MOST → IsDeck (deck_of I chamber ships)
deck_within I chamber in_range ships known some few =
    let own = I.limits.chamber chamber no_chamber in_range in
    let size_ok : (s : ℕ) → s < length I.ships → IsSize (size_of (ship_at I s)) = λ s here. let ship = I.limits.ship s no_ship here in record { long = ship.length; wide = ship.width; cargo = ship.cargo } in
    record {
      long = own.length;
      wide = own.width;
      clear = (own.end, own.gap, own.side);
      count = (omega (arith, some, length-map ships (λ s. size_of (ship_at I s))), omega (arith, few, length-map ships (λ s. size_of (ship_at I s))));
      sizes = All-map IsSize (λ s. size_of (ship_at I s)) ships (All-weaker (λ s. s < length I.ships) (λ s. IsSize (size_of (ship_at I s))) size_ok ships known);
    }

-- a cut that hits a chamber and ships tells that these don't fit together
pub hit_unfit : (c : Cut) (I : Instance) (chamber : ℕ) (S : List ℕ) → IsCut c → chamber < length I.chambers → All (λ s. s < length I.ships) S → length S ≤ MOST → IsStrictlyIncreasing S → Hits c.ships c.deck I chamber S → Fits (deck_of I chamber S) → ⊥
hit_unfit c I chamber S is in_range known few rising hits fits =
    let part : IsPart c.ships S = IsPart-among 0 c.ships S (RisesFrom-increasing c.ships is.rising) (RisesFrom-increasing S rising) (λ s held.
    let among = All-times (Contains S) s c.ships hits.among held in
    subst (λ t. 1 ≤ times_in S t) among.2 (times_in-at S among.0 s among.1)) in
    let some : 1 ≤ length c.ships = omega (arith, is.count, is.deck.count.0) in
    let long = length-map c.ships (λ s. size_of (ship_at I s)) in
    let thin = fits-part hereditary I chamber in_range [] c.ships S part (All-nil IsSize) known (omega (arith, few)) (omega (arith, some, long)) fits in
    let own : All (λ s. s < length I.ships) c.ships = All-weaker (Contains S) (λ s. s < length I.ships) (λ s h. All-contains (λ s. s < length I.ships) S s known h) c.ships hits.among in
    let eight : length c.ships ≤ MOST = omega (arith, is.count, is.deck.count.1) in
    let limits = deck_within I chamber in_range c.ships own some eight in
    cut_unfit c is (hereditary.widen (deck_of I chamber c.ships) c.deck limits is.deck hits.tight.end hits.tight.gap hits.tight.side (sym hits.sizes) hits.tight.long hits.tight.wide thin)
