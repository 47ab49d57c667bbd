-- The parts of the certificate of a book are well formed.
use Rattle.std.proofs.Common.{◌≡◌, ℕ, suc, ◌^◌, ◌<◌, ◌≤◌, cond, List, length, ◌∙◌, sym, subst, arith, inl, inr}
use Rattle.std.proofs.lemmas.Bool.Decides.{leb_tells}
use Rattle.std.proofs.lemmas.List.{length-map}
use Rattle.std.proofs.lemmas.Option.{slice_get_within}
use Rattle.lock_model.specs.Fitting.{size_of}
use Rattle.lock_model.specs.Fleet.{ship_at}
use Rattle.lock_model.specs.Deck.{Deck}
use Rattle.lock_model.specs.declared.limits.TheConstants.{FEW_SHIPS, SHIPS}
use Rattle.lock_model.specs.declared.ship.Ship.{Ship}
use Rattle.lock_model.specs.declared.instance.Instance.{Instance}
use Rattle.lock_model.specs.declared.plan.Lockage.{Lockage}
use Rattle.lock_model.specs.declared.plan.Plan.{Plan}
use Rattle.lock_model.specs.Fleet.{no_chamber}
use Rattle.lock_rules.specs.Plan.{IsLegalLockage, IsLegal}
use Rattle.lock_rules.specs.Arrival.{missing_ships}
use Rattle.lock_rules.proofs.SplitLemmas.{missing-known}
use Rattle.lock_rules.proofs.ThroughputLemmas.{few_lockages, count-plan}
use Rattle.price_rules.specs.Prices.{PriceList}
use Rattle.refute_rules.specs.declared.refutation.Quick.{Quick}
use Rattle.refute_rules.specs.declared.refutation.Quick.TheVariants.{Area, Row, Column}
use Rattle.refute_rules.specs.declared.refutation.Refutation.{Refutation}
use Rattle.refute_rules.specs.declared.refutation.Refutation.TheVariants as refutation
use Rattle.refute_rules.specs.Reasons.{Holds}
use Rattle.refute_rules.specs.Refutes.{IsRefuted}
use Rattle.refute_rules.specs.Cuts.{Cut, IsCut}
use Rattle.closing_rules.specs.declared.grounds.Ground.{Ground}
use Rattle.closing_rules.specs.declared.grounds.Ground.TheVariants as by
use Rattle.book_rules.specs.declared.book.SlotState.TheVariants as slot
use Rattle.book_rules.specs.Book.{Book, slot_at}
use Rattle.book_rules.specs.Cover.{IsOwnCut}
use Rattle.book_rules.specs.States.{KeepsStates}
use Rattle.closing_rules.specs.ProvedCuts.{IsProved}
use Rattle.closing_rules.specs.ListedPrices.{ArePrices, AreShapedPrices}
use Rattle.certificate_rules.specs.declared.numbering.Numbering.TheVariants.{Few, Many}
use Rattle.lock_model.specs.Fleet.{most_lockages, is_large}
use Rattle.certificate_rules.specs.WellFormed.{numbering_of, probed_ships, IsFormedReason, IsFormedRefutation, IsFormedCut, IsFormedLockage, AreFormedPrices, IsFormedGround}
use Rattle.lock_rules.proofs.AmongLemmas.{contains-times}
use Rattle.book_rules.proofs.MoveLemmas.{TellsAt}
use Rattle.book_rules.proofs.StateLemmas.{state-tells}
use Rattle.book_certificate.specs.Certified.{cert_cut}

-- ---- cuts

formed-reason : (d : Deck) (q : Quick) → Holds d q → IsFormedReason q
formed-reason d Area h = tt
formed-reason d (Row S) h = h.ships.some
formed-reason d (Column S) h = h.ships.some

formed-refutation : (d : Deck) (r : Refutation) → IsRefuted d r → IsFormedRefutation r
formed-refutation d (refutation.Quick q) h = formed-reason d q h
formed-refutation d (refutation.Cases marks) h = tt
formed-refutation d (refutation.Spots marks) h = tt
formed-refutation d (refutation.Clash i j) h = h.rises
formed-refutation d (refutation.Berths marks) h = tt

pub own-formed : (cut : Cut) → IsCut cut → IsFormedCut (cert_cut cut)
own-formed cut is =
    let count = is.count in
    let ships = is.deck.count in
    ((omega (arith, count, ships.0), omega (arith, count, ships.1)), formed-refutation cut.deck cut.refutation is.refuted)

pub own-proved : (I : Instance) (cut : Cut) → IsCut cut → IsOwnCut I cut → IsProved I (cert_cut cut)
own-proved I cut is own =
    let formed = own-formed cut is in
    record {
      shaped = record {
        chamber = own.chamber;
        some = formed.0.0;
        known = own.ships;
        kept = record { rising = is.rising; few = formed.0.1 };
      };
      refuted = subst (λ d. IsRefuted d cut.refutation) own.deck is.refuted;
    }

-- ---- lockages

pub legal-formed : (I : Instance) (l : Lockage) → IsLegalLockage I l → IsFormedLockage l
legal-formed I l legal =
    let most = (I.limits.chamber l.chamber no_chamber legal.chamber).most in
    let count = legal.count in (
      (count.0, omega (arith, count.1, most.1)),
      legal.placed.count ∙ length-map l.ships (λ s. size_of (ship_at I s)),
    )

-- a legal plan has no more lockages than ships
few-lockages : (I : Instance) (P : Plan) → IsLegal I P → length P.lockages ≤ length I.ships
few-lockages I P legal = omega (arith, few_lockages I P.lockages legal.lockage, count-plan I P legal)

-- ---- what the ships of an instance set

-- no more than there are ships are few enough to be listed
listed : (ships : List Ship) (n : ℕ) → n ≤ length ships → n ≤ most_lockages ships
unfolding most_lockages is_large
listed ships n low = elim (leb_tells (suc FEW_SHIPS) (length ships)) [
  | inl large ↦ subst (λ t. n ≤ cond t (length ships) FEW_SHIPS) (sym large.0) low
  | inr small ↦ subst (λ t. n ≤ cond t (length ships) FEW_SHIPS) (sym small.0) (omega (arith, low, small.1))
]

pub plan-listed : (I : Instance) (P : Plan) → IsLegal I P → length P.lockages ≤ most_lockages I.ships
plan-listed I P legal = listed I.ships (length P.lockages) (few-lockages I P legal)

pub prices-formed : (I : Instance) (prices : PriceList) → ArePrices prices → AreShapedPrices I prices → AreFormedPrices (most_lockages I.ships) prices
prices-formed I prices are shaped =
    let count = shaped.count in
    let some = I.limits.ship_count.0 in
    ((omega (arith, count, some), listed I.ships (length prices.ships) (omega (arith, count))), are)

-- a mark may name each ship
probed : (ships : List Ship) (s : ℕ) → length ships ≤ SHIPS → s < length ships → s < probed_ships (numbering_of ships)
unfolding numbering_of is_large
probed ships s few known = elim (leb_tells (suc FEW_SHIPS) (length ships)) [
  | inl large ↦ subst (λ t. s < probed_ships (cond t Many Few)) (sym large.0) (omega (arith, few, known))
  | inr small ↦ subst (λ t. s < probed_ships (cond t Many Few)) (sym small.0) (omega (arith, small.1, known))
]

-- ---- marks

pub less-trans : (k m n : ℕ) → k < m → m < n → k < n
less-trans k m n low high = omega (arith, low, high)

module _ (b : Book) (states : KeepsStates b) (few_prices : length b.prices < 2 ^ 63) (few : length b.cuts < 2 ^ 63) where
  pub ground-formed : (id : ℕ) → id < length b.slots → (why : Ground) → (slot_at b id).state ≡ slot.Closed why → IsFormedGround (numbering_of b.case.instance.ships) why
  ground-formed id known why is = by_ground why (state-tells b id (slot.Closed why) states (record { known = known; is = is }))
    where
      by_ground : (why : Ground) → TellsAt b id (slot.Closed why) → IsFormedGround (numbering_of b.case.instance.ships) why
      by_ground by.Bound h = tt
      by_ground by.Throughput h = tt
      by_ground (by.Probe s) h =
          let I = b.case.instance in
          let k = (slot_at b id).node.depth in
          probed I.ships s I.limits.ship_count.1 (missing-known I k s (contains-times (missing_ships I k) s h.0))
      by_ground (by.Cut number) h = less-trans number (length b.cuts) (2 ^ 63) (slice_get_within b.cuts number h.cut h.there) few
      by_ground (by.Price number) h = less-trans number (length b.prices) (2 ^ 63) (slice_get_within b.prices number h.own h.there) few_prices
      by_ground (by.Swept number) h = less-trans number (length b.prices) (2 ^ 63) (slice_get_within b.prices number h.own h.there) few_prices
