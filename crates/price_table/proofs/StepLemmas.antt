-- When the least of what the successors come to is the value of a state.
use Rattle.std.proofs.Common.{◌≡◌, ℕ, suc, Bool, true, ◌<◌, ◌≤◌, ℤ, pos, ◌+ℤ◌, ◌≤ℤ◌, inl, inr, Some, None, List, [], ◌∷◌, length, drop, filter, All, Contains, refl, sym, ◌∙◌, subst, arith}
use Rattle.std.specs.declared.option.Option.{Option}
use Rattle.std.proofs.lemmas.Int.{ints}
use Rattle.std.proofs.lemmas.List.Elements.{All-head, All-tail, All-weaker}
use Rattle.list_laws.proofs.Variants.{some-not_none}
use Rattle.list_laws.proofs.Lists.{drop-next}
use Rattle.lock_model.specs.declared.instance.Instance.{Instance}
use Rattle.lock_model.specs.declared.group.Group.{Group}
use Rattle.lock_model.specs.declared.way.Stand.{Stand}
use Rattle.lock_rules.specs.Lawful.{stand_after}
use Rattle.lock_rules.specs.Arrival.{first_ships}
use Rattle.lock_rules.specs.Trace.{has_number, with_group, trace_by}
use Rattle.lock_rules.proofs.LeafLemmas.{trace-whole}
use Rattle.price_rules.specs.Prices.{PriceList, PlainCut, IsUncut, IsLoose}
use Rattle.price_successors.specs.declared.successor.Successor.{Successor}
use Rattle.price_groups.specs.Asks.{LineAsk}
use Rattle.price_groups.specs.Worth.{end_after, worth_of, worth_from, IsWorth, IsLeastWorth, IsKeptGroup, IsHorizon}
use Rattle.price_successors.specs.Successors.{Keeps, Leads}
use Rattle.price_successors.specs.Counted.{IsBelow, IsCounted}
use Rattle.price_successors.specs.Dominance.{IsGainless, IsDominated}
use Rattle.price_successors.specs.Enough.{AreEnoughSuccessors}
use Rattle.price_successors.proofs.ServeLemmas.{serve-later, serve-line, worth-skipped}
use Rattle.price_table.proofs.LineLemmas.{worth-next, late-least}

module _ (L : LineAsk) (known : L.chamber < length L.instance.chambers) where
  abbrev I : Instance
  I = L.instance

  abbrev c : ℕ
  c = L.chamber

  abbrev cuts : List PlainCut
  cuts = L.cuts

  abbrev k : ℕ
  k = L.depth

  abbrev prices : PriceList
  prices = L.prices

  abbrev line : List Group
  line = L.line

  abbrev kept_test : ℕ → Bool
  kept_test = has_number (first_ships I k)

  -- uncut groups of the first ships are a loose line of themselves
  pub own-loose : (line : List Group) → All (IsUncut I c cuts) line → All (IsKeptGroup I k) line → IsLoose I c cuts k line line
  own-loose line uncut own = record {
    uncut = uncut;
    trace = trace-whole kept_test line (All-weaker (IsKeptGroup I k) (λ g. 1 ≤ length g.ships) (λ g h. h.some) line own) (All-weaker (IsKeptGroup I k) (λ g. All (λ s. kept_test s ≡ true) g.ships) (λ g h. h.kept) line own);
  }

  pub own-worth : (stand : Stand) (from : ℕ) (line : List Group) → All (IsUncut I c cuts) line → All (IsKeptGroup I k) line → IsWorth I c cuts k prices stand from line (worth_from I c k prices stand from line)
  own-worth stand from line uncut own = record { loose = line; is_loose = own-loose line uncut own; worth = refl }

  -- from the horizon on the line's own groups are worth least
  pub alone-least : (horizon : ℕ) → IsHorizon I k prices horizon → (stand : Stand) (from : ℕ) (line : List Group) → horizon ≤ from → All (IsUncut I c cuts) line → All (IsKeptGroup I k) line
      → IsLeastWorth I c cuts k prices stand from line (Some (worth_from I c k prices stand from line))
  alone-least horizon late stand from line past uncut own = record {
    below = λ loose is.
        subst (λ line. worth_from I c k prices stand from line ≤ℤ worth_from I c k prices stand from loose) is.trace
        (late-least I c k prices known horizon late stand from loose past (All-weaker (IsUncut I c cuts) (λ g. All (λ s. s < length I.ships) g.ships) (λ g h. h.known) loose is.uncut));
    reached = own-worth stand from line uncut own;
  }

  module _ (successors : List Successor) (are : AreEnoughSuccessors L successors) (stand : Stand) (from p : ℕ) (best : ℤ) (stop : best ≤ℤ worth_from I c k prices stand from (drop p line)) (counted : (h : Successor) → Contains successors h → IsCounted L stand from p best h) where
    -- a successor that serves as well as the first group of a loose line
    served-below : (g : Group) (gs : List Group) (to : Option ℕ) (q : ℕ) → Leads to p q → IsLoose I c cuts k (drop q line) gs → (to ≡ None → best ≤ℤ worth_from I c k prices stand from gs)
        → IsDominated L successors to g → best ≤ℤ worth_from I c k prices stand from (g ∷ gs)
    served-below g gs to q leads loose skip served =
        let h : Group = record { way = g.way; ships = served.successor.group.ships } in
        let same : served.successor.group ≡ h = λ i. record { way = served.way i; ships = served.successor.group.ships } in
        let here = serve-line I c known k prices g.way served.successor.group.ships g.ships stand from (serve-later I c k prices served.successor.group.ships g.ships 0 from (omega arith) served.as_good) gs in
        let next = worth-next I c k prices stand from g gs in
        elim (counted served.successor served.held q (subst (λ to. Leads to p q) (sym served.joins) leads)) [
          | inl below ↦ under best (worth_from I c k prices stand from (g ∷ gs)) (worth_of I c k prices stand from g +ℤ worth_from I c k prices (stand_after g.way) (end_after I c stand from g) gs)
              (worth_of I c k prices stand from h +ℤ worth_from I c k prices (stand_after g.way) (end_after I c stand from h) gs) next here (subst (IsBelow L stand from q best) same below gs loose)
          | inr idle ↦ over best (worth_from I c k prices stand from (g ∷ gs)) (worth_of I c k prices stand from g +ℤ worth_from I c k prices (stand_after g.way) (end_after I c stand from g) gs)
              (worth_of I c k prices stand from h) (worth_from I c k prices (stand_after g.way) (end_after I c stand from h) gs) (worth_from I c k prices stand from gs) next here
              (subst (λ h. pos 0 ≤ℤ worth_of I c k prices stand from h) same idle.1) (worth-skipped I c known k prices stand from h gs) (skip (sym served.joins ∙ idle.0))
        ]
      where
        under : (b w v u : ℤ) → w ≡ v → u ≤ℤ v → b ≤ℤ u → b ≤ℤ w
        under b w v u e h j = omega (arith, ints)

        over : (b w v x y z : ℤ) → w ≡ v → (x +ℤ y) ≤ℤ v → pos 0 ≤ℤ x → z ≤ℤ y → b ≤ℤ z → b ≤ℤ w
        over b w v x y z e h j l m = omega (arith, ints)

    -- a group that gains nothing
    vain-below : (g : Group) (gs : List Group) → IsGainless L 0 None g → best ≤ℤ worth_from I c k prices stand from gs → best ≤ℤ worth_from I c k prices stand from (g ∷ gs)
    vain-below g gs vain skip = over best _ _ _ _ (worth-next I c k prices stand from g gs) (vain.gainless stand from (omega arith)) (worth-skipped I c known k prices stand from g gs) skip
      where
        over : (b w x y z : ℤ) → w ≡ (x +ℤ y) → pos 0 ≤ℤ x → z ≤ℤ y → b ≤ℤ z → b ≤ℤ w
        over b w x y z e h j l = omega (arith, ints)

    -- no loose line is worth less
    pub all-below : (loose : List Group) → IsLoose I c cuts k (drop p line) loose → best ≤ℤ worth_from I c k prices stand from loose
    all-below [] is = subst (λ line. best ≤ℤ worth_from I c k prices stand from line) (sym is.trace) stop
    all-below (g ∷ gs) is = next (filter kept_test g.ships) refl is.trace (all-below gs)
      where
        uncut : All (IsUncut I c cuts) gs
        uncut = All-tail (IsUncut I c cuts) g gs is.uncut

        next : (ks : List ℕ) → filter kept_test g.ships ≡ ks → with_group g.way ks (trace_by kept_test gs) ≡ drop p line → (IsLoose I c cuts k (drop p line) gs → best ≤ℤ worth_from I c k prices stand from gs)
            → best ≤ℤ worth_from I c k prices stand from (g ∷ gs)
        next [] e t skip =
            let loose : IsLoose I c cuts k (drop p line) gs = record { uncut = uncut; trace = t } in
            elim (are.whole None g (All-head (IsUncut I c cuts) g gs is.uncut) e) [
              | inl served ↦ served-below g gs None p refl loose (λ _. skip loose) served
              | inr vain ↦ vain-below g gs vain (skip loose)
            ]
        next (s ∷ ss) e t skip =
            let rest : drop (suc p) line ≡ trace_by kept_test gs = drop-next p line (record { way = g.way; ships = s ∷ ss }) (trace_by kept_test gs) (sym t) in
            let keeps : Keeps L (Some p) g = sym t ∙ (λ i. record { way = g.way; ships = sym e i } ∷ sym rest i) in
            elim (are.whole (Some p) g (All-head (IsUncut I c cuts) g gs is.uncut) keeps) [
              | inl served ↦ served-below g gs (Some p) (suc p) (refl, refl) (record { uncut = uncut; trace = sym rest }) (λ none. absurd (some-not_none p none)) served
              | inr vain ↦ absurd (some-not_none p vain.alone)
            ]

    -- THE LEAST OF ALL CHOICES is the least worth, where some loose line is worth it.
    pub successors-least : IsWorth I c cuts k prices stand from (drop p line) best → IsLeastWorth I c cuts k prices stand from (drop p line) (Some best)
    successors-least reached = record { below = all-below; reached = reached }
