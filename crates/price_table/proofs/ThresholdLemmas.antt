-- Successors of a route that are counted without a look at what comes behind them.
use Rattle.std.proofs.Common.{◌≡◌, ℕ, ◌<◌, ◌≤◌, to_z, of_z, w64, ℤ, pos, neg_ℤ, ◌+ℤ◌, ◌-ℤ◌, ◌≤ℤ◌, ◌⊎◌, inl, inr, Some, None, List, length, drop, sym, ap, ◌∙◌, subst, arith}
use Rattle.std.specs.declared.option.Option.{Option}
use Rattle.std.proofs.lemmas.Int.{ints}
use Rattle.std.proofs.lemmas.List.{length-drop}
use Rattle.lock_model.specs.declared.instance.Instance.{Instance}
use Rattle.lock_model.specs.declared.group.Group.{Group}
use Rattle.lock_rules.specs.Lawful.{stand_after}
use Rattle.price_rules.specs.Prices.{PriceList, PlainCut, IsLoose}
use Rattle.price_successors.specs.declared.successor.Successor.{Successor}
use Rattle.price_table.specs.declared.ready.Ready.{Ready}
use Rattle.price_table.specs.declared.route.Route.{Route}
use Rattle.price_table.specs.declared.route.Threshold.{Threshold}
use Rattle.price_groups.specs.Asks.{LineAsk}
use Rattle.price_groups.specs.Worth.{end_after, worth_of, worth_from}
use Rattle.price_successors.specs.Successors.{Keeps, Leads}
use Rattle.price_table.specs.Values.{IsValue, IsRoute, IsThreshold}
use Rattle.price_table.proofs.FrameLemmas.{IsFar, far-rounded, one-way}
use Rattle.price_successors.proofs.ServeLemmas.{worth-later}

module _ (L : LineAsk) (known : L.chamber < length L.instance.chambers) (ready : Ready) (route : Route) where
  abbrev I : Instance
  I = L.instance

  abbrev c : ℕ
  c = L.chamber

  abbrev cuts : List PlainCut
  cuts = L.cuts

  abbrev k : ℕ
  k = L.depth

  abbrev prices : PriceList
  prices = L.prices

  abbrev line : List Group
  line = L.line

  abbrev worth : Successor → ℤ
  worth h = worth_of I c k prices ready.state.stand ready.state.minute h.group

  -- what the threshold before all successors leaves out gains nothing
  pub threshold-first : (best : ℤ) (threshold : Threshold) → neg_ℤ (pos 2000000000000000) ≤ℤ threshold.worth → threshold.worth ≤ℤ pos 2000000000000000 → ((w : ℤ) → threshold.worth ≤ℤ w → w ≤ℤ pos 30000000000 → (route.joins ≡ None) × (pos 0 ≤ℤ w)) → IsThreshold L ready route best threshold
  threshold-first best threshold low high gainless = record {
    low = low;
    high = high;
    over = λ h is joins way late more small q leads. let told = gainless (worth h) more small in inr (joins ∙ told.0, told.1);
  }

  -- What ends no sooner than a successor whose value behind it is known comes to no less by its worth and that value.
  pub threshold-next : (horizon : ℕ) (best v : ℤ) (end : ℕ) (threshold : Threshold) → IsRoute ready route → threshold.end ≡ end → neg_ℤ (pos 2000000000000000) ≤ℤ threshold.worth → threshold.worth ≤ℤ pos 2000000000000000
      → ((w : ℤ) → threshold.worth ≤ℤ w → ((best -ℤ v) ≤ℤ w) ⊎ ((route.joins ≡ None) × (pos 0 ≤ℤ w)))
      → IsValue L horizon route.place (stand_after route.way) end v → IsThreshold L ready route best threshold
  threshold-next horizon best v end threshold is ends low high least value = record {
    low = low;
    high = high;
    over = λ h successor joins way late more small q leads. elim (least (worth h) more) [
      | inl gap ↦ inl (λ gs loose.
          let later : ℕ = end_after I c ready.state.stand ready.state.minute h.group in
          let same : q ≡ route.place = one-way route.joins ready.state.place q route.place (subst (λ to. Leads to ready.state.place q) joins leads) is.leads in
          let behind = value.least.below gs (subst (λ q. IsLoose I c cuts k (drop q line) gs) same loose) in
          let on = worth-later I c known k prices (stand_after route.way) end later gs (omega (arith, late, ends)) in
          subst (λ way. best ≤ℤ (worth h +ℤ worth_from I c k prices (stand_after way) later gs)) (sym way) (below best v (worth h) _ _ gap behind on))
      | inr idle ↦ inr (joins ∙ idle.0, idle.1)
    ];
  }
    where
      below : (b v w x y : ℤ) → (b -ℤ v) ≤ℤ w → v ≤ℤ x → x ≤ℤ y → b ≤ℤ (w +ℤ y)
      below b v w x y h j l = omega (arith, ints)

-- the difference of numbers far from the ends of their type
pub gap-plain : (b v w : ℤ) → IsFar b → IsFar v → to_z w64 (of_z w64 (to_z w64 (of_z w64 b) -ℤ to_z w64 (of_z w64 v))) ≤ℤ w → (b -ℤ v) ≤ℤ w
gap-plain b v w far-b far-v h = outer b v w far-b far-v (subst (λ x. to_z w64 (of_z w64 x) ≤ℤ w) (λ i. far-rounded b far-b i -ℤ far-rounded v far-v i) h)
  where
    outer : (b v w : ℤ) → IsFar b → IsFar v → to_z w64 (of_z w64 (b -ℤ v)) ≤ℤ w → (b -ℤ v) ≤ℤ w
    outer b v w far-b far-v h = let low = far-b.0 in let high = far-b.1 in let least = far-v.0 in let most = far-v.1 in omega (arith, ints)

-- a successor that may come next leads to a place of the line, or to its end
pub leads-within : (L : LineAsk) (to : Option ℕ) (g : Group) (p q : ℕ) → Keeps L to g → Leads to p q → p ≤ length L.line → q ≤ length L.line
leads-within L None g p q keeps leads inside = subst (λ q. q ≤ length L.line) leads inside
leads-within L (Some j) g p q keeps leads inside = omega (arith, ap length keeps, length-drop j L.line, leads.0, leads.1)
