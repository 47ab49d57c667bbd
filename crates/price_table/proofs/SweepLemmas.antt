-- Counting a successor of a route by the value that is remembered behind it.
use Rattle.std.proofs.Common.{◌≡◌, ℕ, ◌<◌, ◌≤◌, ℤ, pos, neg_ℤ, ◌+ℤ◌, ◌≤ℤ◌, to_z, of_z, w64, List, length, All, sym, ap, ◌∙◌, subst}
use Rattle.std.specs.Int.{int_min}
use Rattle.lock_model.specs.declared.instance.Instance.{Instance}
use Rattle.lock_model.specs.declared.group.Group.{Group}
use Rattle.lock_model.specs.declared.way.Stand.{Stand}
use Rattle.lock_rules.specs.Lawful.{stand_after}
use Rattle.price_rules.specs.Prices.{PriceList, PlainCut}
use Rattle.price_successors.specs.declared.successor.Successor.{Successor}
use Rattle.price_table.specs.declared.ready.Ready.{Ready}
use Rattle.price_table.specs.declared.route.Route.{Route}
use Rattle.price_table.specs.declared.values.Values.{Values}
use Rattle.price_groups.specs.Asks.{LineAsk}
use Rattle.price_groups.specs.Worth.{end_after, worth_of, IsKeptGroup}
use Rattle.price_successors.specs.Successors.{IsSuccessor, Leads}
use Rattle.price_successors.specs.Counted.{IsCounted}
use Rattle.price_table.specs.Values.{IsValue, key_of, IsRemembered, AreValues, IsBest, IsRoute}
use Rattle.price_table.proofs.FrameLemmas.{IsFar, best-counted, counted-value, far-rounded, lesser-less, lesser-rounded, value-far, worth-far}

-- what is far from the ends of its type is as far when it is rounded to it
pub low-rounded : (v : ℤ) → IsFar v → neg_ℤ (pos 1000000000000000) ≤ℤ to_z w64 (of_z w64 v)
low-rounded v far = subst (λ x. neg_ℤ (pos 1000000000000000) ≤ℤ x) (sym (far-rounded v far)) far.0

pub high-rounded : (v : ℤ) → IsFar v → to_z w64 (of_z w64 v) ≤ℤ pos 1000000000000000
high-rounded v far = subst (λ x. x ≤ℤ pos 1000000000000000) (sym (far-rounded v far)) far.1

module _ (L : LineAsk) (known : L.chamber < length L.instance.chambers) (horizon : ℕ) (small : horizon ≤ 1010000) where
  abbrev I : Instance
  I = L.instance

  abbrev c : ℕ
  c = L.chamber

  abbrev cuts : List PlainCut
  cuts = L.cuts

  abbrev k : ℕ
  k = L.depth

  abbrev prices : PriceList
  prices = L.prices

  abbrev line : List Group
  line = L.line

  -- a remembered value is so
  pub told-far : (values : Values) → AreValues L horizon values → (p : ℕ) (stand : Stand) (minute : ℕ) (v : ℤ) → p ≤ length line → IsRemembered values (key_of values.places p stand minute) v → IsFar v
  told-far values are p stand minute v within held =
      let value = are.told p stand minute v within held in
      value-far v horizon minute small value.low value.high

  -- The lesser of the best so far and of what the successor comes to is the best then, and by it the successor is counted.
  pub swept-next : All (IsKeptGroup I k) line → (values : Values) → AreValues L horizon values
      → (ready : Ready) (route : Route) (h : Successor) → ready.state.minute < horizon → IsRoute ready route → route.place ≤ length line → IsSuccessor L h → h.joins ≡ route.joins → h.group.way ≡ route.way
      → (stand : Stand) (end : ℕ) (v w best lesser : ℤ) → stand ≡ stand_after route.way → end ≡ end_after I c ready.state.stand ready.state.minute h.group → IsRemembered values (key_of values.places route.place stand end) v
      → w ≡ worth_of I c k prices ready.state.stand ready.state.minute h.group → neg_ℤ (pos 808000000) ≤ℤ w → w ≤ℤ pos 30000000000
      → IsBest L horizon ready.state.place ready.state.stand ready.state.minute best
      → lesser ≡ int_min (to_z w64 (of_z w64 best)) (to_z w64 (of_z w64 w) +ℤ to_z w64 (of_z w64 v))
      → IsBest L horizon ready.state.place ready.state.stand ready.state.minute (to_z w64 (of_z w64 lesser))
      × IsCounted L ready.state.stand ready.state.minute ready.state.place (to_z w64 (of_z w64 lesser)) h
      × (to_z w64 (of_z w64 lesser) ≤ℤ best)
  swept-next own values are ready route h early is within successor joins way stand end v w best lesser stands ends held worth low high was least = (
    subst (IsBest L horizon ready.state.place ready.state.stand ready.state.minute) same (best-counted L known horizon own ready.state.place ready.state.stand ready.state.minute h successor route.place leads best w v early worth low behind was),
    subst (λ best. IsCounted L ready.state.stand ready.state.minute ready.state.place best h) same (counted-value L known horizon own ready.state.place ready.state.stand ready.state.minute h successor route.place leads best w v early worth low behind),
    subst (λ x. x ≤ℤ best) same (lesser-less best w v),
  )
    where
      leads : Leads h.joins ready.state.place route.place
      leads = subst (λ to. Leads to ready.state.place route.place) (sym joins) is.leads

      behind : IsValue L horizon route.place (stand_after h.group.way) (end_after I c ready.state.stand ready.state.minute h.group) v
      behind = subst (λ stand. IsValue L horizon route.place stand (end_after I c ready.state.stand ready.state.minute h.group) v) (stands ∙ ap stand_after (sym way))
          (subst (λ end. IsValue L horizon route.place stand end v) ends (are.told route.place stand end v within held))

      same : int_min best (w +ℤ v) ≡ to_z w64 (of_z w64 lesser)
      same = lesser-rounded lesser best w v (value-far best horizon ready.state.minute small was.low was.high) (worth-far w low high) (told-far values are route.place stand end v within held) least
