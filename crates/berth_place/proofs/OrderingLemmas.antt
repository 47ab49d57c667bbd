-- A case that decides all berths, with one order more.
use Rattle.std.proofs.Common.{◌≡◌, ℕ, zero, suc, ◌+◌, ◌<◌, ◌≤◌, ◌⊎◌, List, [], ◌∷◌, ◌++◌, length, slice_index_or, inl, inr, refl, sym, ap, ◌∙◌, subst, arith, length-append}
use Rattle.lock_model.specs.Deck.{Deck, IsDeck}
use Rattle.lock_model.specs.Placement.{IsLegalPlacement}
use Rattle.lock_model.specs.declared.placement.Spot.{Spot}
use Rattle.diff_rules.specs.Differences.{IsSystem, IsSimpleCycle}
use Rattle.diff_system.specs.PathTree.{PathTree, AreLongest}
use Rattle.refute_rules.specs.declared.choices.Choice.{Choice}
use Rattle.refute_rules.specs.declared.choices.Choice.TheVariants.{Before}
use Rattle.refute_rules.specs.BerthCases.{HasOrder, ObeyAlong}
use Rattle.refute_rules.specs.BerthTrees.{OfOrder, AreUnordered, split_options}
use Rattle.berth_check.specs.Raises.{AreKnown}
use Rattle.berth_check.proofs.OptionLemmas.{extended-known}
use Rattle.berth_place.specs.declared.pairs.Pair.{Pair}
use Rattle.berth_place.specs.declared.search.Search.{Search}
use Rattle.berth_place.specs.Along.{place_count, order_edges, first_edges, along_edges}
use Rattle.berth_place.specs.Known.{AreBerths, AreDecided, AreSoundShips, HasAllBerths}
use Rattle.berth_place.specs.Pairs.{IsPair, pair, ArePairs, AreAllPairs, AreFirstApart, AreNotApart, ArePairsBut}
use Rattle.berth_place.specs.Spotting.{AreSpotsSoFar}
use Rattle.berth_place.specs.Visits.{order_of, IsCounted, TakesOrder, IsOrdering, IsOrderedOn, IsTakenPair}
use Rattle.berth_place.proofs.AlongLemmas.{along_system, along_more, along_berths, solution_obeys, cycle_refutes}
use Rattle.berth_place.proofs.WholeLemmas.{whole_more, order_last, sound_whole}
use Rattle.berth_place.proofs.PairLemmas.{pair_at, pair_number, pairs_left, all_left}
use Rattle.berth_place.proofs.SpotLemmas.{small_values, places_of, places_values, spots_values, spots_legal, touching_open}

-- the order that an option of a pair stands for
pub record IsOrderOf (p : Pair) (option : ℕ) : Type 0 where
  pub first : ℕ
  pub second : ℕ
  pub is : order_of p option ≡ Before first second
  pub ends : ((first ≡ p.lower) × (second ≡ p.upper)) ⊎ ((first ≡ p.upper) × (second ≡ p.lower))

order-told : (p : Pair) (option : ℕ) → IsOrderOf p option
order-told p zero = record { first = p.lower; second = p.upper; is = refl; ends = inl (refl, refl) }
order-told p (suc option) = record { first = p.upper; second = p.lower; is = refl; ends = inr (refl, refl) }

pub option_told : (d : Deck) (p : Pair) (option : ℕ) → option < 2 → slice_index_or (split_options d (OfOrder p.lower p.upper)) option (Before 0 0) ≡ order_of p option
option_told d p zero h = refl
option_told d p (suc zero) h = refl
option_told d p (suc (suc option)) h = absurd (omega (arith, h))

-- ---- the case at hand

module _ (d : Deck) (s : Search) (ordering : IsOrdering d s) where
  pub no_places : (numbers : List ℕ) → IsSimpleCycle s.edges numbers → (x : ℕ → ℕ) → ObeyAlong d s.case x → ⊥
  no_places numbers cycle x obey = cycle_refutes d s.case ordering.known x obey numbers (subst (λ es. IsSimpleCycle es numbers) ordering.edges cycle).cycle

  pub ordering_system : IsSystem s.edges (place_count d)
  ordering_system = subst (λ es. IsSystem es (place_count d)) (sym ordering.edges) (along_system d s.case ordering.known ordering.limits)

  module _ (tree : PathTree) (longest : AreLongest s.edges (place_count d) tree) where
    along-longest : AreLongest (along_edges d s.case) (place_count d) tree
    along-longest = subst (λ es. AreLongest es (place_count d) tree) ordering.edges longest

    pub placed_legal : (spots : List Spot) (ps : List Pair) → AreSpotsSoFar d s.case tree.values (length d.ships) spots → AreAllPairs d s.case ps (length d.ships) → AreFirstApart d tree.values ps (length ps) → IsLegalPlacement d spots
    placed_legal spots ps are all apart =
        let obey = solution_obeys d s.case ordering.known tree.values _ (spots_values d s.case ordering.known ordering.whole tree.values spots are) along-longest.least.solution in
        spots_legal d s.case ordering.known ordering.whole tree.values spots are obey ps all apart

    pub pair_open : (ps : List Pair) (number : ℕ) → ArePairs d s.case ps → AreNotApart d tree.values ps number → AreUnordered d s.case (pair_at ps number).lower (pair_at ps number).upper
    pair_open ps number pairs touching =
        let at = places_values d tree.values (small_values d (along_edges d s.case) tree along-longest) in
        let obey = solution_obeys d s.case ordering.known tree.values (places_of tree.values) at along-longest.least.solution in
        touching_open d s.case tree.values (places_of tree.values) at obey ps number pairs touching

-- ---- one order more

module _ (d : Deck) (old inner : Search) (ordering : IsOrdering d old) (ps left : List Pair) (number option : ℕ) where
  abbrev p : Pair
  p = pair_at ps number

  pub ordered_on : ArePairs d old.case ps → AreAllPairs d old.case ps (length d.ships) → number < length ps → ArePairsBut ps number left → length old.edges + length ps ≤ 96 → inner.case ≡ old.case ++ order_of p option ∷ [] → inner.edges ≡ old.edges ++ order_edges d (order_of p option ∷ []) → inner.tried ≤ inner.turns → IsOrderedOn d inner left
  ordered_on pairs all here but room case edges few =
      let told = order-told p option in
      let is = pair_number d old.case ps number pairs here in
      let whole : inner.case ≡ old.case ++ Before told.first told.second ∷ [] = case ∙ ap (λ c. old.case ++ c ∷ []) told.is in
      let drawn : inner.edges ≡ old.edges ++ order_edges d (Before told.first told.second ∷ []) = edges ∙ ap (λ c. old.edges ++ order_edges d (c ∷ [])) told.is in
      let longer : length inner.edges ≡ length old.edges + 1 = ap length drawn ∙ length-append old.edges (order_edges d (Before told.first told.second ∷ [])) in
      let fewer = but.fewer in
      let known = ends-known told.first told.second told.ends is in
      record {
        ordering = record {
          limits = ordering.limits;
          whole = subst (HasAllBerths d) (sym whole) (whole_more d old.case told.first told.second ordering.whole);
          known = subst (AreKnown d) (sym whole) (extended-known d old.case (Before told.first told.second) ordering.known known);
          edges = drawn ∙ ap (λ es. es ++ order_edges d (Before told.first told.second ∷ [])) ordering.edges ∙ sym (along_more d old.case told.first told.second) ∙ ap (along_edges d) (sym whole);
          few = few;
        };
        pairs = subst (λ cs. ArePairs d cs left) (sym whole) (pairs_left d old.case told.first told.second ps left number pairs but);
        all = subst (λ cs. AreAllPairs d cs left (length d.ships)) (sym whole) (all_left d old.case told.first told.second ps left number (length d.ships) all but (λ i j e. taken told i j e));
        room = omega (arith, longer, fewer, room);
      }
    where
      ends-known : (a b : ℕ) → ((a ≡ p.lower) × (b ≡ p.upper)) ⊎ ((a ≡ p.upper) × (b ≡ p.lower)) → IsPair d old.case p → (a < length d.ships) × (b < length d.ships)
      ends-known a b (inl e) is = let lower = e.0 in let upper = e.1 in let rising = is.rising in let known = is.known in (omega (arith, lower, rising, known), omega (arith, upper, known))
      ends-known a b (inr e) is = let upper = e.0 in let lower = e.1 in let rising = is.rising in let known = is.known in (omega (arith, upper, known), omega (arith, lower, rising, known))

      taken : (told : IsOrderOf p option) (i j : ℕ) → p ≡ pair i j → HasOrder (old.case ++ Before told.first told.second ∷ []) i j ⊎ HasOrder (old.case ++ Before told.first told.second ∷ []) j i
      taken told i j e = by-ends told.ends
        where
          last : HasOrder (old.case ++ Before told.first told.second ∷ []) told.first told.second
          last = order_last d old.case told.first told.second

          lower-is : p.lower ≡ i
          lower-is = ap (λ (q : Pair). q.lower) e

          upper-is : p.upper ≡ j
          upper-is = ap (λ (q : Pair). q.upper) e

          by-ends : ((told.first ≡ p.lower) × (told.second ≡ p.upper)) ⊎ ((told.first ≡ p.upper) × (told.second ≡ p.lower)) → HasOrder (old.case ++ Before told.first told.second ∷ []) i j ⊎ HasOrder (old.case ++ Before told.first told.second ∷ []) j i
          by-ends (inl h) = inl (subst (λ u. HasOrder (old.case ++ Before told.first told.second ∷ []) i u) (h.1 ∙ upper-is) (subst (λ u. HasOrder (old.case ++ Before told.first told.second ∷ []) u told.second) (h.0 ∙ lower-is) last))
          by-ends (inr h) = inr (subst (λ u. HasOrder (old.case ++ Before told.first told.second ∷ []) j u) (h.1 ∙ lower-is) (subst (λ u. HasOrder (old.case ++ Before told.first told.second ∷ []) u told.second) (h.0 ∙ upper-is) last))

-- ---- all berths are decided

pub ordering_begun : (d : Deck) (case : List Choice) (s : Search) → IsDeck d → AreKnown d case → AreBerths case → AreDecided case (length d.ships) → AreSoundShips d case (length d.ships) → s.case ≡ case → s.edges ≡ first_edges d case (length d.ships) → s.tried ≤ s.turns → IsOrdering d s
ordering_begun d case s limits known berths decided sound same edges few = record {
  limits = limits;
  whole = subst (HasAllBerths d) (sym same) (sound_whole d case known decided sound);
  known = subst (AreKnown d) (sym same) known;
  edges = edges ∙ sym (along_berths d case berths) ∙ ap (along_edges d) (sym same);
  few = few;
}

-- an order of a pair that was taken out
pub taken_known : (d : Deck) (s : Search) (ps left : List Pair) (number : ℕ) (q : Pair) → IsTakenPair d s ps number q left → IsPair d s.case q
taken_known d s ps left number q taken = subst (IsPair d s.case) (sym taken.is) (pair_number d s.case ps number taken.pairs taken.known)

pub taken_on : (d : Deck) (old counted inner : Search) (ps left : List Pair) (number option : ℕ) (q : Pair) → IsOrdering d old → IsTakenPair d old ps number q left → IsCounted old counted → counted.tried ≤ counted.turns → TakesOrder d q option counted inner → IsOrderedOn d inner left
taken_on d old counted inner ps left number option q ordering taken count few takes =
    let turns = takes.turns in
    let tried = takes.tried in
    ordered_on d old inner ordering ps left number option taken.pairs taken.all taken.known taken.but taken.room
    (takes.case ∙ ap (λ cs. cs ++ order_of q option ∷ []) count.case ∙ ap (λ (u : Pair). old.case ++ order_of u option ∷ []) taken.is)
    (takes.edges ∙ ap (λ es. es ++ order_edges d (order_of q option ∷ [])) count.edges ∙ ap (λ (u : Pair). old.edges ++ order_edges d (order_of u option ∷ [])) taken.is)
    (omega (arith, few, turns, tried))
