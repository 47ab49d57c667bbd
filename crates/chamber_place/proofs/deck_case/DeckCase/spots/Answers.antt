use Rattle.std.proofs.Common.{◌≡◌, ◌<◌, ℕ, ℤ, List, length, sym, ap, ◌∙◌, subst, arith}
use Rattle.diff_system.specs.PathTree.{PathTree, IsSmall}
use Rattle.refute_rules.specs.Cases.{AreSpotsOf}
use Rattle.chamber_place.specs.OnItsWay.{Progress}
use Rattle.chamber_place.specs.Spotting.{IsBerthDecided, AreFirstSpots}
use Rattle.chamber_place.proofs.EnterLemmas.{good-bounds, good-settled}
use Rattle.chamber_place.proofs.PlaceLemmas.{first-spots}
use Rattle.chamber_place.proofs.deck_case.DeckCase.spots.Goals as goal

pub bounds-as_slice-choices : goal.bounds-as_slice-choices
bounds-as_slice-choices c =
    let i = c.self.inside in
    subst (λ (ts : List PathTree). length c.as_slice-choices.result.now < length ts) (sym c.as_slice.ensures.value)
    (good-bounds i.deck i.decisions i.choices.items i.edges i.paths.items i.fault c.self.invariant c.args.self.now c.self.view_is c.requires.good c.as_slice-choices.result.now c.as_slice-choices.ensures.value)

pub spots_of-requires-clause-known : goal.spots_of-requires-clause-known
spots_of-requires-clause-known c =
    let i = c.self.inside in
    let settled = good-settled i.deck i.decisions i.choices.items i.edges i.paths.items i.fault c.self.invariant c.args.self.now c.self.view_is c.requires.good c.as_slice-choices.result.now c.as_slice-choices.ensures.value c.as_slice.result.now c.as_slice.ensures.value c.index-as_slice-choices.result c.index-as_slice-choices.is in
    let values : c.as_slice-2.result.now ≡ c.index-as_slice-choices.result.values = c.as_slice-2.ensures.value ∙ c.values.ensures in
    let l : length c.as_slice-2.result.now ≡ length c.index-as_slice-choices.result.values = ap length values in
    let count = settled.longest.least.solution.count in
    let ships = c.ship_count.ensures.value in omega (arith, l, count, ships)

pub spots_of-requires-clause-decided : goal.spots_of-requires-clause-decided
spots_of-requires-clause-decided c =
    let i = c.self.inside in
    λ k h. subst (λ ps. IsBerthDecided ps k) (sym c.as_slice-choices.ensures.value)
    ((subst (λ (v : Progress). (j : ℕ) → j < length v.deck.ships → IsBerthDecided v.case j) (sym c.self.view_is) c.requires.decided) k (subst (λ n. k < n) c.ship_count.ensures.value h))

pub spots_of-requires-clause-small : goal.spots_of-requires-clause-small
spots_of-requires-clause-small c =
    let i = c.self.inside in
    let settled = good-settled i.deck i.decisions i.choices.items i.edges i.paths.items i.fault c.self.invariant c.args.self.now c.self.view_is c.requires.good c.as_slice-choices.result.now c.as_slice-choices.ensures.value c.as_slice.result.now c.as_slice.ensures.value c.index-as_slice-choices.result c.index-as_slice-choices.is in
    let values : c.as_slice-2.result.now ≡ c.index-as_slice-choices.result.values = c.as_slice-2.ensures.value ∙ c.values.ensures in
    λ v h. subst (λ (vs : List ℤ). IsSmall vs v) (sym values) (settled.longest.is_tree.small v (subst (λ n. v < n) settled.longest.least.solution.count (subst (λ (vs : List ℤ). v < length vs) values h)))

pub returns : goal.returns
returns c =
    let i = c.self.inside in
    let settled = good-settled i.deck i.decisions i.choices.items i.edges i.paths.items i.fault c.self.invariant c.args.self.now c.self.view_is c.requires.good c.as_slice-choices.result.now c.as_slice-choices.ensures.value c.as_slice.result.now c.as_slice.ensures.value c.index-as_slice-choices.result c.index-as_slice-choices.is in
    let values : c.as_slice-2.result.now ≡ c.index-as_slice-choices.result.values = c.as_slice-2.ensures.value ∙ c.values.ensures in
    let first = subst (λ (vs : List ℤ). AreFirstSpots c.as_slice-choices.result.now vs c.ship_count.result c.spots_of.result) values c.spots_of.ensures in
    let all = first-spots i.deck c.as_slice-choices.result.now c.index-as_slice-choices.result c.spots_of.result settled (subst (λ n. AreFirstSpots c.as_slice-choices.result.now c.index-as_slice-choices.result.values n c.spots_of.result) c.ship_count.ensures.value first) in
    subst (λ (v : Progress). AreSpotsOf v.deck v.case c.spots_of.result) (ap (λ ps. record { deck = i.deck; case = ps }) c.as_slice-choices.ensures.value ∙ c.self.view_is) all
