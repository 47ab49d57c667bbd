-- What least lines are kept under, and that they are least by it.
use Rattle.std.specs.Prelude.{ℕ, ◌≡◌, ◌≤◌, ◌≤ℤ◌, pos, neg_ℤ, Some, None, List, [], length, take, All, IfSome}
use Rattle.std.specs.declared.option.Option.{Option}
use Rattle.lock_model.specs.declared.instance.Instance.{Instance}
use Rattle.lock_model.specs.declared.group.Group.{Group}
use Rattle.price_rules.specs.Prices.{PriceList}
use Rattle.price_terms.specs.declared.cut.ChamberCut.{ChamberCut}
use Rattle.price_terms.specs.declared.loose_line.LooseLine.{LooseLine}
use Rattle.price_bound.specs.declared.terms.Terms.{Terms}
use Rattle.price_bound.specs.declared.keeping.KeptLine.{KeptLine}
use Rattle.price_groups.specs.Asks.{LineAsk}
use Rattle.price_table.specs.Lines.{IsLineFound}
use Rattle.price_table.specs.Values.{most_worth}
use Rattle.price_bound.specs.Asks.{kept_ask}
use Rattle.price_bound.specs.KeptGroups.{AreGroupsUnder}
use Rattle.price_bound.specs.declared.kept_groups.KeptGroups.{KeptGroups}

-- the terms name this instance, depth, prices and cuts
pub record AreTerms (I : Instance) (k : ℕ) (prices : PriceList) (cuts : List ChamberCut) (terms : Terms) : Type 0 where
  pub same_instance : terms.instance ≡ I
  pub same_depth : terms.depth ≡ k
  pub same_prices : terms.prices ≡ prices
  pub same_cuts : terms.cuts.items ≡ cuts

-- these cuts are the first of others
pub record AreFirst (some all : List ChamberCut) : Type 0 where
  pub few : length some ≤ length all
  pub same : take (length some) all ≡ some

-- the terms name this instance and depth, and the first of these cuts
pub record LeadTo (I : Instance) (k : ℕ) (cuts : List ChamberCut) (terms : Terms) : Type 0 where
  pub same_instance : terms.instance ≡ I
  pub same_depth : terms.depth ≡ k
  pub first_cuts : AreFirst terms.cuts.items cuts

-- the terms have gone on from n of these cuts to the first i of them
pub record HaveGone (I : Instance) (k : ℕ) (prices : PriceList) (cuts : List ChamberCut) (n i : ℕ) (terms : Terms) : Type 0 where
  pub are : AreTerms I k prices (take i cuts) terms
  pub from : n ≤ i
  pub to : i ≤ length cuts

-- what was found of a chamber's line, and how far its worth is from the ends of its type
pub record IsFound (L : LineAsk) (found : Option LooseLine) : Type 0 where
  pub least : IsLineFound L found
  pub low : IfSome found (λ line. neg_ℤ (pos 816080000000000) ≤ℤ line.worth)
  pub high : IfSome found (λ line. line.worth ≤ℤ pos most_worth)

-- what is kept was found under the terms
pub record IsKeptUnder (terms : Terms) (kept : KeptLine) : Type 0 where
  pub found : IsFound (kept_ask terms.instance kept.chamber terms.depth terms.prices terms.cuts.items kept.line.items) kept.least

-- all of these were found under the terms; without terms there are none
abbrev pub AreKeptUnder : Option Terms → List KeptLine → Type 0
AreKeptUnder None kept = kept ≡ []
AreKeptUnder (Some terms) kept = All (IsKeptUnder terms) kept

-- the terms are there, and name this instance, depth, prices and cuts
abbrev pub AreUnder : Instance → ℕ → PriceList → List ChamberCut → Option Terms → Type 0
AreUnder I k prices cuts None = ⊥
AreUnder I k prices cuts (Some terms) = AreTerms I k prices cuts terms

-- what is kept is of this chamber and this line of it
pub record IsOf (c : ℕ) (line : List Group) (kept : KeptLine) : Type 0 where
  pub same_chamber : kept.chamber ≡ c
  pub same_line : kept.line.items ≡ line

-- the same of lines and of groups
pub record AreAllKept (terms : Option Terms) (lines : List KeptLine) (groups : KeptGroups) : Type 0 where
  pub lines_kept : AreKeptUnder terms lines
  pub groups_kept : AreGroupsUnder terms groups
