-- Least lines that are kept, and copies of them.
use Rattle.std.proofs.Common.{◌≡◌, ℕ, ◌≤◌, Some, None, List, [], ◌∷◌, ◌++◌, length, take, ◌∙◌, ap, arith, sym, subst}
use Rattle.std.proofs.lemmas.List.{take-take}
use Rattle.std.proofs.lemmas.List.Elements.{All-push, All-weaker}
use Rattle.std.specs.declared.option.Option.{Option}
use Rattle.lock_model.specs.declared.instance.Instance.{Instance}
use Rattle.lock_model.specs.declared.group.Group.{Group}
use Rattle.price_rules.specs.Prices.{PriceList, PlainCut}
use Rattle.price_terms.specs.declared.loose_line.LooseLine.{LooseLine}
use Rattle.price_terms.specs.declared.cut.ChamberCut.{ChamberCut}
use Rattle.price_bound.specs.declared.terms.Terms.{Terms}
use Rattle.price_bound.specs.declared.keeping.KeptLine.{KeptLine}
use Rattle.price_terms.specs.Cuts.{plain_cuts}
use Rattle.price_groups.specs.Asks.{line_ask}
use Rattle.price_groups.specs.Sparing.{AreForbidden}
use Rattle.price_table.specs.Lines.{IsLineWorth, IsLeastOn, IsLeastLine}
use Rattle.price_bound.specs.Asks.{kept_ask}
use Rattle.price_bound.specs.Keeping.{AreTerms, AreFirst, LeadTo, IsFound, IsKeptUnder, AreKeptUnder, AreUnder, IsOf}
use Rattle.price_bound.specs.KeptGroups.{AreGroupsFor, AreAllGroupsFor, AreGroupsUnder}
use Rattle.price_bound.specs.declared.kept_groups.ChamberGroups.{ChamberGroups}
use Rattle.price_bound.specs.declared.kept_groups.KeptGroups.{KeptGroups}

-- a line with the same groups and the same worth is as good
pub copy-least : (I : Instance) (c : ℕ) (cuts : List PlainCut) (k : ℕ) (prices : PriceList) (line : List Group) (one other : LooseLine) → other.groups.items ≡ one.groups.items → other.worth ≡ one.worth → IsLeastLine (line_ask I c cuts k prices line) one → IsLeastLine (line_ask I c cuts k prices line) other
copy-least I c cuts k prices line one other groups worth is = record {
  least = subst (λ w. IsLeastOn (line_ask I c cuts k prices line) (Some w)) (sym worth) is.least;
  is = subst (IsLineWorth (line_ask I c cuts k prices line) other.groups.items) (sym worth) (subst (λ gs. IsLineWorth (line_ask I c cuts k prices line) gs one.worth) (sym groups) is.is);
}

module _ (I : Instance) (c k : ℕ) (prices : PriceList) (cuts : List ChamberCut) (line : List Group) where
  -- what was found of a case is found under its terms
  pub kept-under : (terms : Terms) (kept : KeptLine) → AreTerms I k prices cuts terms → IsOf c line kept → IsFound (kept_ask I c k prices cuts line) kept.least → IsKeptUnder terms kept
  kept-under terms kept under of found =
      let one = subst (λ J. IsFound (kept_ask J c k prices cuts line) kept.least) (sym under.same_instance) found in
      let two = subst (λ d. IsFound (kept_ask terms.instance c d prices cuts line) kept.least) (sym under.same_depth) one in
      let three = subst (λ us. IsFound (kept_ask terms.instance c terms.depth us cuts line) kept.least) (sym under.same_prices) two in
      let four = subst (λ ts. IsFound (kept_ask terms.instance c terms.depth terms.prices ts line) kept.least) (sym under.same_cuts) three in
      let five = subst (λ d. IsFound (kept_ask terms.instance d terms.depth terms.prices terms.cuts.items line) kept.least) (sym of.same_chamber) four in
      record { found = subst (λ gs. IsFound (kept_ask terms.instance kept.chamber terms.depth terms.prices terms.cuts.items gs) kept.least) (sym of.same_line) five }

  -- one line more
  pub kept-more : (terms : Option Terms) (lines : List KeptLine) (kept : KeptLine) → AreUnder I k prices cuts terms → AreKeptUnder terms lines → IsOf c line kept → IsFound (kept_ask I c k prices cuts line) kept.least → AreKeptUnder terms (lines ++ kept ∷ [])
  kept-more None lines kept under are of found = absurd under
  kept-more (Some terms) lines kept under are of found = All-push (IsKeptUnder terms) lines kept are (kept-under terms kept under of found)

-- as many of the first of these cuts
same-seen : (some all : List ChamberCut) (n : ℕ) → AreFirst some all → n ≤ length some → take n all ≡ take n some
same-seen some all n first few = sym (take-take n (length some) all few) ∙ ap (take n) first.same

-- what is kept of a chamber serves where cuts come behind the others
right-more : (I : Instance) (k : ℕ) (some all : List ChamberCut) (ceilings : PriceList) → AreFirst some all → (own : ChamberGroups) → AreGroupsFor I k some ceilings own → AreGroupsFor I k all ceilings own
right-more I k some all ceilings first own is = record {
  seen = omega (arith, is.seen, first.few);
  forbidden = subst (λ ts. AreForbidden I own.chamber (plain_cuts I ts) own.sets.items) (sym (same-seen some all own.seen first is.seen)) is.forbidden;
  completable = is.completable;
  lists = is.lists;
}

-- the same of all chambers
pub stocks-more : (I : Instance) (k : ℕ) (some all : List ChamberCut) (groups : KeptGroups) → AreFirst some all → AreAllGroupsFor I k some groups → AreAllGroupsFor I k all groups
stocks-more I k some all groups first are = All-weaker (AreGroupsFor I k some groups.ceilings) (AreGroupsFor I k all groups.ceilings) (right-more I k some all groups.ceilings first) groups.chambers.items are

module _ (I : Instance) (k : ℕ) (cuts : List ChamberCut) (groups : KeptGroups) where
  -- groups that are kept under terms of a case are kept under the case
  stocks-of : (terms : Terms) → terms.instance ≡ I → terms.depth ≡ k → AreAllGroupsFor terms.instance terms.depth cuts groups → AreAllGroupsFor I k cuts groups
  stocks-of terms instance depth are = subst (λ d. AreAllGroupsFor I d cuts groups) depth (subst (λ J. AreAllGroupsFor J terms.depth cuts groups) instance are)

  -- and the other way round
  stocks-to : (terms : Terms) → terms.instance ≡ I → terms.depth ≡ k → AreAllGroupsFor I k cuts groups → AreAllGroupsFor terms.instance terms.depth cuts groups
  stocks-to terms instance depth are = subst (λ J. AreAllGroupsFor J terms.depth cuts groups) (sym instance) (subst (λ d. AreAllGroupsFor I d cuts groups) (sym depth) are)

  -- the same where the terms may be missing
  pub stocked-to : (prices : PriceList) (terms : Option Terms) → AreUnder I k prices cuts terms → AreAllGroupsFor I k cuts groups → AreGroupsUnder terms groups
  stocked-to prices None under are = absurd under
  stocked-to prices (Some terms) under are = subst (λ ts. AreAllGroupsFor terms.instance terms.depth ts groups) (sym under.same_cuts) (stocks-to terms under.same_instance under.same_depth are)

-- groups that are kept under terms are kept under those that these go on to
pub stocks-on : (I : Instance) (k : ℕ) (cuts : List ChamberCut) (old new : Terms) (groups : KeptGroups) → LeadTo I k cuts old → LeadTo I k cuts new → AreFirst old.cuts.items new.cuts.items → AreGroupsUnder (Some old) groups → AreGroupsUnder (Some new) groups
stocks-on I k cuts old new groups from to first are =
    stocks-to I k new.cuts.items groups new to.same_instance to.same_depth
    (stocks-more I k old.cuts.items new.cuts.items groups first
    (stocks-of I k old.cuts.items groups old from.same_instance from.same_depth are))
