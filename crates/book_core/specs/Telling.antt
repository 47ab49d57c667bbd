-- What is shown or swept beside a book, as the book machine sees it.
use Rattle.std.specs.Prelude.{map}
use Rattle.price_terms.specs.Claim.{Claim, SweptClaim}
use Rattle.price_terms.specs.declared.cut.ChamberCut.{ChamberCut}
use Rattle.refute_rules.specs.Cuts.{Cut}
use Rattle.book_rules.specs.Shown.{Shown, Swept, ChamberCut as ToldCut}

-- a cut without its deck and its refutation
abbrev pub bare_cut : Cut → ChamberCut
bare_cut cut = record { chamber = cut.chamber; ships = cut.ships }

abbrev pub told_cut : ChamberCut → ToldCut
told_cut cut = record { chamber = cut.chamber; ships = cut.ships }

abbrev pub told_shown : Claim → Shown
told_shown claim = record {
  instance = claim.instance;
  node = claim.node;
  prices = claim.prices;
  cuts = map told_cut claim.cuts;
  cost = claim.cost;
}

abbrev pub told_swept : SweptClaim → Swept
told_swept claim = record {
  instance = claim.instance;
  cuts = map told_cut claim.cuts;
  cost = claim.cost;
}
