-- Cuts as a chamber and ships: the sizes and measures are those of the instance.
use Rattle.std.specs.Prelude.{Bool, ◌&&◌, List, map, nat_eq}
use Rattle.std.specs.Cmp.Lexicographic.{pointwise}
use Rattle.lock_model.specs.Fitting.{deck_of}
use Rattle.lock_model.specs.declared.instance.Instance.{Instance}
use Rattle.price_rules.specs.Prices.{PlainCut}
use Rattle.price_terms.specs.declared.cut.ChamberCut.{ChamberCut}

-- the cut's ships, and the deck that they make of its chamber
abbrev pub plain_cut : Instance → ChamberCut → PlainCut
plain_cut I cut = record { ships = cut.ships; deck = deck_of I cut.chamber cut.ships }

abbrev pub plain_cuts : Instance → List ChamberCut → List PlainCut
plain_cuts I cuts = map (plain_cut I) cuts

abbrev pub same_cut : ChamberCut → ChamberCut → Bool
same_cut c d = nat_eq c.chamber d.chamber && pointwise nat_eq c.ships d.ships
