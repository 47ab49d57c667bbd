-- What is asked by a case, and by what groups grow by.
use Rattle.price_groups.specs.declared.line_case.LineCase.{LineCase}
use Rattle.price_groups.specs.declared.extension.Extension.{Extension}
use Rattle.price_terms.specs.Cuts.{plain_cuts}
use Rattle.price_groups.specs.Asks.{LineAsk, line_ask, GroupAsk, group_ask}

abbrev pub line_asked : LineCase → LineAsk
line_asked case = line_ask case.instance.now case.index (plain_cuts case.instance.now case.cuts.now) case.depth case.prices.now case.line.now

abbrev pub group_asked : Extension → GroupAsk
group_asked extension = group_ask extension.case.now.instance.now extension.case.now.index extension.case.now.depth extension.ceilings.now extension.sets.now
