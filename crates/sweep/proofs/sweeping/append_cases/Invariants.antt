use Rattle.price_terms.specs.Cuts.{plain_cuts}
use Rattle.sweep.specs.Ends.{HasCasesMore}
use Rattle.sweep.proofs.sweeping.append_cases.Given as goal

abbrev pub invariant-loop-index : goal.invariant-loop-index
invariant-loop-index l = HasCasesMore l.asked.instance.now (plain_cuts l.asked.instance.now l.asked.cuts.now) l.asked.prices.now l.index l.fn.cases.items l.cases.items
