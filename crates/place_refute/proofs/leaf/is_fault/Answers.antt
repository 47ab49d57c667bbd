use Rattle.place_refute.proofs.LeafLemmas.{tells_case}
use Rattle.place_refute.proofs.leaf.is_fault.Goals as goal

pub returns-in-OfCases : goal.returns-in-OfCases
returns-in-OfCases c = tells_case c.args.deck.now c.args.case.now c.args.trees c.args.kind c.args.numbers.now c.is_case_fault.result c.in-OfCases.is c.requires.drawn c.requires.count c.requires.kind c.is_case_fault.ensures.rank c.is_case_fault.ensures.walk
