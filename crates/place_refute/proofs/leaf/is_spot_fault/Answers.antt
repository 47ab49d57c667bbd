use Rattle.place_refute.proofs.LeafLemmas.{tells_one, tells_two, tells_three, tells_four, tells_five}
use Rattle.place_refute.proofs.leaf.is_spot_fault.Goals as goal

pub returns-in-1 : goal.returns-in-1
returns-in-1 c = tells_one c.args.deck.now c.args.choices.now c.args.kind c.args.numbers.now c.has_other_rank.result c.in-1.is c.requires c.has_other_rank.ensures

pub returns-in-2 : goal.returns-in-2
returns-in-2 c = tells_two c.args.deck.now c.args.choices.now c.args.kind c.args.numbers.now c.leads_back.result c.in-2.is c.requires c.leads_back.ensures

pub returns-in-3 : goal.returns-in-3
returns-in-3 c = tells_three c.args.deck.now c.args.choices.now c.args.kind c.args.numbers.now c.is_outside.result c.in-3.is c.requires c.is_outside.ensures

pub returns-in-4 : goal.returns-in-4
returns-in-4 c = tells_four c.args.deck.now c.args.choices.now c.args.kind c.args.numbers.now c.is_past_host.result c.in-4.is c.requires c.is_past_host.ensures

pub returns-in-5 : goal.returns-in-5
returns-in-5 c = tells_five c.args.deck.now c.args.choices.now c.args.kind c.args.numbers.now c.are_touching.result c.in-5.is c.requires c.are_touching.ensures
