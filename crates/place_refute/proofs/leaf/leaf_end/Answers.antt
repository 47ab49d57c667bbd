use Rattle.std.proofs.Common.{◌≡◌, ◌+◌, rules, take, drop, ap, sym, ◌∙◌, Bool, true, false, IsTrue, arith}
use Rattle.std.proofs.lemmas.Bool.{false≢true}
use Rattle.place_refute.proofs.LeafLemmas.{leaf_stands, leaf_fails, leaf_short}
use Rattle.place_refute.proofs.leaf.leaf_end.Goals as goal

pub returns-then-count-marks-clause-none : goal.returns-then-count-marks-clause-none
returns-then-count-marks-clause-none c =
    let here = c.requires.inside in
    leaf_short c.args.deck.now c.args.trees c.args.case.now.choices c.args.marks.now c.args.at c.requires.inside c.count_of-count.result c.count_of-count.ensures (let more = c.if-count-marks.true in omega (arith, here, more))

pub returns-then-is_fault-clause-some : goal.returns-then-is_fault-clause-some
returns-then-is_fault-clause-some c =
    let here = c.requires.inside in
    leaf_stands c.args.deck.now c.args.trees c.args.case.now.choices c.args.marks.now c.args.at c.requires.inside c.count_of-count.result _ c.count_of-count.ensures (let more = c.if-count-marks.false in omega (arith, here, more)) (ap (λ k. take k (drop (c.args.at + 1) c.args.marks.now)) (omega arith)) (c.is_fault.ensures.0 (search rules))

pub returns-else-is_fault-clause-none : goal.returns-else-is_fault-clause-none
returns-else-is_fault-clause-none c =
    leaf_fails c.args.deck.now c.args.trees c.args.case.now.choices c.args.marks.now c.args.at c.requires.inside c.count_of-count.result _ c.count_of-count.ensures (ap (λ k. take k (drop (c.args.at + 1) c.args.marks.now)) (omega arith)) (λ by. false≢true (sym c.if-is_fault.false ∙ yes (c.is_fault.ensures.1 by)))
  where
    yes : {b : Bool} → IsTrue b → b ≡ true
    yes h = search rules
