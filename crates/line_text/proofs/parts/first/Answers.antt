use Rattle.std.proofs.Common.{◌∙◌, sym}
use Rattle.line_text.specs.Parts.{separates}
use Rattle.line_text.proofs.SplitLemmas.{split_found, before_more, split_one}
use Rattle.line_text.proofs.parts.first.Goals as goal

pub returns-then-is-clause-found : goal.returns-then-is-clause-found
returns-then-is-clause-found c = split_found (separates c.args.separator) c.args.bytes.now c.loop-i.i c.loop-i-test.true c.loop-i.invariant (sym c.is.ensures ∙ c.if-is.true)

pub loop-i-preserved : goal.loop-i-preserved
loop-i-preserved c = before_more (separates c.args.separator) c.args.bytes.now c.loop-i.i c.loop-i-test.true c.loop-i.invariant (sym c.is.ensures ∙ c.if-is.false)

pub returns-clause-none : goal.returns-clause-none
returns-clause-none c = split_one (separates c.args.separator) c.args.bytes.now c.loop-i.i c.loop-i-test.false c.loop-i.invariant
