use Rattle.line_text.proofs.WordLemmas.{before_hash, before_end}
use Rattle.line_text.proofs.words.before_comment.Goals as goal

pub returns-then-byte-eq35 : goal.returns-then-byte-eq35
returns-then-byte-eq35 c = before_hash c.args.line.now c.loop-i.i c.loop-i-test.true c.loop-i.invariant c.if-byte-eq35.true

pub returns : goal.returns
returns c = before_end c.args.line.now c.loop-i.i c.loop-i-test.false c.loop-i.auto.i-end c.loop-i.invariant
