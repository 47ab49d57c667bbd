use Rattle.std.proofs.Common.{length, min, sym, ap, ◌∙◌, arith}
use Rattle.line_text.specs.Left.{lines_left, size_left}
use Rattle.instance_text.proofs.PartLemmas.{begun, ended, goes_on, whole}
use Rattle.instance_text.proofs.read.length_of_part.Goals as goal

pub loop-line-init : goal.loop-line-init
loop-line-init c = record { counted = omega (arith, c.new-lines.ensures.size); rest = begun _ _ c.new-lines.ensures.left }

pub returns-then-is_only : goal.returns-then-is_only
returns-then-is_only c =
    c.min.ensures ∙ ap (λ n. min n (length c.args.text.now)) (ended c.loop-line.taken _ (lines_left c.loop-line.lines) (lines_left c.next.new.self) c.in-Some.line.now c.loop-line.invariant.rest c.in-Some.ensures.some (sym c.is_only.ensures ∙ c.if-is_only.true))

pub loop-line-preserved : goal.loop-line-preserved
loop-line-preserved c = record {
  counted = omega (arith, c.in-Some.ensures.shorter);
  rest = goes_on c.loop-line.taken _ (lines_left c.loop-line.lines) (lines_left c.next.new.self) c.in-Some.line.now c.loop-line.invariant.rest c.in-Some.ensures.some (sym c.is_only.ensures ∙ c.if-is_only.false);
}

pub returns : goal.returns
returns c = whole c.loop-line.taken _ (length c.args.text.now) (size_left c.loop-line.lines) (lines_left c.loop-line.lines) c.loop-line.invariant.counted c.loop-line.invariant.rest c.in_default.ensures.none c.in_default.ensures.over
