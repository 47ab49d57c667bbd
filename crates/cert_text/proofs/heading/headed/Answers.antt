use Rattle.std.proofs.Common.{◌∙◌, sym, ap}
use Rattle.line_text.specs.Left.{lines_left}
use Rattle.line_text.specs.Filled.{first_line}
use Rattle.cert_text.proofs.HeadingLemmas.{found}
use Rattle.cert_text.proofs.heading.headed.Goals as goal

-- src/heading.rt:72:1
pub returns : goal.returns
returns c = found c.args.text.now c.rest.result.now c.in_ok-line.line.now (lines_left c.new-lines.result) c.next_filled.new.self.number c.next_filled.new.self c.in_ok-heading.heading c.new-lines.ensures.left (ap (λ n. first_line n (lines_left c.new-lines.result)) (sym c.new-lines.ensures.number) ∙ c.in_ok-line.ensures.line) c.in_ok-heading.ensures c.rest.ensures
