use Rattle.std.proofs.lemmas.Result.{IfOk-equal}
use Rattle.instance_text.specs.Canonical.{closing_words}
use Rattle.instance_text.proofs.PrintLemmas.{closing_line}
use Rattle.instance_text.proofs.print.put_closing.Goals as goal

pub returns : goal.returns
unfolding closing_words
returns c = IfOk-equal c.put-3.result _ _ _ c.put-3.ensures
    (rw (c.in_ok-put_fields.ensures, c.in_ok-put-2.ensures, c.in_ok-put.ensures) (closing_line c.args.out.now.items c.args.name.now c.args.closure.from c.args.closure.to))
