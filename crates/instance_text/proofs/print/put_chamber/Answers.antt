use Rattle.std.proofs.lemmas.Result.{IfOk-equal}
use Rattle.instance_text.specs.Canonical.{chamber_words, stand_word}
use Rattle.instance_text.proofs.PrintLemmas.{chamber_line}
use Rattle.instance_text.proofs.print.put_chamber.Goals as goal

pub returns : goal.returns
unfolding chamber_words
returns c =
    let h = c.args.chamber.now in
    IfOk-equal c.put-5.result _ _ _ c.put-5.ensures
    (rw (c.in_ok-put_field.ensures, c.in_ok-put-4.ensures, c.stand_word.ensures, c.in_ok-put-3.ensures, c.in_ok-put_fields-2.ensures, c.from.ensures, c.in_ok-put_fields.ensures, c.in_ok-put-2.ensures, c.as_slice.ensures.value, c.in_ok-put.ensures)
    (chamber_line c.args.out.now.items h.name h.length h.width h.end h.gap h.side h.most h.pass h.turn (stand_word h.stands) h.opens))
